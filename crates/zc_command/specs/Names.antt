-- What names are made of, and what a command has to meet.
use Rattle.std.specs.Prelude.{ℕ, ◌^◌, ◌<◌, ◌≤◌, ◌==◌, ◌&&◌, ◌||◌, nat_le, nat_lt, Bool, IsTrue, List, [], ◌∷◌, length, map, Option, Some, None, if◌then◌else◌}
use Rattle.std.specs.List.{list_all}
use Rattle.zc_command.specs.declared.command.Command.{Command}
use Rattle.zc_command.specs.declared.command.Command.TheVariants.{Mkds, Rmds, Mount, Create, Remove, Write, Fill, Truncate, Read, Stat, Commit}

-- `A` to `Z`
abbrev pub is_upper : ℕ → Bool
is_upper byte = nat_le 65 byte && nat_le byte 90

-- `a` to `z`
abbrev pub is_lower : ℕ → Bool
is_lower byte = nat_le 97 byte && nat_le byte 122

-- `0` to `9`
abbrev pub is_digit : ℕ → Bool
is_digit byte = nat_le 48 byte && nat_le byte 57

-- the byte may stand in a name: a letter, a digit, `_`, `-` or `.`
abbrev pub is_name_byte : ℕ → Bool
is_name_byte byte = is_upper byte || (is_lower byte || (is_digit byte || (byte == 95 || (byte == 45 || byte == 46))))

-- the most bytes that a name has
abbrev pub most_name : ℕ
most_name = 64

-- at least one byte, and only name bytes
pub record HasNameBytes (name : List ℕ) : Type 0 where
  pub some_byte : 0 < length name
  pub name_bytes : IsTrue (list_all is_name_byte name)

-- the name of a dataset or a file: 1 to 64 name bytes
pub record IsName (name : List ℕ) : Type 0 where
  pub some_byte : 0 < length name
  pub few_bytes : length name ≤ most_name
  pub name_bytes : IsTrue (list_all is_name_byte name)

-- the length of a name that is too long
abbrev pub long_length : List ℕ → Option ℕ
long_length name = if nat_lt most_name (length name) then Some (length name) else None

-- the names of a command, in the order of its fields
abbrev pub names_of : Command → List (List ℕ)
names_of (Mkds dataset) = dataset ∷ []
names_of (Rmds dataset) = dataset ∷ []
names_of (Mount dataset) = dataset ∷ []
names_of (Create dataset file) = dataset ∷ file ∷ []
names_of (Remove dataset file) = dataset ∷ file ∷ []
names_of (Write dataset file offset bytes) = dataset ∷ file ∷ []
names_of (Fill dataset file offset len byte) = dataset ∷ file ∷ []
names_of (Truncate dataset file size) = dataset ∷ file ∷ []
names_of (Read dataset file offset len) = dataset ∷ file ∷ []
names_of (Stat dataset file) = dataset ∷ file ∷ []
names_of Commit = []

-- the numbers of a command
abbrev pub numbers_of : Command → List ℕ
numbers_of (Mkds dataset) = []
numbers_of (Rmds dataset) = []
numbers_of (Mount dataset) = []
numbers_of (Create dataset file) = []
numbers_of (Remove dataset file) = []
numbers_of (Write dataset file offset bytes) = offset ∷ []
numbers_of (Fill dataset file offset len byte) = offset ∷ len ∷ []
numbers_of (Truncate dataset file size) = size ∷ []
numbers_of (Read dataset file offset len) = offset ∷ len ∷ []
numbers_of (Stat dataset file) = []
numbers_of Commit = []

-- the first length in the list of those that there may be
abbrev pub first_some : List (Option ℕ) → Option ℕ
first_some [] = None
first_some (None ∷ rest) = first_some rest
first_some (Some len ∷ rest) = Some len

-- the length of the first name that is too long
abbrev pub first_long : Command → Option ℕ
first_long command = first_some (map long_length (names_of command))

-- each item has the property
abbrev pub Each : {X : Type 0} → (X → Type 0) → List X → Type 0
Each P [] = Unit {0}
Each P (x ∷ xs) = P x × Each P xs

-- what whoever makes a command meets: its numbers are at most 2^62, and each of its names has at least one byte and
-- only name bytes
pub record AreConditions (command : Command) : Type 0 where
  pub numbers : Each (λ number. number ≤ 2 ^ 62) (numbers_of command)
  pub names : Each HasNameBytes (names_of command)
