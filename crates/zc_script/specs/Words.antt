-- The words of a line, and what each kind of word says.
use Rattle.std.specs.Prelude.{ℕ, ◌^◌, ◌==◌, ◌&&◌, nat_le, Bool, List, [], ◌∷◌, length, Option, Some, None, option_and_then, if◌then◌else◌}
use Rattle.std.specs.List.{list_all, slice_split}
use Rattle.std.specs.Result.{result_ok}
use Rattle.std.specs.Str.{all_ascii_digits}
use Rattle.std.specs.Str.Parse.{digits_value}
use Rattle.hex.specs.Hex.{decode_of}
use Rattle.zc_command.specs.Names.{is_name_byte}
use Rattle.zc_script.specs.Pools.{only_if, is_pool_name}

-- the one step and then the other, where the first gave a value
infixl 10 ◌>>=◌
abbrev pub ◌>>=◌ : {A B : Type 0} → Option A → (A → Option B) → Option B
o >>= f = option_and_then f o

-- the pieces of a text between the bytes that separate them: one more than there are separators, and some may be empty
abbrev pub pieces_between : ℕ → List ℕ → List (List ℕ)
pieces_between separator text = slice_split (λ byte. byte == separator) text

-- what a line that isn't ignored consists of
abbrev pub is_line_byte : ℕ → Bool
is_line_byte byte = nat_le 32 byte && nat_le byte 126

-- the item of a list of exactly one
abbrev pub one_of : {X : Type 0} → List X → Option X
one_of [] = None
one_of (x ∷ []) = Some x
one_of (x ∷ y ∷ rest) = None

-- the items of a list of exactly two
abbrev pub two_of : {X : Type 0} → List X → Option (X × X)
two_of [] = None
two_of (x ∷ []) = None
two_of (x ∷ y ∷ []) = Some (x, y)
two_of (x ∷ y ∷ z ∷ rest) = None

-- the items of a list of exactly three
abbrev pub three_of : {X : Type 0} → List X → Option (X × X × X)
three_of [] = None
three_of (x ∷ []) = None
three_of (x ∷ y ∷ []) = None
three_of (x ∷ y ∷ z ∷ []) = Some (x, y, z)
three_of (x ∷ y ∷ z ∷ w ∷ rest) = None

-- the items of a list of exactly four
abbrev pub four_of : {X : Type 0} → List X → Option (X × X × X × X)
four_of [] = None
four_of (x ∷ []) = None
four_of (x ∷ y ∷ []) = None
four_of (x ∷ y ∷ z ∷ []) = None
four_of (x ∷ y ∷ z ∷ w ∷ []) = Some (x, y, z, w)
four_of (x ∷ y ∷ z ∷ w ∷ v ∷ rest) = None

-- 1 to 19 decimal digits of a number of at most 2^62
abbrev pub is_number : List ℕ → Bool
is_number text = nat_le 1 (length text) && (nat_le (length text) 19 && (all_ascii_digits text && nat_le (digits_value 10 text) (2 ^ 62)))

-- the number that a word spells
unfoldable pub number_of : List ℕ → Option ℕ
number_of text = only_if (is_number text) (digits_value 10 text)

-- the session that a word names: a number of at most 15
unfoldable pub session_of : List ℕ → Option ℕ
session_of text = do
  number ← number_of text
  only_if (nat_le number 15) number

-- the byte that a word spells: a number of at most 255
unfoldable pub byte_of : List ℕ → Option ℕ
byte_of text = do
  number ← number_of text
  only_if (nat_le number 255) number

-- the bytes that a word spells: an even number of hexadecimal digits of either case, at least two
unfoldable pub bytes_of : List ℕ → Option (List ℕ)
bytes_of text = if nat_le 1 (length text) then result_ok (decode_of text) else None

-- at least one byte, and only name bytes: a dataset's or a file's name in a line
abbrev pub is_name_word : List ℕ → Bool
is_name_word text = nat_le 1 (length text) && list_all is_name_byte text

-- `P/D`: the names of the pool and the dataset
unfoldable pub dataset_path : List ℕ → Option (List ℕ × List ℕ)
dataset_path text = do
  parts ← two_of (pieces_between 47 text)
  only_if (is_pool_name parts.0 && is_name_word parts.1) parts

-- `P/D/F`: the names of the pool, the dataset and the file
unfoldable pub file_path : List ℕ → Option (List ℕ × List ℕ × List ℕ)
file_path text = do
  parts ← three_of (pieces_between 47 text)
  only_if (is_pool_name parts.0 && (is_name_word parts.1 && is_name_word parts.2)) parts
