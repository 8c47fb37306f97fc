-- Fields, read one after the other from the front of bytes, each with the rules that it has to keep.
--
-- A read answers the value and the bytes after it. Where the next field isn't there whole, or breaks a rule that it has to keep
-- with the fields before it, the read answers how many bytes are left from the first byte of that field on.
use Rattle.std.specs.Prelude.{◌≡◌, ℕ, ◌-◌, Bool, List, ◌++◌, take, drop, length, Result, Ok, Err, nat_lt, if◌then◌else◌}
use Rattle.zc_wire.specs.declared.fault.CatalogFault.{CatalogFault}
use Rattle.zc_wire.specs.declared.fault.CatalogFault.TheVariants as catalog
use Rattle.zc_wire.specs.declared.fields.FieldFault.{FieldFault}
use Rattle.zc_wire.specs.declared.fields.FieldFault.TheVariants as field
use Rattle.zc_wire.specs.Numbers.{u32_of, u64_of}

-- what a read of an X answers
abbrev pub Read : Type 0 → Type 0
Read X = Result (X × List ℕ) ℕ

-- the one read and then the other, which goes on with what the first answered
infixl 10 ◌>>=◌
abbrev pub ◌>>=◌ : {A B : Type 0} → Result A ℕ → (A → Result B ℕ) → Result B ℕ
(Ok x) >>= f = f x
(Err left) >>= f = Err left

-- a number in four bytes
abbrev pub u32_field : List ℕ → Read ℕ
u32_field bytes = if nat_lt (length bytes) 4 then Err (length bytes) else Ok (u32_of (take 4 bytes), drop 4 bytes)

-- a number in eight bytes
abbrev pub u64_field : List ℕ → Read ℕ
u64_field bytes = if nat_lt (length bytes) 8 then Err (length bytes) else Ok (u64_of (take 8 bytes), drop 8 bytes)

-- so many bytes
abbrev pub bytes_field : ℕ → List ℕ → Read (List ℕ)
bytes_field n bytes = if nat_lt (length bytes) n then Err (length bytes) else Ok (take n bytes, drop n bytes)

-- the field at the front of the bytes keeps its rules exactly where the test holds
abbrev pub rule : Bool → List ℕ → Result (Unit {0}) ℕ
rule test bytes = if test then Ok tt else Err (length bytes)

-- what a function answered, seen by view, is what the read answers, unless memory was wanting
abbrev pub FieldFails : {Y : Type 0} → FieldFault → Result Y ℕ → Type 0
FieldFails field.NoMemory read = Unit {0}
FieldFails (field.Bad left) read = read ≡ Err left

abbrev pub FieldGives : {X Y : Type 0} → (X → Y) → Result X FieldFault → Result Y ℕ → Type 0
FieldGives view (Ok x) read = read ≡ Ok (view x)
FieldGives view (Err fault) read = FieldFails fault read

-- a fault among so many bytes, with its place counted from their front
abbrev pub placed_in : ℕ → FieldFault → CatalogFault
placed_in total field.NoMemory = catalog.NoMemory
placed_in total (field.Bad left) = catalog.BadCatalog (total - left)

-- What a reader of a part answered is what the read answers of so many bytes, unless memory was wanting: the value and how many
-- bytes it took, or the place of the first byte of the first field that isn't there whole or breaks a rule.
abbrev pub FieldAnswers : {X : Type 0} → ℕ → Result (X × ℕ) CatalogFault → Read X → Type 0
FieldAnswers total (Ok x) read = (rest : List ℕ) × (read ≡ Ok (x.0, rest)) × (x.1 ≡ total - length rest)
FieldAnswers total (Err catalog.NoMemory) read = Unit {0}
FieldAnswers total (Err (catalog.BadCatalog at)) read = (left : ℕ) × (read ≡ Err left) × (at ≡ total - left)

-- a reader of a part answered this value and this number of bytes, unless memory was wanting
abbrev pub Reads : {X : Type 0} → Result (X × ℕ) CatalogFault → X → ℕ → Type 0
Reads (Ok y) x taken = (y.0 ≡ x) × (y.1 ≡ taken)
Reads (Err catalog.NoMemory) x taken = Unit {0}
Reads (Err (catalog.BadCatalog at)) x taken = ⊥

-- the bytes begin with the text, which has so many bytes
pub record StandsInFront (text : List ℕ) (taken : ℕ) (bytes : List ℕ) : Type 0 where
  pub length_is : taken ≡ length text
  pub joined : bytes ≡ text ++ drop taken bytes
