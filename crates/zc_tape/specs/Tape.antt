-- The tape of a disk set: the bytes at its start, and the calls that have returned since.
use Rattle.std.specs.Prelude.{◌≡◌, ℕ, Bool, List, [], ◌∷◌, ◌++◌, ◌&&◌, ◌==◌, if◌then◌else◌, IsTrue}

-- how many devices a disk set has, and how many places each of them
pub record Shape : Type 0 where
  pub devices : ℕ
  pub places : ℕ

-- the bytes at each place, by its device and its number there
abbrev pub Image : Type 0
Image = ℕ → ℕ → List ℕ

-- a call that a disk set keeps on its tape
pub data Call : Type 0 where
  Write : (device place : ℕ) (bytes : List ℕ) → Call
  Sync : Call

-- a call that has returned, Ok or failed
pub record Made : Type 0 where
  pub call : Call
  pub ok : Bool

-- whether the disk set tells its tape, what it held at the start, and the calls since, the first first
pub record Tape : Type 0 where
  pub told : Bool
  pub start : Image
  pub calls : List Made

-- a place is the named one
abbrev pub is_at : ℕ → ℕ → ℕ → ℕ → Bool
is_at device place d p = device == d && place == p

-- the image with other bytes at one place
abbrev pub with_bytes : Image → ℕ → ℕ → List ℕ → Image
with_bytes image device place bytes d p = if is_at device place d p then bytes else image d p

-- every place of every device holds the same bytes
abbrev pub filled_with : List ℕ → Image
filled_with bytes _ _ = bytes

-- the tape with one more call
abbrev pub push : Tape → Call → Bool → Tape
push t call ok = record t { calls = t.calls ++ record { call = call; ok = ok } ∷ [] }

-- one more call stands on the tape, where it is told
abbrev pub Appends : Tape → Tape → Call → Bool → Type 0
Appends old new call ok = IsTrue old.told → new ≡ push old call ok
