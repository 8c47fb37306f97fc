-- The root slots of an image, and its root.
use Rattle.std.specs.Prelude.{◌≡◌, ℕ, ◌+◌, ◌*◌, ◌%◌, ◌<◌, ◌≤◌, List, length, replicate, slice_index_or, Bool, true, false, IsTrue, ◌↔◌}
use Rattle.zc_tape.specs.Tape.{Image, Tape}
use Rattle.zc_tape.specs.Crash.{is_spoilt}
use Rattle.zc_root.specs.declared.body.Body.{Body}
use Rattle.zc_root.specs.Body.{body_bytes, IsBody}

-- the root slot of a group
abbrev pub slot_of : ℕ → ℕ
slot_of group = group % 2

-- the place of a slot's body, on device 0
abbrev pub body_place : ℕ → ℕ
body_place slot = 2 * slot

-- the place of a slot's gate, on device 0
abbrev pub gate_place : ℕ → ℕ
gate_place slot = 2 * slot + 1

-- the bytes of a gate that is open
unfoldable pub opened : List ℕ
opened = replicate 4096 165

-- the bytes that a gate is closed with
unfoldable pub closed : List ℕ
closed = replicate 4096 0

-- the bytes that a gate is given
abbrev pub gate_of : Bool → List ℕ
gate_of true = opened
gate_of false = closed

-- a slot's gate is open
abbrev pub IsOpenGate : Image → ℕ → Type 0
IsOpenGate image slot = image 0 (gate_place slot) ≡ opened

-- the body stands behind an open gate, in the slot of its group
pub record IsOpenRoot (image : Image) (body : Body) : Type 0 where
  pub gate : IsOpenGate image (slot_of body.group)
  pub spelled : image 0 (body_place (slot_of body.group)) ≡ body_bytes body
  pub fits : IsBody body

-- it is the open root of the highest group
pub record IsRoot (image : Image) (body : Body) : Type 0 where
  pub here : IsOpenRoot image body
  pub highest : (other : Body) → IsOpenRoot image other → other.group ≤ body.group

-- the flags, one for each slot, say which gates are open
pub record AreGates (image : Image) (flags : List Bool) : Type 0 where
  pub both : length flags ≡ 2
  pub exact : (slot : ℕ) → slot < 2 → IsTrue (slice_index_or flags slot false) ↔ IsOpenGate image slot

-- no write to a place of the roots has failed
pub record HasWholeRoots (t : Tape) : Type 0 where
  pub whole : (place : ℕ) → place < 4 → is_spoilt t 0 place ≡ false
