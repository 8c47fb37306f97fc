-- An open root on a disk set of any size.
use Rattle.std.specs.Prelude.{◌≡◌, ℕ, ◌<◌, ◌≤◌, Bool, List, IsTrue}
use Rattle.zc_tape.specs.Tape.{Image, Shape, Tape}
use Rattle.zc_tape.specs.Crash.{reads}
use Rattle.zc_root.specs.Body.{body_bytes, IsBody}
use Rattle.zc_root.specs.declared.body.Body.{Body}
use Rattle.zc_root.specs.Root.{slot_of, gate_place, IsOpenRoot, HasWholeRoots}

-- the disk set has the places of the slot
pub record HasSlot (shape : Shape) (slot : ℕ) : Type 0 where
  pub device : 1 ≤ shape.devices
  pub gate_there : gate_place slot < shape.places

-- the slot has an open root. A gate whose place isn't there is not open.
pub record IsRootThere (shape : Shape) (image : Image) (slot : ℕ) (body : Body) : Type 0 where
  pub places : HasSlot shape slot
  pub slot_is : slot_of body.group ≡ slot
  pub root : IsOpenRoot image body

-- one of the two slots has
abbrev pub HasRootThere : Shape → Image → Type 0
HasRootThere shape image = (slot : ℕ) × (body : Body) × (slot < 2) × IsRootThere shape image slot body

-- the flag says whether the slot has, where the tape is told and no write to the roots has failed
pub record TellsRoot (shape : Shape) (t : Tape) (slot : ℕ) (flag : Bool) : Type 0 where
  pub is : IsTrue flag → IsTrue t.told → HasWholeRoots t → (body : Body) × IsRootThere shape (reads t) slot body
  pub only : (body : Body) → IsTrue t.told → HasWholeRoots t → IsRootThere shape (reads t) slot body → IsTrue flag

-- the flag says whether the bytes are the body of a group of the slot
pub record TellsBody (slot : ℕ) (bytes : List ℕ) (flag : Bool) : Type 0 where
  pub is : IsTrue flag → (body : Body) × IsBody body × (slot_of body.group ≡ slot) × (bytes ≡ body_bytes body)
  pub only : (body : Body) → IsBody body → slot_of body.group ≡ slot → bytes ≡ body_bytes body → IsTrue flag
