-- What stands in one root slot of an image.
use Rattle.std.specs.Prelude.{◌≡◌, ℕ, nat_le, List, Bool, IsTrue, ◌↔◌, Option, Some, None, if◌then◌else◌}
use Rattle.zc_tape.specs.Tape.{Image}
use Rattle.zc_root.specs.declared.body.Body.{Body}
use Rattle.zc_root.specs.Body.{body_bytes, IsBody}
use Rattle.zc_root.specs.Root.{slot_of, IsOpenGate, IsOpenRoot}

-- the bytes are those of the body, and its group has the slot
abbrev pub IsBodyIn : ℕ → List ℕ → Body → Type 0
IsBodyIn slot bytes body = IsBody body × (slot_of body.group ≡ slot) × (bytes ≡ body_bytes body)

-- the body that a slot's bytes spell; None where they spell none whose group has that slot
abbrev pub IsBodyFor : ℕ → List ℕ → Option Body → Type 0
IsBodyFor slot bytes None = (body : Body) → IsBody body → slot_of body.group ≡ slot → bytes ≡ body_bytes body → ⊥
IsBodyFor slot bytes (Some body) = IsBodyIn slot bytes body

-- the open root of a slot, where it has one
abbrev pub IsRootOf : Image → ℕ → Option Body → Type 0
IsRootOf image slot None = (body : Body) → IsOpenRoot image body → slot_of body.group ≡ slot → ⊥
IsRootOf image slot (Some body) = IsOpenRoot image body × (slot_of body.group ≡ slot)

-- whether the gate of a slot is open, and the slot's open root
pub record IsSlot (image : Image) (slot : ℕ) (gate_open : Bool) (root : Option Body) : Type 0 where
  pub gate : IsTrue gate_open ↔ IsOpenGate image slot
  pub root_there : IsRootOf image slot root

-- the body of the higher group
abbrev pub higher : Option Body → Option Body → Option Body
higher None second = second
higher (Some first) None = Some first
higher (Some first) (Some second) = if nat_le second.group first.group then Some first else Some second
