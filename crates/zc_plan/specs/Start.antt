-- On what the calls of a group and of a creation begin, so that the laws of crashes hold of them.
use Rattle.std.specs.Prelude.{◌≡◌, ◌<◌, ◌+◌, ℕ, Bool, false, List, length, IsTrue, ◌↔◌}
use Rattle.zc_tape.specs.Tape.{Call, Tape}
use Rattle.zc_tape.specs.Crash.{reads, May, EachCrash, AtRest}
use Rattle.zc_root.specs.Root.{slot_of, IsOpenGate}
use Rattle.zc_layout.specs.Layout.{Put, owns}
use Rattle.zc_layout.specs.Standing.{Standing, Stands, HasNoRoot, LeadsTo, Begins, group_calls}
use Rattle.zc_layout.specs.Creation.{creation_calls}

-- The calls are a group's that leads from the old root to the new one. The tape is told and at rest, the old root stands there, and
-- the flag says whether the gate of the new root's slot is open.
pub record StartsGroup (t : Tape) (calls : List Call) (old new : Standing) (puts : List Put) (gate_open : Bool) : Type 0 where
  pub told : IsTrue t.told
  pub at_rest : AtRest t
  pub stands : Stands (reads t) old
  pub leads : LeadsTo old new puts
  pub gate : IsTrue gate_open ↔ IsOpenGate (reads t) (slot_of new.body.group)
  pub planned : calls ≡ group_calls puts new.body gate_open

-- The calls are those of the creation of a pool whose first root is the new one. The tape is told and at rest, there is no root, the
-- flags say which gates are open, and no put is at a place of the logs.
pub record StartsCreation (t : Tape) (calls : List Call) (new : Standing) (puts : List Put) (first_open second_open : Bool) (logs : ℕ) : Type 0 where
  pub told : IsTrue t.told
  pub at_rest : AtRest t
  pub none : HasNoRoot (reads t)
  pub first_gate : IsTrue first_open ↔ IsOpenGate (reads t) 0
  pub second_gate : IsTrue second_open ↔ IsOpenGate (reads t) 1
  pub begins : Begins new puts
  pub beside_logs : (place : ℕ) → place < 4 + logs → owns puts 0 place ≡ false
  pub planned : calls ≡ creation_calls first_open second_open logs puts new.body

-- at each moment since the calls began on the tape t, every place after the roots at which no put is holds what it held
abbrev pub LeavesElsewhere : (t u : Tape) → List Put → Type 0
LeavesElsewhere t u puts =
    EachCrash May u (length t.calls) (λ _ image. (d p : ℕ) → owns puts d p ≡ false → (d ≡ 0 → p < 4 → ⊥) → image d p ≡ reads t d p)
