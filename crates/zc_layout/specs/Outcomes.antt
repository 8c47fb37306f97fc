-- What each crash may leave of a group's calls and of a creation's, and what stands once all of them were Ok.
use Rattle.std.specs.Prelude.{◌≡◌, ◌⊎◌, ◌+◌, ◌<◌, ◌≤◌, ℕ, Bool, false, List, length}
use Rattle.zc_tape.specs.Tape.{Image, Tape}
use Rattle.zc_tape.specs.Crash.{Crash, EachCrash, AtRest, reads}
use Rattle.zc_root.specs.declared.body.Body.{Body}
use Rattle.zc_root.specs.Root.{slot_of, closed, IsOpenGate}
use Rattle.zc_layout.specs.Layout.{Put}
use Rattle.zc_layout.specs.Standing.{Standing, Stands, HasNoRoot, first_writes}
use Rattle.zc_layout.specs.Creation.{clearing_calls, zeroing_calls}

-- how many calls of a group come before the write of its open gate
abbrev pub before_gate : List Put → Body → Bool → ℕ
before_gate puts body gate_open = length (first_writes puts body.group gate_open) + 3

-- at each moment since the group's calls began on the tape t, the old root stands or the new one does; the old one alone until
-- the write of the open gate is begun, which is call `gate + 1`
pub record GroupLeaves (crash : Crash) (t u : Tape) (old new : Standing) (gate : ℕ) : Type 0 where
  pub before : EachCrash crash u (length t.calls) (λ i image. (i < gate) ⊎ (length u.calls ≤ gate) → Stands image old)
  pub each : EachCrash crash u (length t.calls) (λ _ image. Stands image old ⊎ Stands image new)

-- all calls of a group were Ok: the new root alone stands; the gate of the next group's slot is that of the old root, and open
pub record GroupIsMade (crash : Crash) (u : Tape) (new : Standing) : Type 0 where
  pub at_rest : AtRest u
  pub stands : Stands (reads u) new
  pub only_new : EachCrash crash u (length u.calls) (λ _ image. Stands image new)
  pub next_gate : IsOpenGate (reads u) (slot_of (new.body.group + 1))

-- so many places after the roots are zeros
abbrev pub HasZeroLogs : ℕ → Image → Type 0
HasZeroLogs logs image = (k : ℕ) → k < logs → image 0 (4 + k) ≡ closed

-- how many calls of a creation come before the write of its open gate
abbrev pub before_first_gate : (first_open second_open : Bool) (logs : ℕ) → List Put → Body → ℕ
before_first_gate first_open second_open logs puts body =
    length (clearing_calls first_open second_open) + (length (zeroing_calls logs) + before_gate puts body false)

-- at each moment since a creation's calls began on the tape t, there is no root, or the first one stands over logs of zeros; there
-- is none until the write of the open gate is begun, which is call `gate + 1`
pub record CreationLeaves (crash : Crash) (t u : Tape) (logs : ℕ) (new : Standing) (gate : ℕ) : Type 0 where
  pub before : EachCrash crash u (length t.calls) (λ i image. (i < gate) ⊎ (length u.calls ≤ gate) → HasNoRoot image)
  pub each : EachCrash crash u (length t.calls) (λ _ image. HasNoRoot image ⊎ (Stands image new × HasZeroLogs logs image))

-- all calls of a creation were Ok: the first root alone stands, the logs are zeros, and the gate of the next group's slot isn't open
pub record CreationIsMade (crash : Crash) (u : Tape) (logs : ℕ) (new : Standing) : Type 0 where
  pub at_rest : AtRest u
  pub stands : Stands (reads u) new
  pub logs_are : HasZeroLogs logs (reads u)
  pub only_new : EachCrash crash u (length u.calls) (λ _ image. Stands image new × HasZeroLogs logs image)
  pub next_gate : IsOpenGate (reads u) (slot_of (new.body.group + 1)) → ⊥
