-- A tape that goes on.
use Rattle.std.proofs.Common.{◌≡◌, ◌∙◌, List, IsTrue, sym, ap, subst}
use Rattle.zc_tape.specs.Tape.{Tape, Call}
use Rattle.zc_tape.specs.Plays.{Begun}
use Rattle.zc_tape.proofs.Extends.{Extends, extends_refl}
use Rattle.zc_tape.proofs.Plans.{begun_nothing, extends_begun}

-- no call was made
pub extends_same : (t u : Tape) → u ≡ t → IsTrue t.told → Extends t u
extends_same t u same told = subst (Extends t) (sym same) (extends_refl t)

-- the calls of a plan were begun
pub extends_planned : (t u : Tape) (plan : List Call) → (IsTrue t.told → Begun t plan u) → IsTrue t.told → Extends t u
extends_planned t u plan begun told = extends_begun t u plan (begun told)

-- what went on from a tape that was read, went on from the one before
pub extends_after : (t read u : Tape) → read ≡ t → (IsTrue read.told → Extends read u) → IsTrue t.told → Extends t u
extends_after t read u same goes told = subst (λ (v : Tape). Extends v u) same (goes (ap (λ (v : Tape). v.told) same ∙ told))

-- of a plan no call was made
pub begun_same : (t u : Tape) (plan : List Call) → u ≡ t → IsTrue t.told → Begun t plan u
begun_same t u plan same told = subst (Begun t plan) (sym same) (begun_nothing t plan)

-- the calls of a plan are these
pub begun_planned : (t u : Tape) (calls plan : List Call) → calls ≡ plan → (IsTrue t.told → Begun t calls u) → IsTrue t.told → Begun t plan u
begun_planned t u calls plan planned begun told = subst (λ (list : List Call). Begun t list u) planned (begun told)
