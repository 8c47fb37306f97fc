-- What each crash may leave while the calls of a plan are made: the laws of groups and of creations, of calls that are begun.
use Rattle.std.proofs.Common.{◌≡◌, ℕ, ◌+◌, Bool, true, List, length, IsTrue, subst}
use Rattle.zc_tape.specs.Tape.{Call, Tape}
use Rattle.zc_tape.specs.Crash.{May}
use Rattle.zc_tape.specs.Plays.{Plays, Begun, Played}
use Rattle.zc_tape.proofs.CrashKinds.{may_is_kind}
use Rattle.zc_tape.proofs.Plans.{begun_played}
use Rattle.zc_layout.specs.Layout.{Put}
use Rattle.zc_layout.specs.Standing.{Standing}
use Rattle.zc_layout.specs.Outcomes.{before_gate, before_first_gate, GroupLeaves, GroupIsMade, CreationLeaves, CreationIsMade}
use Rattle.zc_layout.proofs.GroupCrash.{group_moments, group_is_made, group_unwritten_after}
use Rattle.zc_layout.proofs.CreationCrash.{creation_moments, creation_is_made}
use Rattle.zc_plan.specs.Start.{StartsGroup, StartsCreation, LeavesElsewhere}

-- calls that were played since room was made for them are begun
pub begun_from : (t ready u : Tape) (calls : List Call) (ok : Bool) → ready ≡ t → Played ready calls u ok → IsTrue t.told → Begun t calls u
begun_from t ready u calls ok e played told = begun_played t u calls ok (subst (λ v. Played v calls u ok) e played told)

module _ (t u : Tape) (calls : List Call) where
  -- ---- of a group
  pub group_leaves : (old new : Standing) (puts : List Put) (gate_open : Bool) → (IsTrue t.told → Begun t calls u) → StartsGroup t calls old new puts gate_open
      → GroupLeaves May t u old new (length t.calls + before_gate puts new.body gate_open)
  group_leaves old new puts gate_open begun starts =
      group_moments May t u old new puts gate_open may_is_kind starts.at_rest starts.stands starts.leads starts.gate
      (subst (λ plan. Begun t plan u) starts.planned (begun starts.told))

  pub group_leaves_elsewhere : (old new : Standing) (puts : List Put) (gate_open : Bool) → (IsTrue t.told → Begun t calls u)
      → StartsGroup t calls old new puts gate_open → LeavesElsewhere t u puts
  group_leaves_elsewhere old new puts gate_open begun starts =
      group_unwritten_after May t u puts new.body gate_open may_is_kind starts.at_rest
      (subst (λ plan. Begun t plan u) starts.planned (begun starts.told))

  pub group_made : (old new : Standing) (puts : List Put) (gate_open : Bool) → Played t calls u true → StartsGroup t calls old new puts gate_open
      → GroupIsMade May u new
  group_made old new puts gate_open played starts =
      group_is_made May t u old new puts gate_open may_is_kind starts.at_rest starts.stands starts.leads starts.gate
      (subst (λ plan. Plays t plan u true) starts.planned (played starts.told))

  -- ---- of a creation
  pub creation_leaves : (new : Standing) (puts : List Put) (first_open second_open : Bool) (logs : ℕ) → (IsTrue t.told → Begun t calls u)
      → StartsCreation t calls new puts first_open second_open logs
      → CreationLeaves May t u logs new (length t.calls + before_first_gate first_open second_open logs puts new.body)
  creation_leaves new puts first_open second_open logs begun starts =
      creation_moments May t u first_open second_open logs new puts may_is_kind starts.at_rest starts.none starts.first_gate starts.second_gate
      starts.begins starts.beside_logs (subst (λ plan. Begun t plan u) starts.planned (begun starts.told))

  pub creation_made : (new : Standing) (puts : List Put) (first_open second_open : Bool) (logs : ℕ) → Played t calls u true
      → StartsCreation t calls new puts first_open second_open logs → CreationIsMade May u logs new
  creation_made new puts first_open second_open logs played starts =
      creation_is_made May t u first_open second_open logs new puts may_is_kind starts.at_rest starts.none starts.first_gate starts.second_gate
      starts.begins starts.beside_logs (subst (λ plan. Plays t plan u true) starts.planned (played starts.told))
