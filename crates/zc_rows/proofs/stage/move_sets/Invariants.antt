-- The shelf that is moved to has handed no set out.
use Rattle.zc_rows.specs.Shelves.{IsAllIn}
use Rattle.zc_rows.proofs.stage.move_sets.Given as goal

abbrev pub invariant-loop-one : goal.invariant-loop-one
invariant-loop-one l = IsAllIn l.to
