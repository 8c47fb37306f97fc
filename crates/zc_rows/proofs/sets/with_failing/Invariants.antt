-- The copy has no call on its tape.
use Rattle.zc_rows.specs.Shelves.{IsUnused}
use Rattle.zc_rows.proofs.sets.with_failing.Given as goal

abbrev pub invariant-loop-device : goal.invariant-loop-device
invariant-loop-device l = IsUnused l.copy
