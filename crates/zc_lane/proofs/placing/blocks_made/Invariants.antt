use Rattle.std.proofs.Common.{◌≡◌, ◌++◌, drop}
use Rattle.zc_lane.specs.Placed.{bytes_made}
use Rattle.zc_lane.proofs.placing.blocks_made.Given as goal

-- what is gathered and what is left are all
abbrev pub invariant-loop-change : goal.invariant-loop-change
invariant-loop-change l = l.blocks ++ bytes_made (drop l.change-index l.changes) ≡ bytes_made l.changes
