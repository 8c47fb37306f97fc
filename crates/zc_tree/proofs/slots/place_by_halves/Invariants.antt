use Rattle.std.proofs.Common.{◌-◌, ◌≤◌, length}
use Rattle.zc_tree.proofs.slots.place_by_halves.Given as goal

-- the part that is left lies in the list
abbrev pub invariant-loop-low : goal.invariant-loop-low
invariant-loop-low l = l.high ≤ length l.files

-- it gets shorter
abbrev pub decreases-loop-low : goal.decreases-loop-low
decreases-loop-low l = l.high - l.low
