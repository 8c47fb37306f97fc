use Rattle.std.proofs.Common.{◌≡◌, map, take}
use Rattle.zc_group.specs.Committed.{found_of}
use Rattle.zc_lane.specs.Placed.{ptr_to}
use Rattle.zc_lane.proofs.placing.pointers_to.Given as goal

-- those to the blocks so far
abbrev pub invariant-loop-block : goal.invariant-loop-block
invariant-loop-block l = l.placed ≡ map (ptr_to l.group) (map found_of (take l.block-index l.new))
