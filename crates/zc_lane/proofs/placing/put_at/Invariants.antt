use Rattle.std.proofs.Common.{◌≡◌, map, take}
use Rattle.zc_state.specs.State.{place_of_block}
use Rattle.zc_group.specs.Committed.{found_of}
use Rattle.zc_lane.specs.Placed.{bytes_of}
use Rattle.zc_lane.proofs.placing.put_at.Given as goal

-- the blocks so far, each at the place of its index
abbrev pub invariant-loop-k : goal.invariant-loop-k
invariant-loop-k l = record {
  places : map place_of_block (map found_of l.new) ≡ take l.k l.places;
  bytes : bytes_of (map found_of l.new) ≡ take l.k l.blocks;
}
