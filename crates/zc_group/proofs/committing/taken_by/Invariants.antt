use Rattle.std.proofs.Common.{◌≡◌, ◌++◌, map, take}
use Rattle.zc_state.specs.State.{place_of_block}
use Rattle.zc_group.specs.Committed.{found_of}
use Rattle.zc_group.proofs.committing.taken_by.Given as goal

-- the places of the catalogue so far
abbrev pub invariant-loop-at : goal.invariant-loop-at
invariant-loop-at l = l.taken.items ≡ take l.at-index l.chain

-- and after all of them those of the blocks so far
abbrev pub invariant-loop-block : goal.invariant-loop-block
invariant-loop-block l = l.taken.items ≡ l.chain ++ map place_of_block (map found_of (take l.block-index l.new))
