use Rattle.std.proofs.Common.{◌≡◌, ◌≤◌, length, take, drop}
use Rattle.zc_heart.specs.Opening.{HasRead, AreWhole}
use Rattle.zc_heart.proofs.opening.blocks_by_place.Given as goal

-- the blocks that were taken off are noted
abbrev pub invariant-loop-block : goal.invariant-loop-block
invariant-loop-block l = record {
  within : length l.left ≤ length l.fn.blocks.items;
  left : l.left ≡ take (length l.left) l.fn.blocks.items;
  read : HasRead l.found.entries (drop (length l.left) l.fn.blocks.items);
  whole : AreWhole (drop (length l.left) l.fn.blocks.items);
}

-- one more is taken off at each turn
abbrev pub decreases-loop-block : goal.decreases-loop-block
decreases-loop-block l = length l.left
