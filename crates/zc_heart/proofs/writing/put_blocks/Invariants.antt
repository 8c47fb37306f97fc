use Rattle.std.proofs.Common.{◌≡◌, ℕ, ◌+◌, ◌<◌, ◌≤◌, length, take}
use Rattle.zc_heart.specs.Steps.{HasRoom, HasStampRoom, PutsAll, AreUnused}
use Rattle.zc_heart.proofs.writing.put_blocks.Given as goal

-- those after the ones that are left were put, and there is room for those
abbrev pub invariant-loop-bytes : goal.invariant-loop-bytes
invariant-loop-bytes l = record {
  front : l.left.items ≡ take (length l.left.items) l.fn.made.items;
  long : length l.left.items ≤ length l.fn.made.items;
  puts : PutsAll l.number l.first l.fn.made.items (l.first + length l.left.items) l.fn.file l.file l.fn.stamps l.stamps;
  room : (k : ℕ) → l.first ≤ k → k < l.first + length l.left.items → HasRoom k l.file;
  stamp_room : HasStampRoom l.number l.first (l.first + length l.left.items) l.stamps;
  fresh : AreUnused l.number (l.first + length l.left.items) l.stamps;
}

abbrev pub decreases-loop-bytes : goal.decreases-loop-bytes
decreases-loop-bytes l = length l.left.items
