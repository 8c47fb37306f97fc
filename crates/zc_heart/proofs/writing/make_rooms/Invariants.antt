use Rattle.std.proofs.Common.{ℕ, ◌+◌, ◌<◌, ◌≤◌}
use Rattle.zc_heart.specs.File.{StaysCounted}
use Rattle.zc_heart.specs.Steps.{HasRoom, HasStampRoom, KeepsAll}
use Rattle.zc_heart.proofs.writing.make_rooms.Given as goal

-- there is room for the blocks so far
abbrev pub invariant-loop-k : goal.invariant-loop-k
invariant-loop-k l = record {
  file : KeepsAll l.fn.file l.file;
  stamps : StaysCounted l.fn.stamps l.stamps;
  room : (k : ℕ) → l.first ≤ k → k < l.first + l.k → HasRoom k l.file;
  stamp_room : HasStampRoom l.number l.first (l.first + l.k) l.stamps;
}
