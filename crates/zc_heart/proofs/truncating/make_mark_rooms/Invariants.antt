use Rattle.std.proofs.Common.{ℕ, ◌<◌, ◌≤◌}
use Rattle.zc_plain.specs.PlainPool.{blocks_of_size}
use Rattle.zc_heart.specs.Steps.{HasMarkRoom, KeepsAll}
use Rattle.zc_heart.proofs.truncating.make_mark_rooms.Given as goal

-- there is room for the marks so far
abbrev pub invariant-loop-k : goal.invariant-loop-k
invariant-loop-k l = record {
  kept : KeepsAll l.fn.file l.file;
  room : (k : ℕ) → blocks_of_size l.size ≤ k → k < l.k → HasMarkRoom k l.file;
}
