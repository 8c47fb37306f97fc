use Rattle.std.proofs.Common.{ℕ, ◌<◌, ◌≤◌}
use Rattle.zc_plain.specs.PlainPool.{blocks_of_size}
use Rattle.zc_heart.specs.Steps.{HasMarkRoom}
use Rattle.zc_heart.proofs.CutLaws.{DropsUpTo}
use Rattle.zc_heart.proofs.truncating.drop_blocks.Given as goal

-- the blocks so far are holes, and there is room for the marks of the others
abbrev pub invariant-loop-k : goal.invariant-loop-k
invariant-loop-k l = record {
  drops : DropsUpTo (blocks_of_size l.size) l.k l.fn.file l.file l.fn.stamps l.stamps;
  room : (k : ℕ) → l.k ≤ k → k < blocks_of_size l.fn.file.size → HasMarkRoom k l.file;
}
