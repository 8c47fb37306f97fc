use Rattle.std.proofs.Common.{◌≡◌, ◌+◌}
use Rattle.zc_num.specs.Words.{each}
use Rattle.zc_plain.specs.Written.{made_block}
use Rattle.zc_plain.proofs.writing.made_blocks.Given as goal

-- the blocks so far
abbrev pub invariant-loop-k : goal.invariant-loop-k
invariant-loop-k l = l.made.items ≡ each l.k (λ k. made_block l.number l.offset l.bytes l.blocks (l.first + k))
