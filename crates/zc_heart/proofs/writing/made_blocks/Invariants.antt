use Rattle.std.proofs.Common.{◌≡◌, ◌+◌}
use Rattle.zc_num.specs.Words.{each}
use Rattle.zc_heart.specs.Input.{input_bytes}
use Rattle.zc_heart.specs.Steps.{written_bytes}
use Rattle.zc_heart.proofs.writing.made_blocks.Given as goal

-- the blocks so far
abbrev pub invariant-loop-k : goal.invariant-loop-k
invariant-loop-k l = l.made.items ≡ each l.k (λ k. written_bytes l.offset (input_bytes l.input) l.file (l.first + k))
