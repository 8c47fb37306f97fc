use Rattle.std.proofs.Common.{◌≡◌, ◌+◌}
use Rattle.zc_num.specs.Words.{each}
use Rattle.zc_plain.specs.PlainPool.{byte_of}
use Rattle.zc_plain.proofs.reading.bytes_from.Given as goal

-- the bytes so far
abbrev pub invariant-loop-k : goal.invariant-loop-k
invariant-loop-k l = l.bytes.items ≡ each l.k (λ i. byte_of l.file (l.offset + i))
