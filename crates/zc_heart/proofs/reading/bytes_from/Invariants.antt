use Rattle.std.proofs.Common.{◌≡◌, ◌+◌, ◌-◌, ◌≤◌, length}
use Rattle.zc_num.specs.Words.{each}
use Rattle.zc_plain.specs.PlainPool.{byte_of}
use Rattle.zc_heart.specs.File.{bare}
use Rattle.zc_heart.proofs.reading.bytes_from.Given as goal

-- the bytes so far
abbrev pub invariant-loop-bytes : goal.invariant-loop-bytes
invariant-loop-bytes l = record {
  read : l.bytes.items ≡ each (length l.bytes.items) (λ i. byte_of (bare l.file) (l.offset + i));
  fits : length l.bytes.items ≤ l.count;
}

abbrev pub decreases-loop-bytes : goal.decreases-loop-bytes
decreases-loop-bytes l = l.count - length l.bytes.items
