use Rattle.std.proofs.Common.{◌≡◌, ◌+◌, ◌≤◌}
use Rattle.std.specs.Prelude.{count_by}
use Rattle.zc_num.specs.Words.{each}
use Rattle.zc_plain.specs.PlainPool.{block_at, is_hole}
use Rattle.zc_heart.specs.Core.{plain_blocks}
use Rattle.zc_heart.proofs.reading.holes_touched.Given as goal

-- the holes so far are counted
abbrev pub invariant-loop-k : goal.invariant-loop-k
invariant-loop-k l = record {
  counted : l.holes ≡ count_by is_hole (each l.k (λ k. block_at (l.first + k) (plain_blocks l.file)));
  few : l.holes ≤ l.k;
}
