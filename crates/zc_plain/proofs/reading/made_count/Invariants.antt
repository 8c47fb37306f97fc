use Rattle.std.proofs.Common.{◌≡◌, ◌≤◌, take}
use Rattle.std.specs.Prelude.{count_by}
use Rattle.zc_plain.specs.PlainPool.{is_made}
use Rattle.zc_plain.proofs.reading.made_count.Given as goal

-- the blocks so far are counted
abbrev pub invariant-loop-k : goal.invariant-loop-k
invariant-loop-k l = record {
  counted : l.count ≡ count_by is_made (take l.k l.blocks);
  few : l.count ≤ l.k;
}
