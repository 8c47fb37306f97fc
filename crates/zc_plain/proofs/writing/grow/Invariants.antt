use Rattle.std.proofs.Common.{◌≡◌, ◌+◌, ◌≤◌, ◌++◌, replicate, vec_len, vec_capacity}
use Rattle.zc_plain.specs.declared.plain_pool.PlainBlock.TheVariants.{Hole}
use Rattle.zc_plain.proofs.writing.grow.Given as goal

-- so many holes were added, and there is room for the others
abbrev pub invariant-loop : goal.invariant-loop
invariant-loop l = record {
  added : l.blocks.items ≡ l.fn.blocks.items ++ replicate l.counter Hole;
  room : vec_len l.fn.blocks + l.missing ≤ vec_capacity l.blocks;
}
