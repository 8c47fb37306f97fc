use Rattle.std.proofs.Common.{◌≡◌}
use Rattle.zc_plain.specs.Charge.{is_block, with_each, blocks_made}
use Rattle.zc_plain.proofs.tally.with_blocks_of.Given as goal

-- the blocks so far, each once
abbrev pub invariant-loop-k : goal.invariant-loop-k
invariant-loop-k l = l.made.items ≡ with_each is_block l.tally.made (blocks_made l.tally l.dataset l.file l.first l.k)
