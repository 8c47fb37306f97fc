use Rattle.std.proofs.Common.{◌≡◌, replicate}
use Rattle.zc_tape.proofs.blocks.zero_blocks.Given as goal

abbrev pub invariant-loop : goal.invariant-loop
invariant-loop l = l.blocks.items ≡ replicate l.counter l.zero
