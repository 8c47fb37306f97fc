use Rattle.std.proofs.Common.{◌≡◌, replicate}
use Rattle.zc_table.proofs.plain.calls.zeros.Given as goal

abbrev pub invariant-loop : goal.invariant-loop
invariant-loop l = l.numbers.items ≡ replicate l.counter l.zero
