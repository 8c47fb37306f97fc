use Rattle.std.proofs.Common.{◌≡◌, replicate}
use Rattle.zc_damage.proofs.said.zeros.Given as goal

-- the first zeros are there
abbrev pub invariant-loop : goal.invariant-loop
invariant-loop l = l.numbers.items ≡ replicate l.counter 0
