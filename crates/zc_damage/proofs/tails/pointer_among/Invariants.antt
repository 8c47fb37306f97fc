use Rattle.std.proofs.Common.{◌≡◌}
use Rattle.zc_num.specs.Ordered.{value_at}
use Rattle.zc_damage.proofs.tails.pointer_among.Given as goal

-- the entries so far are passed by
abbrev pub invariant-loop-number : goal.invariant-loop-number
invariant-loop-number l = value_at l.block l.number-iterator ≡ value_at l.block l.slots
