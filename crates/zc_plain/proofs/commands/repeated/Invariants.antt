use Rattle.std.proofs.Common.{◌≡◌, replicate}
use Rattle.zc_plain.proofs.commands.repeated.Given as goal

-- so many bytes so far
abbrev pub invariant-loop : goal.invariant-loop
invariant-loop l = l.bytes.items ≡ replicate l.counter l.byte
