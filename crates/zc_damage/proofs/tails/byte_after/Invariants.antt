use Rattle.std.proofs.Common.{◌≡◌, drop}
use Rattle.zc_damage.specs.Words.{first_of}
use Rattle.zc_damage.specs.Checks.{byte_after, if_not_zero}
use Rattle.zc_damage.proofs.tails.byte_after.Given as goal

-- the bytes so far are 0
abbrev pub invariant-loop-index : goal.invariant-loop-index
invariant-loop-index l = first_of if_not_zero (drop l.index l.bytes) ≡ byte_after l.count l.bytes
