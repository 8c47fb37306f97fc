use Rattle.std.proofs.Common.{◌≡◌, take}
use Rattle.zc_plain.proofs.tally.copied.Given as goal

-- the blocks so far
abbrev pub invariant-loop-k : goal.invariant-loop-k
invariant-loop-k l = l.copy.items ≡ take l.k l.made
