use Rattle.std.proofs.Common.{take}
use Rattle.zc_apply.specs.InParts.{AreRising}
use Rattle.zc_apply.proofs.rising.are_rising.Given as goal

-- the files of those so far rise
abbrev pub invariant-loop-k : goal.invariant-loop-k
invariant-loop-k l = AreRising (take l.k l.datasets)
