use Rattle.std.proofs.Common.{take, All}
use Rattle.zc_apply.specs.InParts.{AreRising, IsAbove}
use Rattle.zc_apply.proofs.rising.are_after.Given as goal

-- the number is above those in the datasets so far
abbrev pub invariant-loop-k : goal.invariant-loop-k
invariant-loop-k l = AreRising l.datasets → All (IsAbove l.id l.file) (take l.k l.datasets)
