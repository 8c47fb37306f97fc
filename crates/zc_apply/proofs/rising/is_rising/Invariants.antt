use Rattle.std.proofs.Common.{take}
use Rattle.zc_apply.specs.InParts.{Rises}
use Rattle.zc_apply.proofs.rising.is_rising.Given as goal

-- those so far rise
abbrev pub invariant-loop-k : goal.invariant-loop-k
invariant-loop-k l = Rises (take l.k l.files)
