use Rattle.std.proofs.Common.{◌≡◌, take}
use Rattle.zc_apply.proofs.copying.copy_files.Given as goal

-- those so far
abbrev pub invariant-loop-k : goal.invariant-loop-k
invariant-loop-k l = l.copy ≡ take l.k l.files
