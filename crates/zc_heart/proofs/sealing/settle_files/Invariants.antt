use Rattle.std.proofs.Common.{◌≡◌}
use Rattle.zc_heart.specs.Noted.{settled_files}
use Rattle.zc_heart.proofs.sealing.settle_files.Given as goal

-- what is settled and what is left are all
abbrev pub invariant-loop-number : goal.invariant-loop-number
invariant-loop-number l = settled_files l.number-iterator l.files ≡ settled_files l.changed l.fn.files
