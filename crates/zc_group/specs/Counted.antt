-- How many calls a group made before it was given up.
use Rattle.std.specs.Prelude.{ℕ}
use Rattle.zc_group.specs.declared.committing.CommitFault.{CommitFault}
use Rattle.zc_group.specs.declared.committing.CommitFault.TheVariants.{NoMemory, Failed}

-- the fault is a call of the disks that failed
abbrev pub IsFailed : CommitFault → Type 0
IsFailed NoMemory = ⊥
IsFailed (Failed made) = Unit {0}

-- how many calls were made before the fault was told, the failed one too
abbrev pub made_before : CommitFault → ℕ
made_before NoMemory = 0
made_before (Failed made) = made
