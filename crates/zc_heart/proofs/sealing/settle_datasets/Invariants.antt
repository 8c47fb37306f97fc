use Rattle.std.proofs.Common.{◌≡◌, ◌++◌, map, take, drop}
use Rattle.zc_heart.specs.Noted.{settled_dataset}
use Rattle.zc_heart.proofs.sealing.settle_datasets.Given as goal

-- those before the place are settled
abbrev pub invariant-loop-place : goal.invariant-loop-place
invariant-loop-place l = l.datasets ≡ map settled_dataset (take l.place l.fn.datasets) ++ drop l.place l.fn.datasets
