use Rattle.std.proofs.Common.{◌≡◌, map, sum, take}
use Rattle.zc_next.specs.Exact.{dataset_size}
use Rattle.zc_group.proofs.measuring.datasets_size.Given as goal

-- the bytes of the datasets so far
abbrev pub invariant-loop-dataset : goal.invariant-loop-dataset
invariant-loop-dataset l = l.total ≡ sum (map dataset_size (take l.dataset-index l.datasets))
