use Rattle.std.proofs.Common.{◌≡◌, ◌++◌, drop, map}
use Rattle.std.specs.List.{AllByRecursion}
use Rattle.zc_heart.specs.Opening.{read_dataset, MayRead}
use Rattle.zc_heart.proofs.opening.hold_datasets.Given as goal

-- what is held and what is left are all
abbrev pub invariant-loop-dataset : goal.invariant-loop-dataset
invariant-loop-dataset l =
    (l.held ++ map (read_dataset l.found.entries) (drop l.dataset-index l.datasets) ≡ map (read_dataset l.found.entries) l.datasets) × AllByRecursion (MayRead l.found.entries) (drop l.dataset-index l.datasets)
