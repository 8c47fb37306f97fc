use Rattle.std.proofs.Common.{◌≡◌, ◌++◌, drop}
use Rattle.std.specs.List.{AllByRecursion}
use Rattle.zc_heart.specs.Noted.{noted_in, stamps_in_all, IsMarked}
use Rattle.zc_heart.proofs.sealing.note_datasets.Given as goal

-- what is added and what is left are all
abbrev pub invariant-loop-dataset : goal.invariant-loop-dataset
invariant-loop-dataset l =
    (l.changes ++ noted_in (drop l.dataset-index l.datasets) ≡ l.fn.changes ++ noted_in l.datasets) × (l.stamps ++ stamps_in_all (drop l.dataset-index l.datasets) ≡ l.fn.stamps ++ stamps_in_all l.datasets)
    × (AllByRecursion IsMarked (drop l.dataset-index l.datasets) → AllByRecursion IsMarked l.datasets)
