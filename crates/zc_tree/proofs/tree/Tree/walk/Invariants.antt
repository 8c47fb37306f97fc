use Rattle.std.proofs.Common.{◌≡◌, ◌++◌, drop}
use Rattle.zc_tree.specs.Reach.{pointers_of_datasets}
use Rattle.zc_tree.proofs.tree.Tree.walk.Given as goal

-- what is found and what is left are all
abbrev pub invariant-loop-dataset : goal.invariant-loop-dataset
invariant-loop-dataset l = l.found.items ++ pointers_of_datasets (drop l.dataset-index l.dataset-items) ≡ pointers_of_datasets l.dataset-items
