use Rattle.std.proofs.Common.{◌≡◌, ◌++◌, length, drop}
use Rattle.std.specs.List.{flat_map}
use Rattle.zc_wire.specs.Numbers.{u32_bytes}
use Rattle.zc_tree.specs.Spelling.{dataset_bytes}
use Rattle.zc_catalog.proofs.writing.put_datasets.Given as goal

-- what is written and what is left are all
abbrev pub invariant-loop-dataset : goal.invariant-loop-dataset
invariant-loop-dataset l = l.out.items ++ flat_map dataset_bytes (drop l.dataset-index l.datasets) ≡ l.fn.out.items ++ (u32_bytes (length l.datasets) ++ flat_map dataset_bytes l.datasets)
