-- The sum by which a catalogue is measured.
use Rattle.std.proofs.Common.{◌≡◌, ◌∙◌, ℕ, ◌+◌, List, map, sum, Result, Ok, Err, IfOk, ap, arith}
use Rattle.std.specs.declared.alloc.AllocError.{AllocError}
use Rattle.zc_tree.specs.Reach.{pointers_of_tree}
use Rattle.zc_tree.specs.declared.tree.Tree.{Tree}
use Rattle.zc_next.specs.Exact.{exact_counts, dataset_size, device_size, catalogue_size}

-- the parts of the size together
pub catalogue_measured : (devices places : ℕ) (tree : Tree) (counts : List (List ℕ)) (datasets_are devices_are front : ℕ) (r : Result ℕ AllocError) → counts ≡ exact_counts devices places (pointers_of_tree tree)
    → datasets_are ≡ sum (map dataset_size tree.datasets) → devices_are ≡ sum (map (device_size places) counts) → front ≡ 4 + datasets_are → IfOk r (λ size. size ≡ front + devices_are)
    → IfOk r (λ size. size ≡ catalogue_size devices places tree)
catalogue_measured devices places tree counts datasets_are devices_are front (Err fault) exact datasets_is devices_is front_is all = tt
catalogue_measured devices places tree counts datasets_are devices_are front (Ok size) exact datasets_is devices_is front_is all =
    let devices_size : devices_are ≡ sum (map (device_size places) (exact_counts devices places (pointers_of_tree tree))) = devices_is ∙ ap (λ (each : List (List ℕ)). sum (map (device_size places) each)) exact in
    omega (arith, all, front_is, datasets_is, devices_size)
