-- The numbers of things of a tree that a root may have fit their fields.
use Rattle.std.proofs.Common.{◌≡◌, ℕ, ◌+◌, ◌/◌, ◌<◌, ◌≤◌, ◌^◌, List, [], ◌∷◌, ◌++◌, length, length-append, arith}
use Rattle.std.proofs.lemmas.List.{length-map}
use Rattle.std.specs.List.{AllByRecursion}
use Rattle.zc_num.specs.Limits.{AreLimits, total_of, pointers_of}
use Rattle.zc_blkptr.specs.declared.ptr.Ptr.{Ptr}
use Rattle.zc_tree.specs.Reach.{pointers_of_file, pointers_of_files}
use Rattle.zc_tree.specs.Spelling.{IsFile, HasFileWidths, HasDatasetWidths}
use Rattle.zc_tree.specs.Catalogue.{AreDatasets, HasTreeWidths}
use Rattle.zc_tree.specs.declared.tree.File.{File}
use Rattle.zc_tree.specs.declared.tree.Dataset.{Dataset}
use Rattle.zc_tree.specs.declared.tree.Tree.{Tree}

-- a file's name has at most 64 bytes, and its pointers are no more than those of all files
file_widths : (devices places next_file most : ℕ) (files : List File) → most < 2 ^ 32 → AllByRecursion (IsFile devices places next_file) files → length (pointers_of_files files) ≤ most
    → AllByRecursion HasFileWidths files
file_widths devices places next_file most [] low are few = tt
file_widths devices places next_file most (file ∷ files) low are few =
    let both : length (pointers_of_file file ++ pointers_of_files files) ≡ length (pointers_of_file file) + length (pointers_of_files files) = length-append (pointers_of_file file) (pointers_of_files files) in
    let own : length (pointers_of_file file) ≡ length file.slots = length-map file.slots (λ (entry : ℕ × Ptr). entry.1) in
    let name : length file.name ≤ 64 = are.0.name.few_bytes in (
      record { name = omega (arith, name); slots = omega (arith, both, own, few, low) },
      file_widths devices places next_file most files low are.1 (omega (arith, both, few)),
    )

dataset_widths : (devices places group next_dataset : ℕ) (others datasets : List Dataset) → AreLimits devices places → AreDatasets devices places group next_dataset others datasets
    → AllByRecursion HasDatasetWidths datasets
dataset_widths devices places group next_dataset others [] limits are = tt
dataset_widths devices places group next_dataset others (dataset ∷ datasets) limits are =
    let total : ℕ = total_of devices places in
    let few : total ≤ 131072 = limits.few_places in
    let name : length dataset.name ≤ 64 = are.0.name.few_bytes in
    let files : length dataset.files ≤ total / 128 = are.0.few_files in
    let most : pointers_of devices places < 2 ^ 32 = halved total few in (
      record { name = omega (arith, name); files = divided total (length dataset.files) few files; each = file_widths devices places dataset.next_file (pointers_of devices places) dataset.files most are.0.files are.0.few_pointers },
      dataset_widths devices places group next_dataset (others ++ dataset ∷ []) datasets limits are.2,
    )
  where
    halved : (total : ℕ) → total ≤ 131072 → total / 2 < 2 ^ 32
    halved total few = omega (arith, few)

    divided : (total count : ℕ) → total ≤ 131072 → count ≤ total / 128 → count < 2 ^ 32
    divided total count few at_most = omega (arith, few, at_most)

-- a tree of at most eight datasets, which a root may have in a pool within its limits
pub tree_widths : (devices places : ℕ) (tree : Tree) → AreLimits devices places → length tree.datasets ≤ 8 → AreDatasets devices places tree.group tree.next_dataset [] tree.datasets → HasTreeWidths tree
tree_widths devices places tree limits few are = record { datasets = omega (arith, few); each = dataset_widths devices places tree.group tree.next_dataset [] tree.datasets limits are }
