-- Each pointer of a catalogue that a root may have is one that a pool of its size may have.
use Rattle.std.proofs.Common.{ℕ, List, [], ◌∷◌, ◌++◌, map}
use Rattle.std.specs.List.{AllByRecursion}
use Rattle.zc_blkptr.specs.Ptr.{IsPtr}
use Rattle.zc_blkptr.specs.declared.ptr.Ptr.{Ptr}
use Rattle.zc_tree.specs.declared.tree.File.{File}
use Rattle.zc_tree.specs.declared.tree.Dataset.{Dataset}
use Rattle.zc_tree.specs.declared.catalogue.Parts.{Parts}
use Rattle.zc_tree.specs.Spelling.{IsEntry, IsFile}
use Rattle.zc_tree.specs.Reach.{pointers_of_file, pointers_of_files, pointers_of_datasets, pointers_of_tree}
use Rattle.zc_tree.specs.Catalogue.{AreDatasets, AreParts}

-- what holds of the items of two lists
pub all_joined : {X : Type 0} (P : X → Type 0) (xs ys : List X) → AllByRecursion P xs → AllByRecursion P ys → AllByRecursion P (xs ++ ys)
all_joined P [] ys front back = back
all_joined P (x ∷ xs) ys front back = (front.0, all_joined P xs ys front.1 back)

-- a pool of this size may have the pointers
abbrev pub ArePtrs : (devices places : ℕ) → List Ptr → Type 0
ArePtrs devices places reach = AllByRecursion (IsPtr devices places) reach

entries_have : (devices places size : ℕ) (entries : List (ℕ × Ptr)) → AllByRecursion (IsEntry devices places size) entries → ArePtrs devices places (map (λ (entry : ℕ × Ptr). entry.1) entries)
entries_have devices places size [] fits = tt
entries_have devices places size (entry ∷ entries) fits = (fits.0.pointer, entries_have devices places size entries fits.1)

files_have : (devices places next_file : ℕ) (files : List File) → AllByRecursion (IsFile devices places next_file) files → ArePtrs devices places (pointers_of_files files)
files_have devices places next_file [] fits = tt
files_have devices places next_file (file ∷ files) fits =
    all_joined (IsPtr devices places) (pointers_of_file file) (pointers_of_files files)
    (entries_have devices places file.size file.slots fits.0.entries) (files_have devices places next_file files fits.1)

datasets_have : (devices places group next_dataset : ℕ) (others datasets : List Dataset) → AreDatasets devices places group next_dataset others datasets → ArePtrs devices places (pointers_of_datasets datasets)
datasets_have devices places group next_dataset others [] fits = tt
datasets_have devices places group next_dataset others (dataset ∷ datasets) fits =
    all_joined (IsPtr devices places) (pointers_of_files dataset.files) (pointers_of_datasets datasets)
    (files_have devices places dataset.next_file dataset.files fits.0.files) (datasets_have devices places group next_dataset (others ++ dataset ∷ []) datasets fits.2)

-- each pointer of the tree
pub parts_have_ptrs : (devices places group next_dataset : ℕ) (parts : Parts) → AreParts devices places group next_dataset parts → ArePtrs devices places (pointers_of_tree parts.tree)
parts_have_ptrs devices places group next_dataset parts fits = datasets_have devices places group next_dataset [] parts.tree.datasets fits.datasets
