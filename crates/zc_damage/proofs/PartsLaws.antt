-- What the checks ask of their callers, of a catalogue that a root may have.
use Rattle.std.proofs.Common.{ℕ, ◌<◌, List, [], ◌∷◌, ◌++◌}
use Rattle.std.specs.List.{AllByRecursion}
use Rattle.std.proofs.lemmas.List.Elements.{All-from_recursion}
use Rattle.zc_blkptr.specs.declared.ptr.Ptr.{Ptr}
use Rattle.zc_tree.specs.declared.tree.File.{File}
use Rattle.zc_tree.specs.declared.tree.Dataset.{Dataset}
use Rattle.zc_tree.specs.declared.catalogue.Parts.{Parts}
use Rattle.zc_tree.specs.Reach.{pointers_of_file, pointers_of_files, pointers_of_datasets, pointers_of_tree}
use Rattle.zc_tree.specs.Spelling.{IsEntry, IsFile}
use Rattle.zc_tree.specs.Catalogue.{AreDatasets, AreParts}
use Rattle.zc_damage.specs.Places.{IsPlace, ReachPlaces}
use Rattle.zc_damage.specs.Checks.{HaveAreas}
use Rattle.zc_damage.proofs.EarlyLaws.{each_weaker, image_each}

-- what holds of the items of two lists holds of those of both
each_append : {X : Type 0} (P : X → Type 0) (xs ys : List X) → AllByRecursion P xs → AllByRecursion P ys → AllByRecursion P (xs ++ ys)
each_append P [] ys first second = second
each_append P (x ∷ xs) ys first second = (first.0, each_append P xs ys first.1 second)

-- the pointer is to a place of the pool
abbrev IsThere : (devices places : ℕ) → Ptr → Type 0
IsThere devices places ptr = IsPlace devices places ptr.device ptr.place

file_there : (devices places next_file : ℕ) (file : File) → IsFile devices places next_file file → AllByRecursion (IsThere devices places) (pointers_of_file file)
file_there devices places next_file file fits =
    image_each (IsThere devices places) (λ (entry : ℕ × Ptr). entry.1) file.slots
    (each_weaker (IsEntry devices places file.size) _ (λ entry is. (is.pointer.on_device, is.pointer.in_places)) file.slots fits.entries)

files_there : (devices places next_file : ℕ) (files : List File) → AllByRecursion (IsFile devices places next_file) files → AllByRecursion (IsThere devices places) (pointers_of_files files)
files_there devices places next_file [] fit = tt
files_there devices places next_file (file ∷ files) fit =
    each_append (IsThere devices places) (pointers_of_file file) (pointers_of_files files) (file_there devices places next_file file fit.0) (files_there devices places next_file files fit.1)

datasets_there : (devices places group next_dataset : ℕ) (others datasets : List Dataset) → AreDatasets devices places group next_dataset others datasets → AllByRecursion (IsThere devices places) (pointers_of_datasets datasets)
datasets_there devices places group next_dataset others [] fit = tt
datasets_there devices places group next_dataset others (dataset ∷ datasets) fit =
    each_append (IsThere devices places) (pointers_of_files dataset.files) (pointers_of_datasets datasets)
    (files_there devices places dataset.next_file dataset.files fit.0.files)
    (datasets_there devices places group next_dataset (others ++ dataset ∷ []) datasets fit.2)

-- each pointer is to a place of the pool
pub reach_places : (devices places group next_dataset : ℕ) (parts : Parts) → AreParts devices places group next_dataset parts → ReachPlaces devices places (pointers_of_tree parts.tree)
reach_places devices places group next_dataset parts fit =
    All-from_recursion (IsThere devices places) (pointers_of_tree parts.tree) (datasets_there devices places group next_dataset [] parts.tree.datasets fit.datasets)

datasets_have_areas : (devices places group next_dataset : ℕ) (others datasets : List Dataset) → AreDatasets devices places group next_dataset others datasets → AllByRecursion (λ dataset. dataset.slot < 8) datasets
datasets_have_areas devices places group next_dataset others [] fit = tt
datasets_have_areas devices places group next_dataset others (dataset ∷ datasets) fit =
    (fit.0.in_slot, datasets_have_areas devices places group next_dataset (others ++ dataset ∷ []) datasets fit.2)

-- each dataset has one of the eight log areas
pub have_areas : (devices places group next_dataset : ℕ) (parts : Parts) → AreParts devices places group next_dataset parts → HaveAreas parts.tree.datasets
have_areas devices places group next_dataset parts fit =
    All-from_recursion (λ (dataset : Dataset). dataset.slot < 8) parts.tree.datasets (datasets_have_areas devices places group next_dataset [] parts.tree.datasets fit.datasets)
