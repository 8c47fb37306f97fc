-- The pointers of the datasets that a root may have: a pool may have each of them, and of its blocks the check of the tails sees theirs alone.
use Rattle.std.proofs.Common.{◌≡◌, ℕ, ◌≤◌, Bool, true, false, cond, eqb, List, [], ◌∷◌, ◌++◌, map, Option, Some, None, refl, ap, ap₂, subst, ◌-◌, ◌*◌, arith}
use Rattle.std.specs.BTreeMap as tree
use Rattle.std.specs.List.{AllByRecursion}
use Rattle.std.specs.Ordering.{nat_cmp}
use Rattle.zc_num.specs.Ordered.{value_at}
use Rattle.zc_blkptr.specs.Ptr.{IsPtr}
use Rattle.zc_blkptr.specs.declared.ptr.Ptr.{Ptr}
use Rattle.zc_tree.specs.declared.tree.File.{File}
use Rattle.zc_tree.specs.declared.tree.Dataset.{Dataset}
use Rattle.zc_tree.specs.declared.tree.LogState.{LogState}
use Rattle.zc_tree.specs.declared.tree.LogState.TheVariants.{Normal, Claimed}
use Rattle.zc_tree.specs.Spelling.{IsEntry, IsFile, IsDataset, IsLogState}
use Rattle.zc_tree.specs.Reach.{pointers_of_file, pointers_of_files, pointers_of_datasets}
use Rattle.zc_tree.specs.Catalogue.{AreDatasets}
use Rattle.zc_damage.specs.Words.{or_else}
use Rattle.zc_damage.specs.Checks.{last_block, last_pointer, byte_after, tail_hit_with, tail_hit_in, tail_hit_of, tail_hit_among, tail_hit}
use Rattle.zc_state.proofs.Pointers.{ArePtrs, all_joined}

-- ---- a pool of this size may have them

entries_have : (devices places size : ℕ) (entries : List (ℕ × Ptr)) → AllByRecursion (IsEntry devices places size) entries → ArePtrs devices places (map (λ (entry : ℕ × Ptr). entry.1) entries)
entries_have devices places size [] fits = tt
entries_have devices places size (entry ∷ entries) fits = (fits.0.pointer, entries_have devices places size entries fits.1)

files_have : (devices places next_file : ℕ) (files : List File) → AllByRecursion (IsFile devices places next_file) files → ArePtrs devices places (pointers_of_files files)
files_have devices places next_file [] fits = tt
files_have devices places next_file (file ∷ files) fits =
    all_joined (IsPtr devices places) (pointers_of_file file) (pointers_of_files files)
    (entries_have devices places file.size file.slots fits.0.entries) (files_have devices places next_file files fits.1)

pub datasets_have_ptrs : (devices places group next_dataset : ℕ) (others datasets : List Dataset) → AreDatasets devices places group next_dataset others datasets → ArePtrs devices places (pointers_of_datasets datasets)
datasets_have_ptrs devices places group next_dataset others [] fits = tt
datasets_have_ptrs devices places group next_dataset others (dataset ∷ datasets) fits =
    all_joined (IsPtr devices places) (pointers_of_files dataset.files) (pointers_of_datasets datasets)
    (files_have devices places dataset.next_file dataset.files fits.0.files) (datasets_have_ptrs devices places group next_dataset (others ++ dataset ∷ []) datasets fits.2)

-- ---- the root of a later group may have them too

later_log : (devices places group later : ℕ) (log : LogState) → group ≤ later → IsLogState devices places group log → IsLogState devices places later log
later_log devices places group later Normal up is = tt
later_log devices places group later (Claimed epoch blocks) up is = (is.0, omega (arith, is.1), is.2, is.3)

later_dataset : (devices places group later next_dataset : ℕ) (dataset : Dataset) → group ≤ later → IsDataset devices places group next_dataset dataset → IsDataset devices places later next_dataset dataset
later_dataset devices places group later next_dataset dataset up is = record {
  made = is.made;
  before_next = is.before_next;
  in_slot = is.in_slot;
  name = is.name;
  some_next_file = is.some_next_file;
  next_file_width = is.next_file_width;
  log = later_log devices places group later dataset.log up is.log;
  few_files = is.few_files;
  files = is.files;
  files_ascend = is.files_ascend;
  names_differ = is.names_differ;
  few_pointers = is.few_pointers;
}

pub later_datasets : (devices places group later next_dataset : ℕ) (others datasets : List Dataset) → group ≤ later → AreDatasets devices places group next_dataset others datasets
    → AreDatasets devices places later next_dataset others datasets
later_datasets devices places group later next_dataset others [] up are = tt
later_datasets devices places group later next_dataset others (dataset ∷ datasets) up are = (
  later_dataset devices places group later next_dataset dataset up are.0,
  are.1,
  later_datasets devices places group later next_dataset (others ++ dataset ∷ []) datasets up are.2,
)

-- ---- tails

-- what holds of the items of two lists joined holds of those of each
all_front : {X : Type 0} (P : X → Type 0) (xs ys : List X) → AllByRecursion P (xs ++ ys) → AllByRecursion P xs
all_front P [] ys all = tt
all_front P (x ∷ xs) ys all = (all.0, all_front P xs ys all.1)

all_back : {X : Type 0} (P : X → Type 0) (xs ys : List X) → AllByRecursion P (xs ++ ys) → AllByRecursion P ys
all_back P [] ys all = all
all_back P (x ∷ xs) ys all = all_back P xs ys all.1

-- what holds of the pointers of all entries holds of the one that is looked up
looked_up : (P : Ptr → Type 0) (block : ℕ) (entries : List (ℕ × Ptr)) (ptr : Ptr) → value_at block entries ≡ Some ptr → AllByRecursion P (map (λ (entry : ℕ × Ptr). entry.1) entries) → P ptr
looked_up P block [] ptr is all = absurd cc
looked_up P block (entry ∷ entries) ptr is all = at (tree.is_at (nat_cmp block) entry.0) is (λ behind. looked_up P block entries ptr behind all.1) where
  at : (here : Bool) → cond here (Some entry.1) (value_at block entries) ≡ Some ptr → (value_at block entries ≡ Some ptr → P ptr) → P ptr
  at true found behind = let same : entry.1 ≡ ptr = cc in subst P same all.0
  at false found behind = behind found

-- the two images of bytes are one at the pointer's place
abbrev pub IsSameAt : (one other : ℕ → ℕ → List ℕ) → Ptr → Type 0
IsSameAt one other ptr = one ptr.device ptr.place ≡ other ptr.device ptr.place

file_tail_same : (one other : ℕ → ℕ → List ℕ) (file : File) → AllByRecursion (IsSameAt one other) (pointers_of_file file) → tail_hit_of one file ≡ tail_hit_of other file
file_tail_same one other file same = at (last_pointer file) refl where
  found : (small : Bool) (ptr : Ptr) → cond small None (value_at (last_block file.size) file.slots) ≡ Some ptr → IsSameAt one other ptr
  found true ptr is = absurd cc
  found false ptr is = looked_up (IsSameAt one other) (last_block file.size) file.slots ptr is same

  at : (last : Option Ptr) → last_pointer file ≡ last → tail_hit_in one file.size last ≡ tail_hit_in other file.size last
  at None is = refl
  at (Some ptr) is = ap (λ (bytes : List ℕ). tail_hit_with ptr (byte_after (file.size - 4096 * last_block file.size) bytes)) (found (eqb file.size 0) ptr is)

files_tail_same : (one other : ℕ → ℕ → List ℕ) (files : List File) → AllByRecursion (IsSameAt one other) (pointers_of_files files) → tail_hit_among one files ≡ tail_hit_among other files
files_tail_same one other [] same = refl
files_tail_same one other (file ∷ files) same =
    ap₂ or_else (file_tail_same one other file (all_front (IsSameAt one other) (pointers_of_file file) (pointers_of_files files) same))
    (files_tail_same one other files (all_back (IsSameAt one other) (pointers_of_file file) (pointers_of_files files) same))

-- images of bytes that are one at the place of each pointer have the same hit
pub tail_same : (one other : ℕ → ℕ → List ℕ) (datasets : List Dataset) → AllByRecursion (IsSameAt one other) (pointers_of_datasets datasets) → tail_hit one datasets ≡ tail_hit other datasets
tail_same one other [] same = refl
tail_same one other (dataset ∷ datasets) same =
    ap₂ or_else (files_tail_same one other dataset.files (all_front (IsSameAt one other) (pointers_of_files dataset.files) (pointers_of_datasets datasets) same))
    (tail_same one other datasets (all_back (IsSameAt one other) (pointers_of_files dataset.files) (pointers_of_datasets datasets) same))
