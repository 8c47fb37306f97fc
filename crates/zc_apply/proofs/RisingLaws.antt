-- Files whose numbers rise, and how long they do.
use Rattle.std.proofs.Common.{◌≡◌, ◌∙◌, ℕ, ◌+◌, ◌-◌, ◌<◌, ◌≤◌, ◌==◌, not, Bool, true, false, cond, List, [], ◌∷◌, ◌++◌, take, map, length, get_or, Some, refl, sym, ap, subst, inl, inr, arith}
use Rattle.std.specs.Prelude.{slice_get, All, IsTrue}
use Rattle.std.proofs.lemmas.Bool.{cases_lt}
use Rattle.std.proofs.lemmas.Bool.Decides.{eqb_tells}
use Rattle.std.proofs.lemmas.List.{get_or-map, get_or_default, length-map, take_all}
use Rattle.std.proofs.lemmas.List.Elements.{All-push, All-map, All-filter, All-more, All-same}
use Rattle.std.proofs.lemmas.List.Kept.{AllPairs-filter}
use Rattle.std.proofs.lemmas.List.Quantifiers.{all_pairs_push}
use Rattle.std.proofs.lemmas.Option.{slice_get_within, get_or_from_slice_get}
use Rattle.zc_blkptr.specs.declared.ptr.Ptr.{Ptr}
use Rattle.zc_tree.specs.declared.tree.File.{File}
use Rattle.zc_tree.specs.declared.tree.Dataset.{Dataset}
use Rattle.zc_tree.specs.declared.tree.Tree.{Tree}
use Rattle.zc_heart.specs.declared.changes.Now.TheVariants as now
use Rattle.zc_heart.specs.declared.changes.Change.{Change}
use Rattle.zc_heart.specs.declared.changes.Change.TheVariants.{MakeDataset, DropDataset, MakeFile, DropFile, Size, Put}
use Rattle.zc_heart.specs.Changes.{change_by, without, number_of_dataset, number_of_file, with_file, with_slot, changed}
use Rattle.zc_apply.specs.InParts.{by_number, changed_up_to, Rises, AreRising, IsAbove, IsNewAfter, AreWithin}
use Rattle.zc_apply.proofs.MappedLaws.{next_unchanged}

-- no files rise, and no datasets do
pub none_rise : Rises []
none_rise i j d before within = absurd (omega arith)

pub no_datasets_rise : AreRising []
no_datasets_rise k d within = absurd (omega arith)

-- where the last is below a number, each is
pub last_is_highest : (files : List File) (last : File) (id : ℕ) → slice_get files (length files - 1) ≡ Some last → last.id < id → Rises files → All (λ (file : File). file.id < id) files
last_is_highest files last id there below rise k d within =
    let end : get_or files (length files - 1) d ≡ last = get_or_from_slice_get files (length files - 1) last d there in
    let top : (get_or files (length files - 1) d).id < id = rw end below in
    elim (cases_lt k (length files - 1)) [
      | inl lt ↦ omega (arith, rise k (length files - 1) d lt (omega arith))
      | inr le ↦ let same : k ≡ length files - 1 = omega arith in rw same top
    ]

-- a file with the number stands nowhere else
pub stands_here : (files : List File) (id middle : ℕ) (file : File) → Rises files → middle < length files → (get_or files middle file).id ≡ id → AreWithin files id middle (middle + 1)
stands_here files id middle file rise inside is =
    let same : (d : File) → (get_or files middle d).id ≡ id = λ d. ap (λ (other : File). other.id) (get_or_default files middle d file inside) ∙ is in
    record {
      ordered = omega arith;
      fits = omega arith;
      none_before = λ k d before equal. omega (arith, same d, rise k middle d before inside);
      none_later = λ k d from within equal. omega (arith, same d, rise middle k d (omega arith) within);
    }

-- those up to one with a lower number have lower ones, and those from one with a higher number have higher ones
pub lower_up_to : (files : List File) (id middle : ℕ) (file : File) → Rises files → middle < length files → (get_or files middle file).id < id
    → (k : ℕ) (d : File) → k < middle + 1 → (get_or files k d).id < id
lower_up_to files id middle file rise inside below k d upto =
    let same : (get_or files middle d).id ≡ (get_or files middle file).id = ap (λ (other : File). other.id) (get_or_default files middle d file inside) in
    elim (cases_lt k middle) [
      | inl lt ↦ omega (arith, same, rise k middle d lt inside)
      | inr le ↦ let equal : k ≡ middle = omega arith in rw equal (omega (arith, same))
    ]

pub higher_from : (files : List File) (id middle : ℕ) (file : File) → Rises files → middle < length files → id < (get_or files middle file).id
    → (k : ℕ) (d : File) → middle ≤ k → k < length files → id < (get_or files k d).id
higher_from files id middle file rise inside above k d from within =
    let same : (get_or files middle d).id ≡ (get_or files middle file).id = ap (λ (other : File). other.id) (get_or_default files middle d file inside) in
    elim (cases_lt middle k) [
      | inl lt ↦ omega (arith, same, rise middle k d lt within)
      | inr le ↦ let equal : k ≡ middle = omega arith in rw equal (omega (arith, same))
    ]

-- one more file above the others
pub rises_more : (files : List File) (file : File) → Rises files → All (λ (other : File). other.id < file.id) files → Rises (files ++ file ∷ [])
rises_more files file rise below = all_pairs_push (λ (a b : File). a.id < b.id) files file rise below

-- those that stay rise
pub rises_without : (id : ℕ) (files : List File) → Rises files → Rises (without number_of_file id files)
rises_without id files rise = AllPairs-filter (λ (a b : File). a.id < b.id) (λ (file : File). not (file.id == id)) files rise

-- a change that keeps the numbers
pub rises_changed : (change : File → File) (files : List File) → ((file : File) → (change file).id ≡ file.id) → Rises files → Rises (map change files)
rises_changed change files keeps rise i j d before within =
    let inside : j < length files = rw length-map at within in
    let low : (get_or (map change files) i d).id ≡ (get_or files i d).id = ap (λ (file : File). file.id) (get_or-map change files i d d (omega arith)) ∙ keeps (get_or files i d) in
    let high : (get_or (map change files) j d).id ≡ (get_or files j d).id = ap (λ (file : File). file.id) (get_or-map change files j d d inside) ∙ keeps (get_or files j d) in
    omega (arith, low, high, rise i j d before inside)

-- a change of the file with a number keeps the numbers where it does
numbers_kept : (id : ℕ) (change : File → File) → ((file : File) → (change file).id ≡ file.id) → (file : File) → (by_number number_of_file id change file).id ≡ file.id
numbers_kept id change keeps file = at (file.id == id)
  where
    at : (same : Bool) → (cond same (change file) file).id ≡ file.id
    at true = keeps file
    at false = refl

-- one more dataset in which a number is above the others
pub above_more : (id number : ℕ) (datasets : List Dataset) (k : ℕ) (dataset : Dataset) (above : Bool) → k < length datasets → dataset ≡ get_or datasets k dataset → above ≡ true
    → (IsTrue above → Rises dataset.files → IsAbove id number dataset) → AreRising datasets → All (IsAbove id number) (take k datasets) → All (IsAbove id number) (take (k + 1) datasets)
above_more id number datasets k dataset above within here is says rise so_far =
    let rises : Rises dataset.files = subst (λ (other : Dataset). Rises other.files) (sym here) (rise k dataset within) in
    All-more (IsAbove id number) datasets k dataset within so_far (subst (IsAbove id number) here (says is rises))

-- in each dataset it is
pub above_all : (id number : ℕ) (datasets : List Dataset) (k : ℕ) → length datasets ≤ k → All (IsAbove id number) (take k datasets) → All (IsAbove id number) datasets
above_all id number datasets k past so_far = All-same (IsAbove id number) datasets (take k datasets) (sym (take_all k datasets past)) so_far

-- the files of a dataset that isn't changed yet rise
pub rises_at : (old now' : List Dataset) (change : Dataset → Dataset) (k : ℕ) (dataset : Dataset) → now' ≡ changed_up_to change k old → slice_get now' k ≡ Some dataset → AreRising old → Rises dataset.files
rises_at old now' change k dataset so_far there rise =
    let was : slice_get old k ≡ Some dataset = sym (next_unchanged change k old) ∙ ap (λ (datasets : List Dataset). slice_get datasets k) (sym so_far) ∙ there in
    subst (λ (other : Dataset). Rises other.files) (get_or_from_slice_get old k dataset dataset was) (rise k dataset (slice_get_within old k dataset was))

-- what holds of each dataset's files, where it holds of those of the datasets with a number and stays so for the others
pub are_rising_changed : (id : ℕ) (change : Dataset → Dataset) (datasets : List Dataset) → All (λ (dataset : Dataset). dataset.id ≡ id → Rises dataset.files → Rises (change dataset).files) datasets
    → AreRising datasets → AreRising (change_by number_of_dataset id change datasets)
are_rising_changed id change datasets keeps rise =
    All-map (λ (dataset : Dataset). Rises dataset.files) (by_number number_of_dataset id change) datasets (λ k d within. at (get_or datasets k d) (keeps k d within) (rise k d within))
  where
    at : (dataset : Dataset) → (dataset.id ≡ id → Rises dataset.files → Rises (change dataset).files) → Rises dataset.files → Rises (by_number number_of_dataset id change dataset).files
    at dataset keeps rises = elim (eqb_tells dataset.id id) [
      | inl is ↦ rw is.0 (keeps is.1 rises)
      | inr other ↦ rw other.0 rises
    ]

with_slot_keeps : (block : ℕ) (now' : _) (ptr : Ptr) (file : File) → (with_slot block now' ptr file).id ≡ file.id
with_slot_keeps block now.Hole ptr file = refl
with_slot_keeps block (now.Made bytes) ptr file = refl

-- the files rise once a change is made, whose new file is above the others
pub rising_changed : (change : Change) (ptr : Ptr) (tree : Tree) → IsNewAfter change tree.datasets → AreRising tree.datasets → AreRising (changed change ptr tree).datasets
unfolding changed
rising_changed (MakeDataset id slot name) ptr tree behind rise = All-push (λ (dataset : Dataset). Rises dataset.files) tree.datasets _ rise none_rise
rising_changed (DropDataset id) ptr tree behind rise = All-filter (λ (dataset : Dataset). not (dataset.id == id)) (λ (dataset : Dataset). Rises dataset.files) tree.datasets rise
rising_changed (MakeFile id file name) ptr tree behind rise =
    are_rising_changed id (with_file file name) tree.datasets
    (λ k d within is rises. rises_more (get_or tree.datasets k d).files _ rises (behind k d within is)) rise
rising_changed (DropFile id file) ptr tree behind rise =
    are_rising_changed id (λ (found : Dataset). record found { files = without number_of_file file found.files }) tree.datasets (λ k d within is rises. rises_without file (get_or tree.datasets k d).files rises) rise
rising_changed (Size id file size) ptr tree behind rise =
    let change : File → File = λ (found : File). record found { size = size } in
    are_rising_changed id (λ (found : Dataset). record found { files = change_by number_of_file file change found.files }) tree.datasets
    (λ k d within is rises. rises_changed (by_number number_of_file file change) (get_or tree.datasets k d).files (numbers_kept file change (λ other. refl)) rises) rise
rising_changed (Put id file block now') ptr tree behind rise =
    are_rising_changed id (λ (found : Dataset). record found { files = change_by number_of_file file (with_slot block now' ptr) found.files }) tree.datasets
    (λ k d within is rises. rises_changed (by_number number_of_file file (with_slot block now' ptr)) (get_or tree.datasets k d).files (numbers_kept file (with_slot block now' ptr) (with_slot_keeps block now' ptr)) rises) rise
