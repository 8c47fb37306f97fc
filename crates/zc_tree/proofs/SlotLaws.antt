-- Items that stand at an index of a list with a number.
use Rattle.std.proofs.Common.{◌≡◌, ℕ, ◌<◌, List, length, get_or, Option, Some, Result, Ok, Err, refl, sym, ap, subst, ◌∙◌, arith, inl, inr}
use Rattle.std.specs.Prelude.{slice_get, slice_set, IfOk, OnErr}
use Rattle.std.proofs.lemmas.Bool.{cases_lt}
use Rattle.std.proofs.lemmas.List.{set-get_or}
use Rattle.std.proofs.lemmas.Option.{slice_get-get_or, slice_get_within, get_or_from_slice_get}
use Rattle.zc_blkptr.specs.declared.ptr.Slot.{Slot}
use Rattle.zc_tree.specs.declared.tree.File.{File}
use Rattle.zc_tree.specs.declared.tree.Dataset.{Dataset}
use Rattle.zc_tree.specs.declared.tree.Tree.{Tree}
use Rattle.zc_tree.specs.Reach.{StandsAt, StandsFirst, Path, IsPath, HasFile, Replaces, slot_at, with_slot}

abbrev some_of : {X : Type 0} → X → Option X
some_of x = Some x

-- two values of one option are one
pub one_item : {X : Type 0} (x y : X) → some_of x ≡ some_of y → x ≡ y
one_item x y e = cc

-- an item that was read and has another number doesn't stand there with this one
pub passed_by : {X : Type 0} (number_of : X → ℕ) (xs : List X) (index id : ℕ) (d : X) → index < length xs → (number_of (get_or xs index d) ≡ id → ⊥) → StandsAt number_of xs id index → ⊥
passed_by number_of xs index id d lt other stands =
    other (ap number_of (one_item (get_or xs index d) stands.0 (sym (slice_get-get_or xs index d lt) ∙ stands.1)) ∙ stands.2)

-- an item that stands somewhere stands within the list
pub stands_within : {X : Type 0} (number_of : X → ℕ) (xs : List X) (index id : ℕ) → StandsAt number_of xs id index → index < length xs
stands_within number_of xs index id stands = slice_get_within xs index stands.0 stands.1

-- the first with a number is one place
pub first_is_one : {X : Type 0} (number_of : X → ℕ) (xs : List X) (id a b : ℕ) → StandsFirst number_of xs id a → StandsFirst number_of xs id b → a ≡ b
first_is_one number_of xs id a b first other =
    elim (cases_lt a b) [
      | inl lt ↦ absurd (other.none_before a lt first.there)
      | inr le ↦ elim (cases_lt b a) [ inl lt ↦ absurd (first.none_before b lt other.there) | inr ge ↦ omega arith ]
    ]

-- a tree that has a file has it in the first dataset with its dataset's number
pub file_stands : (tree : Tree) (dataset_id file_id index : ℕ) (dataset : Dataset) (path : Path) → IsPath tree dataset_id file_id path
    → StandsFirst (λ (d : Dataset). d.id) tree.datasets dataset_id index → slice_get tree.datasets index ≡ Some dataset → (k : ℕ) × StandsAt (λ (f : File). f.id) dataset.files file_id k
file_stands tree dataset_id file_id index dataset path is first got =
    let same : path.dataset_index ≡ index = first_is_one (λ (d : Dataset). d.id) tree.datasets dataset_id path.dataset_index index is.dataset_first first in
    let one : path.dataset ≡ dataset = one_item path.dataset dataset (sym is.dataset_there ∙ ap (slice_get tree.datasets) same ∙ got) in
    subst (λ (d : Dataset). (k : ℕ) × StandsAt (λ (f : File). f.id) d.files file_id k) one (path.file_index, (path.file, is.file_there, is.file_id_is))

-- an item that is written back as it was changes nothing
set_back : {X : Type 0} (xs : List X) (index : ℕ) (x : X) → slice_get xs index ≡ Some x → slice_set xs index x ≡ xs
set_back xs index x got = ap (slice_set xs index) (sym (get_or_from_slice_get xs index x x got)) ∙ set-get_or xs index x

-- the same where it is so after a fault alone
pub fault_keeps : {T E X : Type 0} (result : Result T E) (xs : List X) (index : ℕ) (x y : X) → slice_get xs index ≡ Some x → OnErr result (y ≡ x) → OnErr result (slice_set xs index y ≡ xs)
fault_keeps (Ok value) xs index x y got same = tt
fault_keeps (Err fault) xs index x y got same = ap (slice_set xs index) same ∙ set_back xs index x got

-- the same two levels deep
pub fault_keeps_dataset : {T E : Type 0} (result : Result T E) (datasets : List Dataset) (index : ℕ) (was : Dataset) (files : List File) → slice_get datasets index ≡ Some was
    → OnErr result (files ≡ was.files) → OnErr result (slice_set datasets index (record was { files = files }) ≡ datasets)
fault_keeps_dataset (Ok value) datasets index was files got same = tt
fault_keeps_dataset (Err fault) datasets index was files got same = ap (λ (fs : List File). slice_set datasets index (record was { files = fs })) same ∙ set_back datasets index was got

-- what a change of one of its files is for a dataset
pub put_through : {E : Type 0} (result : Result Slot E) (datasets : List Dataset) (index file_index block : ℕ) (slot : Slot) (was : Dataset) (files : List File) → slice_get datasets index ≡ Some was
    → ((file : File) → slice_get was.files file_index ≡ Some file → IfOk result (λ before. (before ≡ slot_at block file) × (files ≡ slice_set was.files file_index (with_slot block slot file))))
    → (dataset : Dataset) (file : File) → slice_get datasets index ≡ Some dataset → slice_get dataset.files file_index ≡ Some file
    → IfOk result (λ before. (before ≡ slot_at block file) × (slice_set datasets index (record was { files = files }) ≡ slice_set datasets index (record dataset { files = slice_set dataset.files file_index (with_slot block slot file) })))
put_through (Err fault) datasets index file_index block slot was files got put dataset file there in_files = tt
put_through (Ok before) datasets index file_index block slot was files got put dataset file there in_files =
    let one : was ≡ dataset = one_item was dataset (sym got ∙ there) in
    let P : Dataset → Type 0 = λ d. slice_get d.files file_index ≡ Some file → (before ≡ slot_at block file) × (slice_set datasets index (record was { files = files }) ≡ slice_set datasets index (record d { files = slice_set d.files file_index (with_slot block slot file) })) in
    let base : P was = λ at. ((put file at).0, ap (λ (fs : List File). slice_set datasets index (record was { files = fs })) (put file at).1) in
    subst P one base in_files

-- the path to the file whose places were found
pub path_found : (tree : Tree) (dataset_id file_id dataset_index file_index : ℕ) (dataset : Dataset) → StandsFirst (λ (d : Dataset). d.id) tree.datasets dataset_id dataset_index
    → slice_get tree.datasets dataset_index ≡ Some dataset → StandsAt (λ (f : File). f.id) dataset.files file_id file_index
    → (path : Path) × IsPath tree dataset_id file_id path × (dataset_index ≡ path.dataset_index) × (file_index ≡ path.file_index)
path_found tree dataset_id file_id dataset_index file_index dataset first got stands = (
  record { dataset_index = dataset_index; file_index = file_index; dataset = dataset; file = stands.0 },
  record { dataset_there = got; dataset_first = first; file_there = stands.1; file_id_is = stands.2 },
  refl,
  refl,
)

-- the change at the path whose places were found is the change of the tree
pub replaced_there : {E : Type 0} (result : Result Slot E) (old : Tree) (datasets : List Dataset) (dataset_id file_id block : ℕ) (slot : Slot) (a b : ℕ)
    → ((path : Path) × IsPath old dataset_id file_id path × (a ≡ path.dataset_index) × (b ≡ path.file_index))
    → ((dataset : Dataset) (file : File) → slice_get old.datasets a ≡ Some dataset → slice_get dataset.files b ≡ Some file
    → IfOk result (λ before. (before ≡ slot_at block file) × (datasets ≡ slice_set old.datasets a (record dataset { files = slice_set dataset.files b (with_slot block slot file) }))))
    → IfOk result (λ before. Replaces old (record old { datasets = datasets }) dataset_id file_id block slot before)
replaced_there (Err fault) old datasets dataset_id file_id block slot a b found put = tt
replaced_there (Ok before) old datasets dataset_id file_id block slot a b found put =
    let path = found.0 in
    let is = found.1 in
    let h = put path.dataset path.file (ap (slice_get old.datasets) found.2 ∙ is.dataset_there) (ap (slice_get path.dataset.files) found.3 ∙ is.file_there) in
    let there : datasets ≡ slice_set old.datasets path.dataset_index (record path.dataset { files = slice_set path.dataset.files path.file_index (with_slot block slot path.file) }) =
    h.1 ∙ (λ i. slice_set old.datasets (found.2 i) (record path.dataset { files = slice_set path.dataset.files (found.3 i) (with_slot block slot path.file) })) in
    (path, is, h.0, ap (λ (ds : List Dataset). record old { datasets = ds }) there)

-- the files of the dataset that was found are searched for one that is there
pub file_is_there : (tree : Tree) (datasets : List Dataset) (dataset_id file_id index : ℕ) (d : Dataset) (files : List File) → datasets ≡ tree.datasets
    → StandsFirst (λ (x : Dataset). x.id) datasets dataset_id index → files ≡ (get_or datasets index d).files → HasFile tree dataset_id file_id → (k : ℕ) × StandsAt (λ (f : File). f.id) files file_id k
file_is_there tree datasets dataset_id file_id index d files same first is_files has =
    let got : slice_get datasets index ≡ Some (get_or datasets index d) = slice_get-get_or datasets index d (stands_within (λ (x : Dataset). x.id) datasets index dataset_id first.there) in
    let first' : StandsFirst (λ (x : Dataset). x.id) tree.datasets dataset_id index = subst (λ (ds : List Dataset). StandsFirst (λ (x : Dataset). x.id) ds dataset_id index) same first in
    let found = file_stands tree dataset_id file_id index (get_or datasets index d) has.0 has.1 first' (ap (λ (ds : List Dataset). slice_get ds index) (sym same) ∙ got) in
    subst (λ (fs : List File). (k : ℕ) × StandsAt (λ (f : File). f.id) fs file_id k) (sym is_files) found

-- the places that were found are those of a path
pub places_are_a_path : (tree : Tree) (datasets : List Dataset) (dataset_id file_id index file_index : ℕ) (d : Dataset) (files : List File) → datasets ≡ tree.datasets
    → StandsFirst (λ (x : Dataset). x.id) datasets dataset_id index → files ≡ (get_or datasets index d).files → StandsAt (λ (f : File). f.id) files file_id file_index
    → (path : Path) × IsPath tree dataset_id file_id path × (index ≡ path.dataset_index) × (file_index ≡ path.file_index)
places_are_a_path tree datasets dataset_id file_id index file_index d files same first is_files stands =
    let got : slice_get datasets index ≡ Some (get_or datasets index d) = slice_get-get_or datasets index d (stands_within (λ (x : Dataset). x.id) datasets index dataset_id first.there) in
    let first' : StandsFirst (λ (x : Dataset). x.id) tree.datasets dataset_id index = subst (λ (ds : List Dataset). StandsFirst (λ (x : Dataset). x.id) ds dataset_id index) same first in
    path_found tree dataset_id file_id index file_index (get_or datasets index d) first' (ap (λ (ds : List Dataset). slice_get ds index) (sym same) ∙ got)
    (subst (λ (fs : List File). StandsAt (λ (f : File). f.id) fs file_id file_index) is_files stands)
