-- What a change makes of a dataset and of a file, one after another, and files whose numbers rise.
use Rattle.std.specs.Prelude.{◌≡◌, ℕ, zero, suc, ◌<◌, ◌≤◌, ◌==◌, if◌then◌else◌, List, [], ◌∷◌, length, get_or, All}
use Rattle.std.specs.List.{AllPairs}
use Rattle.zc_blkptr.specs.declared.ptr.Ptr.{Ptr}
use Rattle.zc_tree.specs.declared.tree.File.{File}
use Rattle.zc_tree.specs.declared.tree.Dataset.{Dataset}
use Rattle.zc_heart.specs.declared.changes.Change.{Change}
use Rattle.zc_heart.specs.declared.changes.Change.TheVariants.{MakeDataset, DropDataset, MakeFile, DropFile, Size, Put}
use Rattle.zc_heart.specs.Changes.{change_by, without, number_of_file, with_file, with_slot}

-- ---- one item after another

-- what a change makes of an item: something where it has the number
abbrev pub by_number : {X : Type 0} → (X → ℕ) → ℕ → (X → X) → X → X
by_number number_of number change item = if number_of item == number then change item else item

-- the items with the first k of them changed
abbrev pub changed_up_to : {X : Type 0} → (X → X) → ℕ → List X → List X
changed_up_to change zero items = items
changed_up_to change (suc k) [] = []
changed_up_to change (suc k) (item ∷ items) = change item ∷ changed_up_to change k items

-- what a change makes of the file that it is of
abbrev pub in_one_file : Change → Ptr → File → File
in_one_file (MakeDataset id slot name) ptr found = found
in_one_file (DropDataset id) ptr found = found
in_one_file (MakeFile dataset file name) ptr found = found
in_one_file (DropFile dataset file) ptr found = found
in_one_file (Size dataset file size) ptr found = record found { size = size }
in_one_file (Put dataset file block now) ptr found = with_slot block now ptr found

-- and of the dataset
abbrev pub in_one_dataset : Change → Ptr → Dataset → Dataset
in_one_dataset (MakeDataset id slot name) ptr found = found
in_one_dataset (DropDataset id) ptr found = found
in_one_dataset (MakeFile dataset file name) ptr found = with_file file name found
in_one_dataset (DropFile dataset file) ptr found = record found { files = without number_of_file file found.files }
in_one_dataset (Size dataset file size) ptr found = record found { files = change_by number_of_file file (in_one_file (Size dataset file size) ptr) found.files }
in_one_dataset (Put dataset file block now) ptr found = record found { files = change_by number_of_file file (in_one_file (Put dataset file block now) ptr) found.files }

-- ---- files whose numbers rise

-- each has a number above those before it
abbrev pub Rises : List File → Type 0
Rises files = AllPairs (λ (file other : File). file.id < other.id) files

abbrev pub AreRising : List Dataset → Type 0
AreRising datasets = All (λ (dataset : Dataset). Rises dataset.files) datasets

-- in the dataset with the one number, the other is above those of all files
abbrev pub IsAbove : ℕ → ℕ → Dataset → Type 0
IsAbove id number dataset = dataset.id ≡ id → All (λ (file : File). file.id < number) dataset.files

-- a file that the change makes has a number above those before it
abbrev pub IsNewAfter : Change → List Dataset → Type 0
IsNewAfter (MakeDataset id slot name) datasets = Unit {0}
IsNewAfter (DropDataset id) datasets = Unit {0}
IsNewAfter (MakeFile dataset file name) datasets = All (IsAbove dataset file) datasets
IsNewAfter (DropFile dataset file) datasets = Unit {0}
IsNewAfter (Size dataset file size) datasets = Unit {0}
IsNewAfter (Put dataset file block now) datasets = Unit {0}

-- the files with the number stand from the one place up to the other
pub record AreWithin (files : List File) (id first last : ℕ) : Type 0 where
  pub ordered : first ≤ last
  pub fits : last ≤ length files
  pub none_before : (k : ℕ) (d : File) → k < first → (get_or files k d).id ≡ id → ⊥
  pub none_later : (k : ℕ) (d : File) → last ≤ k → k < length files → (get_or files k d).id ≡ id → ⊥
