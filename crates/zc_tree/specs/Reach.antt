-- The pointers of a tree, and the change of one slot.
use Rattle.std.specs.Prelude.{◌≡◌, ◌<◌, ℕ, List, [], ◌∷◌, ◌++◌, map, Option, Some, None, slice_get, slice_set}
use Rattle.zc_num.specs.Ordered.{value_at, insert_entry, remove_entry}
use Rattle.zc_blkptr.specs.declared.ptr.Ptr.{Ptr}
use Rattle.zc_blkptr.specs.declared.ptr.Slot.{Slot}
use Rattle.zc_blkptr.specs.declared.ptr.Slot.TheVariants.{Hole, At}
use Rattle.zc_tree.specs.declared.tree.File.{File}
use Rattle.zc_tree.specs.declared.tree.Dataset.{Dataset}
use Rattle.zc_tree.specs.declared.tree.Tree.{Tree}

-- the pointers of a file, ascending by block
abbrev pub pointers_of_file : File → List Ptr
pointers_of_file file = map (λ entry. entry.1) file.slots

-- the pointers of the files, one file after the other
abbrev pub pointers_of_files : List File → List Ptr
pointers_of_files [] = []
pointers_of_files (file ∷ files) = pointers_of_file file ++ pointers_of_files files

-- the pointers of the datasets, one dataset after the other
abbrev pub pointers_of_datasets : List Dataset → List Ptr
pointers_of_datasets [] = []
pointers_of_datasets (dataset ∷ datasets) = pointers_of_files dataset.files ++ pointers_of_datasets datasets

-- every pointer of the tree, with repeats: by dataset, then by file, then by block, each ascending
abbrev pub pointers_of_tree : Tree → List Ptr
pointers_of_tree tree = pointers_of_datasets tree.datasets

-- the slot of an entry that is there or not
abbrev pub slot_of : Option Ptr → Slot
slot_of None = Hole
slot_of (Some ptr) = At ptr

-- what a file has at a block
abbrev pub slot_at : ℕ → File → Slot
slot_at block file = slot_of (value_at block file.slots)

-- the file with another slot at the block
abbrev pub with_slot : ℕ → Slot → File → File
with_slot block Hole file = record file { slots = remove_entry block file.slots }
with_slot block (At ptr) file = record file { slots = insert_entry block ptr file.slots }

-- the item at the index has the number
abbrev pub StandsAt : {X : Type 0} → (X → ℕ) → List X → ℕ → ℕ → Type 0
StandsAt {X} number_of items number index = (item : X) × (slice_get items index ≡ Some item) × (number_of item ≡ number)

-- and no item before it has
pub record StandsFirst {X : Type 0} (number_of : X → ℕ) (items : List X) (number index : ℕ) : Type 0 where
  pub there : StandsAt number_of items number index
  pub none_before : (k : ℕ) → k < index → StandsAt number_of items number k → ⊥

-- a file of the tree, with the places at which its dataset and it stand
pub record Path : Type 0 where
  pub dataset_index : ℕ
  pub file_index : ℕ
  pub dataset : Dataset
  pub file : File

-- the tree has the file there: in the first dataset with the one number, under the other
pub record IsPath (tree : Tree) (dataset_id file_id : ℕ) (path : Path) : Type 0 where
  pub dataset_there : slice_get tree.datasets path.dataset_index ≡ Some path.dataset
  pub dataset_first : StandsFirst (λ dataset. dataset.id) tree.datasets dataset_id path.dataset_index
  pub file_there : slice_get path.dataset.files path.file_index ≡ Some path.file
  pub file_id_is : path.file.id ≡ file_id

-- the tree has a file with these numbers
abbrev pub HasFile : Tree → ℕ → ℕ → Type 0
HasFile tree dataset_id file_id = (path : Path) × IsPath tree dataset_id file_id path

-- the tree with the file at the path changed to this one
abbrev pub with_file : Path → File → Tree → Tree
with_file path file tree =
    record tree { datasets = slice_set tree.datasets path.dataset_index (record path.dataset { files = slice_set path.dataset.files path.file_index file }) }

-- the file with these numbers had the slot `before` at the block, and the new tree is the old one with `slot` there
abbrev pub Replaces : Tree → Tree → ℕ → ℕ → ℕ → Slot → Slot → Type 0
Replaces old new dataset_id file_id block slot before =
    (path : Path) × IsPath old dataset_id file_id path × (before ≡ slot_at block path.file) × (new ≡ with_file path (with_slot block slot path.file) old)
