-- Trees that differ in their group and their pointers alone, and what that says of the tree of a group.
use Rattle.std.specs.Prelude.{◌≡◌, ℕ, List, [], ◌∷◌}
use Rattle.zc_blkptr.specs.declared.ptr.Ptr.{Ptr}
use Rattle.zc_tree.specs.declared.tree.File.{File}
use Rattle.zc_tree.specs.declared.tree.Dataset.{Dataset}
use Rattle.zc_tree.specs.declared.tree.Tree.{Tree}
use Rattle.zc_plain.specs.declared.plain_pool.PlainPool.{PlainPool}
use Rattle.zc_heart.specs.declared.changes.Now.TheVariants as now
use Rattle.zc_heart.specs.declared.changes.Change.{Change}
use Rattle.zc_heart.specs.declared.changes.Change.TheVariants.{MakeDataset, DropDataset, MakeFile, DropFile, Size, Put}
use Rattle.zc_heart.specs.Changes.{Placing, tree_of}

-- ---- trees that differ in their pointers alone

-- what goes together, pointer by pointer
abbrev pub AreAlike : (Ptr → Ptr → Type 0) → List Ptr → List Ptr → Type 0
AreAlike P [] [] = Unit {0}
AreAlike P [] (other ∷ others) = ⊥
AreAlike P (ptr ∷ ptrs) [] = ⊥
AreAlike P (ptr ∷ ptrs) (other ∷ others) = P ptr other × AreAlike P ptrs others

-- the slots are of the same blocks, and their pointers go together
abbrev pub AreSlotsAlike : (Ptr → Ptr → Type 0) → List (ℕ × Ptr) → List (ℕ × Ptr) → Type 0
AreSlotsAlike P [] [] = Unit {0}
AreSlotsAlike P [] (other ∷ others) = ⊥
AreSlotsAlike P (slot ∷ slots) [] = ⊥
AreSlotsAlike P (slot ∷ slots) (other ∷ others) = (slot.0 ≡ other.0) × P slot.1 other.1 × AreSlotsAlike P slots others

-- the files agree in all but their pointers, which go together
pub record IsFileAlike (P : Ptr → Ptr → Type 0) (file other : File) : Type 0 where
  pub id : file.id ≡ other.id
  pub name : file.name ≡ other.name
  pub size : file.size ≡ other.size
  pub slots : AreSlotsAlike P file.slots other.slots

abbrev pub AreFilesAlike : (Ptr → Ptr → Type 0) → List File → List File → Type 0
AreFilesAlike P [] [] = Unit {0}
AreFilesAlike P [] (other ∷ others) = ⊥
AreFilesAlike P (file ∷ files) [] = ⊥
AreFilesAlike P (file ∷ files) (other ∷ others) = IsFileAlike P file other × AreFilesAlike P files others

-- the datasets agree in all but the pointers of their files, which go together
pub record IsDatasetAlike (P : Ptr → Ptr → Type 0) (dataset other : Dataset) : Type 0 where
  pub id : dataset.id ≡ other.id
  pub slot : dataset.slot ≡ other.slot
  pub name : dataset.name ≡ other.name
  pub next_file : dataset.next_file ≡ other.next_file
  pub log : dataset.log ≡ other.log
  pub files : AreFilesAlike P dataset.files other.files

abbrev pub AreDatasetsAlike : (Ptr → Ptr → Type 0) → List Dataset → List Dataset → Type 0
AreDatasetsAlike P [] [] = Unit {0}
AreDatasetsAlike P [] (other ∷ others) = ⊥
AreDatasetsAlike P (dataset ∷ datasets) [] = ⊥
AreDatasetsAlike P (dataset ∷ datasets) (other ∷ others) = IsDatasetAlike P dataset other × AreDatasetsAlike P datasets others

-- the trees agree in all but their groups and their pointers, which go together
pub record IsAlike (P : Ptr → Ptr → Type 0) (tree other : Tree) : Type 0 where
  pub next_dataset : tree.next_dataset ≡ other.next_dataset
  pub datasets : AreDatasetsAlike P tree.datasets other.datasets

-- ---- the tree of a plain pool, with the blocks' bytes in the place of pointers

-- a pointer whose digest are the bytes themselves: no pointer of a pool, but what one stands for
abbrev pub by_bytes : Placing
by_bytes entry index bytes = record { device = 0; place = 0; logical = 0; physical = 0; digest = bytes }

-- at the place of the one pointer stand the bytes of the other
abbrev pub HasBytes : (bytes_at : ℕ → ℕ → List ℕ) → Ptr → Ptr → Type 0
HasBytes bytes_at ptr bytes = bytes_at ptr.device ptr.place ≡ bytes.digest

-- the tree, with these bytes at the places of its pointers, holds the plain pool: the same datasets and files, and at each block its
-- bytes; each dataset has the log area at its place of the list
abbrev pub Holds : (bytes_at : ℕ → ℕ → List ℕ) → List ℕ → PlainPool → Tree → Type 0
Holds bytes_at areas pool tree = IsAlike (HasBytes bytes_at) tree (tree_of tree.group by_bytes areas pool)

-- at each of these places stand the bytes of a change that makes some, in their order
abbrev pub ArePlaced : (bytes_at : ℕ → ℕ → List ℕ) → List Change → List Ptr → Type 0
ArePlaced bytes_at [] [] = Unit {0}
ArePlaced bytes_at [] (ptr ∷ ptrs) = ⊥
ArePlaced bytes_at (MakeDataset id slot name ∷ changes) ptrs = ArePlaced bytes_at changes ptrs
ArePlaced bytes_at (DropDataset id ∷ changes) ptrs = ArePlaced bytes_at changes ptrs
ArePlaced bytes_at (MakeFile dataset file name ∷ changes) ptrs = ArePlaced bytes_at changes ptrs
ArePlaced bytes_at (DropFile dataset file ∷ changes) ptrs = ArePlaced bytes_at changes ptrs
ArePlaced bytes_at (Size dataset file size ∷ changes) ptrs = ArePlaced bytes_at changes ptrs
ArePlaced bytes_at (Put dataset file block now.Hole ∷ changes) ptrs = ArePlaced bytes_at changes ptrs
ArePlaced bytes_at (Put dataset file block (now.Made bytes) ∷ changes) [] = ⊥
ArePlaced bytes_at (Put dataset file block (now.Made bytes) ∷ changes) (ptr ∷ ptrs) = (bytes_at ptr.device ptr.place ≡ bytes) × ArePlaced bytes_at changes ptrs
