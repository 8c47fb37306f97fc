-- What a group's changes make of a tree, and the tree of a plain pool.
use Rattle.std.specs.Prelude.{ℕ, ◌+◌, ◌==◌, Bool, true, false, not, List, [], ◌∷◌, ◌++◌, drop, map, filter, if◌then◌else◌}
use Rattle.zc_num.specs.Ordered.{insert_entry, remove_entry}
use Rattle.zc_blkptr.specs.declared.ptr.Ptr.{Ptr}
use Rattle.zc_tree.specs.declared.tree.LogState.TheVariants.{Normal}
use Rattle.zc_tree.specs.declared.tree.File.{File}
use Rattle.zc_tree.specs.declared.tree.Dataset.{Dataset}
use Rattle.zc_tree.specs.declared.tree.Tree.{Tree}
use Rattle.zc_plain.specs.declared.plain_pool.PlainBlock.{PlainBlock}
use Rattle.zc_plain.specs.declared.plain_pool.PlainBlock.TheVariants.{Hole, Made}
use Rattle.zc_plain.specs.declared.plain_pool.PlainFile.{PlainFile}
use Rattle.zc_plain.specs.declared.plain_pool.PlainDataset.{PlainDataset}
use Rattle.zc_plain.specs.declared.plain_pool.PlainPool.{PlainPool}
use Rattle.zc_heart.specs.declared.changes.Now.{Now}
use Rattle.zc_heart.specs.declared.changes.Now.TheVariants as now
use Rattle.zc_heart.specs.declared.changes.Change.{Change}
use Rattle.zc_heart.specs.declared.changes.Change.TheVariants.{MakeDataset, DropDataset, MakeFile, DropFile, Size, Put}

-- ---- what changes make of a tree

-- the item with the number changed, and the items without it
abbrev pub change_by : {X : Type 0} → (X → ℕ) → ℕ → (X → X) → List X → List X
change_by number_of number change items = map (λ item. if number_of item == number then change item else item) items

abbrev pub without : {X : Type 0} → (X → ℕ) → ℕ → List X → List X
without number_of number items = filter (λ item. not (number_of item == number)) items

abbrev pub number_of_dataset : Dataset → ℕ
number_of_dataset dataset = dataset.id

abbrev pub number_of_file : File → ℕ
number_of_file file = file.id

-- the tree with the dataset of the number changed, and with the file of the number in it changed
abbrev pub in_dataset : ℕ → (Dataset → Dataset) → Tree → Tree
in_dataset dataset change tree = record tree { datasets = change_by number_of_dataset dataset change tree.datasets }

abbrev pub in_file : ℕ → ℕ → (File → File) → Tree → Tree
in_file dataset file change tree = in_dataset dataset (λ found. record found { files = change_by number_of_file file change found.files }) tree

-- the tree with a new dataset, and the dataset with a new file: the next number is the one after theirs
abbrev pub with_dataset : (id slot : ℕ) → List ℕ → Tree → Tree
with_dataset id slot name tree =
    record tree { next_dataset = id + 1; datasets = tree.datasets ++ record { id = id; slot = slot; name = name; next_file = 1; log = Normal; files = [] } ∷ [] }

abbrev pub with_file : (id : ℕ) → List ℕ → Dataset → Dataset
with_file id name dataset =
    record dataset { next_file = id + 1; files = dataset.files ++ record { id = id; name = name; size = 0; slots = [] } ∷ [] }

-- the first pointer, and one that is nowhere where there is none
abbrev pub nowhere : Ptr
nowhere = record { device = 0; place = 0; logical = 0; physical = 0; digest = [] }

abbrev pub first_of : List Ptr → Ptr
first_of [] = nowhere
first_of (ptr ∷ ptrs) = ptr

-- the file with this at its block; bytes stand where the pointer says
abbrev pub with_slot : ℕ → Now → Ptr → File → File
with_slot block now.Hole ptr file = record file { slots = remove_entry block file.slots }
with_slot block (now.Made bytes) ptr file = record file { slots = insert_entry block ptr file.slots }

-- the tree with one change made; bytes that the group made stand where the pointer says
unfoldable pub changed : Change → Ptr → Tree → Tree
changed (MakeDataset id slot name) ptr tree = with_dataset id slot name tree
changed (DropDataset id) ptr tree = record tree { datasets = without number_of_dataset id tree.datasets }
changed (MakeFile dataset file name) ptr tree = in_dataset dataset (with_file file name) tree
changed (DropFile dataset file) ptr tree = in_dataset dataset (λ found. record found { files = without number_of_file file found.files }) tree
changed (Size dataset file size) ptr tree = in_file dataset file (λ found. record found { size = size }) tree
changed (Put dataset file block now) ptr tree = in_file dataset file (with_slot block now ptr) tree

-- the change puts bytes that the group made
abbrev pub is_made : Change → Bool
is_made (MakeDataset id slot name) = false
is_made (DropDataset id) = false
is_made (MakeFile dataset file name) = false
is_made (DropFile dataset file) = false
is_made (Size dataset file size) = false
is_made (Put dataset file block now.Hole) = false
is_made (Put dataset file block (now.Made bytes)) = true

-- the change is of a file's size or of its blocks
abbrev pub is_noted : Change → Bool
is_noted (MakeDataset id slot name) = false
is_noted (DropDataset id) = false
is_noted (MakeFile dataset file name) = false
is_noted (DropFile dataset file) = false
is_noted (Size dataset file size) = true
is_noted (Put dataset file block now) = true

-- the pointers that are left after a change
abbrev pub left_after : Change → List Ptr → List Ptr
left_after change ptrs = if is_made change then drop 1 ptrs else ptrs

-- the tree with the changes made in their order: each that puts bytes takes the next of the pointers
abbrev pub made_in : List Change → List Ptr → Tree → Tree
made_in [] ptrs tree = tree
made_in (change ∷ changes) ptrs tree = made_in changes (left_after change ptrs) (changed change (first_of ptrs) tree)

-- ---- the tree of a plain pool

-- where each block stands, by its stamp and its bytes
abbrev pub Placing : Type 0
Placing = (entry index : ℕ) → List ℕ → Ptr

-- where the block with a stamp stands, and so each block, whatever its bytes
abbrev pub Where : Type 0
Where = (entry index : ℕ) → Ptr

abbrev pub by_stamp : Where → Placing
by_stamp places entry index bytes = places entry index

-- the slots of blocks from this number on
abbrev pub slot_entry : Placing → ℕ → PlainBlock → List (ℕ × Ptr)
slot_entry placing k Hole = []
slot_entry placing k (Made entry index bytes) = (k, placing entry index bytes) ∷ []

abbrev pub slots_from : Placing → ℕ → List PlainBlock → List (ℕ × Ptr)
slots_from placing k [] = []
slots_from placing k (block ∷ blocks) = slot_entry placing k block ++ slots_from placing (k + 1) blocks

abbrev pub file_of : Placing → PlainFile → File
file_of placing plain = record { id = plain.id; name = plain.name; size = plain.size; slots = slots_from placing 0 plain.blocks }

abbrev pub dataset_of : Placing → ℕ → PlainDataset → Dataset
dataset_of placing slot plain =
    record { id = plain.id; slot = slot; name = plain.name; next_file = plain.next_file; log = Normal; files = map (file_of placing) plain.files }

-- each dataset has the log area at its place of the list
abbrev pub datasets_of : Placing → List ℕ → List PlainDataset → List Dataset
datasets_of placing areas [] = []
datasets_of placing [] (plain ∷ plains) = []
datasets_of placing (area ∷ areas) (plain ∷ plains) = dataset_of placing area plain ∷ datasets_of placing areas plains

-- the tree of the pool, whose blocks stand where the placing says
abbrev pub tree_of : (group : ℕ) → Placing → List ℕ → PlainPool → Tree
tree_of group placing areas pool = record { group = group; next_dataset = pool.next_dataset; datasets = datasets_of placing areas pool.datasets }
