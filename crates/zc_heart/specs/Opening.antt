-- What an opening holds in memory of a tree and of the blocks that were read.
use Rattle.std.specs.Prelude.{◌≡◌, ℕ, ◌+◌, ◌*◌, ◌^◌, ◌<◌, false, List, [], ◌∷◌, ◌++◌, length, map, Option, Some, None, IsSome}
use Rattle.std.specs.List.{AllByRecursion}
use Rattle.zc_num.specs.Ordered.{value_at, insert_entry}
use Rattle.zc_num.specs.declared.limits.Limits.{Limits}
use Rattle.zc_blkptr.specs.declared.ptr.Ptr.{Ptr}
use Rattle.zc_tree.specs.declared.tree.File.{File}
use Rattle.zc_tree.specs.declared.tree.Dataset.{Dataset}
use Rattle.zc_tree.specs.declared.tree.Tree.{Tree}
use Rattle.zc_tree.specs.Reach.{pointers_of_files}
use Rattle.zc_heart.specs.declared.opening.HeartBlock.{HeartBlock}
use Rattle.zc_heart.specs.declared.file.HeldBlock.{HeldBlock}
use Rattle.zc_heart.specs.declared.file.HeartFile.{HeartFile}
use Rattle.zc_heart.specs.declared.directory.Named.{Named}
use Rattle.zc_heart.specs.declared.pool_core.HeartDataset.{HeartDataset}
use Rattle.zc_heart.specs.declared.pool_core.Core.{Core}
use Rattle.zc_heart.specs.declared.stamps.Stamps.{Stamps}
use Rattle.zc_heart.specs.Directory.{AreBelow, id_called}
use Rattle.zc_heart.specs.Meaning.{bytes_at}

-- ---- blocks by their places

-- the place as one number
abbrev pub place_number : (device place : ℕ) → ℕ
place_number device place = device * 2 ^ 32 + place

abbrev pub number_of : Ptr → ℕ
number_of ptr = place_number ptr.device ptr.place

-- the stamp of the block at a pointer
abbrev pub stamp_at_ptr : Ptr → ℕ × ℕ
stamp_at_ptr ptr = (0, number_of ptr)

-- bytes that are there or not
abbrev pub bytes_there : Option (List ℕ) → List ℕ
bytes_there None = []
bytes_there (Some bytes) = bytes

-- a map from the numbers of places to bytes has the bytes of these blocks; of two at one place it has those of the first
abbrev pub HasRead : List (ℕ × List ℕ) → List HeartBlock → Type 0
HasRead found blocks = (device place : ℕ) → place < 2 ^ 32 → bytes_there (value_at (place_number device place) found) ≡ bytes_at blocks device place

-- each block has 4,096 bytes
abbrev pub AreWhole : List HeartBlock → Type 0
AreWhole blocks = AllByRecursion (λ (block : HeartBlock). length block.bytes ≡ 4096) blocks

-- the map has the block at the pointer
abbrev pub IsThere : List (ℕ × List ℕ) → Ptr → Type 0
IsThere found ptr = IsSome (value_at (number_of ptr) found)

-- ---- what is held

-- the block at a pointer
abbrev pub read_block : List (ℕ × List ℕ) → Ptr → HeldBlock
read_block found ptr = record { entry = 0; index = number_of ptr; bytes = bytes_there (value_at (number_of ptr) found) }

-- the blocks of a file, with those at more of its slots
abbrev pub with_slots : List (ℕ × List ℕ) → List (ℕ × Option HeldBlock) → List (ℕ × Ptr) → List (ℕ × Option HeldBlock)
with_slots found blocks [] = blocks
with_slots found blocks (slot ∷ slots) = with_slots found (insert_entry slot.0 (Some (read_block found slot.1)) blocks) slots

abbrev pub read_file : List (ℕ × List ℕ) → File → HeartFile
read_file found file = record { size = file.size; blocks = with_slots found [] file.slots; marks = []; pointers = length file.slots; sized = false }

abbrev pub read_named : List (ℕ × List ℕ) → File → Named HeartFile
read_named found file = record { id = file.id; name = file.name; value = read_file found file }

abbrev pub read_dataset : List (ℕ × List ℕ) → Dataset → HeartDataset
read_dataset found dataset = record {
  id = dataset.id;
  area = dataset.slot;
  name = dataset.name;
  next_file = dataset.next_file;
  pointers = length (pointers_of_files dataset.files);
  files = map (read_named found) dataset.files;
  changed = [];
}

abbrev pub read_core : List (ℕ × List ℕ) → Limits → Tree → Stamps → (held : ℕ) → Core
read_core found limits tree stamps held = record {
  limits = limits;
  group = tree.group + 1;
  next_dataset = tree.next_dataset;
  datasets = map (read_dataset found) tree.datasets;
  stamps = stamps;
  log = [];
  made = 0;
  held = held;
  waiting = [];
  last = 0;
}

-- ---- what may be held

-- the blocks of a file are there
abbrev pub HasBlocks : List (ℕ × List ℕ) → File → Type 0
HasBlocks found file = AllByRecursion (λ (slot : ℕ × Ptr). IsThere found slot.1) file.slots

-- each file may be put after those before it: its number is above theirs, and none has its name
abbrev pub MayFollow : List (ℕ × List ℕ) → List (Named HeartFile) → List File → Type 0
MayFollow found front [] = Unit {0}
MayFollow found front (file ∷ files) = AreBelow file.id front × (id_called file.name front ≡ None) × MayFollow found (front ++ read_named found file ∷ []) files

-- what whoever reads a dataset knows of it
pub record MayRead (found : List (ℕ × List ℕ)) (dataset : Dataset) : Type 0 where
  pub there : AllByRecursion (HasBlocks found) dataset.files
  pub follow : MayFollow found [] dataset.files
  pub few : length (pointers_of_files dataset.files) < 2 ^ 63
