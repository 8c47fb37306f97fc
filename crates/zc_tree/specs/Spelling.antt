-- The bytes of a dataset's part of a catalogue, and which datasets a root may have.
use Rattle.std.specs.Prelude.{◌≡◌, ℕ, ◌+◌, ◌*◌, ◌^◌, ◌<◌, ◌≤◌, ◌==◌, nat_lt, false, IsTrue, List, [], ◌∷◌, ◌++◌, length, map}
use Rattle.std.specs.List.{AllByRecursion, list_all, list_any}
use Rattle.std.specs.Str.{bytes_eq}
use Rattle.zc_num.specs.Limits.{files_of, pointers_of, file_bytes_of, log_places_of}
use Rattle.zc_wire.specs.Numbers.{u32_bytes, u64_bytes}
use Rattle.zc_command.specs.Names.{IsName}
use Rattle.zc_blkptr.specs.Ptr.{ptr_bytes, IsPtr}
use Rattle.zc_blkptr.specs.declared.ptr.Ptr.{Ptr}
use Rattle.zc_tree.specs.declared.tree.LogState.{LogState}
use Rattle.zc_tree.specs.declared.tree.LogState.TheVariants.{Normal, Claimed}
use Rattle.zc_tree.specs.declared.tree.File.{File}
use Rattle.zc_tree.specs.declared.tree.Dataset.{Dataset}
use Rattle.zc_tree.specs.Names.{AreNewTo}
use Rattle.zc_tree.specs.Reach.{pointers_of_files}

-- ---- spelling

-- a name with its length in front
unfoldable pub name_bytes : List ℕ → List ℕ
name_bytes name = u32_bytes (length name) ++ name

-- the state of a log: 0, or 1 with the epoch and the number of blocks
unfoldable pub log_bytes : LogState → List ℕ
log_bytes Normal = u32_bytes 0
log_bytes (Claimed epoch blocks) = u32_bytes 1 ++ (u64_bytes epoch ++ u32_bytes blocks)

-- a block's number and its pointer
unfoldable pub entry_bytes : ℕ × Ptr → List ℕ
entry_bytes entry = u32_bytes entry.0 ++ ptr_bytes entry.1

-- the entries, one after the other
abbrev pub entries_bytes : List (ℕ × Ptr) → List ℕ
entries_bytes [] = []
entries_bytes (entry ∷ entries) = entry_bytes entry ++ entries_bytes entries

-- a file: number, name, size, and its entries with their number in front
unfoldable pub file_bytes : File → List ℕ
file_bytes file = u64_bytes file.id ++ (name_bytes file.name ++ (u64_bytes file.size ++ (u32_bytes (length file.slots) ++ entries_bytes file.slots)))

-- the files, one after the other
abbrev pub files_bytes : List File → List ℕ
files_bytes [] = []
files_bytes (file ∷ files) = file_bytes file ++ files_bytes files

-- a dataset: number, slot, name, next file number, state of its log, and its files with their number in front
unfoldable pub dataset_bytes : Dataset → List ℕ
dataset_bytes dataset =
    u64_bytes dataset.id ++ (u32_bytes dataset.slot ++ (name_bytes dataset.name ++ (u64_bytes dataset.next_file ++
    (log_bytes dataset.log ++ (u32_bytes (length dataset.files) ++ files_bytes dataset.files)))))

-- ---- which values are spelled

-- the numbers ascend, and none is below `least`
abbrev pub AscendFrom : ℕ → List ℕ → Type 0
AscendFrom least [] = Unit {0}
AscendFrom least (number ∷ numbers) = (least ≤ number) × AscendFrom (number + 1) numbers

-- a file of this size in such a pool may have the entry: the block's first byte lies before the size
pub record IsEntry (devices places size : ℕ) (entry : ℕ × Ptr) : Type 0 where
  pub before_size : entry.0 * 4096 < size
  pub width : entry.0 < 2 ^ 32
  pub pointer : IsPtr devices places entry.1

-- a dataset with this next file number in such a pool may have the file
pub record IsFile (devices places next_file : ℕ) (file : File) : Type 0 where
  pub made : 1 ≤ file.id
  pub before_next : file.id < next_file
  pub name : IsName file.name
  pub few_bytes : file.size ≤ file_bytes_of devices places
  pub blocks_ascend : AscendFrom 0 (map (λ entry. entry.0) file.slots)
  pub entries : AllByRecursion (IsEntry devices places file.size) file.slots

-- a log may be in the state below the root of this group
abbrev pub IsLogState : ℕ → ℕ → ℕ → LogState → Type 0
IsLogState devices places group Normal = Unit {0}
IsLogState devices places group (Claimed epoch blocks) = (1 ≤ epoch) × (epoch < group) × (1 ≤ blocks) × (blocks ≤ log_places_of devices places)

-- the root of this group and next dataset number in such a pool may have the dataset
pub record IsDataset (devices places group next_dataset : ℕ) (dataset : Dataset) : Type 0 where
  pub made : 1 ≤ dataset.id
  pub before_next : dataset.id < next_dataset
  pub in_slot : dataset.slot < 8
  pub name : IsName dataset.name
  pub some_next_file : 1 ≤ dataset.next_file
  pub next_file_width : dataset.next_file < 2 ^ 64
  pub log : IsLogState devices places group dataset.log
  pub few_files : length dataset.files ≤ files_of devices places
  pub files : AllByRecursion (IsFile devices places dataset.next_file) dataset.files
  pub files_ascend : AscendFrom 1 (map (λ file. file.id) dataset.files)
  pub names_differ : AreNewTo [] (map (λ file. file.name) dataset.files)
  pub few_pointers : length (pointers_of_files dataset.files) ≤ pointers_of devices places

-- the dataset may stand after the others in a catalogue: its number is above theirs, and its slot and its name are none of theirs
pub record IsAfter (others : List Dataset) (dataset : Dataset) : Type 0 where
  pub above : IsTrue (list_all (λ other. nat_lt other.id dataset.id) others)
  pub other_slot : list_any (λ other. other.slot == dataset.slot) others ≡ false
  pub other_name : list_any (λ other. bytes_eq other.name dataset.name) others ≡ false

-- the numbers of things of a file fit their fields
pub record HasFileWidths (file : File) : Type 0 where
  pub name : length file.name < 2 ^ 32
  pub slots : length file.slots < 2 ^ 32

-- the numbers of things of a dataset fit their fields
pub record HasDatasetWidths (dataset : Dataset) : Type 0 where
  pub name : length dataset.name < 2 ^ 32
  pub files : length dataset.files < 2 ^ 32
  pub each : AllByRecursion HasFileWidths dataset.files
