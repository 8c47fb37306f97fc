-- What the representation of a heart means: the plain pool that it stands for, and what the open group did to it.
use Rattle.std.specs.Prelude.{◌≡◌, ℕ, ◌+◌, ◌<◌, ◌≤◌, ◌==◌, ◌^◌, Bool, true, false, List, [], ◌∷◌, ◌++◌, length, map, sum_by, count_by, slice_get, Option, Some, None}
use Rattle.std.specs.List.{AllByRecursion, list_any}
use Rattle.zc_num.specs.Words.{each}
use Rattle.zc_num.specs.Ordered.{value_at}
use Rattle.zc_blkptr.specs.declared.ptr.Ptr.{Ptr}
use Rattle.zc_plain.specs.declared.plain_pool.PlainBlock.{PlainBlock}
use Rattle.zc_plain.specs.declared.plain_pool.PlainBlock.TheVariants.{Hole, Made}
use Rattle.zc_plain.specs.declared.plain_pool.PlainFile.{PlainFile}
use Rattle.zc_plain.specs.declared.plain_pool.PlainDataset.{PlainDataset}
use Rattle.zc_plain.specs.declared.plain_pool.PlainPool.{PlainPool}
use Rattle.zc_plain.specs.declared.tally.MadeBlock.{MadeBlock}
use Rattle.zc_plain.specs.declared.tally.Tally.{Tally}
use Rattle.zc_plain.specs.PlainPool.{blocks_of_size, block_at, made_count, pointers_in}
use Rattle.zc_plain.specs.Charge.{is_block, stamps_of}
use Rattle.zc_plain.specs.IsPlain.{IsPlain}
use Rattle.zc_heart.specs.declared.file.HeldBlock.{HeldBlock}
use Rattle.zc_heart.specs.declared.file.Mark.{Mark}
use Rattle.zc_heart.specs.declared.file.Mark.TheVariants as mark
use Rattle.zc_heart.specs.declared.file.HeartFile.{HeartFile}
use Rattle.zc_heart.specs.declared.directory.Named.{Named}
use Rattle.zc_heart.specs.declared.changes.Change.{Change}
use Rattle.zc_heart.specs.declared.pool_core.HeartDataset.{HeartDataset}
use Rattle.zc_heart.specs.declared.pool_core.WaitingGroup.{WaitingGroup}
use Rattle.zc_heart.specs.declared.pool_core.Core.{Core}
use Rattle.zc_heart.specs.Stamps.{ptr_at, AreCounted, holds_number}
use Rattle.zc_heart.specs.Changes.{Placing, Where, is_noted, made_in, tree_of}

-- ---- the plain pool

-- a block of a file; where there is none, and where there is room for one, a hole
abbrev pub plain_block : Option (Option HeldBlock) → PlainBlock
plain_block None = Hole
plain_block (Some None) = Hole
plain_block (Some (Some held)) = Made held.entry held.index held.bytes

abbrev pub plain_blocks : HeartFile → List PlainBlock
plain_blocks file = each (blocks_of_size file.size) (λ k. plain_block (value_at k file.blocks))

abbrev pub plain_file : Named HeartFile → PlainFile
plain_file named = record { id = named.id; name = named.name; size = named.value.size; blocks = plain_blocks named.value }

abbrev pub plain_dataset : HeartDataset → PlainDataset
plain_dataset dataset = record { id = dataset.id; name = dataset.name; next_file = dataset.next_file; files = map plain_file dataset.files }

-- the plain pool that the heart stands for
abbrev pub pool_of : Core → PlainPool
pool_of core = record { limits = core.limits; next_dataset = core.next_dataset; datasets = map plain_dataset core.datasets }

-- the log area of each dataset
abbrev pub areas_of : Core → List ℕ
areas_of core = map (λ (dataset : HeartDataset). dataset.area) core.datasets

-- ---- what the open group did

-- the mark at a block, where there is one
abbrev pub is_touched_by : Option Mark → Bool
is_touched_by None = false
is_touched_by (Some mark.Room) = false
is_touched_by (Some mark.Holed) = true
is_touched_by (Some mark.Made) = true

abbrev pub is_made_by : Option Mark → Bool
is_made_by None = false
is_made_by (Some mark.Room) = false
is_made_by (Some mark.Holed) = false
is_made_by (Some mark.Made) = true

-- the open group touched the block of the file, and made its bytes
abbrev pub is_touched : ℕ → HeartFile → Bool
is_touched k file = is_touched_by (value_at k file.marks)

abbrev pub is_made : ℕ → HeartFile → Bool
is_made k file = is_made_by (value_at k file.marks)

-- ---- the charge

-- how many blocks the sealed groups made, each counted once in its group
abbrev pub made_waiting : Core → ℕ
made_waiting core = sum_by (λ (one : WaitingGroup). one.made) core.waiting

-- the charge, as a sum of numbers that are kept
abbrev pub charge : Core → ℕ
charge core = core.held + (made_waiting core + core.made)

-- how many of the blocks were made after so many seals
abbrev pub made_after : ℕ → List MadeBlock → ℕ
made_after seals made = count_by (λ (block : MadeBlock). block.seals == seals) made

-- group after group, from this many seals on, the numbers are those that are kept; the open group is the last
abbrev pub AreMade : (seals : ℕ) → List WaitingGroup → (current : ℕ) → List MadeBlock → Type 0
AreMade seals [] current made = made_after seals made ≡ current
AreMade seals (one ∷ waiting) current made = (made_after seals made ≡ one.made) × AreMade (seals + 1) waiting current made

-- the block was made in the open group
abbrev pub made_now : Tally → ℕ → ℕ → ℕ → Bool
made_now tally dataset file block =
    list_any (is_block (record { seals = length tally.sealed; dataset = dataset; file = file; block = block })) tally.made

-- no two of the numbers are equal
abbrev pub AreApart : List ℕ → Type 0
AreApart [] = Unit {0}
AreApart (number ∷ numbers) = (list_any (λ other. other == number) numbers ≡ false) × AreApart numbers

-- What the charge is counted from by definition is what the heart keeps numbers and marks of.
pub record Agrees (tally : Tally) (core : Core) : Type 0 where
  pub held : tally.held ≡ core.held
  pub finished : List ℕ
  pub sealed : tally.sealed ≡ finished ++ map (λ (one : WaitingGroup). one.group) core.waiting
  pub apart : AreApart tally.sealed
  pub below : AllByRecursion (λ (group : ℕ). group < core.group) tally.sealed
  pub made : AreMade (length finished) core.waiting core.made tally.made
  pub whole : length tally.made ≡ made_waiting core + core.made
  pub marks : (place : ℕ) (dataset : HeartDataset) (at : ℕ) (file : Named HeartFile) (k : ℕ) → slice_get core.datasets place ≡ Some dataset → slice_get dataset.files at ≡ Some file → is_made k file.value ≡ made_now tally dataset.id file.id k
  pub no_dataset : AllByRecursion (λ (block : MadeBlock). block.dataset < core.next_dataset) tally.made
  pub no_file : (place : ℕ) (dataset : HeartDataset) → slice_get core.datasets place ≡ Some dataset → AllByRecursion (λ (block : MadeBlock). (block.dataset == dataset.id) ≡ true → block.file < dataset.next_file) tally.made

-- ---- the changes

-- a plain pool with the log area of each dataset
pub record Base : Type 0 where
  pub areas : List ℕ
  pub pool : PlainPool

-- what the heart stands for
abbrev pub base_of : Core → Base
base_of core = record { areas = areas_of core; pool = pool_of core }

-- a file, as it was before the open group touched its blocks and its size
abbrev pub IsBefore : PlainFile → Named HeartFile → Type 0
IsBefore before file =
    (before.id ≡ file.id) × (before.name ≡ file.name) × (file.value.sized ≡ false → before.size ≡ file.value.size)
    × ((k : ℕ) → is_touched k file.value ≡ false → block_at k before.blocks ≡ block_at k (plain_blocks file.value))

abbrev pub AreBefore : List PlainFile → List (Named HeartFile) → Type 0
AreBefore [] [] = Unit {0}
AreBefore [] (file ∷ files) = ⊥
AreBefore (before ∷ befores) [] = ⊥
AreBefore (before ∷ befores) (file ∷ files) = IsBefore before file × AreBefore befores files

abbrev pub AreDatasetsBefore : List PlainDataset → List HeartDataset → Type 0
AreDatasetsBefore [] [] = Unit {0}
AreDatasetsBefore [] (dataset ∷ datasets) = ⊥
AreDatasetsBefore (before ∷ befores) [] = ⊥
AreDatasetsBefore (before ∷ befores) (dataset ∷ datasets) =
    (before.id ≡ dataset.id) × (before.name ≡ dataset.name) × (before.next_file ≡ dataset.next_file) × AreBefore before.files dataset.files
    × AreDatasetsBefore befores datasets

-- The open group leads from the base to what the heart stands for: the datasets and files that it made and dropped lead to a pool in
-- which every block and size that it didn't touch is as it is now.
pub record Leads (base : Base) (core : Core) : Type 0 where
  pub before : PlainPool
  pub next_dataset : before.next_dataset ≡ core.next_dataset
  pub datasets : AreDatasetsBefore before.datasets core.datasets
  pub made : (group : ℕ) (placing : Placing) → made_in core.log [] (tree_of group placing base.areas base.pool) ≡ tree_of group placing (areas_of core) before

-- ---- where the blocks are

-- the heart knows the pointers of blocks: where it has one, that is where the block stands
abbrev pub Knows : Where → Core → Type 0
Knows places core = (entry index : ℕ) (ptr : Ptr) → ptr_at core.stamps (entry, index) ≡ Some ptr → places entry index ≡ ptr

-- ---- what is true of every heart

-- the open group touched no block of the file, and didn't set its size
abbrev pub IsUntouched : Named HeartFile → Type 0
IsUntouched file = (file.value.sized ≡ false) × ((k : ℕ) → is_touched k file.value ≡ false)

-- every file that isn't among the changed ones is untouched
abbrev pub AreListed : HeartDataset → Type 0
AreListed dataset = AllByRecursion (λ (file : Named HeartFile). holds_number file.id dataset.changed ≡ false → IsUntouched file) dataset.files

-- no block stands past a file's size, and its pointers are counted
pub record IsHeartFile (file : HeartFile) : Type 0 where
  pub ends : (k : ℕ) → blocks_of_size file.size ≤ k → plain_block (value_at k file.blocks) ≡ Hole
  pub pointers : file.pointers ≡ made_count (plain_blocks file)

-- no block was made by a command after this one
abbrev pub IsMadeBy : ℕ → PlainBlock → Type 0
IsMadeBy last Hole = Unit {0}
IsMadeBy last (Made entry index bytes) = entry ≤ last

abbrev pub IsStamped : ℕ → PlainDataset → Type 0
IsStamped last dataset = AllByRecursion (λ (file : PlainFile). AllByRecursion (IsMadeBy last) file.blocks) dataset.files

-- what is true of each dataset of a heart
pub record IsDatasetOfCore (dataset : HeartDataset) : Type 0 where
  pub area : dataset.area < 8
  pub pointers : dataset.pointers ≡ pointers_in (plain_dataset dataset)
  pub listed : AreListed dataset
  pub files : AllByRecursion (λ (file : Named HeartFile). IsHeartFile file.value) dataset.files

-- What is true of every heart: it stands for a plain pool, and what it keeps beside the files is as the files are.
pub record IsCore (core : Core) : Type 0 where
  pub plain : IsPlain (pool_of core)
  pub datasets : AllByRecursion IsDatasetOfCore core.datasets
  pub apart : AreApart (areas_of core)
  pub counted : AreCounted core.stamps (stamps_of (pool_of core))
  pub stamped : AllByRecursion (IsStamped core.last) (pool_of core).datasets
  pub logged : AllByRecursion (λ (change : Change). is_noted change ≡ false) core.log
  pub held : core.held ≤ 2 ^ 62
  pub few : made_waiting core + core.made ≤ 131072
