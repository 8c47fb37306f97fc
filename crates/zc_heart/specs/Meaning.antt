-- What each call of a heart does, in the words of plain files and of trees.
use Rattle.std.specs.Prelude.{◌≡◌, ℕ, ◌+◌, ◌-◌, ◌*◌, ◌<◌, ◌≤◌, ◌==◌, ◌&&◌, ◌^◌, Bool, true, false, if◌then◌else◌, List, [], ◌∷◌, ◌++◌, drop, length, map, flat_map, filter, find, option_map, Contains, Option, Some, None, Result, Ok, Err}
use Rattle.std.specs.List.{AllByRecursion, list_any}
use Rattle.std.specs.Str.{bytes_eq}
use Rattle.std.specs.declared.alloc.AllocError.{AllocError}
use Rattle.zc_num.specs.declared.limits.Limits.{Limits}
use Rattle.zc_num.specs.Words.{each}
use Rattle.zc_num.specs.Ordered.{value_at}
use Rattle.zc_blkptr.specs.declared.ptr.Ptr.{Ptr}
use Rattle.zc_tree.specs.declared.tree.File.{File}
use Rattle.zc_tree.specs.declared.tree.Dataset.{Dataset}
use Rattle.zc_tree.specs.declared.tree.Tree.{Tree}
use Rattle.zc_tree.specs.Catalogue.{AreDatasets}
use Rattle.zc_tree.specs.Reach.{pointers_of_tree}
use Rattle.zc_command.specs.declared.command.Command.{Command}
use Rattle.zc_command.specs.declared.reply.Reply.{Reply}
use Rattle.zc_command.specs.declared.reply.Reply.TheVariants as reply
use Rattle.zc_plain.specs.declared.plain_pool.PlainBlock.{PlainBlock}
use Rattle.zc_plain.specs.declared.plain_pool.PlainBlock.TheVariants.{Hole, Made}
use Rattle.zc_plain.specs.declared.plain_pool.PlainFile.{PlainFile}
use Rattle.zc_plain.specs.declared.plain_pool.PlainDataset.{PlainDataset}
use Rattle.zc_plain.specs.declared.plain_pool.PlainPool.{PlainPool}
use Rattle.zc_plain.specs.declared.tally.Tally.{Tally}
use Rattle.zc_plain.specs.PlainPool.{blocks_of_size, block_at, byte_of}
use Rattle.zc_plain.specs.Charge.{held_by, tally_of, with_seal, with_finish}
use Rattle.zc_plain.specs.Answer.{answer, settled}
use Rattle.zc_plain.specs.History.{tally_after}
use Rattle.zc_heart.specs.declared.changes.Now.{Now}
use Rattle.zc_heart.specs.declared.changes.Now.TheVariants as now
use Rattle.zc_heart.specs.declared.changes.Change.{Change}
use Rattle.zc_heart.specs.declared.changes.Change.TheVariants.{MakeDataset, DropDataset, MakeFile, DropFile, Size, Put}
use Rattle.zc_heart.specs.declared.changes.Sealed.{Sealed}
use Rattle.zc_heart.specs.declared.changes.GroupDone.{GroupDone}
use Rattle.zc_heart.specs.declared.opening.HeartBlock.{HeartBlock}
use Rattle.zc_heart.specs.declared.stamps.Stamp.{Stamp}
use Rattle.zc_heart.specs.declared.pool_core.WaitingGroup.{WaitingGroup}
use Rattle.zc_heart.specs.declared.pool_core.Core.{Core}
use Rattle.zc_heart.specs.Stamps.{AreKnown, StaysKnown, IsAllKnown}
use Rattle.zc_heart.specs.Changes.{Placing, Where, by_stamp, made_in, tree_of}
use Rattle.zc_heart.specs.Core.{pool_of, areas_of, Base, base_of, Agrees, Leads, Knows}

-- ---- what a call leaves alone

-- The files stand as they stood, and so does all that is kept beside them.
pub record Stays (old new : Core) : Type 0 where
  pub pool : pool_of new ≡ pool_of old
  pub areas : areas_of new ≡ areas_of old
  pub agrees : (tally : Tally) → Agrees tally old → Agrees tally new
  pub leads : (base : Base) → Leads base old → Leads base new
  pub knows : (places : Where) → Knows places old → Knows places new
  pub group : new.group ≡ old.group
  pub waiting : new.waiting ≡ old.waiting
  pub last : new.last ≡ old.last

-- ---- a command

-- the reply and the next pool are those of plain files, whatever the charge is counted from; where memory was wanting all stays
abbrev pub Replies : (number : ℕ) → Command → Core → Core → Result Reply AllocError → Type 0
Replies number command old new (Ok reply) =
    (tally : Tally) → Agrees tally old → (settled (pool_of old) (answer number tally (pool_of old) command) ≡ (reply, pool_of new)) × Agrees (tally_after number tally (pool_of old) command) new
Replies number command old new (Err fault) = Stays old new

-- the reply has bytes in it
abbrev pub is_data : Reply → Bool
is_data reply.Done = false
is_data (reply.Count bytes) = false
is_data (reply.Data bytes) = true
is_data (reply.Size size blocks) = false
is_data (reply.No refusal) = false

-- What a command leaves of a heart.
pub record Commands (old new : Core) : Type 0 where
  pub leads : (base : Base) → Leads base old → Leads base new
  pub knows : (places : Where) → Knows places old → Knows places new
  pub group : new.group ≡ old.group
  pub waiting : new.waiting ≡ old.waiting
  pub limits : new.limits ≡ old.limits

-- ---- a seal

-- the dataset and the file with these numbers in a pool, where they are there
abbrev pub files_with : ℕ → ℕ → PlainPool → List PlainFile
files_with dataset file pool =
    flat_map (λ (one : PlainDataset). if one.id == dataset then filter (λ (other : PlainFile). other.id == file) one.files else []) pool.datasets

-- the block of the file with these numbers
abbrev pub block_in : List PlainFile → ℕ → PlainBlock
block_in [] block = Hole
block_in (file ∷ files) block = block_at block file.blocks

-- what a put says of a block is what stands there
abbrev pub IsNow : Now → PlainBlock → Type 0
IsNow now.Hole Hole = Unit {0}
IsNow now.Hole (Made entry index bytes) = ⊥
IsNow (now.Made bytes) Hole = ⊥
IsNow (now.Made bytes) (Made entry index held) = bytes ≡ held

-- a put is of a file that stands, and of what stands at its block
abbrev pub Stands : PlainPool → Change → Type 0
Stands pool (MakeDataset id slot name) = Unit {0}
Stands pool (DropDataset id) = Unit {0}
Stands pool (MakeFile dataset file name) = Unit {0}
Stands pool (DropFile dataset file) = Unit {0}
Stands pool (Size dataset file size) = Unit {0}
Stands pool (Put dataset file block now) = (found : PlainFile) × (files_with dataset file pool ≡ found ∷ []) × IsNow now (block_at block found.blocks)

-- both put at one block of one file
abbrev pub is_twice : Change → Change → Bool
is_twice (Put dataset file block now) (Put other_dataset other_file other_block other_now) = dataset == other_dataset && (file == other_file && block == other_block)
is_twice change other = false

abbrev pub AreOnce : List Change → Type 0
AreOnce [] = Unit {0}
AreOnce (change ∷ changes) = (list_any (is_twice change) changes ≡ false) × AreOnce changes

-- where the block that a change puts is, by its stamp; nothing for a change that puts none
abbrev pub stamp_placed : Placing → PlainBlock → List Ptr
stamp_placed placing Hole = []
stamp_placed placing (Made entry index bytes) = placing entry index bytes ∷ []

abbrev pub placed_by : Placing → PlainPool → Change → List Ptr
placed_by placing pool (MakeDataset id slot name) = []
placed_by placing pool (DropDataset id) = []
placed_by placing pool (MakeFile dataset file name) = []
placed_by placing pool (DropFile dataset file) = []
placed_by placing pool (Size dataset file size) = []
placed_by placing pool (Put dataset file block now.Hole) = []
placed_by placing pool (Put dataset file block (now.Made bytes)) = stamp_placed placing (block_in (files_with dataset file pool) block)

-- where the blocks are that changes put, in their order
abbrev pub placed_by_all : Placing → PlainPool → List Change → List Ptr
placed_by_all placing pool changes = flat_map (placed_by placing pool) changes

-- where the blocks with these stamps are
abbrev pub placed_at : Where → List Stamp → List Ptr
placed_at places stamps = map (λ (stamp : Stamp). places stamp.entry stamp.index) stamps

-- What a seal hands out: the changes, made in their order in the tree of the base, give the tree of the pool as it stands, wherever the
-- blocks are put.
pub record IsSealed (old new : Core) (sealed : Sealed) : Type 0 where
  pub group_is : sealed.group ≡ old.group
  pub held_is : sealed.held ≡ held_by (pool_of old)
  pub leads : (base : Base) (placing : Placing) (group : ℕ) → Leads base old
      → made_in sealed.changes (placed_by_all placing (pool_of old) sealed.changes) (tree_of group placing base.areas base.pool) ≡ tree_of group placing (areas_of old) (pool_of old)
  pub once : AreOnce sealed.changes
  pub stand : AllByRecursion (Stands (pool_of old)) sealed.changes
  pub pool : pool_of new ≡ pool_of old
  pub areas : areas_of new ≡ areas_of old
  pub begins : Leads (base_of old) new
  pub agrees : (tally : Tally) → Agrees tally old → Agrees (with_seal old.group tally) new
  pub knows : (places : Where) → Knows places old → Knows places new
  pub next_group : new.group ≡ old.group + 1
  pub waits : WaitingGroup
  pub waiting : new.waiting ≡ old.waiting ++ waits ∷ []
  pub waits_group : waits.group ≡ old.group
  pub waits_held : waits.held ≡ sealed.held
  pub last : new.last ≡ old.last
  pub stamps : (places : Where) → placed_at places waits.stamps ≡ placed_by_all (by_stamp places) (pool_of old) sealed.changes

-- ---- a finished group

-- what whoever takes a finished group in knows: it is the first that waits, and there is one pointer for each of its blocks
pub record MayAbsorb (done : GroupDone) (core : Core) : Type 0 where
  pub waits : WaitingGroup
  pub others : List WaitingGroup
  pub first : core.waiting ≡ waits ∷ others
  pub group : done.group ≡ waits.group
  pub held : done.held ≡ waits.held
  pub placed : length done.placed ≡ length waits.stamps

-- What taking a finished group in does: no file changes, and the heart knows where its blocks are.
pub record Absorbs (done : GroupDone) (old new : Core) : Type 0 where
  pub pool : pool_of new ≡ pool_of old
  pub areas : areas_of new ≡ areas_of old
  pub leads : (base : Base) → Leads base old → Leads base new
  pub agrees : (tally : Tally) → Agrees tally old → Agrees (with_finish done.group done.held tally) new
  pub knows : (places : Where) (waits : WaitingGroup) (others : List WaitingGroup) → old.waiting ≡ waits ∷ others → Knows places old → placed_at places waits.stamps ≡ done.placed → Knows places new
  pub known : (waits : WaitingGroup) (others : List WaitingGroup) → old.waiting ≡ waits ∷ others → AreKnown old.stamps new.stamps waits.stamps
  pub stays_known : StaysKnown old.stamps new.stamps
  pub group : new.group ≡ old.group
  pub waiting : new.waiting ≡ drop 1 old.waiting
  pub last : new.last ≡ old.last

-- ---- an opening

-- the bytes of the block at a place
abbrev pub bytes_at : List HeartBlock → (device place : ℕ) → List ℕ
bytes_at [] device place = []
bytes_at (block ∷ blocks) device place = if (block.device == device) && (block.place == place) then block.bytes else bytes_at blocks device place

-- the block at a pointer, with its place as the stamp; a hole where there is no pointer
abbrev pub found_block : List HeartBlock → Option Ptr → PlainBlock
found_block blocks None = Hole
found_block blocks (Some ptr) = Made 0 (ptr.device * 2 ^ 32 + ptr.place) (bytes_at blocks ptr.device ptr.place)

abbrev pub found_file : List HeartBlock → File → PlainFile
found_file blocks file = record { id = file.id; name = file.name; size = file.size; blocks = each (blocks_of_size file.size) (λ k. found_block blocks (value_at k file.slots)) }

abbrev pub found_dataset : List HeartBlock → Dataset → PlainDataset
found_dataset blocks dataset = record { id = dataset.id; name = dataset.name; next_file = dataset.next_file; files = map (found_file blocks) dataset.files }

-- the plain pool of a tree and the blocks at its pointers
abbrev pub found_pool : Limits → Tree → List HeartBlock → PlainPool
found_pool limits tree blocks = record { limits = limits; next_dataset = tree.next_dataset; datasets = map (found_dataset blocks) tree.datasets }

-- every byte after a file's size is 0
abbrev pub IsZeroPast : PlainFile → Type 0
IsZeroPast file = (i : ℕ) → file.size ≤ i → byte_of file i ≡ 0

-- What whoever opens a heart knows of the tree and the blocks; further blocks may be there.
pub record MayOpen (limits : Limits) (tree : Tree) (blocks : List HeartBlock) : Type 0 where
  pub group : tree.group < 2 ^ 64 - 1
  pub some_next_dataset : 1 ≤ tree.next_dataset
  pub next_dataset : tree.next_dataset ≤ 2 ^ 62
  pub next_files : AllByRecursion (λ (dataset : Dataset). dataset.next_file ≤ 2 ^ 62) tree.datasets
  pub few : length tree.datasets ≤ 8
  pub datasets : AreDatasets limits.devices limits.places tree.group tree.next_dataset [] tree.datasets
  pub one_block : (a b : Ptr) → Contains (pointers_of_tree tree) a → Contains (pointers_of_tree tree) b → a.device ≡ b.device → a.place ≡ b.place → (a.physical ≡ b.physical) × (a.digest ≡ b.digest)
  pub there : AllByRecursion (λ (ptr : Ptr). list_any (λ (block : HeartBlock). (block.device == ptr.device) && (block.place == ptr.place)) blocks ≡ true) (pointers_of_tree tree)
  pub zero_past : AllByRecursion (λ (dataset : PlainDataset). AllByRecursion IsZeroPast dataset.files) (found_pool limits tree blocks).datasets

-- where the tree says that the blocks are
abbrev pub IsPlacing : Tree → Where → Type 0
IsPlacing tree places = (ptr : Ptr) → Contains (pointers_of_tree tree) ptr → places 0 (ptr.device * 2 ^ 32 + ptr.place) ≡ ptr

-- What an opening makes of them: the heart stands for the pool that was found, and nothing was done in its open group.
pub record IsOpened (limits : Limits) (tree : Tree) (blocks : List HeartBlock) (core : Core) : Type 0 where
  pub pool : pool_of core ≡ found_pool limits tree blocks
  pub areas : areas_of core ≡ map (λ (dataset : Dataset). dataset.slot) tree.datasets
  pub agrees : Agrees (tally_of (found_pool limits tree blocks)) core
  pub leads : Leads (base_of core) core
  pub knows : (places : Where) → IsPlacing tree places → Knows places core
  pub known : IsAllKnown core.stamps
  pub group : core.group ≡ tree.group + 1
  pub waiting : core.waiting ≡ []
  pub last : core.last ≡ 0

-- ---- a dataset by its name

-- the number of the dataset of the name, and that it is mounted, as each one is
abbrev pub dataset_number : List ℕ → PlainPool → Option (ℕ × Bool)
dataset_number name pool = option_map (λ (dataset : PlainDataset). (dataset.id, true)) (find (λ (dataset : PlainDataset). bytes_eq dataset.name name) pool.datasets)
