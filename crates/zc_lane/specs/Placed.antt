-- The blocks that a job makes: where they are put, the pointers to them, and the tree that has these pointers.
use Rattle.std.specs.Prelude.{◌≡◌, ℕ, ◌+◌, ◌^◌, ◌<◌, List, [], ◌∷◌, length, map, flat_map}
use Rattle.zc_num.specs.declared.numbers.PlaceAt.{PlaceAt}
use Rattle.zc_blkptr.specs.Digest.{digest_bytes}
use Rattle.zc_blkptr.specs.declared.ptr.Ptr.{Ptr}
use Rattle.zc_tape.specs.Tape.{Shape, Tape}
use Rattle.zc_tree.specs.Reach.{pointers_of_tree}
use Rattle.zc_tree.specs.declared.tree.Tree.{Tree}
use Rattle.zc_damage.specs.declared.block.FoundBlock.{FoundBlock}
use Rattle.zc_state.specs.State.{State, place_of_block}
use Rattle.zc_next.specs.Next.{AreNewBlocks}
use Rattle.zc_heart.specs.declared.changes.Now.TheVariants as now
use Rattle.zc_heart.specs.declared.changes.Change.{Change}
use Rattle.zc_heart.specs.declared.changes.Change.TheVariants.{MakeDataset, DropDataset, MakeFile, DropFile, Size, Put}
use Rattle.zc_heart.specs.declared.changes.Sealed.{Sealed}
use Rattle.zc_heart.specs.Changes.{made_in}
use Rattle.zc_heart.specs.Core.{Base}
use Rattle.zc_group.specs.Chosen.{free_places}
use Rattle.zc_group.specs.declared.root.Root.{Root}
use Rattle.zc_apply.specs.Jobs.{IsJob, IsBase}
use Rattle.zc_lane.specs.Jobs.{IsRooted}

-- the bytes of the block that a change makes
abbrev pub bytes_made_by : Change → List (List ℕ)
bytes_made_by (MakeDataset id slot name) = []
bytes_made_by (DropDataset id) = []
bytes_made_by (MakeFile dataset file name) = []
bytes_made_by (DropFile dataset file) = []
bytes_made_by (Size dataset file size) = []
bytes_made_by (Put dataset file block now.Hole) = []
bytes_made_by (Put dataset file block (now.Made bytes)) = bytes ∷ []

-- the bytes of the blocks that changes make, in their order
abbrev pub bytes_made : List Change → List (List ℕ)
bytes_made changes = flat_map bytes_made_by changes

-- the bytes of blocks, in their order
abbrev pub bytes_of : List FoundBlock → List (List ℕ)
bytes_of blocks = map (λ (block : FoundBlock). block.bytes) blocks

-- the first places of the root's pool, so many, that neither its tree nor its catalogue has
abbrev pub free_after : Root → ℕ → List PlaceAt
free_after root count = free_places root.limits.devices root.limits.places root.chain (pointers_of_tree root.tree) count

-- the pointer that the group has to its new block
abbrev pub ptr_to : (group : ℕ) → FoundBlock → Ptr
ptr_to group block = record { device = block.device; place = block.place; logical = group; physical = group; digest = digest_bytes block.bytes }

-- the tree of the job's group: its changes made in the tree of the group before, with these pointers to the new blocks
abbrev pub next_tree : Sealed → List Ptr → Tree → Tree
next_tree job placed tree = record (made_in job.changes placed tree) { group = job.group }

-- the new blocks are those that the job's changes make, in their order, each at a free place of its own, and these are the pointers to them
pub record IsPlaced (shape : Shape) (s : State) (job : Sealed) (new : List FoundBlock) (placed : List Ptr) : Type 0 where
  pub blocks : AreNewBlocks shape s [] new
  pub bytes : bytes_of new ≡ bytes_made job.changes
  pub pointers : placed ≡ map (ptr_to job.group) new

-- The job is ready to be written after the root: the new blocks are those that its changes make, in their order, at the first free
-- places, these are the pointers to them, and the tree has these pointers.
pub record IsReady (root : Root) (job : Sealed) (tree : Tree) (new : List FoundBlock) (placed : List Ptr) : Type 0 where
  pub places : map place_of_block new ≡ free_after root (length (bytes_made job.changes))
  pub bytes : bytes_of new ≡ bytes_made job.changes
  pub pointers : placed ≡ map (ptr_to job.group) new
  pub tree_is : tree ≡ next_tree job placed root.tree

-- the job leads on from the pool that the root has, by the next group, and its blocks are placed
pub record IsPrepared (shape : Shape) (t : Tape) (s : State) (root : Root) (from to : Base) (job : Sealed) (new : List FoundBlock) (placed : List Ptr) : Type 0 where
  pub rooted : IsRooted shape t s root from
  pub base : IsBase root.limits to
  pub leads : IsJob from to job
  pub blocks : IsPlaced shape s job new placed
  pub group_is : job.group ≡ s.body.group + 1
  pub group_width : job.group < 2 ^ 64
