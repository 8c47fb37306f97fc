-- The plain pool that a state holds, and plain pools that hold the same files.
use Rattle.std.specs.Prelude.{◌≡◌, ◌+◌, ◌*◌, ◌^◌, ℕ, List, map, Option, Some, None}
use Rattle.std.specs.Option.{option_map}
use Rattle.zc_num.specs.Words.{each}
use Rattle.zc_num.specs.Ordered.{value_at}
use Rattle.zc_num.specs.declared.limits.Limits.{Limits}
use Rattle.zc_blkptr.specs.declared.ptr.Ptr.{Ptr}
use Rattle.zc_tree.specs.declared.tree.File.{File}
use Rattle.zc_tree.specs.declared.tree.Dataset.{Dataset}
use Rattle.zc_damage.specs.declared.block.FoundBlock.{FoundBlock}
use Rattle.zc_damage.specs.Places.{bytes_in}
use Rattle.zc_state.specs.State.{State}
use Rattle.zc_plain.specs.declared.plain_pool.PlainBlock.{PlainBlock}
use Rattle.zc_plain.specs.declared.plain_pool.PlainBlock.TheVariants.{Hole, Made}
use Rattle.zc_plain.specs.declared.plain_pool.PlainFile.{PlainFile}
use Rattle.zc_plain.specs.declared.plain_pool.PlainDataset.{PlainDataset}
use Rattle.zc_plain.specs.declared.plain_pool.PlainPool.{PlainPool}
use Rattle.zc_plain.specs.PlainPool.{blocks_of_size, bytes_of, dataset_at}
use Rattle.zc_plain.specs.Answer.{dataset_place}

-- ---- the plain pool of a state

-- the block at a pointer, with its place as the stamp; a hole where there is no pointer
abbrev pub plain_block : List FoundBlock → Option Ptr → PlainBlock
plain_block blocks None = Hole
plain_block blocks (Some ptr) = Made 0 (ptr.device * 2 ^ 32 + ptr.place) (bytes_in blocks ptr.device ptr.place)

-- the file with the bytes at its pointers
abbrev pub plain_file : List FoundBlock → File → PlainFile
plain_file blocks file = record {
  id = file.id;
  name = file.name;
  size = file.size;
  blocks = each (blocks_of_size file.size) (λ k. plain_block blocks (value_at k file.slots));
}

abbrev pub plain_dataset : List FoundBlock → Dataset → PlainDataset
plain_dataset blocks dataset = record { id = dataset.id; name = dataset.name; next_file = dataset.next_file; files = map (plain_file blocks) dataset.files }

-- the plain pool that the state holds, on disks of this size
abbrev pub found_in : Limits → State → PlainPool
found_in limits s = record { limits = limits; next_dataset = s.parts.tree.next_dataset; datasets = map (plain_dataset s.blocks) s.parts.tree.datasets }

-- ---- the same files

-- what a file is to whoever reads it: its name and its bytes, as many as its size
pub record Contents : Type 0 where
  pub name : List ℕ
  pub bytes : List ℕ

abbrev pub contents_of : PlainFile → Contents
contents_of file = record { name = file.name; bytes = bytes_of file }

-- the files of the dataset of this name, in order; None where no dataset has the name
abbrev pub files_under : List ℕ → PlainPool → Option (List Contents)
files_under name pool = option_map (λ place. map contents_of (dataset_at place pool).files) (dataset_place name pool)

-- under every name the two pools have the same files, or neither has a dataset. Stamps and numbers don't count.
abbrev pub HoldSame : PlainPool → PlainPool → Type 0
HoldSame pool other = (name : List ℕ) → files_under name pool ≡ files_under name other
