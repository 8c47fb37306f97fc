-- The plain pool that a tree holds, each block by its bytes alone: found again, a block has no stamp.
use Rattle.std.specs.Prelude.{ℕ, List, map, Option, Some, None}
use Rattle.zc_num.specs.declared.limits.Limits.{Limits}
use Rattle.zc_num.specs.Words.{each}
use Rattle.zc_num.specs.Ordered.{value_at}
use Rattle.zc_blkptr.specs.declared.ptr.Ptr.{Ptr}
use Rattle.zc_tree.specs.declared.tree.File.{File}
use Rattle.zc_tree.specs.declared.tree.Dataset.{Dataset}
use Rattle.zc_tree.specs.declared.tree.Tree.{Tree}
use Rattle.zc_plain.specs.declared.plain_pool.PlainBlock.{PlainBlock}
use Rattle.zc_plain.specs.declared.plain_pool.PlainBlock.TheVariants.{Hole, Made}
use Rattle.zc_plain.specs.declared.plain_pool.PlainFile.{PlainFile}
use Rattle.zc_plain.specs.declared.plain_pool.PlainDataset.{PlainDataset}
use Rattle.zc_plain.specs.declared.plain_pool.PlainPool.{PlainPool}
use Rattle.zc_plain.specs.PlainPool.{blocks_of_size}

-- ---- a plain pool without its stamps

abbrev pub bare_block : PlainBlock → PlainBlock
bare_block Hole = Hole
bare_block (Made entry index bytes) = Made 0 0 bytes

abbrev pub bare_file : PlainFile → PlainFile
bare_file file = record file { blocks = map bare_block file.blocks }

abbrev pub bare_dataset : PlainDataset → PlainDataset
bare_dataset dataset = record dataset { files = map bare_file dataset.files }

abbrev pub bare_pool : PlainPool → PlainPool
bare_pool pool = record pool { datasets = map bare_dataset pool.datasets }

-- ---- what is found in a tree, with these bytes at the places of its pointers

abbrev pub block_found : (bytes_at : ℕ → ℕ → List ℕ) → Option Ptr → PlainBlock
block_found bytes_at None = Hole
block_found bytes_at (Some ptr) = Made 0 0 (bytes_at ptr.device ptr.place)

abbrev pub blocks_found : (bytes_at : ℕ → ℕ → List ℕ) → File → List PlainBlock
blocks_found bytes_at file = each (blocks_of_size file.size) (λ k. block_found bytes_at (value_at k file.slots))

abbrev pub file_found : (bytes_at : ℕ → ℕ → List ℕ) → File → PlainFile
file_found bytes_at file = record { id = file.id; name = file.name; size = file.size; blocks = blocks_found bytes_at file }

abbrev pub dataset_found : (bytes_at : ℕ → ℕ → List ℕ) → Dataset → PlainDataset
dataset_found bytes_at dataset = record { id = dataset.id; name = dataset.name; next_file = dataset.next_file; files = map (file_found bytes_at) dataset.files }

abbrev pub bare_found : (bytes_at : ℕ → ℕ → List ℕ) → Limits → Tree → PlainPool
bare_found bytes_at limits tree = record { limits = limits; next_dataset = tree.next_dataset; datasets = map (dataset_found bytes_at) tree.datasets }
