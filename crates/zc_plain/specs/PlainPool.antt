-- What a plain pool holds: the bytes of its files, and its datasets and files by their places.
use Rattle.std.specs.Prelude.{ℕ, ◌+◌, ◌/◌, ◌%◌, Bool, true, false, not, List, [], ◌∷◌, ◌++◌, take, drop, replicate, slice_get, slice_index, unwrap_or, remove, sum_by, count_by}
use Rattle.zc_num.specs.Words.{each, change_at}
use Rattle.zc_num.specs.declared.limits.Limits.{Limits}
use Rattle.zc_plain.specs.declared.plain_pool.PlainBlock.{PlainBlock}
use Rattle.zc_plain.specs.declared.plain_pool.PlainBlock.TheVariants.{Hole, Made}
use Rattle.zc_plain.specs.declared.plain_pool.PlainFile.{PlainFile}
use Rattle.zc_plain.specs.declared.plain_pool.PlainDataset.{PlainDataset}
use Rattle.zc_plain.specs.declared.plain_pool.PlainPool.{PlainPool}
use Rattle.zc_plain.specs.declared.finding.Path.{Path}

-- 4,096 bytes 0
unfoldable pub zeros : List ℕ
zeros = replicate 4096 0

-- how many blocks a file of so many bytes has
abbrev pub blocks_of_size : ℕ → ℕ
blocks_of_size size = (size + 4095) / 4096

-- the bytes of a block
abbrev pub bytes_of_block : PlainBlock → List ℕ
bytes_of_block Hole = zeros
bytes_of_block (Made entry index bytes) = bytes

-- the block with the index; after the last there are holes
abbrev pub block_at : ℕ → List PlainBlock → PlainBlock
block_at index blocks = unwrap_or (slice_get blocks index) Hole

-- the block has bytes that a command made
abbrev pub is_made : PlainBlock → Bool
is_made Hole = false
is_made (Made entry index bytes) = true

-- all bytes of the block are 0, and no command made them
abbrev pub is_hole : PlainBlock → Bool
is_hole block = not (is_made block)

-- how many of the blocks are no holes
unfoldable pub made_count : List PlainBlock → ℕ
made_count blocks = count_by is_made blocks

-- byte i of a file is byte i % 4096 of its block i / 4096
unfoldable pub byte_of : PlainFile → ℕ → ℕ
byte_of file i = slice_index (bytes_of_block (block_at (i / 4096) file.blocks)) (i % 4096)

-- the bytes of a file, as many as its size says
abbrev pub bytes_of : PlainFile → List ℕ
bytes_of file = each file.size (byte_of file)

-- what a read gives: the file's bytes from the offset on, at most so many
unfoldable pub bytes_from : ℕ → ℕ → PlainFile → List ℕ
bytes_from offset len file = take len (drop offset (bytes_of file))

-- a file without bytes
abbrev pub new_file : ℕ → List ℕ → PlainFile
new_file id name = record { id = id; name = name; size = 0; blocks = [] }

-- a dataset without files
abbrev pub new_dataset : ℕ → List ℕ → PlainDataset
new_dataset id name = record { id = id; name = name; next_file = 1; files = [] }

-- a pool without datasets
abbrev pub new_pool : Limits → PlainPool
new_pool limits = record { limits = limits; next_dataset = 1; datasets = [] }

-- the dataset at a place where there is one
unfoldable pub dataset_at : ℕ → PlainPool → PlainDataset
dataset_at place pool = unwrap_or (slice_get pool.datasets place) (new_dataset 0 [])

-- the file at a path where there is one
unfoldable pub file_at : Path → PlainPool → PlainFile
file_at path pool = unwrap_or (slice_get (dataset_at path.dataset pool).files path.file) (new_file 0 [])

-- the pool with a new dataset of the name, which takes the next number
abbrev pub with_new_dataset : List ℕ → PlainPool → PlainPool
with_new_dataset name pool = record pool { next_dataset = pool.next_dataset + 1; datasets = pool.datasets ++ new_dataset pool.next_dataset name ∷ [] }

-- the dataset with a new file of the name, which takes the next number
abbrev pub with_new_file : List ℕ → PlainDataset → PlainDataset
with_new_file name dataset = record dataset { next_file = dataset.next_file + 1; files = dataset.files ++ new_file dataset.next_file name ∷ [] }

-- the pool without the dataset at the place; the next number stays
abbrev pub without_dataset : ℕ → PlainPool → PlainPool
without_dataset place pool = record pool { datasets = remove pool.datasets place }

-- the dataset without the file at the place; the next number stays
abbrev pub without_file : ℕ → PlainDataset → PlainDataset
without_file place dataset = record dataset { files = remove dataset.files place }

-- how many pointers to blocks the files of a dataset have: one for each block that is no hole
unfoldable pub pointers_in : PlainDataset → ℕ
pointers_in dataset = sum_by (λ (file : PlainFile). made_count file.blocks) dataset.files

-- the pool with the dataset at the place changed
abbrev pub in_dataset : ℕ → (PlainDataset → PlainDataset) → PlainPool → PlainPool
in_dataset place change pool = record pool { datasets = change_at change place pool.datasets }

-- the dataset with the file at the place changed
abbrev pub in_files : ℕ → (PlainFile → PlainFile) → PlainDataset → PlainDataset
in_files place change dataset = record dataset { files = change_at change place dataset.files }

-- the pool with the file at the path changed
abbrev pub in_file : Path → (PlainFile → PlainFile) → PlainPool → PlainPool
in_file path change pool = in_dataset path.dataset (in_files path.file change) pool
