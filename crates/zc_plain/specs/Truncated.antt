-- A file after its size was set.
use Rattle.std.specs.Prelude.{ℕ, ◌-◌, ◌*◌, ◌+◌, ◌&&◌, Bool, nat_lt, List, replicate, if◌then◌else◌}
use Rattle.zc_num.specs.Blocks.{edited}
use Rattle.zc_num.specs.Words.{each}
use Rattle.zc_plain.specs.declared.plain_pool.PlainBlock.{PlainBlock}
use Rattle.zc_plain.specs.declared.plain_pool.PlainBlock.TheVariants.{Made}
use Rattle.zc_plain.specs.declared.plain_pool.PlainFile.{PlainFile}
use Rattle.zc_plain.specs.PlainPool.{blocks_of_size, bytes_of_block, block_at, is_made}

-- the byte stands inside the block with the index, and isn't its first
abbrev pub is_inside : ℕ → ℕ → Bool
is_inside byte index = nat_lt (index * 4096) byte && nat_lt byte (index * 4096 + 4096)

-- a file whose blocks hold `old` bytes is trimmed inside the block with the index, which is no hole
abbrev pub is_trimmed : ℕ → ℕ → List PlainBlock → ℕ → Bool
is_trimmed old size blocks index = nat_lt size old && (is_inside size index && is_made (block_at index blocks))

-- how many bytes of the block with the index lie before the size, where the size lies inside it
abbrev pub kept_in : ℕ → ℕ → ℕ
kept_in index size = size - index * 4096

-- the block with the index, with bytes 0 from the size on, made by the command with the number
unfoldable pub trimmed_block : ℕ → ℕ → List PlainBlock → ℕ → PlainBlock
trimmed_block number size blocks index =
    Made number index (edited (bytes_of_block (block_at index blocks)) (kept_in index size) (replicate (4096 - kept_in index size) 0))

-- the block in which the file is trimmed is made anew, and every other stays; after the last one there are holes
unfoldable pub truncated_block : ℕ → ℕ → ℕ → List PlainBlock → ℕ → PlainBlock
truncated_block number old size blocks index =
    if is_trimmed old size blocks index then trimmed_block number size blocks index else block_at index blocks

-- the file with the size: blocks from there on go, and new ones are holes
unfoldable pub truncated : ℕ → ℕ → PlainFile → PlainFile
truncated number size file =
    record file { size = size; blocks = each (blocks_of_size size) (truncated_block number file.size size file.blocks) }
