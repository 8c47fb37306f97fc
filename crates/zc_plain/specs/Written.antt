-- A file after bytes were written into it.
use Rattle.std.specs.Prelude.{ℕ, ◌+◌, ◌-◌, ◌*◌, ◌&&◌, Bool, nat_lt, max, List, length, take, drop, if◌then◌else◌}
use Rattle.zc_num.specs.Blocks.{edited}
use Rattle.zc_num.specs.Words.{each}
use Rattle.zc_plain.specs.declared.plain_pool.PlainBlock.{PlainBlock}
use Rattle.zc_plain.specs.declared.plain_pool.PlainBlock.TheVariants.{Made}
use Rattle.zc_plain.specs.declared.plain_pool.PlainFile.{PlainFile}
use Rattle.zc_plain.specs.PlainPool.{blocks_of_size, bytes_of_block, block_at}

-- the block with the index has one of the so many bytes from the offset on
abbrev pub touches : ℕ → ℕ → ℕ → Bool
touches offset len index = nat_lt (index * 4096) (offset + len) && nat_lt offset (index * 4096 + 4096)

-- the byte of the block with the index at which bytes from the offset on begin, 0 where they begin before the block
abbrev pub start_in : ℕ → ℕ → ℕ
start_in index offset = offset - index * 4096

-- those of the bytes from the offset on that stand in the block with the index
abbrev pub part_in : ℕ → ℕ → List ℕ → List ℕ
part_in index offset bytes = take (4096 - start_in index offset) (drop (index * 4096 - offset) bytes)

-- the block with the index, with the bytes from the offset on written over its own by the command with the number
unfoldable pub made_block : ℕ → ℕ → List ℕ → List PlainBlock → ℕ → PlainBlock
made_block number offset bytes blocks index =
    Made number index (edited (bytes_of_block (block_at index blocks)) (start_in index offset) (part_in index offset bytes))

-- a block that the bytes touch is made anew, and every other stays
unfoldable pub written_block : ℕ → ℕ → List ℕ → List PlainBlock → ℕ → PlainBlock
written_block number offset bytes blocks index =
    if touches offset (length bytes) index then made_block number offset bytes blocks index else block_at index blocks

-- the file with the bytes written at the offset: its size grows to hold them, and new blocks that they don't touch are holes
unfoldable pub written : ℕ → ℕ → List ℕ → PlainFile → PlainFile
written number offset bytes file =
    let size = max file.size (offset + length bytes) in
    record file { size = size; blocks = each (blocks_of_size size) (written_block number offset bytes file.blocks) }
