-- Lists of blocks as they are put together.
use Rattle.std.specs.Prelude.{ℕ, ◌+◌, ◌-◌, ◌/◌, List, ◌++◌, length, take, drop, replicate}
use Rattle.zc_num.specs.Words.{each}
use Rattle.zc_plain.specs.declared.plain_pool.PlainBlock.{PlainBlock}
use Rattle.zc_plain.specs.declared.plain_pool.PlainBlock.TheVariants.{Hole}
use Rattle.zc_plain.specs.PlainPool.{blocks_of_size}
use Rattle.zc_plain.specs.Written.{made_block}

-- the blocks with holes after them, so that there are at least so many
unfoldable pub grown : ℕ → List PlainBlock → List PlainBlock
grown count blocks = blocks ++ replicate (count - length blocks) Hole

-- so many blocks: the last ones go, or holes stand after them
unfoldable pub resized : ℕ → List PlainBlock → List PlainBlock
resized count blocks = take count (grown count blocks)

-- the blocks with others in the place of those from `first` on
unfoldable pub replaced : ℕ → List PlainBlock → List PlainBlock → List PlainBlock
replaced first others blocks = take first blocks ++ (others ++ drop (first + length others) blocks)

-- the first of the blocks that the bytes from the offset on touch
abbrev pub first_touched : ℕ → ℕ
first_touched offset = offset / 4096

-- how many they touch, where there are some
abbrev pub touched_count : ℕ → ℕ → ℕ
touched_count offset len = blocks_of_size (offset + len) - first_touched offset

-- the blocks that the bytes touch, made anew
unfoldable pub made_blocks : ℕ → ℕ → List ℕ → List PlainBlock → List PlainBlock
made_blocks number offset bytes blocks = each (touched_count offset (length bytes)) (λ k. made_block number offset bytes blocks (first_touched offset + k))
