-- The charge of a pool: the blocks that the last finished group holds, and those that were made since.
--
-- Blocks are made in the files, and the same block made twice after as many seals is charged once.
use Rattle.std.specs.Prelude.{ℕ, ◌+◌, ◌==◌, ◌&&◌, Bool, nat_le, List, [], ◌∷◌, ◌++◌, length, fold, filter, flat_map, Option, Some, None, if◌then◌else◌}
use Rattle.std.specs.List.{list_any}
use Rattle.zc_num.specs.Words.{each, found_from}
use Rattle.zc_plain.specs.declared.plain_pool.PlainBlock.{PlainBlock}
use Rattle.zc_plain.specs.declared.plain_pool.PlainBlock.TheVariants.{Hole, Made}
use Rattle.zc_plain.specs.declared.plain_pool.PlainFile.{PlainFile}
use Rattle.zc_plain.specs.declared.plain_pool.PlainDataset.{PlainDataset}
use Rattle.zc_plain.specs.declared.plain_pool.PlainPool.{PlainPool}
use Rattle.zc_plain.specs.declared.tally.MadeBlock.{MadeBlock}
use Rattle.zc_plain.specs.declared.tally.Tally.{Tally}

-- the items, each once
abbrev pub with_one : {X : Type 0} → (X → X → Bool) → List X → X → List X
with_one same items item = if list_any (same item) items then items else items ++ item ∷ []

-- the items with more of them, each once
unfoldable pub with_each : {X : Type 0} → (X → X → Bool) → List X → List X → List X
with_each same items more = fold (with_one same) items more

-- what names the bytes of a block: the entry of the command that made them, and its index there
abbrev pub stamp_of : PlainBlock → List (ℕ × ℕ)
stamp_of Hole = []
stamp_of (Made entry index bytes) = (entry, index) ∷ []

-- the stamps of all blocks of the pool, with repeats
unfoldable pub stamps_of : PlainPool → List (ℕ × ℕ)
stamps_of pool = flat_map (λ (dataset : PlainDataset). flat_map (λ (file : PlainFile). flat_map stamp_of file.blocks) dataset.files) pool.datasets

-- two stamps are one
abbrev pub is_stamp : ℕ × ℕ → ℕ × ℕ → Bool
is_stamp a b = (a.0 == b.0) && (a.1 == b.1)

-- how many blocks a pool holds, a shared one counted once
unfoldable pub held_by : PlainPool → ℕ
held_by pool = length (with_each is_stamp [] (stamps_of pool))

-- two blocks are one of one file, made after as many seals
abbrev pub is_block : MadeBlock → MadeBlock → Bool
is_block a b = (a.seals == b.seals) && ((a.dataset == b.dataset) && ((a.file == b.file) && (a.block == b.block)))

-- a block of the file, made now
abbrev pub block_made : Tally → ℕ → ℕ → ℕ → MadeBlock
block_made tally dataset file block = record { seals = length tally.sealed; dataset = dataset; file = file; block = block }

-- so many blocks of the file from the first on, made now
abbrev pub blocks_made : Tally → ℕ → ℕ → ℕ → ℕ → List MadeBlock
blocks_made tally dataset file first count = each count (λ k. block_made tally dataset file (first + k))

-- what is counted before any entry
abbrev pub tally_of : PlainPool → Tally
tally_of pool = record { sealed = []; held = held_by pool; made = [] }

-- what is counted once these blocks were made
abbrev pub with_blocks : List MadeBlock → Tally → Tally
with_blocks blocks tally = record tally { made = with_each is_block tally.made blocks }

-- what is counted once the group was sealed
abbrev pub with_seal : ℕ → Tally → Tally
with_seal group tally = record tally { sealed = tally.sealed ++ group ∷ [] }

-- how many seals there were up to that of the group; none where it was never sealed
abbrev pub seals_after : Option ℕ → ℕ
seals_after None = 0
seals_after (Some place) = place + 1

unfoldable pub seals_up_to : ℕ → List ℕ → ℕ
seals_up_to group sealed = seals_after (found_from (λ (one : ℕ). one == group) 0 sealed)

-- the block was made after so many seals or more
abbrev pub is_after : ℕ → MadeBlock → Bool
is_after seals block = nat_le seals block.seals

-- what is counted once the group is finished: what it holds, and the blocks that were made after its seal
unfoldable pub with_finish : ℕ → ℕ → Tally → Tally
with_finish group held tally = record tally { held = held; made = filter (is_after (seals_up_to group tally.sealed)) tally.made }

-- the charge
abbrev pub charge_of : Tally → ℕ
charge_of tally = tally.held + length tally.made
