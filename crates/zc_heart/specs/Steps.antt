-- What single steps do to a file: making room, putting and taking one block, setting the size.
use Rattle.std.specs.Prelude.{◌≡◌, ◌≢◌, ◌⊎◌, ℕ, ◌+◌, ◌-◌, ◌/◌, ◌<◌, ◌≤◌, ◌==◌, ◌&&◌, ◌||◌, Bool, false, not, nat_le, nat_lt, List, [], Option, Some, None, length, replicate, IsSome, IsTrue, if◌then◌else◌, get_or}
use Rattle.zc_num.specs.Blocks.{edited}
use Rattle.zc_num.specs.Ordered.{value_at}
use Rattle.zc_plain.specs.declared.plain_pool.PlainBlock.{PlainBlock}
use Rattle.zc_plain.specs.declared.plain_pool.PlainBlock.TheVariants.{Hole, Made}
use Rattle.zc_plain.specs.PlainPool.{is_made as is_held}
use Rattle.zc_plain.specs.PlainPool.{blocks_of_size, bytes_of_block}
use Rattle.zc_plain.specs.Written.{start_in, part_in}
use Rattle.zc_plain.specs.Truncated.{is_trimmed, kept_in, truncated_block}
use Rattle.zc_heart.specs.declared.file.Mark.{Mark}
use Rattle.zc_heart.specs.declared.file.Mark.TheVariants as mark
use Rattle.zc_heart.specs.declared.file.HeartFile.{HeartFile}
use Rattle.zc_heart.specs.declared.stamps.Stamps.{Stamps}
use Rattle.zc_heart.specs.Core.{plain_block, plain_blocks, is_touched, is_made, IsHeartFile}
use Rattle.zc_heart.specs.File.{Marks, CountsChange}
use Rattle.zc_heart.specs.Stamps.{files_at, has_room}

-- the block with the number, a hole where there is none
abbrev pub held_at : ℕ → HeartFile → PlainBlock
held_at index file = plain_block (value_at index file.blocks)

-- there is an entry for the block, and one for its mark
abbrev pub HasRoom : ℕ → HeartFile → Type 0
HasRoom index file = IsSome (value_at index file.blocks) × IsSome (value_at index file.marks)

-- the block is a hole, or there is an entry for its mark
abbrev pub HasMarkRoom : ℕ → HeartFile → Type 0
HasMarkRoom index file = IsTrue (is_held (held_at index file)) → IsSome (value_at index file.marks)

-- All that the file stands for stays, and so does what is marked, and each entry.
pub record KeepsAll (old new : HeartFile) : Type 0 where
  pub size : new.size ≡ old.size
  pub pointers : new.pointers ≡ old.pointers
  pub sized : new.sized ≡ old.sized
  pub blocks : (k : ℕ) → held_at k new ≡ held_at k old
  pub touched : (k : ℕ) → is_touched k new ≡ is_touched k old
  pub made : (k : ℕ) → is_made k new ≡ is_made k old
  pub room : (k : ℕ) → IsSome (value_at k old.blocks) → IsSome (value_at k new.blocks)
  pub mark_room : (k : ℕ) → IsSome (value_at k old.marks) → IsSome (value_at k new.marks)

-- This block stands at the number, and every other stays; so does each entry at another number.
pub record Sets (index : ℕ) (block : PlainBlock) (old new : HeartFile) : Type 0 where
  pub size : new.size ≡ old.size
  pub sized : new.sized ≡ old.sized
  pub here : held_at index new ≡ block
  pub others : (k : ℕ) → k ≢ index → held_at k new ≡ held_at k old
  pub room : (k : ℕ) → k ≢ index → IsSome (value_at k old.blocks) → IsSome (value_at k new.blocks)
  pub mark_room : (k : ℕ) → k ≢ index → IsSome (value_at k old.marks) → IsSome (value_at k new.marks)

-- the number is one of these
abbrev pub is_within : (from end index : ℕ) → Bool
is_within from end index = nat_le from index && nat_lt index end

-- no file has a block of this command with a number below this one
abbrev pub AreUnused : (number upto : ℕ) → Stamps → Type 0
AreUnused number upto stamps = (k : ℕ) → k < upto → files_at stamps (number, k) ≡ 0

-- there is room for the command's blocks with these numbers
abbrev pub HasStampRoom : (number from upto : ℕ) → Stamps → Type 0
HasStampRoom number from upto stamps = (k : ℕ) → from ≤ k → k < upto → IsTrue (has_room stamps (number, k))

-- the bytes of the block with the number, once bytes were written over it
unfoldable pub written_bytes : (offset : ℕ) → List ℕ → HeartFile → (index : ℕ) → List ℕ
written_bytes offset bytes file index = edited (bytes_of_block (held_at index file)) (start_in index offset) (part_in index offset bytes)

-- the bytes of the block with the number, with bytes 0 from the size on
unfoldable pub trimmed_bytes : (size : ℕ) → HeartFile → (index : ℕ) → List ℕ
trimmed_bytes size file index = edited (bytes_of_block (held_at index file)) (kept_in index size) (replicate (4096 - kept_in index size) 0)

-- Those of the command's blocks that stand at `from` and after it were put, of all that begin at `first`; every other block stays.
pub record PutsAll (number first : ℕ) (made : List (List ℕ)) (from : ℕ) (old new : HeartFile) (s t : Stamps) : Type 0 where
  pub heart : IsHeartFile new
  pub size : new.size ≡ old.size
  pub sized : new.sized ≡ old.sized
  pub put : (k : ℕ) → from ≤ k → k < first + length made → held_at k new ≡ Made number k (get_or made (k - first) [])
  pub others : (k : ℕ) → (k < from) ⊎ (first + length made ≤ k) → held_at k new ≡ held_at k old
  pub marks : Marks (is_within from (first + length made)) old new
  pub counts : CountsChange s t old new

-- the mark of a block that becomes a hole
abbrev pub hole_mark : Option Mark → Mark
hole_mark None = mark.Holed
hole_mark (Some mark.Room) = mark.Holed
hole_mark (Some mark.Holed) = mark.Holed
hole_mark (Some mark.Made) = mark.Made

-- the file with the size
abbrev pub with_size : ℕ → HeartFile → HeartFile
with_size size file = record file { size = size; sized = file.sized || not (size == file.size) }

-- The block in which the file is trimmed with this size, where there is one, and the room for it: the bytes are of the file before, and
-- the room is in the one after.
pub record IsCut (number size : ℕ) (trimmed : Option (List ℕ)) (old new : HeartFile) (stamps : Stamps) : Type 0 where
  pub bytes : trimmed ≡ (if is_trimmed old.size size (plain_blocks old) (size / 4096) then Some (trimmed_bytes size old (size / 4096)) else None)
  pub room : IsSome trimmed → HasRoom (size / 4096) new
  pub stamp_room : IsSome trimmed → IsTrue (has_room stamps (number, size / 4096))

-- The block in which the file is trimmed with this size stands there, where there is one, and every other stays; so does each entry for
-- the mark of a block after the size.
pub record PutsCut (number size : ℕ) (old new : HeartFile) (s t : Stamps) : Type 0 where
  pub heart : IsHeartFile new
  pub size_is : new.size ≡ old.size
  pub sized : new.sized ≡ old.sized
  pub blocks : (k : ℕ) → held_at k new ≡ truncated_block number old.size size (plain_blocks old) k
  pub marks : Marks (is_trimmed old.size size (plain_blocks old)) old new
  pub counts : CountsChange s t old new
  pub room : (k : ℕ) → blocks_of_size size ≤ k → HasMarkRoom k old → HasMarkRoom k new

-- The blocks from this number on are holes, and every other stays.
pub record DropsFrom (from : ℕ) (old new : HeartFile) (s t : Stamps) : Type 0 where
  pub heart : IsHeartFile new
  pub size : new.size ≡ old.size
  pub sized : new.sized ≡ old.sized
  pub dropped : (k : ℕ) → from ≤ k → held_at k new ≡ Hole
  pub others : (k : ℕ) → k < from → held_at k new ≡ held_at k old
  pub marks : Marks (λ k. false) old new
  pub counts : CountsChange s t old new
