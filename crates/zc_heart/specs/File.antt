-- What a write and a truncation do to a file and to what is kept beside it.
use Rattle.std.specs.Prelude.{◌≡◌, ℕ, ◌+◌, ◌≤◌, ◌||◌, Bool, false, not, List, [], length, count_by, flat_map}
use Rattle.zc_num.specs.Words.{each}
use Rattle.zc_plain.specs.declared.plain_pool.PlainFile.{PlainFile}
use Rattle.zc_plain.specs.PlainPool.{block_at}
use Rattle.zc_plain.specs.Charge.{is_stamp, stamp_of}
use Rattle.zc_plain.specs.Written.{touches, written}
use Rattle.zc_plain.specs.Truncated.{is_trimmed, truncated}
use Rattle.zc_heart.specs.declared.file.HeartFile.{HeartFile}
use Rattle.zc_heart.specs.declared.stamps.Stamps.{Stamps}
use Rattle.zc_heart.specs.Core.{plain_blocks, is_touched, is_made}
use Rattle.zc_heart.specs.Stamps.{files_at, ptr_at, Moves, LearnsNothing}

-- the file with no number and no name
abbrev pub bare : HeartFile → PlainFile
bare file = record { id = 0; name = []; size = file.size; blocks = plain_blocks file }

-- the stamps of its blocks
abbrev pub stamps_in : HeartFile → List (ℕ × ℕ)
stamps_in file = flat_map stamp_of (plain_blocks file)

-- how many of so many blocks from the first on the open group didn't make
abbrev pub unmade_in : (first count : ℕ) → HeartFile → ℕ
unmade_in first count file = count_by (λ (made : Bool). not made) (each count (λ k. is_made (first + k) file))

-- the file and what is kept beside it are as they were
pub record StaysFile (old new : HeartFile) : Type 0 where
  pub file : bare new ≡ bare old
  pub pointers : new.pointers ≡ old.pointers
  pub sized : new.sized ≡ old.sized
  pub touched : (k : ℕ) → is_touched k new ≡ is_touched k old
  pub made : (k : ℕ) → is_made k new ≡ is_made k old

-- no block is shared by more or fewer files, and where it is known to be stays known
pub record StaysCounted (old new : Stamps) : Type 0 where
  pub files : (stamp : ℕ × ℕ) → files_at new stamp ≡ files_at old stamp
  pub placed : (stamp : ℕ × ℕ) → ptr_at new stamp ≡ ptr_at old stamp

-- What is marked of a file that was changed: these blocks were made, and what isn't marked as touched is as it was.
pub record Marks (makes : ℕ → Bool) (old new : HeartFile) : Type 0 where
  pub kept : (k : ℕ) → is_touched k new ≡ false → (is_touched k old ≡ false) × (block_at k (plain_blocks new) ≡ block_at k (plain_blocks old))
  pub made : (k : ℕ) → is_made k new ≡ is_made k old || makes k
  pub sized : new.sized ≡ false → (old.sized ≡ false) × (new.size ≡ old.size)

-- Bytes were written into the file.
pub record Writes (number offset : ℕ) (bytes : List ℕ) (old new : HeartFile) : Type 0 where
  pub file : bare new ≡ written number offset bytes (bare old)
  pub marks : Marks (touches offset (length bytes)) old new

-- The file's size was set.
pub record Truncates (number size : ℕ) (old new : HeartFile) : Type 0 where
  pub file : bare new ≡ truncated number size (bare old)
  pub marks : Marks (is_trimmed old.size size (plain_blocks old)) old new

-- The stamps are counted as the file changed, and nothing was learnt of where blocks are.
pub record CountsChange (old new : Stamps) (file changed : HeartFile) : Type 0 where
  pub moves : Moves old new (stamps_in file) (stamps_in changed)
  pub learns : LearnsNothing old new

-- each stamp is counted at least as often as a block of the file has it
abbrev pub Counts : Stamps → HeartFile → Type 0
Counts stamps file = (stamp : ℕ × ℕ) → count_by (is_stamp stamp) (stamps_in file) ≤ files_at stamps stamp

-- no block of a file has a stamp of the command with the number
abbrev pub IsNew : (number : ℕ) → Stamps → Type 0
IsNew number stamps = (index : ℕ) → files_at stamps (number, index) ≡ 0
