-- The bytes that a disk set keeps in memory, and the entries of its tape there.
use Rattle.std.specs.Prelude.{ℕ, ◌+◌, ◌*◌, Bool, true, ◌&&◌, List, replicate, nat_lt, slice_index_or, if◌then◌else◌}
use Rattle.zc_tape.specs.declared.entry.Entry.{Entry}
use Rattle.zc_tape.specs.declared.entry.Entry.TheVariants.{Wrote, Synced}
use Rattle.zc_tape.specs.Tape.{Image, Write, Sync, Made, with_bytes}

-- a block of zeros
unfoldable pub zeros : List ℕ
zeros = replicate 4096 0

-- the bytes at each place of blocks that lie device after device; a place that isn't there has zeros
unfoldable pub image : ℕ → List (List ℕ) → Image
image places blocks d p = if nat_lt p places then slice_index_or blocks (d * places + p) zeros else zeros

-- the call of an entry, and whether it was Ok
abbrev pub made_of : Entry → Made
made_of (Wrote device place bytes ok) = record { call = Write device place bytes; ok = ok }
made_of (Synced ok) = record { call = Sync; ok = ok }

-- an entry is no write, or one to a place that is there
abbrev pub is_there : ℕ → ℕ → Entry → Bool
is_there devices places (Wrote device place bytes ok) = nat_lt device devices && nat_lt place places
is_there devices places (Synced ok) = true

-- the image after one more call, Ok or failed
abbrev pub image_after : Image → Made → Image
image_after before m = elim m.call [ Write device place bytes ↦ (if m.ok then with_bytes before device place bytes else before) | Sync ↦ before ]
