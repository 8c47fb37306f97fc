-- What a disk set in memory stands for.
use Rattle.std.specs.Prelude.{ℕ, ◌-◌, true, List, [], ◌∷◌, ◌++◌, map, take, drop}
use Rattle.std.specs.Vec.{vec_len, vec_capacity}
use Rattle.zc_tape.specs.declared.keep.Keep.{Keep}
use Rattle.zc_tape.specs.declared.keep.Keep.TheVariants.{Old, New, Half}
use Rattle.zc_tape.specs.declared.memory.MemoryDisks.{MemoryDisks}
use Rattle.zc_tape.specs.Blocks.{image, made_of}
use Rattle.zc_tape.specs.Crash.{synced_at, unsynced_at}
use Rattle.zc_tape.specs.Tape.{Shape, Image, Call, Write, Sync, Tape, with_bytes}

-- how many devices and places it has
abbrev pub shape_of : MemoryDisks → Shape
shape_of m = record { devices = m.devices; places = m.places }

-- how often a call has failed, at most 2 ^ 64 - 1
abbrev pub faults_of : MemoryDisks → ℕ
faults_of m = m.faults

-- how many more writes and syncs have their room
abbrev pub spare_of : MemoryDisks → ℕ
spare_of m = vec_capacity m.entries - vec_len m.entries

-- its bytes at the start and the writes and syncs since, which it always tells
abbrev pub tape_of : MemoryDisks → Tape
tape_of m = record { told = true; start = image m.places m.start.items; calls = map made_of m.entries.items }

-- the numbers of the calls that fail, counted from 1
abbrev pub failing_of : MemoryDisks → List ℕ
failing_of m = m.failing.items

-- how many reads, writes and syncs have been asked of it, at most 2 ^ 64 - 1
abbrev pub asked_of : MemoryDisks → ℕ
asked_of m = m.asked

-- the first 2,048 bytes of a new block, and the rest of an old one
unfoldable pub half : List ℕ → List ℕ → List ℕ
half new old = take 2048 new ++ drop 2048 old

-- the image with as much of one write as is kept
abbrev pub keep_of : Keep → Image → Call → Image
keep_of Old before call = before
keep_of New before (Write device place bytes) = with_bytes before device place bytes
keep_of New before Sync = before
keep_of Half before (Write device place bytes) = with_bytes before device place (half bytes (before device place))
keep_of Half before Sync = before

-- the image with as much of each write as is kept, the first first; a write without a choice is not kept
abbrev pub kept : Image → List Call → List Keep → Image
kept before [] choice = before
kept before (call ∷ writes) [] = before
kept before (call ∷ writes) (keep ∷ choice) = kept (keep_of keep before call) writes choice

-- what a crash in a moment leaves of a tape, with as much of each unsynced write as is kept
abbrev pub left_by : Tape → ℕ → List Keep → Image
left_by t moment choice = kept (synced_at t moment) (unsynced_at t moment) choice
