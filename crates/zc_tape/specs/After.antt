-- What calls that were all Ok leave.
use Rattle.std.specs.Prelude.{true, List, [], ◌∷◌}
use Rattle.zc_tape.specs.Tape.{Image, Call, Write, Sync, Made, with_bytes}

-- the calls as they stand on a tape when each has returned Ok
abbrev pub all_ok : List Call → List Made
all_ok [] = []
all_ok (call ∷ calls) = record { call = call; ok = true } ∷ all_ok calls

-- the image after the writes among the calls, the first first
abbrev pub after : Image → List Call → Image
after image [] = image
after image (Write device place bytes ∷ calls) = after (with_bytes image device place bytes) calls
after image (Sync ∷ calls) = after image calls

-- each of the calls is a write
abbrev pub AreWrites : List Call → Type 0
AreWrites [] = Unit {0}
AreWrites (Write device place bytes ∷ calls) = AreWrites calls
AreWrites (Sync ∷ calls) = ⊥
