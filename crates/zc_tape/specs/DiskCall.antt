-- What a call that is to be made does to the tape.
use Rattle.std.specs.Prelude.{◌<◌, List}
use Rattle.std.specs.List.{All}
use Rattle.zc_tape.specs.declared.call.DiskCall.{DiskCall}
use Rattle.zc_tape.specs.declared.call.DiskCall.TheVariants as planned
use Rattle.zc_tape.specs.Tape.{Shape, Call, Write, Sync}

-- the call as it stands on a tape
abbrev pub call_of : DiskCall → Call
call_of (planned.Write device place bytes) = Write device place bytes
call_of planned.Sync = Sync

-- a call is a sync, or writes a place that is there
abbrev pub IsThere : Shape → Call → Type 0
IsThere shape (Write device place bytes) = (device < shape.devices) × (place < shape.places)
IsThere shape Sync = Unit {0}

-- each write of the calls is to a place that is there
abbrev pub AreThere : Shape → List Call → Type 0
AreThere shape calls = All (IsThere shape) calls
