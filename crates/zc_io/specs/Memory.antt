-- What a source and a sink in memory have left and have taken.
use Rattle.std.specs.Prelude.{ℕ, true, List, drop}
use Rattle.zc_io.specs.Stream.{Stream}
use Rattle.zc_io.specs.declared.memory_source.MemorySource.{MemorySource}
use Rattle.zc_io.specs.declared.memory_sink.MemorySink.{MemorySink}

-- the bytes that a source in memory has left
abbrev pub left_of : MemorySource → List ℕ
left_of s = drop s.at s.bytes.items

-- the same, told
abbrev pub stream_left : MemorySource → Stream
stream_left s = record { told = true; bytes = left_of s }

-- the bytes that a sink in memory has taken
abbrev pub taken_by : MemorySink → List ℕ
taken_by s = s.held.items

-- the same, told
abbrev pub stream_taken : MemorySink → Stream
stream_taken s = record { told = true; bytes = taken_by s }
