-- What holds of the disk sets and the shelf of a row between its runs.
use Rattle.std.specs.Prelude.{◌≡◌, false, []}
use Rattle.zc_io.specs.MemoryShelf.{stock_of}
use Rattle.zc_io.specs.declared.memory_shelf.MemoryShelf.{MemoryShelf}
use Rattle.zc_tape.specs.Memory.{tape_of}
use Rattle.zc_tape.specs.declared.memory.MemoryDisks.{MemoryDisks}

-- no call stands on the tape of the set
abbrev pub IsUnused : MemoryDisks → Type 0
IsUnused set = (tape_of set).calls ≡ []

-- no set is handed out
abbrev pub IsAllIn : MemoryShelf → Type 0
IsAllIn shelf = (stock_of shelf).out ≡ (λ _. false)
