-- What a shelf in memory holds, and what it tells.
use Rattle.std.specs.Prelude.{◌+◌, ℕ, true, List, Option}
use Rattle.zc_io.specs.GivenBack.{gives_of, faults_given}
use Rattle.zc_io.specs.Slots.{under, is_here, disks_in}
use Rattle.zc_io.specs.Stock.{Stock, Gave}
use Rattle.zc_io.specs.declared.memory_shelf.MemoryShelf.{MemoryShelf}
use Rattle.zc_io.specs.declared.slots.Stored.{Stored}
use Rattle.zc_tape.specs.declared.memory.MemoryDisks.{MemoryDisks}

-- what stands under a name
abbrev pub stands : MemoryShelf → List ℕ → Stored
stands shelf = under shelf.slots

-- the disk set that lies under a name
abbrev pub lying : MemoryShelf → List ℕ → Option MemoryDisks
lying shelf name = disks_in (stands shelf name)

-- what is told of a shelf by what stands under each name, and by the sets that were given back
abbrev pub stock_by : (List ℕ → Stored) → List Gave → Stock
stock_by holds gives = record { told = true; here = λ name. is_here (holds name); out = λ name. (holds name).out; gives = gives }

-- what the shelf tells: all
abbrev pub stock_of : MemoryShelf → Stock
stock_of shelf = stock_by (stands shelf) (gives_of shelf.gives)

-- how often a call of the shelf, or of a set that was given back, has failed
abbrev pub shelf_faults : MemoryShelf → ℕ
shelf_faults shelf = shelf.calls.faults + faults_given shelf.gives
