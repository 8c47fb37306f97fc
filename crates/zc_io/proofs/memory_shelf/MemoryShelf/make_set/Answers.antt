use Rattle.std.proofs.Common.{ap}
use Rattle.zc_tape.specs.Blocks.{zeros}
use Rattle.zc_tape.specs.Tape.{Tape}
use Rattle.zc_io.proofs.memory_shelf.MemoryShelf.make_set.Goals as goal

pub returns-clause-blank : goal.returns-clause-blank
unfolding zeros
returns-clause-blank c = λ told d p device place. ap (λ (tape : Tape). tape.start d p) c.in_ok-disks.ensures.tape
