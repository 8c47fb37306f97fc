use Rattle.std.proofs.Common.{refl, ◌∙◌, arith}
use Rattle.zc_tape.specs.Memory.{tape_of}
use Rattle.zc_tape.proofs.Leave.{unsynced_counted}
use Rattle.zc_tape.proofs.memory.MemoryDisks.unsynced.Goals as goal

pub returns : goal.returns
returns c =
    let m = c.args.self.now in
    let found = c.last_sync-last.ensures in
    let rest = c.unsynced_entries.ensures.value in
    c.count_writes.ensures
    ∙ unsynced_counted (tape_of m) m.entries.items c.unsynced_entries.result.now c.args.moment c.min-calls.result c.last_sync-last.result
    refl (omega arith) (rw c.deref.ensures.value at found) (rw c.deref-2.ensures.value at rest)
