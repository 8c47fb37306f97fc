use Rattle.std.proofs.Common.{map, refl, ap, ◌∙◌}
use Rattle.zc_tape.specs.Blocks.{made_of}
use Rattle.zc_tape.specs.LastSync.{writes_of}
use Rattle.zc_tape.specs.Memory.{tape_of, kept}
use Rattle.zc_tape.proofs.Leave.{left_by_entries}
use Rattle.zc_tape.proofs.memory.MemoryDisks.leave_in.Goals as goal

pub returns : goal.returns
returns c =
    let m = c.args.self.now in
    let synced = c.between-synced.result.now in
    let unsynced = c.unsynced_entries-unsynced.result.now in
    let calls = writes_of (map made_of unsynced) in
    let front = c.replay.ensures in
    let found = c.last_sync-last.ensures in
    let first = c.between-synced.ensures.value in
    let rest = c.unsynced_entries-unsynced.ensures.value in
    c.keep_entries.ensures
    ∙ ap (λ before. kept before calls c.args.choice.now) (rw c.requires.start at front)
    ∙ left_by_entries (tape_of m) m.entries.items synced unsynced c.args.moment c.last_sync-last.result c.args.choice.now
    refl (rw c.deref.ensures.value at found) (rw c.deref-2.ensures.value at first) (rw c.deref-3.ensures.value at rest)
