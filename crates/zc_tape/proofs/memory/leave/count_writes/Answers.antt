use Rattle.std.proofs.Common.{◌+◌, ◌<◌, ◌≤◌, ◌∙◌, length, sym, arith}
use Rattle.zc_tape.proofs.Leave.{count_next}
use Rattle.zc_tape.proofs.memory.leave.count_writes.Goals as goal

pub loop-entry-preserved : goal.loop-entry-preserved
loop-entry-preserved c =
    let l = c.loop-entry in
    let entries = c.args.entries.now in
    let inside : l.entry-index < length entries = omega arith in
    let below : c.writes_with-writes.result ≤ l.entry-index + 1 = omega arith in
    (c.writes_with-writes.ensures.count ∙ rw l.invariant.0 (sym (count_next entries l.entry-index _ inside)), below)
