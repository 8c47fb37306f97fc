use Rattle.std.proofs.Common.{◌+◌, ◌<◌, ◌≤◌, ◌∙◌, length, sym, arith}
use Rattle.zc_tape.specs.Blocks.{image}
use Rattle.zc_tape.proofs.Leave.{kept_next, count_next}
use Rattle.zc_tape.proofs.memory.leave.keep_entries.Goals as goal

pub loop-entry-preserved : goal.loop-entry-preserved
loop-entry-preserved c =
    let l = c.loop-entry in
    let entries = c.args.entries.now in
    let inside : l.entry-index < length entries = omega arith in
    let below : c.writes_with-writes.result ≤ l.entry-index + 1 = omega arith in
    let kept = kept_next (image c.args.places c.args.blocks.now) entries c.args.choice.now l.entry-index l.writes _ inside l.invariant.1 in
    let count = count_next entries l.entry-index _ inside in
    (c.keep_entry.ensures ∙ rw (c.choice_for.ensures, l.invariant.0) (sym kept), c.writes_with-writes.ensures.count ∙ rw l.invariant.1 (sym count), below)
