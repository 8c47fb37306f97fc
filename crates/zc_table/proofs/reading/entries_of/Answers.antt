-- The entries that are read, one after the other.
use Rattle.std.proofs.lemmas.Result.{err_from_is_err_and}
use Rattle.zc_table.specs.TableBytes.{entries_field}
use Rattle.zc_table.proofs.ReadLoops.{entry_goes_on, entry_ends, entries_done}
use Rattle.zc_table.proofs.reading.entries_of.Goals as goal

pub returns-in_err-entry : goal.returns-in_err-entry
returns-in_err-entry c =
    let p = err_from_is_err_and c.from_residual.result c.from_residual.ensures.1 in
    let limits = c.args.limits.now in
    rw (p.1, p.2) (entry_ends c.in_err-entry.field-0.0 limits.devices limits.places c.args.device c.args.number c.loop.counter c.loop.least c.loop.entries c.loop.rest.now
    (entries_field limits.devices limits.places c.args.device c.args.number 0 c.args.bytes.now) c.loop-test.true c.in_err-entry.ensures.gives c.loop.invariant)

pub loop-preserved : goal.loop-preserved
loop-preserved c =
    let limits = c.args.limits.now in
    rw c.in_ok-push.ensures.ok (entry_goes_on limits.devices limits.places c.args.device c.args.number c.loop.counter c.loop.least c.loop.entries c.loop.rest.now c.in_ok-entry.entry c.in_ok-entry.after.now
    (entries_field limits.devices limits.places c.args.device c.args.number 0 c.args.bytes.now) c.loop-test.true c.in_ok-entry.ensures.gives c.loop.invariant)

pub returns : goal.returns
returns c =
    let limits = c.args.limits.now in
    entries_done limits.devices limits.places c.args.device c.args.number c.loop.counter c.loop.least c.loop.entries c.loop.rest.now (entries_field limits.devices limits.places c.args.device c.args.number 0 c.args.bytes.now) c.loop-test.false c.loop.invariant
