-- One more dataset, a refused dataset, and the end.
use Rattle.std.proofs.Common.{[]}
use Rattle.std.proofs.lemmas.Result.{err_from_is_err_and}
use Rattle.zc_tree.specs.CatalogueReading.{datasets_field}
use Rattle.zc_catalog.proofs.Loops.{datasets_go_on, datasets_end, datasets_done}
use Rattle.zc_catalog.proofs.reading.datasets_field.Goals as goal

pub returns-in_err-dataset : goal.returns-in_err-dataset
returns-in_err-dataset c =
    let p = err_from_is_err_and c.from_residual.result c.from_residual.ensures.1 in
    let limits = c.args.limits.now in
    rw (p.1, p.2) (datasets_end c.in_err-dataset.field-0.0 limits.devices limits.places c.args.group c.args.next_dataset c.args.number c.loop.counter c.loop.datasets c.as_slice.result.now c.loop.rest.now
    (datasets_field limits.devices limits.places c.args.group c.args.next_dataset c.args.number [] c.args.bytes.now) c.loop-test.true c.as_slice.ensures c.in_err-dataset.ensures c.loop.invariant)

pub loop-preserved : goal.loop-preserved
loop-preserved c =
    let limits = c.args.limits.now in
    rw c.in_ok-push.ensures.ok (datasets_go_on limits.devices limits.places c.args.group c.args.next_dataset c.args.number c.loop.counter c.loop.datasets c.as_slice.result.now c.loop.rest.now c.in_ok-dataset.after.now c.in_ok-dataset.dataset
    (datasets_field limits.devices limits.places c.args.group c.args.next_dataset c.args.number [] c.args.bytes.now) c.loop-test.true c.as_slice.ensures c.in_ok-dataset.ensures c.loop.invariant)

pub returns : goal.returns
returns c =
    let limits = c.args.limits.now in
    datasets_done limits.devices limits.places c.args.group c.args.next_dataset c.args.number c.loop.counter c.loop.datasets c.loop.rest.now
    (datasets_field limits.devices limits.places c.args.group c.args.next_dataset c.args.number [] c.args.bytes.now) c.loop-test.false c.loop.invariant
