-- One more device, a refused device, and the end.
use Rattle.std.proofs.Common.{◌<◌, arith}
use Rattle.std.proofs.lemmas.Result.{err_from_is_err_and}
use Rattle.zc_tree.specs.CatalogueReading.{devices_field}
use Rattle.zc_catalog.proofs.Loops.{devices_go_on, devices_end, devices_done}
use Rattle.zc_catalog.proofs.reading.devices_field.Goals as goal

pub returns-in_err-table : goal.returns-in_err-table
returns-in_err-table c =
    let p = err_from_is_err_and c.from_residual.result c.from_residual.ensures.1 in
    let limits = c.args.limits.now in
    let within : c.loop-device.device < limits.devices = omega arith in
    rw (p.1, p.2) (devices_end c.in_err-table.field-0.0 limits.devices limits.places limits.devices c.loop-device.device c.loop-device.tables c.loop-device.maps c.loop-device.rest.now
    (devices_field limits.devices limits.places limits.devices 0 c.args.bytes.now) within c.in_err-table.ensures c.loop-device.invariant)

pub loop-device-preserved : goal.loop-device-preserved
loop-device-preserved c =
    let limits = c.args.limits.now in
    let within : c.loop-device.device < limits.devices = omega arith in
    rw (c.in_ok-push.ensures.ok, c.in_ok-push-2.ensures.ok) (devices_go_on limits.devices limits.places limits.devices c.loop-device.device c.loop-device.tables c.loop-device.maps c.loop-device.rest.now
    c.in_ok-table.after.now c.in_ok-table.table c.in_ok-table.map (devices_field limits.devices limits.places limits.devices 0 c.args.bytes.now) within c.in_ok-table.ensures c.loop-device.invariant)

pub returns : goal.returns
returns c =
    let limits = c.args.limits.now in
    devices_done limits.devices limits.places limits.devices c.loop-device.device c.loop-device.tables c.loop-device.maps c.loop-device.rest.now
    (devices_field limits.devices limits.places limits.devices 0 c.args.bytes.now) (omega arith) c.loop-device.invariant
