-- All devices are written.
use Rattle.zc_catalog.proofs.Loops.{texts_done}
use Rattle.zc_catalog.proofs.writing.put_devices.Goals as goal

pub returns : goal.returns
returns c =
    texts_done c.loop-device.out.items c.args.out.now.items c.args.tables.now c.args.maps.now c.loop-device.device c.loop-device-test.false c.loop-device.invariant
