use Rattle.std.proofs.Common.{◌≡◌, ◌-◌}
use Rattle.zc_tree.specs.CatalogueReading.{devices_field}
use Rattle.zc_catalog.proofs.Loops.{with_fronts}
use Rattle.zc_catalog.proofs.reading.devices_field.Given as goal

-- what is read and what is left to read are all
abbrev pub invariant-loop-device : goal.invariant-loop-device
invariant-loop-device l =
    with_fronts l.tables l.maps (devices_field l.limits.devices l.limits.places (l.limits.devices - l.device) l.device l.rest)
    ≡ devices_field l.limits.devices l.limits.places l.limits.devices 0 l.bytes
