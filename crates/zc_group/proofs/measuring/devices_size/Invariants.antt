use Rattle.std.proofs.Common.{◌≡◌, map, sum, take}
use Rattle.zc_table.specs.Plain.{counts_of}
use Rattle.zc_next.specs.Exact.{device_size}
use Rattle.zc_group.proofs.measuring.devices_size.Given as goal

-- the bytes of the devices so far
abbrev pub invariant-loop-table : goal.invariant-loop-table
invariant-loop-table l = l.total ≡ sum (map (device_size l.places) (map counts_of (take l.table-index l.tables)))
