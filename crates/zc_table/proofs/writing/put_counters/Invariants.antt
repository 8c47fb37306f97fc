use Rattle.std.proofs.Common.{◌≡◌, ◌++◌, take}
use Rattle.std.specs.List.{flat_map}
use Rattle.zc_wire.specs.Numbers.{u32_bytes}
use Rattle.zc_table.specs.Counts.{regions_of}
use Rattle.zc_table.proofs.writing.put_counters.Given as goal

abbrev pub invariant-loop-region : goal.invariant-loop-region
invariant-loop-region g l = l.out.items ≡ l.initial.out.items ++ flat_map u32_bytes (take l.region (regions_of (g.T.RefTable.counts l.table)))
