use Rattle.std.proofs.Common.{◌≡◌, ◌++◌, ◌-◌, ◌*◌}
use Rattle.std.specs.List.{flat_map}
use Rattle.zc_table.specs.Counts.{entries_in}
use Rattle.zc_table.specs.TableBytes.{entry_bytes}
use Rattle.zc_table.proofs.writing.put_region.Given as goal

abbrev pub invariant-loop-place : goal.invariant-loop-place
invariant-loop-place g l = l.out.items ≡ l.initial.out.items ++ flat_map entry_bytes (entries_in (g.T.RefTable.counts l.table) (64 * l.fn.region) (l.place - 64 * l.fn.region))
