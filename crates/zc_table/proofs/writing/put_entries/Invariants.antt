use Rattle.std.proofs.Common.{◌≡◌, ◌++◌, ◌*◌}
use Rattle.std.specs.List.{flat_map}
use Rattle.zc_table.specs.Counts.{entries_in}
use Rattle.zc_table.specs.TableBytes.{entry_bytes}
use Rattle.zc_table.proofs.writing.put_entries.Given as goal

abbrev pub invariant-loop-region : goal.invariant-loop-region
invariant-loop-region g l = l.out.items ≡ l.initial.out.items ++ flat_map entry_bytes (entries_in (g.T.RefTable.counts l.table) 0 (64 * l.region))
