-- The entries of each region after those before them.
use Rattle.std.proofs.Common.{ℕ, ◌+◌, ◌*◌, List, arith}
use Rattle.std.specs.List.{flat_map}
use Rattle.zc_table.specs.Counts.{entries_in}
use Rattle.zc_table.specs.TableBytes.{entry_bytes}
use Rattle.zc_table.proofs.EntryLaws.{entries_in_none, nothing_put, bytes_in_more, extends_on, on_err}
use Rattle.zc_table.proofs.writing.put_entries.Goals as goal

pub loop-region-init : goal.loop-region-init
loop-region-init g c =
    let counts : List ℕ = g.T.RefTable.counts c.args.table.now in
    nothing_put c.args.out.now.items (entries_in counts 0 0) (entries_in_none counts 0)

pub returns-in_err-put_region-clause-kept : goal.returns-in_err-put_region-clause-kept
returns-in_err-put_region-clause-kept g c =
    let counts : List ℕ = g.T.RefTable.counts c.args.table.now in
    on_err c.from_residual.result
    (extends_on c.args.out.now.items (flat_map entry_bytes (entries_in counts 0 (64 * c.loop-region.region))) c.loop-region.out.items c.put_region.new.out.items
    c.loop-region.invariant c.in_err-put_region.ensures.kept)

pub loop-region-preserved : goal.loop-region-preserved
loop-region-preserved g c =
    let counts : List ℕ = g.T.RefTable.counts c.args.table.now in
    let region : ℕ = c.loop-region.region in
    bytes_in_more counts c.args.out.now.items c.loop-region.out.items c.put_region.new.out.items 0 (64 * region) (64 * region) 64 (64 * (region + 1))
    (omega arith) (omega arith) (omega arith) c.loop-region.invariant c.in_ok-put_region.ensures.put
