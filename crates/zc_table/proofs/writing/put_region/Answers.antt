-- Each entry of the region after those before it; a region whose counts sum to 0 has none.
use Rattle.std.proofs.Common.{◌≡◌, ◌∙◌, ℕ, ◌+◌, ◌-◌, ◌*◌, ◌/◌, min, List, ◌++◌, length, sym, ap, arith}
use Rattle.std.specs.List.{flat_map}
use Rattle.zc_table.specs.declared.stored.StoredCount.{StoredCount}
use Rattle.zc_table.specs.Counts.{region_at, entries_in}
use Rattle.zc_table.specs.TableBytes.{entry_bytes}
use Rattle.zc_table.proofs.EntryLaws.{no_entries_in_region, entries_in_none, nothing_put, bytes_in_more, region_done, extends_on, on_err}
use Rattle.zc_table.proofs.writing.put_region.Goals as goal

pub returns-then-region-eq0-clause-put : goal.returns-then-region-eq0-clause-put
returns-then-region-eq0-clause-put g c =
    let counts : List ℕ = g.T.RefTable.counts c.args.table.now in
    let number : 64 * c.args.region / 64 ≡ c.args.region = omega arith in
    let none : region_at counts c.args.region ≡ 0 = ap (region_at counts) (sym number) ∙ sym c.region.ensures ∙ c.if-region-eq0.true in
    nothing_put c.args.out.now.items (entries_in counts (64 * c.args.region) 64) (no_entries_in_region counts c.args.region none)

pub loop-place-init : goal.loop-place-init
loop-place-init g c =
    let counts : List ℕ = g.T.RefTable.counts c.args.table.now in
    let first : ℕ = 64 * c.args.region in
    let none : first - first ≡ 0 = omega arith in
    nothing_put c.args.out.now.items (entries_in counts first (first - first)) (ap (entries_in counts first) none ∙ entries_in_none counts first)

pub returns-in_err-put_entry-clause-kept : goal.returns-in_err-put_entry-clause-kept
returns-in_err-put_entry-clause-kept g c =
    let counts : List ℕ = g.T.RefTable.counts c.args.table.now in
    on_err c.from_residual.result
    (extends_on c.args.out.now.items (flat_map entry_bytes (entries_in counts (64 * c.args.region) (c.loop-place.place - 64 * c.args.region))) c.loop-place.out.items c.put_entry.new.out.items
    c.loop-place.invariant c.in_err-put_entry.ensures.kept)

pub loop-place-preserved : goal.loop-place-preserved
loop-place-preserved g c =
    let counts : List ℕ = g.T.RefTable.counts c.args.table.now in
    let first : ℕ = 64 * c.args.region in
    let place : ℕ = c.loop-place.place in
    bytes_in_more counts c.args.out.now.items c.loop-place.out.items c.put_entry.new.out.items first (place - first) place 1 (place + 1 - first)
    (omega arith) (omega arith) (omega arith) c.loop-place.invariant c.in_ok-put_entry.ensures.put

pub returns-clause-put : goal.returns-clause-put
returns-clause-put g c =
    let counts : List ℕ = g.T.RefTable.counts c.args.table.now in
    let first : ℕ = 64 * c.args.region in
    let as_many : c.loop-place.place - first ≡ min (length counts - first) 64 = omega arith in
    c.loop-place.invariant
    ∙ ap (λ (entries : List StoredCount). c.args.out.now.items ++ flat_map entry_bytes entries) (region_done counts first (c.loop-place.place - first) (omega arith) as_many)
