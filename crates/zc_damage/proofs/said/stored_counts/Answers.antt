-- All counts are written over the zeros.
use Rattle.std.proofs.Common.{◌≡◌, ◌∙◌, ◌*◌, ℕ, List, length, replicate, ap, arith}
use Rattle.zc_damage.specs.Spread.{with_tables}
use Rattle.zc_damage.proofs.SpreadLaws.{all_tables, over_whole, tables_length}
use Rattle.zc_damage.proofs.PlaceNumbers.{some_places}
use Rattle.zc_damage.proofs.said.stored_counts.Goals as goal

pub returns : goal.returns
returns c =
    let devices = c.args.limits.now.devices in
    let places = c.args.limits.now.places in
    let tables = c.args.tables.now in
    let old : List ℕ = c.in_ok-counts.counts.items in
    let zeros : c.deref_mut.result.now ≡ replicate (devices * places) 0 = c.deref_mut.ensures.value ∙ c.in_ok-counts.ensures ∙ ap (λ (n : ℕ). replicate n 0) c.total.ensures in
    over_whole old c.spread_tables.new.counts c.in_ok-counts.counts.len (omega (arith, c.in_ok-counts.counts.ok))
    (ap length c.spread_tables.ensures ∙ tables_length places tables devices c.deref_mut.result.now ∙ ap length c.deref_mut.ensures.value)
    ∙ c.spread_tables.ensures ∙ ap (with_tables places tables devices) zeros ∙ all_tables devices places tables (some_places devices places c.args.limits.now.are_limits)
