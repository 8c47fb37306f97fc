-- A place whose count is right is passed by, and the first whose count is wrong is found.
use Rattle.std.proofs.Common.{◌≡◌, ◌∙◌, ℕ, length, sym, ap, arith}
use Rattle.zc_num.specs.Limits.{total_of}
use Rattle.zc_num.proofs.Each.{length_each}
use Rattle.zc_damage.specs.Places.{stored_count, extra_at}
use Rattle.zc_damage.specs.Checks.{count_hit, count_hit_at, count_hit_with}
use Rattle.zc_damage.proofs.FirstLaws.{number_passed, number_found}
use Rattle.zc_damage.proofs.SpreadLaws.{count_read}
use Rattle.zc_damage.proofs.late.count_hit.Goals as goal

pub index-requires : goal.index-requires
index-requires c =
    let devices = c.limits-limits.result.devices in
    let places = c.limits-limits.result.places in
    omega (arith, c.in_ok-counts.counts.ok, ap length c.in_ok-counts.ensures, length_each (total_of devices places) (stored_count places c.args.tables.now))

pub returns-in-Some : goal.returns-in-Some
returns-in-Some c =
    let census = c.args.census.now in
    let number = c.loop-number.number in
    let kept : c.index.result.now ≡ stored_count census.places c.args.tables.now number =
    count_read c.limits-limits.result.devices c.limits-limits.result.places c.args.tables.now c.in_ok-counts.counts.items number c.index.result.now c.in_ok-counts.ensures (omega arith) c.index.ensures
    ∙ ap (λ (places : ℕ). stored_count places c.args.tables.now number) c.limits-limits.ensures.places in
    number_found (count_hit_at census.places c.args.tables.now census.reach) number c.total-number-end.result c.in-Some.hit (count_hit census.devices census.places c.args.tables.now census.reach)
    c.loop-number-test.true
    (ap (λ (k : ℕ). count_hit_with census.places number k (extra_at census.places census.reach number)) (sym kept) ∙ sym c.count_hit_with.ensures ∙ c.in-Some.is) c.loop-number.invariant

pub loop-number-preserved : goal.loop-number-preserved
loop-number-preserved c =
    let census = c.args.census.now in
    let number = c.loop-number.number in
    let kept : c.index.result.now ≡ stored_count census.places c.args.tables.now number =
    count_read c.limits-limits.result.devices c.limits-limits.result.places c.args.tables.now c.in_ok-counts.counts.items number c.index.result.now c.in_ok-counts.ensures (omega arith) c.index.ensures
    ∙ ap (λ (places : ℕ). stored_count places c.args.tables.now number) c.limits-limits.ensures.places in
    number_passed (count_hit_at census.places c.args.tables.now census.reach) number c.total-number-end.result (count_hit census.devices census.places c.args.tables.now census.reach)
    c.loop-number-test.true
    (ap (λ (k : ℕ). count_hit_with census.places number k (extra_at census.places census.reach number)) (sym kept) ∙ sym c.count_hit_with.ensures ∙ c.in_default.is) c.loop-number.invariant
