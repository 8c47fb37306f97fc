-- A region whose counter is right is passed by.
use Rattle.std.proofs.Common.{◌∙◌, ◌/◌, sym}
use Rattle.zc_damage.specs.Checks.{region_hit, region_hit_at}
use Rattle.zc_damage.proofs.FirstLaws.{number_passed}
use Rattle.zc_damage.proofs.late.region_hit.Goals as goal

pub loop-region-preserved : goal.loop-region-preserved
loop-region-preserved c =
    let census = c.args.census.now in
    number_passed (region_hit_at census.places c.args.tables.now census.reach) c.loop-region.region (c.total-region-end.result / 64) (region_hit census.devices census.places c.args.tables.now census.reach)
    c.loop-region-test.true (sym c.region_hit_at.ensures ∙ c.in_default.is) c.loop-region.invariant
