-- A place whose bit is right is passed by, and the first whose bit is wrong is found.
use Rattle.std.proofs.Common.{◌∙◌, sym}
use Rattle.zc_damage.specs.Checks.{map_hit, map_hit_at}
use Rattle.zc_damage.proofs.FirstLaws.{number_passed, number_found}
use Rattle.zc_damage.proofs.late.map_hit.Goals as goal

pub returns-in-Some : goal.returns-in-Some
returns-in-Some c =
    let census = c.args.census.now in
    number_found (map_hit_at census.devices census.places c.args.maps.now census.chain census.reach) c.loop-number.number c.total-number-end.result c.in-Some.hit
    (map_hit census.devices census.places c.args.maps.now census.chain census.reach)
    c.loop-number-test.true (sym c.map_hit_at.ensures ∙ c.in-Some.is) c.loop-number.invariant

pub loop-number-preserved : goal.loop-number-preserved
loop-number-preserved c =
    let census = c.args.census.now in
    number_passed (map_hit_at census.devices census.places c.args.maps.now census.chain census.reach) c.loop-number.number c.total-number-end.result
    (map_hit census.devices census.places c.args.maps.now census.chain census.reach)
    c.loop-number-test.true (sym c.map_hit_at.ensures ∙ c.in_default.is) c.loop-number.invariant
