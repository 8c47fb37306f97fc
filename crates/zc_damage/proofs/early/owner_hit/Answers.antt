-- A place without two owners is passed by.
use Rattle.std.proofs.Common.{◌∙◌, sym}
use Rattle.zc_damage.specs.Checks.{owner_hit, owner_hit_at}
use Rattle.zc_damage.proofs.FirstLaws.{number_passed}
use Rattle.zc_damage.proofs.early.owner_hit.Goals as goal

pub loop-number-preserved : goal.loop-number-preserved
loop-number-preserved c =
    let census = c.args.census.now in
    number_passed (owner_hit_at census.places census.chain census.reach) c.loop-number.number c.total-number-end.result (owner_hit census.devices census.places census.chain census.reach)
    c.loop-number-test.true (sym c.owner_hit_at.ensures ∙ c.in_default.is) c.loop-number.invariant
