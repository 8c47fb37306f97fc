-- As many uses as places.
use Rattle.std.proofs.Common.{[], length, ap, arith}
use Rattle.zc_damage.proofs.CensusLaws.{uses_length}
use Rattle.zc_damage.proofs.census.Census.of.Goals as goal

pub mark_catalogue-requires-clause-whole : goal.mark_catalogue-requires-clause-whole
mark_catalogue-requires-clause-whole c =
    omega (arith, c.deref_mut-2.ensures.len, c.in_ok-uses.uses.ok, ap length c.in_ok-uses.ensures, uses_length c.args.limits.now.devices c.args.limits.now.places [] [])
