-- The map of which a stored map says what is owned.
use Rattle.std.proofs.Common.{◌∙◌, map, ap}
use Rattle.zc_spacemap.specs.States.{state_of}
use Rattle.zc_next.proofs.EachItem.{if_ok_so}
use Rattle.zc_next.proofs.ExactMaps.{states_of_owned}
use Rattle.zc_next.proofs.exact.exact_map.Goals as goal

pub returns : goal.returns
returns c =
    let census = c.args.census.now in
    if_ok_so c.of.result _ _ (λ made is. is ∙ ap (map state_of) c.in_ok-owned.ensures ∙ states_of_owned census.devices census.places c.args.device census.chain census.reach) c.of.ensures
