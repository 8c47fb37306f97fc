-- One more place of the catalogue is marked.
use Rattle.zc_damage.proofs.CensusLaws.{marks_step}
use Rattle.zc_damage.proofs.census.mark_catalogue.Goals as goal

pub loop-at-preserved : goal.loop-at-preserved
loop-at-preserved c = λ reach begun.
    marks_step c.args.limits.now.devices c.args.limits.now.places reach c.args.chain.now c.loop-at.at-index c.loop-at.uses c.number_of-number.result _ _
    c.requires.places c.loop-at-test.true c.number_of-number.ensures.number (c.loop-at.invariant reach begun)
