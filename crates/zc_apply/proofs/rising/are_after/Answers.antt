-- Each dataset is looked at in turn.
use Rattle.zc_apply.proofs.RisingLaws.{above_more, above_all}
use Rattle.zc_apply.proofs.rising.are_after.Goals as goal

pub loop-k-preserved : goal.loop-k-preserved
loop-k-preserved c = λ rise.
    above_more c.args.id c.args.file c.args.datasets.now c.loop-k.k c.index-datasets-k.result c.is_above.result c.loop-k-test.true c.index-datasets-k.is c.if-not-is_above.false c.is_above.ensures rise (c.loop-k.invariant rise)

pub returns : goal.returns
returns c = λ yes' rise. above_all c.args.id c.args.file c.args.datasets.now c.loop-k.k c.loop-k-test.false (c.loop-k.invariant rise)
