-- The item that is there is found.
use Rattle.std.proofs.Common.{below_more}
use Rattle.zc_tree.proofs.SlotLaws.{passed_by}
use Rattle.zc_tests.proofs.slots.dataset_among.Goals as goal

pub loop-index-preserved : goal.loop-index-preserved
loop-index-preserved c =
    below_more _ _ c.loop-index.invariant
    (passed_by (λ dataset. dataset.id) c.args.datasets.now c.loop-index.index c.args.id c.index-datasets-index.result c.loop-index-test.true c.if-datasets-index.false)
