use Rattle.std.proofs.Common.{◌∙◌, ap, slice_set}
use Rattle.zc_heart.specs.Noted.{settled_dataset}
use Rattle.zc_heart.proofs.SettledLaws.{settled_more}
use Rattle.zc_heart.proofs.sealing.settle_datasets.Goals as goal

pub loop-place-preserved : goal.loop-place-preserved
loop-place-preserved c =
    ap (slice_set c.loop-place.datasets c.loop-place.place) c.settle_dataset.ensures
    ∙ settled_more settled_dataset c.loop-place.place c.args.datasets.now c.loop-place.datasets c.at_mut.result.now c.loop-place.invariant c.at_mut.ensures.item
