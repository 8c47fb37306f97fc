use Rattle.std.proofs.Common.{arith}
use Rattle.std.proofs.lemmas.List.{length-map}
use Rattle.zc_heart.specs.declared.pool_core.HeartDataset.{HeartDataset}
use Rattle.zc_heart.specs.Core.{areas_of}
use Rattle.zc_heart.proofs.Areas.{full_is_long}
use Rattle.zc_heart.proofs.making.free_area.Goals as goal

pub unreachable-requires : goal.unreachable-requires
unreachable-requires c =
    let long = full_is_long 8 (areas_of c.args.core.now) (λ number below. c.loop-area.invariant number (omega (arith, below, c.loop-area-test.false))) in
    let many = length-map c.args.core.now.datasets (λ (dataset : HeartDataset). dataset.area) in
    omega (arith, long, many, c.requires)
