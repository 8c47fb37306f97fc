-- Each dataset is changed in turn.
use Rattle.std.proofs.Common.{◌≡◌, ◌∙◌, length, ap, arith}
use Rattle.zc_heart.specs.Changes.{number_of_dataset}
use Rattle.zc_apply.specs.InParts.{by_number, in_one_dataset}
use Rattle.zc_apply.proofs.MappedLaws.{length_changed, one_more_changed, each_changed}
use Rattle.zc_apply.proofs.RisingLaws.{rises_at}
use Rattle.zc_apply.proofs.making.change_datasets.Goals as goal

pub change_dataset_at-requires-clause-there : goal.change_dataset_at-requires-clause-there
change_dataset_at-requires-clause-there c =
    let change = by_number number_of_dataset c.args.id (in_one_dataset c.args.change.now c.args.ptr) in
    let long : length c.loop-k.datasets ≡ length c.args.datasets.now = ap length c.loop-k.invariant ∙ length_changed change c.loop-k.k c.args.datasets.now in
    omega (arith, long, c.len-k-end.ensures, c.loop-k-test.true)

pub change_dataset_at-requires-clause-known : goal.change_dataset_at-requires-clause-known
change_dataset_at-requires-clause-known c = λ dataset there known.
    rises_at c.args.datasets.now c.loop-k.datasets (by_number number_of_dataset c.args.id (in_one_dataset c.args.change.now c.args.ptr)) c.loop-k.k dataset c.loop-k.invariant there (c.requires known)

pub loop-k-preserved : goal.loop-k-preserved
loop-k-preserved c =
    one_more_changed (by_number number_of_dataset c.args.id (in_one_dataset c.args.change.now c.args.ptr)) c.loop-k.k c.args.datasets.now c.loop-k.datasets c.change_dataset_at.new.datasets c.loop-k.invariant c.in_ok-change_dataset_at.ensures

pub returns : goal.returns
returns c =
    each_changed (by_number number_of_dataset c.args.id (in_one_dataset c.args.change.now c.args.ptr)) c.args.datasets.now c.loop-k.datasets c.loop-k.k (omega (arith, c.len-k-end.ensures, c.loop-k-test.false)) c.loop-k.invariant
