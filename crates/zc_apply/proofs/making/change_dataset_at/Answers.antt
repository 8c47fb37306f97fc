-- A change of the dataset at the place is one of the datasets.
use Rattle.zc_heart.specs.Changes.{number_of_dataset}
use Rattle.zc_apply.specs.InParts.{by_number, in_one_dataset}
use Rattle.zc_apply.proofs.MappedLaws.{changed_there}
use Rattle.zc_apply.proofs.making.change_dataset_at.Goals as goal

pub returns : goal.returns
returns c =
    changed_there c.change_if_dataset.result (by_number number_of_dataset c.args.id (in_one_dataset c.args.change.now c.args.ptr)) c.args.datasets.now c.args.k c.at_mut.result.now c.change_if_dataset.new.dataset c.at_mut.ensures.item c.change_if_dataset.ensures
