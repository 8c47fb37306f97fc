-- A change of the file at the place is one of the files.
use Rattle.zc_heart.specs.Changes.{number_of_file}
use Rattle.zc_apply.specs.InParts.{by_number, in_one_file}
use Rattle.zc_apply.proofs.MappedLaws.{changed_there}
use Rattle.zc_apply.proofs.making.change_file_at.Goals as goal

pub returns : goal.returns
returns c =
    changed_there c.change_if_file.result (by_number number_of_file c.args.id (in_one_file c.args.change.now c.args.ptr)) c.args.files.now c.args.k c.at_mut.result.now c.change_if_file.new.file c.at_mut.ensures.item c.change_if_file.ensures
