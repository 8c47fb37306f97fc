use Rattle.std.proofs.Common.{◌+◌, arith}
use Rattle.zc_heart.proofs.Ready.{changeable, dataset_of_core, files_counted}
use Rattle.zc_heart.proofs.MakingLaws.{dropped_file}
use Rattle.zc_heart.proofs.making.drop_file.Goals as goal

pub take_file-requires-clause-there : goal.take_file-requires-clause-there
take_file-requires-clause-there c =
    let core = c.args.core.now in
    (changeable c.args.spot (core.last + 1) core c.at_mut.result.now c.requires.core (omega arith) c.requires.there c.at_mut.ensures.item).there

pub take_file-requires-clause-dataset : goal.take_file-requires-clause-dataset
take_file-requires-clause-dataset c = dataset_of_core c.args.core.now c.args.spot.place c.at_mut.result.now c.requires.core c.at_mut.ensures.item

pub take_file-requires-clause-counted : goal.take_file-requires-clause-counted
take_file-requires-clause-counted c = files_counted c.args.core.now c.args.spot.place c.at_mut.result.now c.requires.core c.at_mut.ensures.item

pub returns-clause-ok : goal.returns-clause-ok
returns-clause-ok c =
    dropped_file c.args.spot c.args.core.now c.dataset_at.result.now c.at_mut.result.now c.take_file.new.dataset c.push.new.self c.take_file.new.stamps c.requires.core c.dataset_at.ensures.stands c.at_mut.ensures.item
    c.in_ok-push.ensures.ok c.take_file.ensures
