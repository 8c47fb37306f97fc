use Rattle.zc_heart.proofs.Ready.{files_counted}
use Rattle.zc_heart.proofs.MakingLaws.{dropped_dataset}
use Rattle.zc_heart.proofs.making.drop_dataset.Goals as goal

pub drop_files-requires-clause-counted : goal.drop_files-requires-clause-counted
drop_files-requires-clause-counted c = files_counted c.args.core.now c.args.place c.remove-dataset.result c.requires.core c.remove-dataset.ensures.item

pub returns-clause-ok : goal.returns-clause-ok
returns-clause-ok c =
    dropped_dataset c.args.place c.args.core.now c.dataset_at.result.now c.remove-dataset.result c.remove-dataset.new.self c.push.new.self c.drop_files.new.stamps c.requires.core c.dataset_at.ensures.stands c.remove-dataset.ensures.item
    c.remove-dataset.ensures.rest c.in_ok-push.ensures.ok c.drop_files.ensures.moves c.drop_files.ensures.learns
