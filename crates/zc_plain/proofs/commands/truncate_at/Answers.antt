-- A change of the files of the dataset at the path is one of the pool.
use Rattle.zc_plain.specs.PlainPool.{in_files}
use Rattle.zc_plain.specs.Truncated.{truncated}
use Rattle.zc_plain.proofs.Places.{dataset_there, changed_files, kept_files, changed_in_pool, kept_in_pool}
use Rattle.zc_plain.proofs.commands.truncate_at.Goals as goal

pub truncate_in_files-requires-clause-there : goal.truncate_in_files-requires-clause-there
truncate_in_files-requires-clause-there c =
    let same = dataset_there c.args.pool.now c.args.path.dataset c.at_mut-dataset.result.now c.at_mut-dataset.ensures.item in
    rw same at c.requires.file

pub truncate_in_files-requires-clause-plain : goal.truncate_in_files-requires-clause-plain
truncate_in_files-requires-clause-plain c = λ file stands. (c.requires.plain.datasets c.args.path.dataset c.at_mut-dataset.result.now c.at_mut-dataset.ensures.item).files c.args.path.file file stands

pub returns-clause-ok : goal.returns-clause-ok
returns-clause-ok c =
    let was = c.at_mut-dataset.result.now in
    let change = truncated c.args.number c.args.size in
    changed_in_pool c.truncate_in_files.result (in_files c.args.path.file change) c.args.pool.now c.args.path.dataset was (record was { files = c.truncate_in_files.new.files }) c.at_mut-dataset.ensures.item
    (changed_files c.truncate_in_files.result change c.args.path.file was c.truncate_in_files.new.files c.truncate_in_files.ensures.ok)

pub returns-clause-err : goal.returns-clause-err
returns-clause-err c =
    let was = c.at_mut-dataset.result.now in
    kept_in_pool c.truncate_in_files.result c.args.pool.now c.args.path.dataset was (record was { files = c.truncate_in_files.new.files }) c.at_mut-dataset.ensures.item
    (kept_files c.truncate_in_files.result was c.truncate_in_files.new.files c.truncate_in_files.ensures.err)
