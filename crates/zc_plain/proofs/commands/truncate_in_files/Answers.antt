-- A change of the file at the place is one of the files.
use Rattle.zc_plain.specs.Truncated.{truncated}
use Rattle.zc_plain.proofs.Places.{changed_there, kept_there}
use Rattle.zc_plain.proofs.commands.truncate_in_files.Goals as goal

pub truncate_file-requires-clause-plain : goal.truncate_file-requires-clause-plain
truncate_file-requires-clause-plain c = c.requires.plain c.at_mut.result.now c.at_mut.ensures.item

pub returns-clause-ok : goal.returns-clause-ok
returns-clause-ok c =
    changed_there c.truncate_file.result (truncated c.args.number c.args.size) c.args.files.now c.args.place c.at_mut.result.now c.truncate_file.new.file c.at_mut.ensures.item c.truncate_file.ensures.ok

pub returns-clause-err : goal.returns-clause-err
returns-clause-err c = kept_there c.truncate_file.result c.args.files.now c.args.place c.at_mut.result.now c.truncate_file.new.file c.at_mut.ensures.item c.truncate_file.ensures.err
