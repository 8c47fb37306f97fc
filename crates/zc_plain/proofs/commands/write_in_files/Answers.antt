-- A change of the file at the place is one of the files.
use Rattle.zc_plain.specs.Written.{written}
use Rattle.zc_plain.proofs.Places.{changed_there, kept_there}
use Rattle.zc_plain.proofs.commands.write_in_files.Goals as goal

pub write_into-requires-clause-plain : goal.write_into-requires-clause-plain
write_into-requires-clause-plain c = c.requires.plain c.at_mut.result.now c.at_mut.ensures.item

pub returns-clause-ok : goal.returns-clause-ok
returns-clause-ok c =
    changed_there c.write_into.result (written c.args.number c.args.offset c.args.bytes.now) c.args.files.now c.args.place c.at_mut.result.now c.write_into.new.file c.at_mut.ensures.item c.write_into.ensures.ok

pub returns-clause-err : goal.returns-clause-err
returns-clause-err c = kept_there c.write_into.result c.args.files.now c.args.place c.at_mut.result.now c.write_into.new.file c.at_mut.ensures.item c.write_into.ensures.err
