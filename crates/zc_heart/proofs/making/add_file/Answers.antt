use Rattle.std.proofs.Common.{◌∙◌, sym}
use Rattle.zc_heart.specs.declared.changes.Change.TheVariants.{MakeFile}
use Rattle.zc_heart.proofs.Ready.{fresh_in}
use Rattle.zc_heart.proofs.MakingLaws.{ok_is, err_is, added_file, left_unlogged}
use Rattle.zc_heart.proofs.making.add_file.Goals as goal

pub push_file_at-requires-clause-fresh : goal.push_file_at-requires-clause-fresh
push_file_at-requires-clause-fresh c dataset stands = fresh_in c.args.core.now c.args.place dataset c.args.name.now c.requires.core c.requires.numbers c.requires.missing stands

pub returns-then-is_err-clause-err : goal.returns-then-is_err-clause-err
returns-then-is_err-clause-err c =
    let dataset = c.dataset_at-dataset.result.now in
    left_unlogged c.args.core.now c.push_file_at.new.core (MakeFile dataset.id dataset.next_file c.in_ok-clone.field-0) c.push.new.self c.pop.new.self c.requires.core c.in_ok-push.ensures.ok
    (err_is c.push_file_at.result (sym c.is_err.ensures.value ∙ c.if-is_err.true) c.push_file_at.ensures.err) c.pop.ensures.rest

pub returns-clause-ok : goal.returns-clause-ok
returns-clause-ok c =
    added_file c.args.place c.args.name.now c.in_ok-clone.field-0 c.args.core.now c.push_file_at.new.core c.dataset_at-dataset.result.now c.push.new.self c.requires.core c.dataset_at-dataset.ensures.stands c.dataset_at-dataset.ensures.files
    c.requires.missing c.requires.few c.in_ok-clone.ensures c.in_ok-push.ensures.ok
    (ok_is c.push_file_at.result (sym c.is_err.ensures.value ∙ c.if-is_err.false) c.push_file_at.ensures.ok)
