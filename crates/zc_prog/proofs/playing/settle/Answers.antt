-- Its group is written, so the wait ends.
use Rattle.zc_prog.proofs.AnswerLaws.{before_asks_nothing, may_settle, settles_last, settle_answers, settle_quiet, settle_ends, settle_adds, reply_asks_nothing}
use Rattle.zc_prog.proofs.playing.settle.Goals as goal

pub make-requires-clause-may : goal.make-requires-clause-may
make-requires-clause-may g c = may_settle c.args.pool.now.kept c.args.session c.requires.may.0 c.requires.may.1

pub make-requires-clause-exact : goal.make-requires-clause-exact
make-requires-clause-exact g c = settles_last c.args.pool.now.kept c.args.session c.requires.may.0 c.requires.may.1

pub reply_of-requires : goal.reply_of-requires
reply_of-requires g c =
    settle_answers c.args.pool.now.kept c.make.new.pool.kept c.args.session c.requires.may.0 c.in-Ok.progress c.requires.may.1 c.in-Ok.ensures.answers

pub returns-in-Ok-clause-quiet : goal.returns-in-Ok-clause-quiet
returns-in-Ok-clause-quiet g c =
    settle_quiet c.args.pool.now.kept c.make.new.pool.kept c.args.session c.requires.may.0 c.in-Ok.progress c.reply_of.result c.requires.may.1 c.in-Ok.ensures.answers c.reply_of.ensures

pub returns-in-Ok-clause-ends : goal.returns-in-Ok-clause-ends
returns-in-Ok-clause-ends g c =
    settle_ends c.args.pool.now.kept c.make.new.pool.kept c.args.session c.requires.may.0 c.in-Ok.progress c.reply_of.result c.requires.may.1 c.in-Ok.ensures.answers c.reply_of.ensures

pub returns-in-Ok-clause-adds : goal.returns-in-Ok-clause-adds
returns-in-Ok-clause-adds g c waiting has =
    settle_adds c.args.pool.now.kept c.make.new.pool.kept c.args.session waiting c.in-Ok.progress c.reply_of.result has c.in-Ok.ensures.answers c.reply_of.ensures

pub returns-in-Ok-clause-asked : goal.returns-in-Ok-clause-asked
returns-in-Ok-clause-asked g c =
    reply_asks_nothing c.args.pool.now.kept c.make.new.pool.kept c.requires.may.0 c.reply_of.result
    (settle_adds c.args.pool.now.kept c.make.new.pool.kept c.args.session c.requires.may.0 c.in-Ok.progress c.reply_of.result c.requires.may.1 c.in-Ok.ensures.answers c.reply_of.ensures)

pub returns-in-Err-clause-asked : goal.returns-in-Err-clause-asked
returns-in-Err-clause-asked g c = before_asks_nothing c.args.pool.now.kept c.make.new.pool.kept c.in-Err.ensures.memory
