-- What the answer's clauses say of the heart after a command.
use Rattle.zc_heart.proofs.AnswerLaws.{replies, kept, unchanged}
use Rattle.zc_heart.proofs.commands.command.Goals as goal

pub returns-clause-reply : goal.returns-clause-reply
returns-clause-reply c = replies c.args.number c.args.command.now c.args.core.now c.answer.new.core c.answer.result c.requires.core c.answer.ensures.ok c.answer.ensures.err

pub returns-clause-kept : goal.returns-clause-kept
returns-clause-kept c = (kept c.args.number c.args.command.now c.args.core.now c.answer.new.core c.answer.result c.requires.core c.answer.ensures.ok c.answer.ensures.err).1

pub returns-clause-core : goal.returns-clause-core
returns-clause-core c = (kept c.args.number c.args.command.now c.args.core.now c.answer.new.core c.answer.result c.requires.core c.answer.ensures.ok c.answer.ensures.err).0

pub returns-clause-bytes : goal.returns-clause-bytes
returns-clause-bytes c = unchanged c.args.number c.args.command.now c.args.core.now c.answer.new.core c.answer.result c.answer.ensures.ok
