-- An ask goes on from what is kept.
use Rattle.zc_pool.proofs.RunningLaws.{may_be_asked, carries_ask, carries_before}
use Rattle.zc_pool.proofs.EventLaws.{asked_is, ask_is_no_failure}
use Rattle.zc_pool.proofs.events.ask_within.Goals as goal

pub ask-requires-clause-last : goal.ask-requires-clause-last
ask-requires-clause-last c = (may_be_asked c.args.kept.now c.requires.pool c.requires.room).0

pub ask-requires-clause-numbers : goal.ask-requires-clause-numbers
ask-requires-clause-numbers c = (may_be_asked c.args.kept.now c.requires.pool c.requires.room).1

pub ask-requires-clause-group : goal.ask-requires-clause-group
ask-requires-clause-group c = (may_be_asked c.args.kept.now c.requires.pool c.requires.room).2

pub returns-in-Ok-clause-answers : goal.returns-in-Ok-clause-answers
returns-in-Ok-clause-answers c =
    asked_is c.args.kept.now c.ask.new.self c.args.session c.args.command c.in-Ok.asked c.progress_of_ask.result c.in-Ok.ensures.ok c.progress_of_ask.ensures

pub returns-in-Ok-clause-carries : goal.returns-in-Ok-clause-carries
returns-in-Ok-clause-carries c =
    λ shape t root. carries_ask shape t root c.args.kept.now c.ask.new.self c.args.session c.args.command c.in-Ok.asked c.requires.may.0 c.requires.may.1 c.requires.core c.requires.room c.in-Ok.ensures.ok

pub returns-in-Ok-clause-no_failure : goal.returns-in-Ok-clause-no_failure
returns-in-Ok-clause-no_failure c = ask_is_no_failure c.in-Ok.asked c.progress_of_ask.result c.progress_of_ask.ensures

pub returns-in-Err-clause-carries : goal.returns-in-Err-clause-carries
returns-in-Err-clause-carries c = λ shape t root. carries_before shape t root c.args.kept.now c.ask.new.self c.in-Err.ensures.err
