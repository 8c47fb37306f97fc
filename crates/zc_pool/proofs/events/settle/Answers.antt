-- A settle goes on from what is kept.
use Rattle.zc_pool.proofs.RunningLaws.{carries_settle, carries_nothing}
use Rattle.zc_pool.proofs.EventLaws.{as_before_is, settle_is, settle_is_no_failure}
use Rattle.std.proofs.Common.{refl}
use Rattle.zc_pool.proofs.events.settle.Goals as goal

pub returns-in-Ok-clause-answers : goal.returns-in-Ok-clause-answers
returns-in-Ok-clause-answers c =
    settle_is c.args.kept.now c.settle.new.self c.args.session c.in-Ok.ended c.progress_of_settle.result c.in-Ok.ensures.ok c.progress_of_settle.ensures

pub returns-in-Ok-clause-carries : goal.returns-in-Ok-clause-carries
returns-in-Ok-clause-carries c = λ shape t root. carries_settle shape t root c.args.kept.now c.settle.new.self c.args.session c.in-Ok.ended c.in-Ok.ensures.ok

pub returns-in-Ok-clause-no_failure : goal.returns-in-Ok-clause-no_failure
returns-in-Ok-clause-no_failure c = settle_is_no_failure c.in-Ok.ended c.progress_of_settle.result c.progress_of_settle.ensures

pub returns-in-Err-clause-carries : goal.returns-in-Err-clause-carries
returns-in-Err-clause-carries c = λ shape t root. carries_nothing shape t t root root c.args.kept.now c.settle.new.self refl refl c.in-Err.ensures.err

pub returns-in-Err-clause-memory : goal.returns-in-Err-clause-memory
returns-in-Err-clause-memory c = as_before_is c.args.kept.now c.settle.new.self c.in-Err.ensures.err
