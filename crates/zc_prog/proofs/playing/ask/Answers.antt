-- A command is answered at once, or its group is written.
use Rattle.std.proofs.Common.{◌∷◌, []}
use Rattle.std.proofs.lemmas.Result.{IfOk-weaker}
use Rattle.zc_prog.specs.Midway.{asking}
use Rattle.zc_prog.proofs.EntryLaws.{asks_nothing, asks_then_nothing}
use Rattle.zc_prog.proofs.GoesLaws.{goes_then}
use Rattle.zc_prog.proofs.AnswerLaws.{before_asks_nothing, quiet_may_ask, ask_quiet, ask_is_no_commit, ask_adds, ask_asks, its_wait, commit_seals, commit_adds, commit_asks}
use Rattle.zc_prog.proofs.playing.ask.Goals as goal

pub make-requires-clause-may : goal.make-requires-clause-may
make-requires-clause-may g c = (c.requires.conditions, quiet_may_ask c.args.pool.now.kept c.args.session c.requires.quiet)

pub returns-in-Ok-Answered-clause-quiet : goal.returns-in-Ok-Answered-clause-quiet
returns-in-Ok-Answered-clause-quiet g c =
    let asks = rw c.in-Ok-Answered.field-0-is at c.in-Ok-Answered.ensures.answers in
    ask_quiet c.args.pool.now.kept c.make.new.pool.kept c.args.session c.args.command c.in-Ok-Answered.reply c.requires.quiet asks

pub returns-in-Ok-Answered-clause-ends : goal.returns-in-Ok-Answered-clause-ends
returns-in-Ok-Answered-clause-ends g c =
    let asks = rw c.in-Ok-Answered.field-0-is at c.in-Ok-Answered.ensures.answers in
    ask_is_no_commit c.args.pool.now.kept c.make.new.pool.kept c.args.session c.args.command c.in-Ok-Answered.reply asks

pub returns-in-Ok-Answered-clause-adds : goal.returns-in-Ok-Answered-clause-adds
returns-in-Ok-Answered-clause-adds g c =
    let asks = rw c.in-Ok-Answered.field-0-is at c.in-Ok-Answered.ensures.answers in
    ask_adds c.args.pool.now.kept c.make.new.pool.kept c.args.session c.args.command c.in-Ok-Answered.reply asks

pub returns-in-Ok-Answered-clause-asked : goal.returns-in-Ok-Answered-clause-asked
returns-in-Ok-Answered-clause-asked g c =
    let asks = rw c.in-Ok-Answered.field-0-is at c.in-Ok-Answered.ensures.answers in
    ask_asks c.args.pool.now.kept c.make.new.pool.kept c.args.session c.args.command c.in-Ok-Answered.reply asks

pub wait-requires-clause-waits : goal.wait-requires-clause-waits
wait-requires-clause-waits g c =
    let asks = rw c.in-Ok-Waiting.field-0-is at c.in-Ok-Waiting.ensures.answers in
    (its_wait c.args.pool.now.kept c.args.session, commit_seals c.args.pool.now.kept c.make.new.pool.kept c.args.session c.requires.quiet asks.1)

pub returns-in-Ok-Waiting-clause-goes : goal.returns-in-Ok-Waiting-clause-goes
returns-in-Ok-Waiting-clause-goes g c =
    goes_then g.D.DiskSet.shape g.D.DiskSet.tape g.D.DiskSet.faults c.args.pool.now c.make.new.pool c.wait.new.pool c.make.ensures.goes c.wait.ensures.goes

pub returns-in-Ok-Waiting-clause-ends : goal.returns-in-Ok-Waiting-clause-ends
returns-in-Ok-Waiting-clause-ends g c = IfOk-weaker c.wait.result _ _ (λ reply ends is. ends) c.wait.ensures.ends

pub returns-in-Ok-Waiting-clause-adds : goal.returns-in-Ok-Waiting-clause-adds
returns-in-Ok-Waiting-clause-adds g c =
    let asks = rw c.in-Ok-Waiting.field-0-is at c.in-Ok-Waiting.ensures.answers in
    let old = c.args.pool.now.kept in
    let mid = c.make.new.pool.kept in
    let session = c.args.session in
    IfOk-weaker c.wait.result _ _ (λ reply adds. commit_adds old mid c.wait.new.pool.kept session c.args.command reply asks.0 asks.1 adds)
    (c.wait.ensures.adds (its_wait old session) (commit_seals old mid session c.requires.quiet asks.1))

pub returns-in-Ok-Waiting-clause-asked : goal.returns-in-Ok-Waiting-clause-asked
returns-in-Ok-Waiting-clause-asked g c =
    let asks = rw c.in-Ok-Waiting.field-0-is at c.in-Ok-Waiting.ensures.answers in
    let old = c.args.pool.now.kept in
    let mid = c.make.new.pool.kept in
    asks_then_nothing old.history mid.history c.wait.new.pool.kept.history (asking c.args.session c.args.command ∷ [])
    (commit_asks old mid c.args.session c.args.command asks.0 asks.1) c.wait.ensures.asked

pub returns-in-Err-clause-asked : goal.returns-in-Err-clause-asked
returns-in-Err-clause-asked g c =
    asks_nothing c.args.pool.now.kept.history c.make.new.pool.kept.history (asking c.args.session c.args.command ∷ [])
    (before_asks_nothing c.args.pool.now.kept c.make.new.pool.kept c.in-Err.ensures.memory)
