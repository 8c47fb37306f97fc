-- One step writes the group, and then its wait ends.
use Rattle.std.proofs.Common.{◌∙◌}
use Rattle.std.proofs.lemmas.Result.{IfOk-weaker}
use Rattle.zc_prog.proofs.GoesLaws.{goes_then}
use Rattle.zc_prog.proofs.AnswerLaws.{before_asks_nothing, step_writes, step_adds, step_asks_nothing}
use Rattle.zc_prog.proofs.playing.wait.Goals as goal

pub settle-requires-clause-may : goal.settle-requires-clause-may
settle-requires-clause-may g c =
    let waits = c.requires.waits in
    (waits.0, step_writes c.args.pool.now.kept c.make.new.pool.kept c.args.session waits.0 c.in_ok-make.field-0 waits.1 c.in_ok-make.ensures.answers)

pub returns-clause-goes : goal.returns-clause-goes
returns-clause-goes g c =
    goes_then g.D.DiskSet.shape g.D.DiskSet.tape g.D.DiskSet.faults c.args.pool.now c.make.new.pool c.settle.new.pool c.make.ensures.goes c.settle.ensures.goes

pub returns-clause-adds : goal.returns-clause-adds
returns-clause-adds g c waiting has =
    let old = c.args.pool.now.kept in
    let mid = c.make.new.pool.kept in
    let session = c.args.session in
    let answers = c.in_ok-make.ensures.answers in
    IfOk-weaker c.settle.result _ _ (λ reply adds. step_adds old mid c.settle.new.pool.kept session waiting c.in_ok-make.field-0 reply has answers adds)
    (c.settle.ensures.adds waiting (step_writes old mid session waiting c.in_ok-make.field-0 has answers))

pub returns-clause-asked : goal.returns-clause-asked
returns-clause-asked g c =
    let waits = c.requires.waits in
    c.settle.ensures.asked ∙ step_asks_nothing c.args.pool.now.kept c.make.new.pool.kept c.args.session waits.0 c.in_ok-make.field-0 waits.1 c.in_ok-make.ensures.answers

pub returns-in_err-make-clause-asked : goal.returns-in_err-make-clause-asked
returns-in_err-make-clause-asked g c = before_asks_nothing c.args.pool.now.kept c.make.new.pool.kept c.in_err-make.ensures.memory
