-- What a run, or an import that was cut short, is told of its disk set.
use Rattle.std.proofs.Common.{◌≡◌, Err, sym, subst}
use Rattle.zc_prog.specs.declared.fault.SessionFault.TheVariants.{Failed}
use Rattle.zc_prog.specs.declared.fault.SessionFault.{SessionFault}
use Rattle.zc_prog.specs.Session.{CameTo, IsNoAnswer, fault_of}
use Rattle.zc_prog.proofs.EndLaws.{run_shape, run_told, run_start, run_later, run_came, run_failed, run_only, run_no_failure, only_told, failure_told, whole_first, fault_came}
use Rattle.zc_prog.proofs.session.play_on.Goals as goal

pub returns-in-Ok-clause-shape : goal.returns-in-Ok-clause-shape
returns-in-Ok-clause-shape g c =
    run_shape g.D.DiskSet.shape g.D.DiskSet.tape g.D.DiskSet.faults c.args.disks c.in-Ok.pool c.args.name.now c.args.lines c.play_pool.result.0 c.play_pool.result.1
    c.in-Ok.ensures.shape c.play_pool.ensures

pub returns-in-Ok-clause-told : goal.returns-in-Ok-clause-told
returns-in-Ok-clause-told g c =
    run_told g.D.DiskSet.shape g.D.DiskSet.tape g.D.DiskSet.faults c.args.disks c.in-Ok.pool c.args.name.now c.args.lines c.play_pool.result.0 c.play_pool.result.1
    c.in-Ok.ensures.told c.play_pool.ensures

pub returns-in-Ok-clause-began : goal.returns-in-Ok-clause-began
returns-in-Ok-clause-began g c =
    run_start g.D.DiskSet.shape g.D.DiskSet.tape g.D.DiskSet.faults c.args.disks c.in-Ok.pool c.args.name.now c.args.lines c.play_pool.result.0 c.play_pool.result.1
    c.in-Ok.ensures.told c.in-Ok.ensures.extends c.play_pool.ensures

pub returns-in-Ok-clause-came : goal.returns-in-Ok-clause-came
returns-in-Ok-clause-came g c =
    let made = c.in-Ok.ensures in
    run_came g.D.DiskSet.shape g.D.DiskSet.tape g.D.DiskSet.faults c.args.disks c.in-Ok.pool c.args.name.now c.args.lines c.play_pool.result.0 c.play_pool.result.1
    c.requires.fresh made.shape made.told made.extends made.new made.acks made.opened made.writes c.play_pool.ensures

pub returns-in-Ok-clause-failed : goal.returns-in-Ok-clause-failed
returns-in-Ok-clause-failed g c =
    run_failed g.D.DiskSet.shape g.D.DiskSet.tape g.D.DiskSet.faults c.args.disks c.in-Ok.pool c.args.name.now c.args.lines c.play_pool.result.0 c.play_pool.result.1
    c.in-Ok.ensures.later c.in-Ok.ensures.new c.play_pool.ensures

pub returns-in-Ok-clause-only : goal.returns-in-Ok-clause-only
returns-in-Ok-clause-only g c s told stands fresh = run_only c.play_pool.result.1 c.play_pool.ensures.memory

pub returns-in-Ok-clause-later : goal.returns-in-Ok-clause-later
returns-in-Ok-clause-later g c =
    run_later g.D.DiskSet.shape g.D.DiskSet.tape g.D.DiskSet.faults c.args.disks c.in-Ok.pool c.args.name.now c.args.lines c.play_pool.result.0 c.play_pool.result.1
    c.in-Ok.ensures.later c.play_pool.ensures

pub returns-in-Ok-clause-cause : goal.returns-in-Ok-clause-cause
returns-in-Ok-clause-cause g c is = absurd (run_no_failure c.play_pool.result.1 c.play_pool.ensures.memory is)

pub returns-in-Err-clause-began : goal.returns-in-Err-clause-began
returns-in-Err-clause-began g c told = (c.in-Err.ensures.extends told).start

pub returns-in-Err-clause-came : goal.returns-in-Err-clause-came
returns-in-Err-clause-came g c =
    let shape = g.D.DiskSet.shape c.args.disks in
    let u = g.D.DiskSet.tape c.in-Err.disks in
    let made = c.in-Err.ensures in
    subst (λ (fault : SessionFault). CameTo shape u c.args.name.now c.args.lines (Err fault)) (sym c.fault_of.ensures)
    (fault_came shape (g.D.DiskSet.tape c.args.disks) u c.args.name.now c.args.lines c.in-Err.fault
    c.requires.fresh made.told made.extends made.survives made.kept made.none made.damaged made.sized made.writes made.stops)

pub returns-in-Err-clause-only : goal.returns-in-Err-clause-only
returns-in-Err-clause-only g c s told stands fresh =
    subst IsNoAnswer (sym c.fault_of.ensures)
    (only_told c.in-Err.fault (c.in-Err.ensures.only s (whole_first (g.D.DiskSet.tape c.args.disks) told c.requires.fresh) stands fresh))

pub returns-in-Err-clause-cause : goal.returns-in-Err-clause-cause
returns-in-Err-clause-cause g c is =
    let told_so : fault_of c.in-Err.fault ≡ Failed = cc in
    c.in-Err.ensures.cause (failure_told c.in-Err.fault told_so)
