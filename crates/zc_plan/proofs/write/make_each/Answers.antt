use Rattle.std.proofs.Common.{◌∙◌, arith}
use Rattle.zc_tape.proofs.Performed.{call_there, performed_more}
use Rattle.zc_tape.specs.DiskCall.{call_of}
use Rattle.zc_plan.proofs.CountLaws.{one_more_counted}
use Rattle.zc_plan.proofs.write.make_each.Goals as goal

pub perform_one-requires-clause-there : goal.perform_one-requires-clause-there
perform_one-requires-clause-there g c =
    rw c.loop-call.invariant.1 (call_there _ c.args.calls.now c.loop-call.call-index c.call-item.result c.requires.there (omega arith) c.call-item.is)

-- one call more
pub loop-call-preserved : goal.loop-call-preserved
loop-call-preserved g c = (
  c.perform_one.ensures.told ∙ c.loop-call.invariant.0,
  c.perform_one.ensures.shape ∙ c.loop-call.invariant.1,
  omega (arith, c.in-Ok.ensures.spare, c.loop-call.invariant.2),
  omega (arith, c.in-Ok.ensures.cause.later, c.loop-call.invariant.3),
  performed_more (g.D.DiskSet.tape c.args.disks.now) (g.D.DiskSet.tape c.loop-call.disks) (g.D.DiskSet.tape c.perform_one.new.disks) c.args.calls.now c.loop-call.call-index c.call-item.result
      (omega arith) c.call-item.is c.loop-call.invariant.4 c.in-Ok.ensures.tape,
  omega (arith, c.loop-call.invariant.5),
  one_more_counted (g.D.DiskSet.tape c.args.disks.now) (g.D.DiskSet.tape c.loop-call.disks) (g.D.DiskSet.tape c.perform_one.new.disks) (call_of c.call-item.result) _ c.loop-call.made
      c.loop-call.invariant.0 c.loop-call.invariant.6 c.in-Ok.ensures.tape,
)
