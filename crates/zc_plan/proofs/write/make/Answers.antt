-- The calls begin where room was made for them.
use Rattle.std.proofs.Common.{true, false, map}
use Rattle.zc_tape.specs.DiskCall.{call_of}
use Rattle.zc_plan.proofs.CountLaws.{all_made, all_but_last}
use Rattle.zc_plan.proofs.CrashClauses.{begun_from}
use Rattle.zc_plan.proofs.write.make.Goals as goal

pub returns-in-Ok-make_each-clause-begun : goal.returns-in-Ok-make_each-clause-begun
returns-in-Ok-make_each-clause-begun g c =
    begun_from (g.D.DiskSet.tape c.args.disks.now) (g.D.DiskSet.tape c.ready.new.self) (g.D.DiskSet.tape c.make_each.new.disks) (map call_of c.args.plan.now.calls.items) true
    c.ready.ensures.tape (rw c.as_slice.ensures.value at c.in-Ok-make_each.ensures.played)

pub returns-in-Ok-make_each-clause-all_made : goal.returns-in-Ok-make_each-clause-all_made
returns-in-Ok-make_each-clause-all_made g c told =
    all_made (g.D.DiskSet.tape c.args.disks.now) (g.D.DiskSet.tape c.ready.new.self) (g.D.DiskSet.tape c.make_each.new.disks) (map call_of c.args.plan.now.calls.items)
    c.ready.ensures.tape told (rw c.as_slice.ensures.value at c.in-Ok-make_each.ensures.played)

pub returns-in-Err-make_each-clause-begun : goal.returns-in-Err-make_each-clause-begun
returns-in-Err-make_each-clause-begun g c =
    begun_from (g.D.DiskSet.tape c.args.disks.now) (g.D.DiskSet.tape c.ready.new.self) (g.D.DiskSet.tape c.make_each.new.disks) (map call_of c.args.plan.now.calls.items) false
    c.ready.ensures.tape (rw c.as_slice.ensures.value at c.in-Err-make_each.ensures.played)

pub returns-in-Err-make_each-clause-first_failed : goal.returns-in-Err-make_each-clause-first_failed
returns-in-Err-make_each-clause-first_failed g c _ told =
    all_but_last (g.D.DiskSet.tape c.args.disks.now) (g.D.DiskSet.tape c.ready.new.self) (g.D.DiskSet.tape c.make_each.new.disks) (map call_of c.args.plan.now.calls.items)
    c.ready.ensures.tape told (rw c.as_slice.ensures.value at c.in-Err-make_each.ensures.played)
