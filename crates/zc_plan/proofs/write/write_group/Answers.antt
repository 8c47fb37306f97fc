-- The laws of a group, of the calls that were made.
use Rattle.std.proofs.Common.{map}
use Rattle.std.proofs.lemmas.Result.{on_ok_weaker}
use Rattle.zc_tape.specs.DiskCall.{call_of}
use Rattle.zc_plan.proofs.CrashClauses.{group_leaves, group_leaves_elsewhere, group_made}
use Rattle.zc_plan.proofs.write.write_group.Goals as goal

pub returns-clause-any_moment : goal.returns-clause-any_moment
returns-clause-any_moment g c old new puts gate_open =
    group_leaves (g.D.DiskSet.tape c.args.disks.now) (g.D.DiskSet.tape c.make.new.disks) (map call_of c.args.plan.now.calls.items) old new puts gate_open c.make.ensures.begun

pub returns-clause-elsewhere : goal.returns-clause-elsewhere
returns-clause-elsewhere g c old new puts gate_open =
    group_leaves_elsewhere (g.D.DiskSet.tape c.args.disks.now) (g.D.DiskSet.tape c.make.new.disks) (map call_of c.args.plan.now.calls.items) old new puts gate_open c.make.ensures.begun

pub returns-clause-made : goal.returns-clause-made
returns-clause-made g c =
    on_ok_weaker c.make.result
    (λ played old new puts gate_open. group_made (g.D.DiskSet.tape c.args.disks.now) (g.D.DiskSet.tape c.make.new.disks) (map call_of c.args.plan.now.calls.items) old new puts gate_open played)
    c.make.ensures.ok
