use Rattle.std.proofs.Common.{map, refl}
use Rattle.zc_tape.specs.DiskCall.{call_of}
use Rattle.zc_group.proofs.CreateLaws.{leaves_first, made_first, whole_first, begun_first, nothing_left}
use Rattle.zc_group.proofs.create.write_first.Goals as goal

pub returns-in-Ok-write_creation-clause-any_moment :
    goal.returns-in-Ok-write_creation-clause-any_moment
returns-in-Ok-write_creation-clause-any_moment g c =
    leaves_first (g.D.DiskSet.shape c.args.disks.now) c.args.name.now c.args.gates (g.D.DiskSet.tape c.args.disks.now) (g.D.DiskSet.tape c.write_creation.new.disks) (map call_of c.in-Ok.plan.calls.items)
    c.requires.limits c.in-Ok.ensures c.write_creation.ensures.any_moment

pub returns-in-Ok-write_creation-clause-made : goal.returns-in-Ok-write_creation-clause-made
returns-in-Ok-write_creation-clause-made g c =
    made_first (g.D.DiskSet.shape c.args.disks.now) c.args.name.now c.args.gates (g.D.DiskSet.tape c.args.disks.now) (g.D.DiskSet.tape c.write_creation.new.disks) (map call_of c.in-Ok.plan.calls.items)
    c.requires.limits c.in-Ok.ensures c.in-Ok-write_creation.ensures.made

pub returns-in-Err-NoMemory-clause-any_moment : goal.returns-in-Err-NoMemory-clause-any_moment
returns-in-Err-NoMemory-clause-any_moment g c =
    leaves_first (g.D.DiskSet.shape c.args.disks.now) c.args.name.now c.args.gates (g.D.DiskSet.tape c.args.disks.now) (g.D.DiskSet.tape c.write_creation.new.disks) (map call_of c.in-Ok.plan.calls.items)
    c.requires.limits c.in-Ok.ensures c.write_creation.ensures.any_moment

pub returns-in-Ok-clause-any_moment : goal.returns-in-Ok-clause-any_moment
returns-in-Ok-clause-any_moment g c =
    leaves_first (g.D.DiskSet.shape c.args.disks.now) c.args.name.now c.args.gates (g.D.DiskSet.tape c.args.disks.now) (g.D.DiskSet.tape c.write_creation.new.disks) (map call_of c.in-Ok.plan.calls.items)
    c.requires.limits c.in-Ok.ensures c.write_creation.ensures.any_moment

pub returns-clause-any_moment : goal.returns-clause-any_moment
returns-clause-any_moment g c nothing are = nothing_left (g.D.DiskSet.shape c.args.disks.now) c.args.name.now (g.D.DiskSet.tape c.args.disks.now) (g.D.DiskSet.tape c.args.disks.now) refl nothing

pub returns-in-Ok-write_creation-clause-written : goal.returns-in-Ok-write_creation-clause-written
returns-in-Ok-write_creation-clause-written g c =
    whole_first (g.D.DiskSet.shape c.args.disks.now) c.args.name.now c.args.gates (g.D.DiskSet.tape c.args.disks.now) (g.D.DiskSet.tape c.write_creation.new.disks) (map call_of c.in-Ok.plan.calls.items)
    c.in-Ok.ensures c.in-Ok-write_creation.ensures.ok

pub returns-in-Ok-write_creation-clause-begun : goal.returns-in-Ok-write_creation-clause-begun
returns-in-Ok-write_creation-clause-begun g c =
    begun_first (g.D.DiskSet.shape c.args.disks.now) c.args.name.now c.args.gates (g.D.DiskSet.tape c.args.disks.now) (g.D.DiskSet.tape c.write_creation.new.disks) (map call_of c.in-Ok.plan.calls.items)
    c.in-Ok.ensures c.write_creation.ensures.begun

pub returns-in-Err-NoMemory-clause-begun : goal.returns-in-Err-NoMemory-clause-begun
returns-in-Err-NoMemory-clause-begun g c =
    begun_first (g.D.DiskSet.shape c.args.disks.now) c.args.name.now c.args.gates (g.D.DiskSet.tape c.args.disks.now) (g.D.DiskSet.tape c.write_creation.new.disks) (map call_of c.in-Ok.plan.calls.items)
    c.in-Ok.ensures c.write_creation.ensures.begun

pub returns-in-Ok-clause-begun : goal.returns-in-Ok-clause-begun
returns-in-Ok-clause-begun g c =
    begun_first (g.D.DiskSet.shape c.args.disks.now) c.args.name.now c.args.gates (g.D.DiskSet.tape c.args.disks.now) (g.D.DiskSet.tape c.write_creation.new.disks) (map call_of c.in-Ok.plan.calls.items)
    c.in-Ok.ensures c.write_creation.ensures.begun
