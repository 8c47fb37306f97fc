use Rattle.zc_group.proofs.CreateLaws.{nothing_left}
use Rattle.zc_group.proofs.create.make_over.Goals as goal

pub returns-in-Err-clause-any_moment : goal.returns-in-Err-clause-any_moment
returns-in-Err-clause-any_moment g c = nothing_left (g.D.DiskSet.shape c.args.disks.now) c.args.name.now (g.D.DiskSet.tape c.args.disks.now) (g.D.DiskSet.tape c.read_gates.new.disks) c.read_gates.ensures.tape
