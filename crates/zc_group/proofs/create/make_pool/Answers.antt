use Rattle.zc_group.proofs.CreateLaws.{nothing_left}
use Rattle.zc_group.proofs.create.make_pool.Goals as goal

pub returns-in-Err-Failed-clause-any_moment : goal.returns-in-Err-Failed-clause-any_moment
returns-in-Err-Failed-clause-any_moment g c = nothing_left (g.D.DiskSet.shape c.args.disks.now) c.args.name.now (g.D.DiskSet.tape c.args.disks.now) (g.D.DiskSet.tape c.read_slots.new.disks) c.read_slots.ensures.tape
