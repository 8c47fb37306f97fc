-- The disks have the places of the plan's writes.
use Rattle.zc_group.proofs.committing.write_next.Goals as goal

pub write_group-requires : goal.write_group-requires
write_group-requires g c = record { there = c.in-Ok.ensures.there (g.D.DiskSet.shape c.args.disks.now) c.requires.room }
