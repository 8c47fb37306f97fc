-- What was read after the root that was chosen.
use Rattle.zc_image.proofs.PoolLaws.{whole_roots, after_here, exact_of, sound_of, only_of}
use Rattle.zc_image.proofs.reading.read_pool.Goals as goal

pub returns-in-Ok-clause-exact : goal.returns-in-Ok-clause-exact
returns-in-Ok-clause-exact g c =
    exact_of (g.D.DiskSet.tape c.args.disks.now) (g.D.DiskSet.shape c.args.disks.now) c.in-Ok.root.0 c.read_after.result (λ whole. (c.in-Ok.ensures.found whole.told (whole_roots (g.D.DiskSet.tape c.args.disks.now) whole)).0)
    (after_here (g.D.DiskSet.tape c.args.disks.now) (g.D.DiskSet.tape c.read_slots.new.disks) (g.D.DiskSet.shape c.args.disks.now) (g.D.DiskSet.shape c.read_slots.new.disks) c.in-Ok.root.0 c.read_after.result c.in-Ok.ensures.tape c.in-Ok.ensures.shape
    (record { exact = c.read_after.ensures.exact; body_is = c.read_after.ensures.body; blocks = c.read_after.ensures.whole }))

pub returns-in-Ok-clause-sound : goal.returns-in-Ok-clause-sound
returns-in-Ok-clause-sound g c =
    sound_of (g.D.DiskSet.tape c.args.disks.now) (g.D.DiskSet.shape c.args.disks.now) c.in-Ok.root.0 c.read_after.result c.in-Ok.ensures.limits (λ whole. (c.in-Ok.ensures.found whole.told (whole_roots (g.D.DiskSet.tape c.args.disks.now) whole)).0)
    (after_here (g.D.DiskSet.tape c.args.disks.now) (g.D.DiskSet.tape c.read_slots.new.disks) (g.D.DiskSet.shape c.args.disks.now) (g.D.DiskSet.shape c.read_slots.new.disks) c.in-Ok.root.0 c.read_after.result c.in-Ok.ensures.tape c.in-Ok.ensures.shape
    (record { exact = c.read_after.ensures.exact; body_is = c.read_after.ensures.body; blocks = c.read_after.ensures.whole }))

pub returns-in-Ok-clause-only : goal.returns-in-Ok-clause-only
returns-in-Ok-clause-only g c =
    only_of (g.D.DiskSet.tape c.args.disks.now) (g.D.DiskSet.shape c.args.disks.now) c.in-Ok.root.0 c.read_after.result (λ whole. (c.in-Ok.ensures.found whole.told (whole_roots (g.D.DiskSet.tape c.args.disks.now) whole)).0)
    (after_here (g.D.DiskSet.tape c.args.disks.now) (g.D.DiskSet.tape c.read_slots.new.disks) (g.D.DiskSet.shape c.args.disks.now) (g.D.DiskSet.shape c.read_slots.new.disks) c.in-Ok.root.0 c.read_after.result c.in-Ok.ensures.tape c.in-Ok.ensures.shape
    (record { exact = c.read_after.ensures.exact; body_is = c.read_after.ensures.body; blocks = c.read_after.ensures.whole }))
