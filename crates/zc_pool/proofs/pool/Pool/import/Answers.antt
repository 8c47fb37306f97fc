-- What is kept in memory is what was taken up.
use Rattle.zc_pool.proofs.OpeningLaws.{imported_new, imported_acks, imported_pool, imported_opened, begun_survives, before_writes}
use Rattle.zc_pool.proofs.pool.Pool.import.Goals as goal

pub returns-in-Ok-hold-clause-pool : goal.returns-in-Ok-hold-clause-pool
returns-in-Ok-hold-clause-pool g c =
    imported_pool (g.D.DiskSet.shape c.args.disks) c.in-Ok.imported c.in-Ok-hold.root c.in-Ok-hold.kept c.in-Ok-hold.ensures.root
    (record { taken = c.in-Ok.ensures.tree; size = c.in-Ok.ensures.size; places = c.in-Ok.ensures.places; body_group = c.in-Ok.ensures.body })
    c.in-Ok-hold.ensures.kept (g.D.DiskSet.shape c.in-Ok.disks) c.in-Ok.ensures.shape

pub returns-in-Ok-hold-clause-new : goal.returns-in-Ok-hold-clause-new
returns-in-Ok-hold-clause-new g c = imported_new c.in-Ok.imported c.in-Ok-hold.kept c.in-Ok-hold.ensures.kept

pub returns-in-Ok-hold-clause-acks : goal.returns-in-Ok-hold-clause-acks
returns-in-Ok-hold-clause-acks g c = imported_acks c.in-Ok.imported c.in-Ok-hold.kept c.in-Ok-hold.ensures.kept

pub returns-in-Ok-hold-clause-opened : goal.returns-in-Ok-hold-clause-opened
returns-in-Ok-hold-clause-opened g c told rests =
    let stood = c.in-Ok.ensures.stood told rests in
    imported_opened (g.D.DiskSet.shape c.args.disks) c.in-Ok.imported c.in-Ok-hold.root c.in-Ok-hold.kept c.in-Ok-hold.ensures.root
    (record { taken = c.in-Ok.ensures.tree; size = c.in-Ok.ensures.size; places = c.in-Ok.ensures.places; body_group = c.in-Ok.ensures.body })
    c.in-Ok-hold.ensures.kept (g.D.DiskSet.tape c.args.disks) (g.D.DiskSet.tape c.in-Ok.disks) c.in-Ok.ensures.told told rests stood.0 stood.1
    (c.in-Ok.ensures.any_moment stood.0 told rests stood.1) (c.in-Ok.ensures.made stood.0 told rests stood.1) (c.in-Ok.ensures.counted told) (c.in-Ok.ensures.all_made told)

pub returns-in-Ok-hold-clause-survives : goal.returns-in-Ok-hold-clause-survives
returns-in-Ok-hold-clause-survives g c s limits told rests stands =
    begun_survives (g.D.DiskSet.shape c.args.disks) (g.D.DiskSet.tape c.args.disks) (g.D.DiskSet.tape c.in-Ok.disks) s limits stands (c.in-Ok.ensures.any_moment s told rests stands)

pub returns-in-Err-hold-clause-survives : goal.returns-in-Err-hold-clause-survives
returns-in-Err-hold-clause-survives g c s limits told rests stands =
    begun_survives (g.D.DiskSet.shape c.args.disks) (g.D.DiskSet.tape c.args.disks) (g.D.DiskSet.tape c.in-Ok.disks) s limits stands (c.in-Ok.ensures.any_moment s told rests stands)

pub returns-in-Err-clause-survives : goal.returns-in-Err-clause-survives
returns-in-Err-clause-survives g c s limits told rests stands =
    begun_survives (g.D.DiskSet.shape c.args.disks) (g.D.DiskSet.tape c.args.disks) (g.D.DiskSet.tape c.in-Err.refused.1) s limits stands (c.in-Err.ensures.any_moment s told rests stands)

pub returns-in-Err-clause-kept : goal.returns-in-Err-clause-kept
returns-in-Err-clause-kept g c before = c.in-Err.ensures.kept (before_writes c.in-Err.refused.0 before)
