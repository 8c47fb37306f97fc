use Rattle.std.specs.Prelude.{is_ok}
use Rattle.zc_prog.proofs.CreatedLaws.{made_as, make_failed, creates_as}
use Rattle.zc_prog.proofs.making.make_on.Goals as goal

pub returns-clause-made : goal.returns-clause-made
returns-clause-made g c =
    let shape = g.H.Disk.DiskSet.shape in
    let tape = g.H.Disk.DiskSet.tape in
    let disks = c.args.disks in
    let used = c.create_on-disks.result.0 in
    let does = c.create_on-disks.ensures in
    made_as c.args.name.now (shape disks) (shape used) (tape disks) (tape used) c.requires.fresh.calls does.shape does.told
    (g.H.Shelf.faults c.args.shelf.now) (g.H.Shelf.faults c.give.new.self) (g.H.Shelf.stock c.args.shelf.now) (g.H.Shelf.stock c.give.new.self)
    c.give.result c.create_on-disks.result.1 c.ended_of.result c.requires.limits
    (rw c.is_ok-given.ensures.value at c.ended_of.ensures) c.give.ensures.handed
    (record { began = does.began; any_moment = does.any_moment; made = does.made; none = does.none; exists = does.exists; kept = does.kept; rooted = does.rooted; written = does.written; begun = does.begun; stops = does.stops })
    c.give.ensures.cause

pub returns-clause-failed : goal.returns-clause-failed
returns-clause-failed g c =
    let faults = g.H.Disk.DiskSet.faults in
    make_failed (g.H.Shelf.faults c.args.shelf.now) (g.H.Shelf.faults c.give.new.self) (faults c.args.disks) (faults c.create_on-disks.result.0) _ c.create_on-disks.result.1 c.ended_of.result
    c.ended_of.ensures c.requires.fresh.faults_none c.create_on-disks.ensures.cause c.give.ensures.disk_faults

pub returns-clause-whole : goal.returns-clause-whole
returns-clause-whole g c =
    let shape = g.H.Disk.DiskSet.shape in
    let tape = g.H.Disk.DiskSet.tape in
    let disks = c.args.disks in
    let used = c.create_on-disks.result.0 in
    let does = c.create_on-disks.ensures in
    creates_as c.args.name.now (shape disks) (shape used) (tape disks) (tape used) c.requires.fresh.calls does.shape does.told
    (g.H.Shelf.stock c.args.shelf.now) (g.H.Shelf.stock c.give.new.self) (is_ok c.give.result) c.create_on-disks.result.1 c.give.ensures.handed
    (record { began = does.began; any_moment = does.any_moment; made = does.made; none = does.none; exists = does.exists; kept = does.kept; rooted = does.rooted; written = does.written; begun = does.begun; stops = does.stops })
