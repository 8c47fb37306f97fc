use Rattle.std.specs.Prelude.{is_ok}
use Rattle.zc_prog.proofs.Outcome.{played_as, failed_as, stopped_as}
use Rattle.zc_prog.proofs.pooled.play_taken.Goals as goal

pub returns-clause-played : goal.returns-clause-played
returns-clause-played g c =
    let shape = g.H.Disk.DiskSet.shape in
    let faults = g.H.Disk.DiskSet.faults in
    let disks = c.args.disks in
    let used = c.play_on-disks.result.0 in
    played_as c.args.name.now c.args.lines (shape disks) (shape used) (g.H.Disk.DiskSet.tape used) c.play_on-disks.ensures.shape
    (g.H.Shelf.faults c.args.shelf.now) (g.H.Shelf.faults c.give.new.self) (faults disks) (faults used) (g.H.Shelf.stock c.args.shelf.now) (g.H.Shelf.stock c.give.new.self)
    c.give.result c.play_on-disks.result.1 c.ended_of.result
    (rw c.is_ok-given.ensures.value at c.ended_of.ensures) c.give.ensures.handed (rw c.bytes.ensures at c.play_on-disks.ensures.came) c.play_on-disks.ensures.failed
    c.requires.fresh.faults_none c.give.ensures.disk_faults c.give.ensures.cause

pub returns-clause-failed : goal.returns-clause-failed
returns-clause-failed g c =
    let faults = g.H.Disk.DiskSet.faults in
    failed_as (g.H.Shelf.faults c.args.shelf.now) (g.H.Shelf.faults c.give.new.self) (faults c.args.disks) (faults c.play_on-disks.result.0) _ c.play_on-disks.result.1 c.ended_of.result
    c.ended_of.ensures c.requires.fresh.faults_none c.play_on-disks.ensures.cause c.give.ensures.disk_faults

pub returns-clause-stopped : goal.returns-clause-stopped
returns-clause-stopped g c =
    let shape = g.H.Disk.DiskSet.shape in
    let used = c.play_on-disks.result.0 in
    stopped_as c.args.name.now c.args.lines (shape c.args.disks) (shape used) (g.H.Disk.DiskSet.tape used) c.play_on-disks.ensures.shape
    (g.H.Shelf.stock c.args.shelf.now) (g.H.Shelf.stock c.give.new.self) (is_ok c.give.result) c.play_on-disks.result.1 c.give.ensures.handed (rw c.bytes.ensures at c.play_on-disks.ensures.came)
