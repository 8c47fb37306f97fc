use Rattle.zc_prog.proofs.CreatedLaws.{looked_as}
use Rattle.zc_prog.proofs.making.look_at.Goals as goal

pub returns-clause-made : goal.returns-clause-made
returns-clause-made g c shape other =
    let disks = c.args.disks in
    let after = c.has_root-found.new.disks in
    let found = c.has_root-found in
    looked_as c.args.name.now (g.H.Disk.DiskSet.shape after) (g.H.Disk.DiskSet.tape disks) (g.H.Disk.DiskSet.tape after) c.requires.fresh.calls found.ensures.tape
    shape (g.H.Disk.DiskSet.shape disks) (g.H.Shelf.faults c.args.shelf.now) (g.H.Shelf.faults c.give.new.self) (g.H.Shelf.stock c.args.shelf.now) (g.H.Shelf.stock c.give.new.self)
    c.give.result found.result c.ended_by_look.result found.ensures.shape other c.ended_by_look.ensures c.give.ensures.handed found.ensures.is found.ensures.only
