-- An event goes on from the pool as it was.
use Rattle.zc_prog.proofs.GoesLaws.{left_as_before, event_goes}
use Rattle.zc_prog.proofs.playing.make.Goals as goal

pub returns-clause-goes : goal.returns-clause-goes
returns-clause-goes g c =
    let tape = g.D.DiskSet.tape in
    let old = c.args.pool.now in
    let new = c.event.new.self in
    let made = c.event.ensures in
    event_goes g.D.DiskSet.shape tape g.D.DiskSet.faults old new c.args.event c.event.result c.requires.exact made.answers
    (left_as_before (tape old.disks) (tape new.disks) old.root new.root old.kept new.kept c.event.result made.memory)
    made.goes_on made.acks made.shape made.told made.extends made.later made.cause

pub returns-clause-memory : goal.returns-clause-memory
returns-clause-memory g c =
    let tape = g.D.DiskSet.tape in
    let old = c.args.pool.now in
    let new = c.event.new.self in
    left_as_before (tape old.disks) (tape new.disks) old.root new.root old.kept new.kept c.event.result c.event.ensures.memory
