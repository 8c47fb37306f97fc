-- The first job goes to the disks, from the pool before its finish was noted.
use Rattle.std.proofs.Common.{◌∙◌, refl}
use Rattle.zc_group.specs.Counted.{IsFailed}
use Rattle.zc_open.proofs.HeardLaws.{finishes_noted, forgotten_noted}
use Rattle.zc_pool.proofs.RunningLaws.{carries_nothing, carries_written, carries_failed_at}
use Rattle.zc_pool.proofs.EventLaws.{left_alone_is, noted_room, found_before, first_noted, may_take_in, held_few, failed_from}
use Rattle.zc_pool.proofs.events.write_first.Goals as goal

pub returns-in_err-note_finish-clause-carries : goal.returns-in_err-note_finish-clause-carries
returns-in_err-note_finish-clause-carries g c =
    let tape = g.D.DiskSet.tape c.args.disks.now in
    carries_nothing (g.D.DiskSet.shape c.args.disks.now) tape tape c.args.root.now c.args.root.now c.args.kept.now c.note_finish.new.self refl refl c.in_err-note_finish.ensures.err

pub write_job-requires-clause-may : goal.write_job-requires-clause-may
write_job-requires-clause-may g c =
    (first_noted (g.D.DiskSet.shape c.args.disks.now) c.args.root.now c.args.kept.now c.note_finish.new.self c.at.result.now c.requires.pool c.in_ok-note_finish.ensures.ok c.at.ensures).may

pub finish_first-requires-clause-may : goal.finish_first-requires-clause-may
finish_first-requires-clause-may g c =
    let notes = c.in_ok-note_finish.ensures.ok in
    let first = first_noted (g.D.DiskSet.shape c.args.disks.now) c.args.root.now c.args.kept.now c.note_finish.new.self c.at.result.now c.requires.pool notes c.at.ensures in
    may_take_in c.args.root.now c.args.kept.now c.note_finish.new.self c.at.result.now c.in-Ok.done notes first c.in-Ok.ensures.told_group c.in-Ok.ensures.told_held c.in-Ok.ensures.told_placed

pub finish_first-requires-clause-held : goal.finish_first-requires-clause-held
finish_first-requires-clause-held g c =
    held_few c.args.root.now c.args.kept.now c.at.result.now c.in-Ok.done
    (first_noted (g.D.DiskSet.shape c.args.disks.now) c.args.root.now c.args.kept.now c.note_finish.new.self c.at.result.now c.requires.pool c.in_ok-note_finish.ensures.ok c.at.ensures)
    c.in-Ok.ensures.told_held

pub finish_first-requires-clause-width : goal.finish_first-requires-clause-width
finish_first-requires-clause-width g c =
    noted_room (g.D.DiskSet.shape c.args.disks.now) c.args.root.now c.args.kept.now c.note_finish.new.self c.requires.pool c.in_ok-note_finish.ensures.ok c.requires.failed c.requires.room

pub cut_short-requires-clause-width : goal.cut_short-requires-clause-width
cut_short-requires-clause-width g c =
    noted_room (g.D.DiskSet.shape c.args.disks.now) c.args.root.now c.args.kept.now c.note_finish.new.self c.requires.pool c.in_ok-note_finish.ensures.ok c.requires.failed c.requires.room

pub returns-in-Ok-clause-carries : goal.returns-in-Ok-clause-carries
returns-in-Ok-clause-carries g c =
    let written = c.in-Ok.ensures in
    let notes = c.in_ok-note_finish.ensures.ok in
    let old = c.args.kept.now in
    let noted = c.note_finish.new.self in
    let job = c.at.result.now in
    carries_written (g.D.DiskSet.shape c.args.disks.now) (g.D.DiskSet.tape c.args.disks.now) (g.D.DiskSet.tape c.write_job.new.disks) c.args.root.now c.write_job.new.root old c.finish_first.new.pool
    job c.in-Ok.made c.in-Ok.done (found_before old noted job notes c.at.ensures) c.requires.failed c.finish_first.ensures.few
    (finishes_noted old noted c.finish_first.new.pool c.in-Ok.made c.in-Ok.done notes c.finish_first.ensures.finishes)
    (record {
      extends = written.extends;
      any_moment = written.any_moment;
      done = written.done;
      tree = written.tree;
      body_group = written.body_group;
      tree_group = written.tree_group;
      limits = written.limits;
      places = written.has_places;
      counted = written.counted;
      all_made = written.all_made;
    })

pub returns-in-Err-NoMemory-clause-carries : goal.returns-in-Err-NoMemory-clause-carries
returns-in-Err-NoMemory-clause-carries g c =
    carries_nothing (g.D.DiskSet.shape c.args.disks.now) (g.D.DiskSet.tape c.args.disks.now) (g.D.DiskSet.tape c.write_job.new.disks) c.args.root.now c.write_job.new.root c.args.kept.now c.forget_finish.new.self
    (c.in-Err-NoMemory.ensures.memory cc) c.in-Err-NoMemory.ensures.kept
    (c.forget_finish.ensures ∙ forgotten_noted c.args.kept.now c.note_finish.new.self c.in_ok-note_finish.ensures.ok)

pub returns-in-Err-NoMemory-clause-memory : goal.returns-in-Err-NoMemory-clause-memory
returns-in-Err-NoMemory-clause-memory g c =
    left_alone_is (g.D.DiskSet.tape c.args.disks.now) (g.D.DiskSet.tape c.write_job.new.disks) c.args.root.now c.write_job.new.root c.args.kept.now c.forget_finish.new.self
    (c.in-Err-NoMemory.ensures.memory cc) c.in-Err-NoMemory.ensures.kept
    (c.forget_finish.ensures ∙ forgotten_noted c.args.kept.now c.note_finish.new.self c.in_ok-note_finish.ensures.ok)

pub returns-in-Err-Failed-clause-carries : goal.returns-in-Err-Failed-clause-carries
returns-in-Err-Failed-clause-carries g c =
    let made = c.in-Err-Failed.made in
    let cut = c.in-Err-Failed.ensures in
    let notes = c.in_ok-note_finish.ensures.ok in
    let old = c.args.kept.now in
    let noted = c.note_finish.new.self in
    let job = c.at.result.now in
    let failed : IsFailed c.in-Err-Failed.field-0 = rw c.in-Err-Failed.field-0-is tt in
    let counted = rw c.in-Err-Failed.field-0-is at cut.counted_failed in
    carries_failed_at (g.D.DiskSet.shape c.args.disks.now) (g.D.DiskSet.tape c.args.disks.now) (g.D.DiskSet.tape c.write_job.new.disks) c.args.root.now c.write_job.new.root old c.cut_short.new.pool
    job made (found_before old noted job notes c.at.ensures) c.requires.failed c.cut_short.ensures.few cut.kept (failed_from old noted c.cut_short.new.pool made notes c.cut_short.ensures.failed)
    (record { extends = cut.extends; any_moment = cut.any_moment; counted = counted; first_failed = cut.first_failed failed })
