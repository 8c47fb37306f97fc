-- A commit may have the tree and the blocks of a job that is ready, and what it leaves is what the job may leave.
use Rattle.std.proofs.Common.{map}
use Rattle.zc_group.specs.Committed.{found_of}
use Rattle.zc_lane.proofs.ReadyLaws.{leaves_unwritten, places_there, placed_counted, datasets_of_ready, tree_of_ready, leaves_of_ready, done_of_ready}
use Rattle.zc_lane.proofs.writing.write_job.Goals as goal

pub commit-requires-clause-few : goal.commit-requires-clause-few
commit-requires-clause-few g c =
    (datasets_of_ready c.args.root.now c.args.job.now c.in-Ok.field-0.tree (map found_of c.in-Ok.field-0.new) c.in-Ok.field-0.placed c.in-Ok.ensures.ready
    c.requires.next c.in-Ok.ensures.width c.requires.may).few

pub commit-requires-clause-datasets : goal.commit-requires-clause-datasets
commit-requires-clause-datasets g c =
    (datasets_of_ready c.args.root.now c.args.job.now c.in-Ok.field-0.tree (map found_of c.in-Ok.field-0.new) c.in-Ok.field-0.placed c.in-Ok.ensures.ready
    c.requires.next c.in-Ok.ensures.width c.requires.may).datasets

pub commit-requires-clause-there : goal.commit-requires-clause-there
commit-requires-clause-there g c =
    places_there c.args.root.now c.args.job.now c.in-Ok.field-0.tree (map found_of c.in-Ok.field-0.new) c.in-Ok.field-0.placed c.in-Ok.ensures.ready

pub returns-in-Ok-commit-clause-any_moment : goal.returns-in-Ok-commit-clause-any_moment
returns-in-Ok-commit-clause-any_moment g c =
    leaves_of_ready c.args.root.now c.args.job.now c.in-Ok.field-0.tree (map found_of c.in-Ok.field-0.new) c.in-Ok.field-0.placed c.in-Ok.ensures.ready
    c.requires.next c.in-Ok.ensures.width (g.D.DiskSet.shape c.args.disks.now) (g.D.DiskSet.tape c.args.disks.now) (g.D.DiskSet.tape c.commit.new.disks) c.commit.ensures.any_moment

pub returns-in-Ok-commit-clause-done : goal.returns-in-Ok-commit-clause-done
returns-in-Ok-commit-clause-done g c =
    done_of_ready c.args.root.now c.args.job.now c.in-Ok.field-0.tree (map found_of c.in-Ok.field-0.new) c.in-Ok.field-0.placed c.in-Ok.ensures.ready
    c.requires.next c.in-Ok.ensures.width (g.D.DiskSet.shape c.args.disks.now) (g.D.DiskSet.tape c.args.disks.now) (g.D.DiskSet.tape c.commit.new.disks) c.commit.new.root c.commit.ensures.told c.in-Ok-commit.ensures.made

pub returns-in-Ok-commit-clause-tree : goal.returns-in-Ok-commit-clause-tree
returns-in-Ok-commit-clause-tree g c =
    tree_of_ready c.args.root.now c.args.job.now c.in-Ok.field-0.tree (map found_of c.in-Ok.field-0.new) c.in-Ok.field-0.placed c.in-Ok.ensures.ready
    c.requires.next c.in-Ok.ensures.width c.commit.new.root c.commit.ensures.limits c.in-Ok-commit.ensures.tree

pub returns-in-Ok-commit-clause-told_placed : goal.returns-in-Ok-commit-clause-told_placed
returns-in-Ok-commit-clause-told_placed g c =
    placed_counted c.args.root.now c.args.job.now c.in-Ok.field-0.tree (map found_of c.in-Ok.field-0.new) c.in-Ok.field-0.placed c.in-Ok.ensures.ready

pub returns-in-Err-commit-clause-any_moment : goal.returns-in-Err-commit-clause-any_moment
returns-in-Err-commit-clause-any_moment g c =
    leaves_of_ready c.args.root.now c.args.job.now c.in-Ok.field-0.tree (map found_of c.in-Ok.field-0.new) c.in-Ok.field-0.placed c.in-Ok.ensures.ready
    c.requires.next c.in-Ok.ensures.width (g.D.DiskSet.shape c.args.disks.now) (g.D.DiskSet.tape c.args.disks.now) (g.D.DiskSet.tape c.commit.new.disks) c.commit.ensures.any_moment

pub returns-in-Err-clause-any_moment : goal.returns-in-Err-clause-any_moment
returns-in-Err-clause-any_moment g c s from to rooted base leads =
    leaves_unwritten (g.D.DiskSet.shape c.args.disks.now) (g.D.DiskSet.tape c.args.disks.now) s c.args.root.now from to rooted
