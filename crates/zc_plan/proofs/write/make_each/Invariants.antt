use Rattle.std.proofs.Common.{◌≡◌, ◌+◌, ◌≤◌, length, map, take, true, IsTrue}
use Rattle.zc_tape.specs.DiskCall.{call_of}
use Rattle.zc_tape.specs.Plays.{Played}
use Rattle.zc_plan.proofs.write.make_each.Given as goal

abbrev pub invariant-loop-call : goal.invariant-loop-call
invariant-loop-call g l =
    ((g.D.DiskSet.tape l.disks).told ≡ (g.D.DiskSet.tape l.initial.disks).told)
    × (g.D.DiskSet.shape l.disks ≡ g.D.DiskSet.shape l.initial.disks)
    × (g.D.DiskSet.spare l.initial.disks ≤ g.D.DiskSet.spare l.disks + l.call-index)
    × (g.D.DiskSet.faults l.initial.disks ≤ g.D.DiskSet.faults l.disks)
    × Played (g.D.DiskSet.tape l.initial.disks) (map call_of (take l.call-index l.calls)) (g.D.DiskSet.tape l.disks) true
    × (l.made ≡ l.call-index)
    × (IsTrue (g.D.DiskSet.tape l.initial.disks).told → length (g.D.DiskSet.tape l.disks).calls ≡ length (g.D.DiskSet.tape l.initial.disks).calls + l.made)
