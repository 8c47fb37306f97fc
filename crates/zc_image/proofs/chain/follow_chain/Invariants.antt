use Rattle.std.proofs.Common.{◌≡◌, ◌≤◌}
use Rattle.zc_tape.specs.Crash.{reads}
use Rattle.zc_damage.specs.Places.{ChainPlaces}
use Rattle.zc_image.specs.ReadAnswers.{IsWhole}
use Rattle.zc_image.proofs.ChainSteps.{IsFollowed}
use Rattle.zc_image.proofs.chain.follow_chain.Given as goal

-- the disks are as they were, and so much of the chain was followed
abbrev pub invariant-loop-index : goal.invariant-loop-index
invariant-loop-index g l =
    (g.D.DiskSet.tape l.disks ≡ g.D.DiskSet.tape l.initial.disks)
    × (g.D.DiskSet.shape l.disks ≡ g.D.DiskSet.shape l.initial.disks)
    × (g.D.DiskSet.spare l.disks ≡ g.D.DiskSet.spare l.initial.disks)
    × (g.D.DiskSet.faults l.initial.disks ≤ g.D.DiskSet.faults l.disks)
    × (l.trail.limits ≡ l.limits)
    × ChainPlaces l.limits.devices l.limits.places l.trail.places
    × (IsWhole (g.D.DiskSet.tape l.initial.disks)
    → IsFollowed l.limits.devices l.limits.places (reads (g.D.DiskSet.tape l.initial.disks)) l.body l.index l.trail.places l.trail.bytes.items l.at)
