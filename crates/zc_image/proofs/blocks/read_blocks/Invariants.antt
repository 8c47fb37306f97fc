use Rattle.std.proofs.Common.{◌≡◌, ◌≤◌}
use Rattle.zc_tape.specs.Crash.{reads}
use Rattle.zc_damage.specs.Places.{numbers_of}
use Rattle.zc_image.specs.ReadAnswers.{IsWhole}
use Rattle.zc_image.specs.Gathering.{IsRisingTo, AreBlocksBelow}
use Rattle.zc_image.proofs.BlockSteps.{AreGathered}
use Rattle.zc_image.proofs.blocks.read_blocks.Given as goal

-- the disks are as they were, and the blocks of so many places were read
abbrev pub invariant-loop-number : goal.invariant-loop-number
invariant-loop-number g l =
    (g.D.DiskSet.tape l.disks ≡ g.D.DiskSet.tape l.initial.disks)
    × (g.D.DiskSet.shape l.disks ≡ g.D.DiskSet.shape l.initial.disks)
    × (g.D.DiskSet.spare l.disks ≡ g.D.DiskSet.spare l.initial.disks)
    × (g.D.DiskSet.faults l.initial.disks ≤ g.D.DiskSet.faults l.disks)
    × IsRisingTo l.number (numbers_of l.limits.places l.blocks)
    × (IsWhole (g.D.DiskSet.tape l.initial.disks) → AreGathered l.limits.devices l.limits.places (reads (g.D.DiskSet.tape l.initial.disks)) l.census.reach l.number l.blocks)
    × AreBlocksBelow l.limits.places l.census.reach l.number l.blocks
