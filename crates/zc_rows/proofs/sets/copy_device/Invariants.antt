-- The set that is copied to keeps its calls.
use Rattle.std.proofs.Common.{◌≡◌}
use Rattle.zc_tape.specs.Memory.{tape_of}
use Rattle.zc_rows.proofs.sets.copy_device.Given as goal

abbrev pub invariant-loop-place : goal.invariant-loop-place
invariant-loop-place l = (tape_of l.to).calls ≡ (tape_of l.initial.to).calls
