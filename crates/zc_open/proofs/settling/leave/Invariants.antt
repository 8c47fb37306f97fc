use Rattle.std.proofs.Common.{◌≡◌, length}
use Rattle.zc_open.specs.Events.{without_waiting}
use Rattle.zc_open.proofs.settling.leave.Given as goal

abbrev pub invariant-loop-place : goal.invariant-loop-place
invariant-loop-place l = without_waiting l.session l.waits ≡ without_waiting l.session l.initial.waits

abbrev pub decreases-loop-place : goal.decreases-loop-place
decreases-loop-place l = length l.waits
