use Rattle.std.proofs.Common.{◌≡◌, take}
use Rattle.std.specs.Prelude.{sum_by}
use Rattle.zc_heart.specs.declared.pool_core.WaitingGroup.{WaitingGroup}
use Rattle.zc_heart.proofs.room.made_waiting.Given as goal

-- the groups so far are summed
abbrev pub invariant-loop-k : goal.invariant-loop-k
invariant-loop-k l = l.made ≡ sum_by (λ (one : WaitingGroup). one.made) (take l.k l.core.waiting)
