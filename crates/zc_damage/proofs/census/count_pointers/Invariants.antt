use Rattle.std.proofs.Common.{◌≡◌, [], take}
use Rattle.zc_damage.specs.Census.{uses_of}
use Rattle.zc_damage.proofs.census.count_pointers.Given as goal

-- the pointers so far are counted
abbrev pub invariant-loop-ptr : goal.invariant-loop-ptr
invariant-loop-ptr l = l.uses ≡ uses_of l.limits.devices l.limits.places (take l.ptr-index l.reach) []
