use Rattle.std.proofs.Common.{◌≡◌, drop}
use Rattle.zc_damage.specs.Words.{first_of}
use Rattle.zc_damage.specs.Checks.{birth_hit, birth_hit_at}
use Rattle.zc_damage.proofs.early.birth_hit.Given as goal

-- the pointers so far are passed by
abbrev pub invariant-loop-ptr : goal.invariant-loop-ptr
invariant-loop-ptr l = first_of (birth_hit_at l.group) (drop l.ptr-index l.reach) ≡ birth_hit l.group l.reach
