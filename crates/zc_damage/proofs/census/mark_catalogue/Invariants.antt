use Rattle.std.proofs.Common.{◌≡◌, [], take, List}
use Rattle.zc_blkptr.specs.declared.ptr.Ptr.{Ptr}
use Rattle.zc_damage.specs.Census.{uses_of}
use Rattle.zc_damage.proofs.census.mark_catalogue.Given as goal

-- the places of the catalogue so far are marked
abbrev pub invariant-loop-at : goal.invariant-loop-at
invariant-loop-at l = (reach : List Ptr) → l.fn.uses ≡ uses_of l.limits.devices l.limits.places reach [] → l.uses ≡ uses_of l.limits.devices l.limits.places reach (take l.at-index l.chain)
