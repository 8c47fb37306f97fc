use Rattle.std.proofs.Common.{◌≡◌, ◌+◌, ◌*◌}
use Rattle.zc_num.specs.Words.{each}
use Rattle.zc_damage.specs.Places.{is_owned}
use Rattle.zc_next.proofs.exact.owned_places.Given as goal

-- the first places are there
abbrev pub invariant-loop-place : goal.invariant-loop-place
invariant-loop-place l = l.allocated.items ≡ each l.place (λ place. is_owned l.census.devices l.places l.census.chain l.census.reach (l.device * l.places + place))
