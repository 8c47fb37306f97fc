use Rattle.std.proofs.Common.{◌≡◌, ◌-◌}
use Rattle.zc_damage.specs.Words.{first_from}
use Rattle.zc_damage.specs.Checks.{map_hit, map_hit_at}
use Rattle.zc_damage.proofs.late.map_hit.Given as goal

-- the places so far are passed by
abbrev pub invariant-loop-number : goal.invariant-loop-number
invariant-loop-number l =
    first_from (map_hit_at l.census.devices l.census.places l.maps l.census.chain l.census.reach) l.number (l.number-end - l.number) ≡ map_hit l.census.devices l.census.places l.maps l.census.chain l.census.reach
