use Rattle.std.proofs.Common.{◌≡◌, ◌-◌}
use Rattle.zc_damage.specs.Words.{first_from}
use Rattle.zc_damage.specs.Checks.{count_hit, count_hit_at}
use Rattle.zc_damage.proofs.late.count_hit.Given as goal

-- the places so far are passed by
abbrev pub invariant-loop-number : goal.invariant-loop-number
invariant-loop-number l = first_from (count_hit_at l.census.places l.tables l.census.reach) l.number (l.number-end - l.number) ≡ count_hit l.census.devices l.census.places l.tables l.census.reach
