use Rattle.std.proofs.Common.{◌≡◌, ◌-◌}
use Rattle.zc_damage.specs.Words.{first_from}
use Rattle.zc_damage.specs.Checks.{owner_hit, owner_hit_at}
use Rattle.zc_damage.proofs.early.owner_hit.Given as goal

-- the places so far are passed by
abbrev pub invariant-loop-number : goal.invariant-loop-number
invariant-loop-number l =
    first_from (owner_hit_at l.census.places l.census.chain l.census.reach) l.number (l.number-end - l.number) ≡ owner_hit l.census.devices l.census.places l.census.chain l.census.reach
