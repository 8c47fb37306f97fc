use Rattle.std.proofs.Common.{◌≡◌, ◌-◌}
use Rattle.zc_damage.specs.Words.{first_from}
use Rattle.zc_damage.specs.Checks.{region_hit, region_hit_at}
use Rattle.zc_damage.proofs.late.region_hit.Given as goal

-- the regions so far are passed by
abbrev pub invariant-loop-region : goal.invariant-loop-region
invariant-loop-region l = first_from (region_hit_at l.census.places l.tables l.census.reach) l.region (l.region-end - l.region) ≡ region_hit l.census.devices l.census.places l.tables l.census.reach
