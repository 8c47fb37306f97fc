use Rattle.std.proofs.Common.{◌≡◌, ◌≤◌, count_by}
use Rattle.std.specs.List.{range_with_len}
use Rattle.zc_damage.specs.Places.{is_reached}
use Rattle.zc_damage.proofs.late.reached_places.Given as goal

-- the reached among the first places
abbrev pub invariant-loop-number : goal.invariant-loop-number
invariant-loop-number l = record {
  counted : l.reached ≡ count_by (is_reached l.census.places l.census.reach) (range_with_len 0 l.number);
  bounded : l.reached ≤ l.number;
}
