use Rattle.std.proofs.Common.{◌≡◌, map}
use Rattle.zc_state.specs.State.{place_at}
use Rattle.zc_group.specs.Chosen.{free_below}
use Rattle.zc_group.proofs.choosing.choose.Given as goal

-- the first of the places so far
abbrev pub invariant-loop-number : goal.invariant-loop-number
invariant-loop-number l = l.chosen ≡ map (place_at l.census.places) (free_below l.census.devices l.census.places l.census.chain l.census.reach l.count l.number)
