use Rattle.std.proofs.Common.{◌≡◌, map}
use Rattle.zc_num.specs.Words.{each}
use Rattle.zc_spacemap.specs.MapStates.{states_of}
use Rattle.zc_next.proofs.ExactMaps.{states_on}
use Rattle.zc_next.proofs.exact.exact_maps.Given as goal

-- the maps of the first devices are there
abbrev pub invariant-loop-device : goal.invariant-loop-device
invariant-loop-device l = map states_of l.maps ≡ each l.device (λ device. states_on l.census.devices l.census.places device l.census.chain l.census.reach)
