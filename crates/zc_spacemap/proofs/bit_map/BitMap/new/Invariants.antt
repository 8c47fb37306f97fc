-- As many free places as rounds.
use Rattle.std.proofs.Common.{◌≡◌, replicate}
use Rattle.zc_spacemap.specs.declared.state.PlaceState.TheVariants.{Free}
use Rattle.zc_spacemap.proofs.bit_map.BitMap.new.Given as goal

abbrev pub invariant-loop : goal.invariant-loop
invariant-loop l = l.states.items ≡ replicate l.counter Free
