-- The first of the places are free.
use Rattle.std.proofs.Common.{◌≡◌, take}
use Rattle.zc_spacemap.specs.Sound.{freed}
use Rattle.zc_spacemap.proofs.bit_map.free_each.Given as goal

abbrev pub invariant-loop-place : goal.invariant-loop-place
invariant-loop-place l = l.states ≡ freed (take l.place-index l.places) l.initial.states
