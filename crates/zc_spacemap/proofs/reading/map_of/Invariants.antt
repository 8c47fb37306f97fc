-- The first places are read.
use Rattle.std.proofs.Common.{◌≡◌}
use Rattle.zc_num.specs.Words.{each}
use Rattle.zc_spacemap.specs.MapBytes.{is_marked}
use Rattle.zc_spacemap.proofs.reading.map_of.Given as goal

abbrev pub invariant-loop-place : goal.invariant-loop-place
invariant-loop-place l = l.allocated.items ≡ each l.place (is_marked l.bytes)
