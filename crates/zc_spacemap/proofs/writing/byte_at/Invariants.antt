-- The number of the first bits, which is below their power of two.
use Rattle.std.proofs.Common.{◌≡◌, ◌^◌, ◌<◌, take, drop}
use Rattle.zc_spacemap.specs.MapBytes.{number_of, kept_places}
use Rattle.zc_spacemap.proofs.writing.byte_at.Given as goal

abbrev pub invariant-loop-bit : goal.invariant-loop-bit
invariant-loop-bit g l = record {
  number : l.byte ≡ number_of (take l.bit (drop l.from (kept_places (g.M.SpaceMap.states l.map))));
  below : l.byte < 2 ^ l.bit;
}
