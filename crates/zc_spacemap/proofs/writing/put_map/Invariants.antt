-- The first bytes of the map stand after what was there, and the rest has its room.
use Rattle.std.proofs.Common.{◌≡◌, ◌+◌, ◌-◌, ◌≤◌, ◌++◌, vec_len, vec_capacity}
use Rattle.zc_num.specs.Words.{each}
use Rattle.zc_spacemap.specs.MapBytes.{map_byte, kept_places}
use Rattle.zc_spacemap.proofs.writing.put_map.Given as goal

abbrev pub invariant-loop-index : goal.invariant-loop-index
invariant-loop-index g l = record {
  put : l.out.items ≡ l.initial.out.items ++ each l.index (map_byte (kept_places (g.M.SpaceMap.states l.map)));
  room : vec_len l.out + (l.index-end - l.index) ≤ vec_capacity l.out;
}
