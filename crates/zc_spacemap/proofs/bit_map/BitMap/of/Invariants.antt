-- The states of the first places, and how many of them are free.
use Rattle.std.proofs.Common.{◌≡◌, ◌≤◌, map, take, count_by}
use Rattle.zc_spacemap.specs.States.{is_free, state_of}
use Rattle.zc_spacemap.proofs.bit_map.BitMap.of.Given as goal

abbrev pub invariant-loop-is_allocated : goal.invariant-loop-is_allocated
invariant-loop-is_allocated l = record {
  states : l.states.items ≡ map state_of (take l.is_allocated-index l.allocated);
  counted : l.free ≡ count_by is_free (map state_of (take l.is_allocated-index l.allocated));
  within : l.free ≤ l.is_allocated-index;
}
