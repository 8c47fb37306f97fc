-- All of the stored places are looked at, and none is given.
use Rattle.std.proofs.Common.{◌∙◌, map, count_by, refl, sym, ap, arith}
use Rattle.std.proofs.lemmas.List.{take_all}
use Rattle.zc_spacemap.specs.States.{is_free, state_of}
use Rattle.zc_spacemap.proofs.SoundLaws.{stored_sound, sound_as}
use Rattle.zc_spacemap.proofs.bit_map.BitMap.of.Goals as goal

pub invariant_of-result : goal.invariant_of-result
invariant_of-result c =
    let allocated = c.as_slice-allocated.result.now in
    let all = ap (map state_of) (take_all c.loop-is_allocated.is_allocated-index allocated (omega arith)) in
    record {
      sound = sound_as (map state_of allocated) _ c.loop-is_allocated.free _ _ _
          (stored_sound allocated c.loop-is_allocated.free (omega arith) (c.loop-is_allocated.invariant.counted ∙ ap (count_by is_free) all))
          (sym (c.loop-is_allocated.invariant.states ∙ all)) refl (sym c.new.ensures.items);
    }
