-- The given places are free, and none is given any more.
use Rattle.std.proofs.Common.{◌∙◌, ◌+◌, [], length, sym, arith}
use Rattle.zc_spacemap.specs.Sound.{freed}
use Rattle.zc_spacemap.proofs.SoundLaws.{given_within, settled_sound, sound_as, written_over}
use Rattle.zc_spacemap.proofs.bit_map.BitMapSpaceMap.settle.Goals as goal

pub free_each-requires : goal.free_each-requires
free_each-requires c =
    rw (c.deref.ensures.value, c.deref_mut.ensures.value) (given_within c.args.self.now.states.items c.args.self.now.given.items c.args.self.now.sound.given_there)

pub invariant_of-self : goal.invariant_of-self
invariant_of-self c =
    let map = c.args.self.now in
    let all = c.free_each.ensures ∙ (λ i. freed (c.deref.ensures.value i) (c.deref_mut.ensures.value i)) in
    record {
      sound = sound_as (freed map.given.items map.states.items) _ (map.free + length map.given.items) _ [] _
          (settled_sound map.states.items map.free map.given.items map.sound)
          (sym (written_over map.states.items c.free_each.new.states map.states.len (omega arith) (omega arith) ∙ all))
          (omega (arith, c.len.ensures)) (sym c.clear.ensures.items);
    }
