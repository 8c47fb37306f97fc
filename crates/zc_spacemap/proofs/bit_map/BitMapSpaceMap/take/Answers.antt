-- One free place is allocated.
use Rattle.zc_spacemap.proofs.SoundLaws.{taken_sound}
use Rattle.zc_spacemap.proofs.bit_map.BitMapSpaceMap.take.Goals as goal

pub invariant_of-self : goal.invariant_of-self
invariant_of-self c =
    let map = c.args.self.now in
    record { sound = taken_sound map.states.items map.free map.given.items c.in-Some.place map.sound c.in-Some.ensures.found }
