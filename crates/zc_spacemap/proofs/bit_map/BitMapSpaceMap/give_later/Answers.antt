-- The place joins the given ones.
use Rattle.zc_spacemap.proofs.SoundLaws.{given_sound}
use Rattle.zc_spacemap.proofs.bit_map.BitMapSpaceMap.give_later.Goals as goal

pub invariant_of-self-2 : goal.invariant_of-self-2
invariant_of-self-2 c = record {
  sound = rw c.in_ok-push.ensures.items (given_sound c.args.self.now.states.items c.args.self.now.free c.args.self.now.given.items c.args.place c.args.self.now.sound c.requires);
}
