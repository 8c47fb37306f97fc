use Rattle.std.proofs.Common.{◌∙◌, ◌<◌, ℕ, subst, sym}
use Rattle.zc_heart.proofs.AbsorbingLaws.{known_more, known_next, where_more, placed_there}
use Rattle.zc_heart.proofs.absorbing.place_all.Goals as goal

pub loop-k-preserved : goal.loop-k-preserved
loop-k-preserved c = record {
  files = λ stamp. c.place.ensures.files stamp ∙ c.loop-k.invariant.files stamp;
  places = λ placing old are. where_more placing c.loop-k.stamps c.place.new.self _ _ (c.loop-k.invariant.places placing old are) c.place.ensures.learns
      (placed_there placing c.args.list.now c.args.placed.now c.loop-k.k _ _ are c.loop-k-test.true);
  known = known_next c.args.stamps.now c.loop-k.stamps c.place.new.self c.args.list.now c.loop-k.k _ _ c.loop-k.invariant.files c.place.ensures.placed c.place.ensures.kept c.loop-k.invariant.known;
  stays_known = λ stamp some was.
      known_more c.loop-k.stamps c.place.new.self _ _ c.place.ensures.placed c.place.ensures.kept stamp (subst (λ (n : ℕ). 0 < n) (sym (c.loop-k.invariant.files stamp)) some) (c.loop-k.invariant.stays_known stamp some was);
}
