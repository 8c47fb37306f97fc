-- One more bit.
use Rattle.std.proofs.Common.{◌≡◌, ◌<◌, false, length, get_or, drop, sym, ◌∙◌, arith}
use Rattle.std.proofs.lemmas.List.{get_or-drop, length-drop, length-map}
use Rattle.zc_spacemap.specs.States.{is_kept}
use Rattle.zc_spacemap.specs.MapBytes.{kept_places}
use Rattle.zc_spacemap.proofs.MapLaws.{number_with, number_without}
use Rattle.zc_spacemap.proofs.writing.byte_at.Goals as goal
use Rattle.zc_spacemap.proofs.writing.byte_at.Goals.{then-is_kept, else-is_kept}

pub loop-bit-preserved : goal.loop-bit-preserved
loop-bit-preserved g c =
    let states = g.M.SpaceMap.states c.args.map.now in
    let bits = drop c.args.from (kept_places states) in
    let long : c.loop-bit.bit < length bits = omega (arith, length-drop c.args.from (kept_places states), length-map states is_kept, c.requires.there) in
    let at : get_or bits c.loop-bit.bit false ≡ c.is_kept.result = get_or-drop c.args.from (kept_places states) c.loop-bit.bit false ∙ sym c.is_kept.ensures in
    elim c.if-is_kept.branch [
      | then-is_kept w ↦
          let both = number_with bits c.loop-bit.bit c.loop-bit.byte c.if-is_kept.byte c.loop-bit-test.true long (at ∙ w.if-is_kept.true) c.loop-bit.invariant.number c.loop-bit.invariant.below w.byte-is in
          record { number = both.0; below = both.1 }
      | else-is_kept w ↦
          let both = number_without bits c.loop-bit.bit c.loop-bit.byte long (at ∙ w.if-is_kept.false) c.loop-bit.invariant.number c.loop-bit.invariant.below in
          record { number = w.byte-is ∙ both.0; below = omega (arith, w.byte-is, both.1) }
    ]
