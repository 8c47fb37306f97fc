use Rattle.std.proofs.Common.{◌≡◌, refl, ap, ◌∙◌}
use Rattle.zc_io.specs.Slots.{nothing, held_at}
use Rattle.zc_io.specs.declared.slots.Slot.{Slot}
use Rattle.zc_io.proofs.Names.{slot_pushed, slot_there}
use Rattle.zc_io.proofs.slots.Slots.reserve.Goals as goal

pub returns-in_ok-push-clause-same : goal.returns-in_ok-push-clause-same
returns-in_ok-push-clause-same c =
    let slot : Slot = record { name = c.in_ok-clone.field-0; held = nothing } in
    ap held_at c.in_ok-push.ensures.items ∙ slot_pushed _ slot refl

pub returns-in_ok-push-clause-room : goal.returns-in_ok-push-clause-room
returns-in_ok-push-clause-room c =
    let slot : Slot = record { name = c.in_ok-clone.field-0; held = nothing } in
    let same : slot.name ≡ c.args.name.now = c.in_ok-clone.ensures in
    rw c.in_ok-push.ensures.items (slot_there _ slot _ same)
