use Rattle.std.proofs.Common.{◌≡◌, Some, None, sym, ap, ◌∙◌}
use Rattle.std.specs.List.{position}
use Rattle.zc_io.specs.Slots.{held_in, under, with_held, brought_back}
use Rattle.zc_io.specs.declared.slots.Stored.{Stored}
use Rattle.zc_io.specs.declared.slots.Slot.{Slot}
use Rattle.zc_io.proofs.Names.{named, slot_missing, slot_found, slot_name, slot_set}
use Rattle.zc_io.proofs.slots.Slots.bring_back.Goals as goal

pub returns-in-Some : goal.returns-in-Some
returns-in-Some c =
    let d = c.index_mut.result.now in
    let at : position (named c.args.name.now) c.args.self.now.slots.items ≡ Some c.in-Some.index = cc in
    let slot : Slot = record { name = d.name; held = c.end_out.new.held } in
    let same : d.name ≡ c.args.name.now = ap (λ slot. slot.name) c.index_mut.ensures.value ∙ slot_name _ _ _ d at in
    let before : d.held ≡ under c.args.self.now c.args.name.now = ap (λ slot. slot.held) c.index_mut.ensures.value ∙ sym (ap held_in (slot_found _ _ _ d at)) in
    slot_set _ _ _ slot d at same ∙ ap (with_held (under c.args.self.now) c.args.name.now) (c.end_out.ensures ∙ ap (λ (held : Stored). brought_back held c.args.disks) before)

pub returns-in_default : goal.returns-in_default
returns-in_default c =
    let at : position (named c.args.name.now) c.args.self.now.slots.items ≡ None = cc in
    let h = rw (slot_missing _ _ at) at c.requires in absurd cc
