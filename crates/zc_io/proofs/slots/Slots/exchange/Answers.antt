use Rattle.std.proofs.Common.{◌≡◌, Some, None, sym, ap, ◌∙◌}
use Rattle.std.specs.List.{position}
use Rattle.zc_io.specs.Slots.{held_in, under, with_held}
use Rattle.zc_io.specs.declared.slots.Slot.{Slot}
use Rattle.zc_io.proofs.Names.{named, slot_missing, slot_found, slot_name, slot_set}
use Rattle.zc_io.proofs.slots.Slots.exchange.Goals as goal

pub returns-in-Some-clause-before : goal.returns-in-Some-clause-before
returns-in-Some-clause-before c =
    let d = c.index_mut.result.now in
    let at : position (named c.args.name.now) c.args.self.now.slots.items ≡ Some c.in-Some.index = cc in
    c.replace.ensures.value ∙ (ap (λ slot. slot.held) c.index_mut.ensures.value ∙ sym (ap held_in (slot_found _ _ _ d at)))

pub returns-in-Some-clause-after : goal.returns-in-Some-clause-after
returns-in-Some-clause-after c =
    let d = c.index_mut.result.now in
    let at : position (named c.args.name.now) c.args.self.now.slots.items ≡ Some c.in-Some.index = cc in
    let slot : Slot = record { name = d.name; held = c.replace.new.dest } in
    let same : d.name ≡ c.args.name.now = ap (λ slot. slot.name) c.index_mut.ensures.value ∙ slot_name _ _ _ d at in
    slot_set _ _ _ slot d at same ∙ ap (with_held (under c.args.self.now) c.args.name.now) c.replace.ensures.after

impossible : (c : goal.In-None) → ⊥
impossible c =
    let at : position (named c.args.name.now) c.args.self.now.slots.items ≡ None = cc in
    let h = rw (slot_missing _ _ at) at c.requires in cc

pub returns-in-None-clause-before : goal.returns-in-None-clause-before
returns-in-None-clause-before c = absurd (impossible c)

pub returns-in-None-clause-after : goal.returns-in-None-clause-after
returns-in-None-clause-after c = absurd (impossible c)
