-- The laws of an image's root: it has one at most, and what a change of one slot leaves of it.
use Rattle.std.proofs.Common.{◌≡◌, ℕ, ◌+◌, ◌<◌, ◌≤◌, ◌⊎◌, Bool, true, false, true≢false, length, replicate, get_or, refl, sym, ap, ◌∙◌, subst, inl, inr, ⊎_elim, arith}
use Rattle.std.specs.Bool.{Decides}
use Rattle.std.specs.Str.{bytes_eq}
use Rattle.std.proofs.lemmas.Bool.{cases_lt}
use Rattle.std.proofs.lemmas.Slice.Eq.{bytes_eq-Decides}
use Rattle.std.proofs.lemmas.List.{get_or-replicate, length-replicate}
use Rattle.zc_tape.specs.Tape.{Image}
use Rattle.zc_root.specs.declared.body.Body.{Body}
use Rattle.zc_root.specs.Body.{body_bytes, IsBody}
use Rattle.zc_root.specs.Root.{opened, closed, slot_of, body_place, gate_place, IsOpenGate, IsOpenRoot, IsRoot}
use Rattle.zc_root.proofs.BodyLaws.{one_body}

-- ---- gates

runs_differ : (n a b : ℕ) → 0 < n → replicate n a ≡ replicate n b → a ≡ b
runs_differ n a b some e = sym (get_or-replicate n 0 a 0 some) ∙ ap (λ xs. get_or xs 0 0) e ∙ get_or-replicate n 0 b 0 some

differ_at : (n : ℕ) → n ≡ 4096 → replicate {A = ℕ} n 165 ≡ replicate {A = ℕ} n 0 → ⊥
differ_at n e same = let is_zero : ◌≡◌ {A = ℕ} 165 0 = runs_differ n 165 0 (omega arith) same in absurd (omega arith)

-- a gate that is closed isn't open
pub opened_is_not_closed : opened ≡ closed → ⊥
unfolding opened closed
opened_is_not_closed e = differ_at 4096 refl e

-- both have 4,096 bytes
pub opened_length : length opened ≡ 4096
unfolding opened
opened_length = length-replicate {A = ℕ} 4096 165

pub closed_length : length closed ≡ 4096
unfolding closed
closed_length = length-replicate {A = ℕ} 4096 0

-- a gate is open or it isn't
pub open_or_not : (image : Image) (slot : ℕ) → IsOpenGate image slot ⊎ (IsOpenGate image slot → ⊥)
open_or_not image slot = at (bytes_eq (image 0 (gate_place slot)) opened) (bytes_eq-Decides (image 0 (gate_place slot)) opened) where
  at : (same : Bool) → Decides same (image 0 (gate_place slot) ≡ opened) → IsOpenGate image slot ⊎ (IsOpenGate image slot → ⊥)
  at true is = inl (is.0 refl)
  at false is = inr (λ open_now. absurd (true≢false (sym (is.1 open_now))))

-- ---- slots

-- a slot is 0 or 1
pub slot_below : (group : ℕ) → slot_of group < 2
slot_below group = omega arith

-- the next group has the other slot
pub slot_of_next : (group : ℕ) → slot_of (group + 1) ≡ slot_of group → ⊥
slot_of_next group e = omega arith

-- there are two slots
pub slots : (group other : ℕ) → (slot_of other ≡ slot_of group) ⊎ (slot_of other ≡ slot_of (group + 1))
slots group other =
    ⊎_elim (λ lt. inr (omega arith))
    (λ le. ⊎_elim (λ lt. inr (omega arith)) (λ ge. inl (omega arith)) (cases_lt (slot_of group) (slot_of other)))
    (cases_lt (slot_of other) (slot_of group))

-- ---- one root

-- two open roots of one slot are one
pub one_open_root : (image : Image) (body other : Body) → IsOpenRoot image body → IsOpenRoot image other → slot_of other.group ≡ slot_of body.group → other ≡ body
one_open_root image body other here there e =
    one_body other body there.fits.widths here.fits.widths (sym there.spelled ∙ ap (λ slot. image 0 (body_place slot)) e ∙ here.spelled)

-- an image has one root at most
pub one_root : (image : Image) (body other : Body) → IsRoot image body → IsRoot image other → body ≡ other
one_root image body other root other_root =
    let below : body.group ≤ other.group = other_root.highest body root.here in
    let above : other.group ≤ body.group = root.highest other other_root.here in
    let same : body.group ≡ other.group = omega arith in
    one_open_root image other body other_root.here root.here (ap slot_of same)

-- ---- what a change leaves

-- a slot's gate and body are the same in both images
pub record SameSlot (before after : Image) (slot : ℕ) : Type 0 where
  pub gate : after 0 (gate_place slot) ≡ before 0 (gate_place slot)
  pub body_there : after 0 (body_place slot) ≡ before 0 (body_place slot)

-- the other slot than the body's has no open root of a higher group
pub record IsHigher (image : Image) (body : Body) : Type 0 where
  pub no_other : (other : Body) → slot_of other.group ≡ slot_of (body.group + 1) → IsOpenRoot image other → other.group ≤ body.group

-- an open root that no open root of the other slot is above is the root
pub root_when_higher : (image : Image) (body : Body) → IsOpenRoot image body → IsHigher image body → IsRoot image body
root_when_higher image body here higher = record { here = here; highest = λ other there. at other there (slots body.group other.group) } where
  at : (other : Body) → IsOpenRoot image other → (slot_of other.group ≡ slot_of body.group) ⊎ (slot_of other.group ≡ slot_of (body.group + 1)) → other.group ≤ body.group
  at other there (inl e) = let same : other.group ≡ body.group = ap (λ (b : Body). b.group) (one_open_root image body other here there e) in omega arith
  at other there (inr e) = higher.no_other other e there

-- the same gate and body in its slot keep an open root
pub open_root_stays : (before after : Image) (body : Body) → SameSlot before after (slot_of body.group) → IsOpenRoot before body → IsOpenRoot after body
open_root_stays before after body same root = record { gate = same.gate ∙ root.gate; spelled = same.body_there ∙ root.spelled; fits = root.fits }

-- and what is open in a slot that is as before was so before
pub open_root_before : (before after : Image) (body : Body) → SameSlot before after (slot_of body.group) → IsOpenRoot after body → IsOpenRoot before body
open_root_before before after body same root = record { gate = sym same.gate ∙ root.gate; spelled = sym same.body_there ∙ root.spelled; fits = root.fits }

-- the same gate and body in its slot, and nothing open and higher in the other slot, keep the root
pub root_stays : (before after : Image) (body : Body) → SameSlot before after (slot_of body.group) → IsHigher after body → IsRoot before body → IsRoot after body
root_stays before after body same higher root = root_when_higher after body (open_root_stays before after body same root.here) higher

-- nothing is open and higher in the other slot where its gate isn't open,
pub higher_than_closed : (image : Image) (body : Body) → (IsOpenGate image (slot_of (body.group + 1)) → ⊥) → IsHigher image body
higher_than_closed image body closed_there = record { no_other = λ other e there. absurd (closed_there (subst (IsOpenGate image) e there.gate)) }

-- where a body of no higher group stands there,
pub higher_than_lower : (image : Image) (body lower : Body) → IsBody lower → image 0 (body_place (slot_of (body.group + 1))) ≡ body_bytes lower → lower.group ≤ body.group → IsHigher image body
higher_than_lower image body lower fits there below = record {
  no_other = λ other e open_there.
      let same : other ≡ lower = one_body other lower open_there.fits.widths fits.widths (sym open_there.spelled ∙ ap (λ slot. image 0 (body_place slot)) e ∙ there) in
      let group : other.group ≡ lower.group = ap (λ (b : Body). b.group) same in omega arith;
}

-- where its gate was open before, and its body is as it was,
pub higher_than_before : (before after : Image) (body : Body) → IsRoot before body
    → IsOpenGate before (slot_of (body.group + 1)) → after 0 (body_place (slot_of (body.group + 1))) ≡ before 0 (body_place (slot_of (body.group + 1))) → IsHigher after body
higher_than_before before after body root was_open same = record {
  no_other = λ other e there. root.highest other (record {
    gate = subst (IsOpenGate before) (sym e) was_open;
    spelled = ap (λ slot. before 0 (body_place slot)) e ∙ sym same ∙ sym (ap (λ slot. after 0 (body_place slot)) e) ∙ there.spelled;
    fits = there.fits;
  });
}

-- or where, if its gate is open, both its gate and its body are as they were
pub higher_than_same : (before after : Image) (body : Body) → IsRoot before body
    → (IsOpenGate after (slot_of (body.group + 1)) → SameSlot before after (slot_of (body.group + 1))) → IsHigher after body
higher_than_same before after body root same = record {
  no_other = λ other e there. root.highest other
      (open_root_before before after other (subst (SameSlot before after) (sym e) (same (subst (IsOpenGate after) e there.gate))) there);
}

-- a body of the next group behind an open gate is the root, where the slot of the root before is as it was
pub next_is_root : (before after : Image) (old new : Body) → new.group ≡ old.group + 1 → IsBody new → SameSlot before after (slot_of old.group)
    → IsOpenGate after (slot_of new.group) → after 0 (body_place (slot_of new.group)) ≡ body_bytes new → IsRoot before old → IsRoot after new
next_is_root before after old new next fits same gate spelled root =
    root_when_higher after new (record { gate = gate; spelled = spelled; fits = fits }) (record {
      no_other = λ other e there.
          let old_slot : slot_of other.group ≡ slot_of old.group = omega arith in
          let below = root.highest other (open_root_before before after other (subst (SameSlot before after) (sym old_slot) same) there) in omega arith;
    })
