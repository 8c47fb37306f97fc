-- What each part of a group's calls may leave of an image: all that the calls don't write stays; the slot's gate isn't open while
-- its body is written; and behind a gate that is open again, the body and the puts stand.
use Rattle.std.proofs.Common.{◌≡◌, ℕ, ◌<◌, ◌||◌, Bool, true, false, true≢false, IsTrue, ◌↔◌, List, [], ◌∷◌, map, refl, sym, ap, ◌∙◌, subst, arith}
use Rattle.zc_tape.specs.Tape.{Image, Write, Sync, is_at, with_bytes}
use Rattle.zc_tape.specs.Crash.{May, SameOutside, writes_at}
use Rattle.zc_tape.specs.After.{after, AreWrites}
use Rattle.zc_tape.proofs.Places.{with_bytes_there, with_bytes_elsewhere, writes_at_both, both_false, is_at_here, is_at_other}
use Rattle.zc_tape.proofs.ReadsAfter.{after_append, after_elsewhere, after_last_write, are_writes_append}
use Rattle.zc_root.specs.declared.body.Body.{Body}
use Rattle.zc_root.specs.Body.{body_bytes}
use Rattle.zc_root.specs.Root.{opened, closed, slot_of, body_place, gate_place, IsOpenGate}
use Rattle.zc_root.proofs.RootLaws.{opened_is_not_closed, slot_below}
use Rattle.zc_layout.specs.Layout.{Put, Holds, owns, AreDistinct, NotAtRoots}
use Rattle.zc_layout.specs.Standing.{write_of, closing, first_writes, group_calls}
use Rattle.zc_layout.proofs.LayoutLaws.{are_writes_of_puts, writes_of_puts, owns_other, holds_after_puts, holds_where_agrees}

-- places of device 0 are one where their numbers are
pub elsewhere : (place p : ℕ) → (p ≡ place → ⊥) → is_at 0 place 0 p ≡ false
elsewhere place p differ = is_at_other 0 place 0 p (λ _ e. differ (sym e))

-- a place after the roots is no place of a slot
pub not_at_roots : (place d p : ℕ) → place < 4 → (d ≡ 0 → p < 4 → ⊥) → is_at 0 place d p ≡ false
not_at_roots place d p low far = is_at_other 0 place d p (λ ed ep. far (sym ed) (subst (λ n. n < 4) ep low))

-- the closing of a gate writes that gate alone
pub closing_elsewhere : (group : ℕ) (gate_open : Bool) (d p : ℕ) → is_at 0 (gate_place (slot_of group)) d p ≡ false → writes_at (closing group gate_open) d p ≡ false
closing_elsewhere group true d p e = both_false (is_at 0 (gate_place (slot_of group)) d p) false e refl
closing_elsewhere group false d p e = refl

pub closing_is_writes : (group : ℕ) (gate_open : Bool) → AreWrites (closing group gate_open)
closing_is_writes group true = tt
closing_is_writes group false = tt

-- the first writes are writes
pub first_is_writes : (puts : List Put) (group : ℕ) (gate_open : Bool) → AreWrites (first_writes puts group gate_open)
first_is_writes puts group gate_open = are_writes_append (map write_of puts) (closing group gate_open) (are_writes_of_puts puts) (closing_is_writes group gate_open)

-- of the puts' places, and of the gate
pub first_elsewhere : (puts : List Put) (group : ℕ) (gate_open : Bool) (d p : ℕ) → owns puts d p ≡ false → is_at 0 (gate_place (slot_of group)) d p ≡ false
    → writes_at (first_writes puts group gate_open) d p ≡ false
first_elsewhere puts group gate_open d p free apart =
    writes_at_both (map write_of puts) (closing group gate_open) d p (writes_of_puts puts d p ∙ free) (closing_elsewhere group gate_open d p apart)

-- the calls of a group write the puts' places, the gate and the body of its slot
pub group_elsewhere : (puts : List Put) (body : Body) (gate_open : Bool) (d p : ℕ) → owns puts d p ≡ false
    → is_at 0 (gate_place (slot_of body.group)) d p ≡ false → is_at 0 (body_place (slot_of body.group)) d p ≡ false
    → writes_at (group_calls puts body gate_open) d p ≡ false
group_elsewhere puts body gate_open d p free gate_apart body_apart =
    writes_at_both (first_writes puts body.group gate_open)
    (Sync ∷ (Write 0 (body_place (slot_of body.group)) (body_bytes body) ∷ (Sync ∷ (Write 0 (gate_place (slot_of body.group)) opened ∷ (Sync ∷ []))))) d p
    (first_elsewhere puts body.group gate_open d p free gate_apart)
    (both_false (is_at 0 (body_place (slot_of body.group)) d p) (is_at 0 (gate_place (slot_of body.group)) d p || false) body_apart
    (both_false (is_at 0 (gate_place (slot_of body.group)) d p) false gate_apart refl))

-- two images are the same at each place that the calls of a group don't write
abbrev pub SameBeside : List Put → ℕ → Image → Image → Type 0
SameBeside puts group before later = (d p : ℕ) → owns puts d p ≡ false
    → is_at 0 (gate_place (slot_of group)) d p ≡ false → is_at 0 (body_place (slot_of group)) d p ≡ false → later d p ≡ before d p

-- the image once the puts are written and the gate is closed
abbrev pub first_image : Image → List Put → Body → Bool → Image
first_image image puts body gate_open = after image (first_writes puts body.group gate_open)

-- and once the body is written
abbrev pub written_image : Image → List Put → Body → Bool → Image
written_image image puts body gate_open = with_bytes (first_image image puts body gate_open) 0 (body_place (slot_of body.group)) (body_bytes body)

module _ (image : Image) (puts : List Put) (body : Body) (gate_open : Bool)
    (beside_roots : NotAtRoots puts) (known : IsTrue gate_open ↔ IsOpenGate image (slot_of body.group)) where
  -- the gate and the body of a slot are places of the roots
  gate_low : gate_place (slot_of body.group) < 4
  gate_low = omega (arith, slot_below body.group)

  body_low : body_place (slot_of body.group) < 4
  body_low = omega (arith, slot_below body.group)

  -- and two places
  gate_beside_body : is_at 0 (body_place (slot_of body.group)) 0 (gate_place (slot_of body.group)) ≡ false
  gate_beside_body = elsewhere (body_place (slot_of body.group)) (gate_place (slot_of body.group)) (λ e. absurd (omega arith))

  body_beside_gate : is_at 0 (gate_place (slot_of body.group)) 0 (body_place (slot_of body.group)) ≡ false
  body_beside_gate = elsewhere (gate_place (slot_of body.group)) (body_place (slot_of body.group)) (λ e. absurd (omega arith))

  -- ---- the first writes

  -- what they leave elsewhere
  pub first_leaves : (left : Image) → May image (first_writes puts body.group gate_open) left → SameBeside puts body.group image left
  first_leaves left may d p free gate_apart body_apart = may d p (first_elsewhere puts body.group gate_open d p free gate_apart)

  -- the body of the slot is not touched
  pub first_leaves_body : (left : Image) → May image (first_writes puts body.group gate_open) left → left 0 (body_place (slot_of body.group)) ≡ image 0 (body_place (slot_of body.group))
  first_leaves_body left may =
      may 0 (body_place (slot_of body.group)) (first_elsewhere puts body.group gate_open 0 (body_place (slot_of body.group)) (beside_roots (body_place (slot_of body.group)) body_low) body_beside_gate)

  -- and a gate that is open then was so before
  pub first_leaves_gate : (left : Image) → May image (first_writes puts body.group gate_open) left → IsOpenGate left (slot_of body.group) → IsOpenGate image (slot_of body.group)
  first_leaves_gate left may open_now = at gate_open refl where
    at : (flag : Bool) → gate_open ≡ flag → IsOpenGate image (slot_of body.group)
    at true e = known.0 e
    at false e =
        let unwritten : writes_at (first_writes puts body.group gate_open) 0 (gate_place (slot_of body.group)) ≡ false =
        writes_at_both (map write_of puts) (closing body.group gate_open) 0 (gate_place (slot_of body.group))
        (writes_of_puts puts 0 (gate_place (slot_of body.group)) ∙ beside_roots (gate_place (slot_of body.group)) gate_low)
        (ap (λ flag. writes_at (closing body.group flag) 0 (gate_place (slot_of body.group))) e)
        in sym (may 0 (gate_place (slot_of body.group)) unwritten) ∙ open_now

  -- once they are made, the rest is as before,
  pub first_image_beside : SameBeside puts body.group image (first_image image puts body gate_open)
  first_image_beside d p free gate_apart body_apart = after_elsewhere image (first_writes puts body.group gate_open) d p (first_elsewhere puts body.group gate_open d p free gate_apart)

  -- the gate isn't open,
  pub first_image_closed : IsOpenGate (first_image image puts body gate_open) (slot_of body.group) → ⊥
  first_image_closed open_now = at gate_open refl where
    at : (flag : Bool) → gate_open ≡ flag → ⊥
    at true e =
        let is_closed : first_image image puts body gate_open 0 (gate_place (slot_of body.group)) ≡ closed =
        ap (λ flag. after image (first_writes puts body.group flag) 0 (gate_place (slot_of body.group))) e
        ∙ after_last_write image (map write_of puts) [] 0 (gate_place (slot_of body.group)) closed refl
        in opened_is_not_closed (sym open_now ∙ is_closed)
    at false e = true≢false (sym (known.1 (first_leaves_gate (first_image image puts body gate_open) (λ d p free. after_elsewhere image (first_writes puts body.group gate_open) d p free) open_now)) ∙ e)

  -- and the puts stand there
  pub first_image_holds : AreDistinct puts → Holds (first_image image puts body gate_open) puts
  first_image_holds distinct =
      subst (λ now. Holds now puts) (sym (after_append image (map write_of puts) (closing body.group gate_open)))
      (holds_where_agrees (after image (map write_of puts)) (after (after image (map write_of puts)) (closing body.group gate_open)) puts
      (λ d p e. after_elsewhere (after image (map write_of puts)) (closing body.group gate_open) d p
      (closing_elsewhere body.group gate_open d p (owns_other puts 0 (gate_place (slot_of body.group)) d p (beside_roots (gate_place (slot_of body.group)) gate_low) e)))
      (holds_after_puts image puts distinct))

  -- ---- the body's write

  -- what it leaves elsewhere
  pub body_leaves : (left : Image) → SameOutside 0 (body_place (slot_of body.group)) (first_image image puts body gate_open) left → SameBeside puts body.group image left
  body_leaves left same d p free gate_apart body_apart = same d p body_apart ∙ first_image_beside d p free gate_apart body_apart

  -- the gate isn't open
  pub body_leaves_closed : (left : Image) → SameOutside 0 (body_place (slot_of body.group)) (first_image image puts body gate_open) left → IsOpenGate left (slot_of body.group) → ⊥
  body_leaves_closed left same open_now = first_image_closed (sym (same 0 (gate_place (slot_of body.group)) gate_beside_body) ∙ open_now)

  -- ---- the write of the open gate

  -- what it leaves elsewhere
  pub gate_leaves : (left : Image) → SameOutside 0 (gate_place (slot_of body.group)) (written_image image puts body gate_open) left → SameBeside puts body.group image left
  gate_leaves left same d p free gate_apart body_apart =
      same d p gate_apart ∙ with_bytes_elsewhere (first_image image puts body gate_open) 0 (body_place (slot_of body.group)) (body_bytes body) d p body_apart ∙ first_image_beside d p free gate_apart body_apart

  -- the body stands there
  pub gate_leaves_body : (left : Image) → SameOutside 0 (gate_place (slot_of body.group)) (written_image image puts body gate_open) left → left 0 (body_place (slot_of body.group)) ≡ body_bytes body
  gate_leaves_body left same =
      same 0 (body_place (slot_of body.group)) body_beside_gate
      ∙ with_bytes_there (first_image image puts body gate_open) 0 (body_place (slot_of body.group)) (body_bytes body) 0 (body_place (slot_of body.group)) (is_at_here 0 (body_place (slot_of body.group)))

  -- and so do the puts
  pub gate_leaves_puts : AreDistinct puts → (left : Image) → SameOutside 0 (gate_place (slot_of body.group)) (written_image image puts body gate_open) left → Holds left puts
  gate_leaves_puts distinct left same =
      holds_where_agrees (first_image image puts body gate_open) left puts
      (λ d p e. same d p (owns_other puts 0 (gate_place (slot_of body.group)) d p (beside_roots (gate_place (slot_of body.group)) gate_low) e)
      ∙ with_bytes_elsewhere (first_image image puts body gate_open) 0 (body_place (slot_of body.group)) (body_bytes body) d p (owns_other puts 0 (body_place (slot_of body.group)) d p (beside_roots (body_place (slot_of body.group)) body_low) e))
      (first_image_holds distinct)
