-- What two flags tell of an open root.
use Rattle.std.proofs.Common.{◌≡◌, ◌∙◌, ℕ, zero, suc, ◌+◌, ◌*◌, ◌<◌, ◌≤◌, ◌||◌, Bool, true, false, true≢false, List, Option, Some, None, IsTrue, refl, sym, ap, subst, arith}
use Rattle.std.specs.Prelude.{◌↔◌, is_some, IfSome, IfNone}
use Rattle.std.proofs.lemmas.Bool.{or_left, or_right}
use Rattle.zc_tape.specs.Tape.{Image, Shape, Tape}
use Rattle.zc_tape.specs.Crash.{reads}
use Rattle.zc_root.specs.Body.{body_bytes, IsBody}
use Rattle.zc_root.specs.declared.body.Body.{Body}
use Rattle.zc_root.specs.Root.{slot_of, body_place, IsOpenGate, HasWholeRoots}
use Rattle.zc_group.specs.Rooted.{HasRootThere, TellsRoot, TellsBody}

-- without a device, or without the place, there is none
pub no_device : (shape : Shape) (t : Tape) (slot : ℕ) → shape.devices < 1 → TellsRoot shape t slot false
no_device shape t slot none = record { is = λ set. absurd (true≢false (sym set)); only = λ body told whole there. absurd (omega (arith, none, there.places.device)) }

pub no_place : (shape : Shape) (t : Tape) (slot : ℕ) → shape.places ≤ 2 * slot + 1 → TellsRoot shape t slot false
no_place shape t slot none = record { is = λ set. absurd (true≢false (sym set)); only = λ body told whole there. absurd (omega (arith, none, there.places.gate_there)) }

-- the gate of the group's slot, where the slot is known
gate_at : (image : Image) (slot : ℕ) (body : Body) → slot_of body.group ≡ slot → IsOpenGate image (slot_of body.group) → IsOpenGate image slot
gate_at image slot body e = subst (IsOpenGate image) e

-- a gate that isn't open
pub gate_closed : (shape : Shape) (t : Tape) (slot : ℕ) → (IsTrue t.told → HasWholeRoots t → IsTrue false ↔ IsOpenGate (reads t) slot) → TellsRoot shape t slot false
gate_closed shape t slot gate = record { is = λ set. absurd (true≢false (sym set)); only = λ body told whole there. (gate told whole).1 (gate_at (reads t) slot body there.slot_is there.root.gate) }

-- a gate that is open, over what the other flag tells
pub gate_open : (shape : Shape) (t : Tape) (slot : ℕ) (flag : Bool) → 1 ≤ shape.devices → 2 * slot + 1 < shape.places
    → (IsTrue t.told → HasWholeRoots t → IsTrue true ↔ IsOpenGate (reads t) slot) → (IsTrue t.told → HasWholeRoots t → TellsBody slot (reads t 0 (body_place slot)) flag)
    → TellsRoot shape t slot flag
gate_open shape t slot flag device place gate tells = record {
  is = λ set told whole.
      let found = (tells told whole).is set in
      let body : Body = found.0 in
      let same : slot_of body.group ≡ slot = found.2 in (
        body,
        record {
          places = record { device = device; gate_there = place };
          slot_is = same;
          root = record {
            gate = subst (IsOpenGate (reads t)) (sym same) ((gate told whole).0 refl);
            spelled = ap (λ (s : ℕ). reads t 0 (body_place s)) same ∙ found.3;
            fits = found.1;
          };
        },
      );
  only = λ body told whole there. (tells told whole).only body there.root.fits there.slot_is (ap (λ (s : ℕ). reads t 0 (body_place s)) (sym there.slot_is) ∙ there.root.spelled);
}

-- what was read of the body
pub body_read : (slot : ℕ) (bytes : List ℕ) (found : Option Body) → IfSome found (λ body. IsBody body × (slot_of body.group ≡ slot) × (bytes ≡ body_bytes body))
    → IfNone found ((body : Body) → IsBody body → slot_of body.group ≡ slot → bytes ≡ body_bytes body → ⊥) → TellsBody slot bytes (is_some found)
body_read slot bytes (Some body) is none = record { is = λ set. (body, is.0, is.1, is.2); only = λ other fits same spelled. refl }
body_read slot bytes None is none = record { is = λ set. absurd (true≢false (sym set)); only = λ other fits same spelled. absurd (none other fits same spelled) }

-- either slot
pub either_is : (shape : Shape) (t : Tape) (first second : Bool) → TellsRoot shape t 0 first → TellsRoot shape t 1 second → IsTrue (first || second) → IsTrue t.told → HasWholeRoots t → HasRootThere shape (reads t)
either_is shape t first second at_first at_second set told whole = at first refl where
  at : (flag : Bool) → first ≡ flag → HasRootThere shape (reads t)
  at true is = let found = at_first.is is told whole in (0, found.0, omega arith, found.1)
  at false is = let found = at_second.is (subst (λ (flag : Bool). IsTrue (flag || second)) is set) told whole in (1, found.0, omega arith, found.1)

pub either_only : (shape : Shape) (t : Tape) (first second : Bool) → TellsRoot shape t 0 first → TellsRoot shape t 1 second → IsTrue t.told → HasWholeRoots t → HasRootThere shape (reads t) → IsTrue (first || second)
either_only shape t first second at_first at_second told whole (zero, body, low, there) = or_left first second (at_first.only body told whole there)
either_only shape t first second at_first at_second told whole (suc zero, body, low, there) = or_right first second (at_second.only body told whole there)
either_only shape t first second at_first at_second told whole (suc (suc slot), body, low, there) = absurd (omega (arith, low))
