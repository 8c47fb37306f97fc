-- From what stands in the two slots of an image to its root.
use Rattle.std.proofs.Common.{◌≡◌, ℕ, zero, suc, ◌≤◌, ◌<◌, ◌⊎◌, Bool, true, false, [], ◌∷◌, Option, Some, None, nat_le, refl, sym, ap, ◌∙◌, subst, inl, inr, ⊎_elim, arith, IsTrue}
use Rattle.std.specs.Prelude.{◌↔◌, slice_index_or}
use Rattle.std.proofs.lemmas.Bool.Decides.{nat_tests}
use Rattle.zc_tape.specs.Tape.{Image, Tape}
use Rattle.zc_tape.specs.Crash.{reads}
use Rattle.zc_root.specs.declared.body.Body.{Body}
use Rattle.zc_root.specs.Root.{slot_of, IsOpenGate, IsOpenRoot, IsRoot, AreGates, HasWholeRoots}
use Rattle.zc_root.specs.Slot.{IsRootOf, IsSlot, higher}
use Rattle.zc_root.proofs.RootLaws.{slots, one_open_root}

-- the body, where there is one, has at most that group
abbrev IsAtMost : Option Body → ℕ → Type 0
IsAtMost None group = Unit {0}
IsAtMost (Some body) group = body.group ≤ group

-- then so has each open root of its slot
at_most_all : (image : Image) (slot : ℕ) (root : Option Body) (group : ℕ) (other : Body)
    → IsRootOf image slot root → IsAtMost root group → IsOpenRoot image other → slot_of other.group ≡ slot → other.group ≤ group
at_most_all image slot None group other none bound found e = absurd (none other found e)
at_most_all image slot (Some here) group other (root, at_slot) bound found e =
    let same : other.group ≡ here.group = ap (λ (b : Body). b.group) (one_open_root image here other root found (e ∙ sym at_slot)) in omega arith

-- a root that neither slot's root is above is the image's
highest_of_both : (image : Image) (first second : Option Body) (body : Body) → IsRootOf image 0 first → IsRootOf image 1 second
    → IsOpenRoot image body → IsAtMost first body.group → IsAtMost second body.group → IsRoot image body
highest_of_both image first second body at_first at_second root below_first below_second = record {
  here = root;
  highest = λ other found. ⊎_elim (λ e. at_most_all image 0 first body.group other at_first below_first found e)
      (λ e. at_most_all image 1 second body.group other at_second below_second found e) (slots 0 other.group);
}

-- which of two bodies is the higher
higher_is : (first second body : Body) → Some body ≡ higher (Some first) (Some second) → ((first ≡ body) × (second.group ≤ first.group)) ⊎ ((second ≡ body) × (first.group ≤ second.group))
higher_is first second body e = at (nat_le second.group first.group) refl where
  at : (b : Bool) → nat_le second.group first.group ≡ b → ((first ≡ body) × (second.group ≤ first.group)) ⊎ ((second ≡ body) × (first.group ≤ second.group))
  at true t = inl (let e' = rw t at e in cc, grind (arith, nat_tests))
  at false t = inr (let e' = rw t at e in cc, grind (arith, nat_tests))

abbrev group_of : Body → ℕ
group_of body = body.group

-- the higher of both slots' roots is the image's root
pub higher_is_root : (image : Image) (first second : Option Body) (body : Body) → IsRootOf image 0 first → IsRootOf image 1 second → Some body ≡ higher first second → IsRoot image body
higher_is_root image None None body at_first at_second e = absurd (cc)
higher_is_root image None (Some second) body at_first at_second e =
    let same : second ≡ body = cc in let group = ap group_of same in
    highest_of_both image None (Some second) body at_first at_second (subst (IsOpenRoot image) same at_second.0) tt (omega arith)
higher_is_root image (Some first) None body at_first at_second e =
    let same : first ≡ body = cc in let group = ap group_of same in
    highest_of_both image (Some first) None body at_first at_second (subst (IsOpenRoot image) same at_first.0) (omega arith) tt
higher_is_root image (Some first) (Some second) body at_first at_second e = ⊎_elim
    (λ (same, le). let group = ap group_of same in
    highest_of_both image (Some first) (Some second) body at_first at_second (subst (IsOpenRoot image) same at_first.0) (omega arith) (omega arith))
    (λ (same, le). let group = ap group_of same in
    highest_of_both image (Some first) (Some second) body at_first at_second (subst (IsOpenRoot image) same at_second.0) (omega arith) (omega arith))
    (higher_is first second body e)

-- one flag a slot
pub gates_of_both : (image : Image) (first second : Bool) → (IsTrue first ↔ IsOpenGate image 0) → (IsTrue second ↔ IsOpenGate image 1) → AreGates image (first ∷ second ∷ [])
gates_of_both image first second at_first at_second = record { both = refl; exact = at } where
  at : (slot : ℕ) → slot < 2 → IsTrue (slice_index_or (first ∷ second ∷ []) slot false) ↔ IsOpenGate image slot
  at zero lt = at_first
  at (suc zero) lt = at_second
  at (suc (suc slot)) lt = absurd (omega arith)

-- what was read of a slot is so of any tape that is the same
pub slot_of_same_tape : (t read : Tape) (slot : ℕ) (gate_open : Bool) (root : Option Body) → read ≡ t
    → (IsTrue read.told → HasWholeRoots read → IsSlot (reads read) slot gate_open root) → IsTrue t.told → HasWholeRoots t → IsSlot (reads t) slot gate_open root
slot_of_same_tape t read slot gate_open root e = subst (λ v. IsTrue v.told → HasWholeRoots v → IsSlot (reads v) slot gate_open root) e

-- the same of a gate
pub gate_of_same_tape : (t read : Tape) (slot : ℕ) (gate_open : Bool) → read ≡ t
    → (IsTrue read.told → HasWholeRoots read → IsTrue gate_open ↔ IsOpenGate (reads read) slot) → IsTrue t.told → HasWholeRoots t → IsTrue gate_open ↔ IsOpenGate (reads t) slot
gate_of_same_tape t read slot gate_open e = subst (λ v. IsTrue v.told → HasWholeRoots v → IsTrue gate_open ↔ IsOpenGate (reads v) slot) e
