-- Places of images, and the writes of a list that are at a place.
use Rattle.std.proofs.Common.{◌≡◌, ℕ, Bool, true, false, List, [], ◌∷◌, ◌++◌, ◌||◌, refl, ap₂, sym, ◌==◌, ◌∙◌, arith}
use Rattle.std.proofs.lemmas.Bool.{and_from, and_parts, eq-eqb, eqb-true}
use Rattle.zc_tape.specs.Tape.{Image, Call, Write, Sync, is_at, with_bytes}
use Rattle.zc_tape.specs.Crash.{writes_at, SameOutside}

-- images are equal that are equal at each place
pub same_image : (a b : Image) → ((d p : ℕ) → a d p ≡ b d p) → a ≡ b
same_image a b e = λ i d p. e d p i

-- a disjunction is false where both sides are
pub neither : (a b : Bool) → (a || b) ≡ false → (a ≡ false) × (b ≡ false)
neither false false e = (refl, refl)
neither false true e = grind arith
neither true b e = grind arith

-- what isn't true is false
pub not_true : (b : Bool) → (b ≡ true → ⊥) → b ≡ false
not_true true h = absurd (h refl)
not_true false h = refl

-- a written place holds the bytes
pub with_bytes_there : (image : Image) (device place : ℕ) (bytes : List ℕ) (d p : ℕ) → is_at device place d p ≡ true → with_bytes image device place bytes d p ≡ bytes
with_bytes_there image device place bytes d p e = rw e

-- any other place holds what it held
pub with_bytes_elsewhere : (image : Image) (device place : ℕ) (bytes : List ℕ) (d p : ℕ) → is_at device place d p ≡ false → with_bytes image device place bytes d p ≡ image d p
with_bytes_elsewhere image device place bytes d p e = rw e

-- a disjunction holds by its left side where the right side doesn't
pub left_true : (a b : Bool) → (a || b) ≡ true → b ≡ false → a ≡ true
left_true true b e f = refl
left_true false b e f = sym f ∙ e

-- disjunctions in a row
pub or_assoc : (a b c : Bool) → (a || (b || c)) ≡ ((a || b) || c)
or_assoc true b c = refl
or_assoc false b c = refl

-- a disjunction is false where both sides are
pub both_false : (a b : Bool) → a ≡ false → b ≡ false → (a || b) ≡ false
both_false a b ea eb = rw (ea, eb)

-- the writes of two lists
pub writes_at_append : (xs ys : List Call) (d p : ℕ) → writes_at (xs ++ ys) d p ≡ (writes_at xs d p || writes_at ys d p)
writes_at_append [] ys d p = refl
writes_at_append (Write device place bytes ∷ xs) ys d p = grind (arith, writes_at_append xs ys d p, or_assoc)
writes_at_append (Sync ∷ xs) ys d p = writes_at_append xs ys d p

-- no write of two lists is at the place
pub writes_at_neither : (xs ys : List Call) (d p : ℕ) → writes_at (xs ++ ys) d p ≡ false → (writes_at xs d p ≡ false) × (writes_at ys d p ≡ false)
writes_at_neither xs ys d p e = neither (writes_at xs d p) (writes_at ys d p) (sym (writes_at_append xs ys d p) ∙ e)

-- the same, from both lists
pub writes_at_both : (xs ys : List Call) (d p : ℕ) → writes_at xs d p ≡ false → writes_at ys d p ≡ false → writes_at (xs ++ ys) d p ≡ false
writes_at_both xs ys d p ex ey = writes_at_append xs ys d p ∙ both_false (writes_at xs d p) (writes_at ys d p) ex ey

-- a write changes at most its place
pub same_outside_write : (image : Image) (device place : ℕ) (bytes : List ℕ) → SameOutside device place image (with_bytes image device place bytes)
same_outside_write image device place bytes d p e = with_bytes_elsewhere image device place bytes d p e

-- a place is itself
pub is_at_here : (d p : ℕ) → is_at d p d p ≡ true
is_at_here d p = and_from (d == d) (p == p) (eq-eqb d d refl) (eq-eqb p p refl)

-- the named place is what it says
pub is_at_means : (device place d p : ℕ) → is_at device place d p ≡ true → (device ≡ d) × (place ≡ p)
is_at_means device place d p e =
    let both : ((device == d) ≡ true) × ((place == p) ≡ true) = and_parts (device == d) (place == p) e
    in (eqb-true device d both.0, eqb-true place p both.1)

-- a place that differs from the named one in its device or in its number
pub is_at_other : (device place d p : ℕ) → (device ≡ d → place ≡ p → ⊥) → is_at device place d p ≡ false
is_at_other device place d p apart = not_true (is_at device place d p) (λ e. let same : (device ≡ d) × (place ≡ p) = is_at_means device place d p e in apart same.0 same.1)

-- an image that differs at most at one place has bytes written there
pub same_outside_is_write : (device place : ℕ) (old new : Image) → SameOutside device place old new → (d p : ℕ) → new d p ≡ with_bytes old device place (new device place) d p
same_outside_is_write device place old new same d p = written (is_at device place d p) refl where
  written : (here : Bool) → is_at device place d p ≡ here → new d p ≡ with_bytes old device place (new device place) d p
  written true e =
      let at : (device ≡ d) × (place ≡ p) = is_at_means device place d p e
      in sym (ap₂ new at.0 at.1) ∙ sym (with_bytes_there old device place (new device place) d p e)
  written false e = same d p e ∙ sym (with_bytes_elsewhere old device place (new device place) d p e)

-- changes at one place, one after the other
pub same_outside_trans : (device place : ℕ) (a b c : Image) → SameOutside device place a b → SameOutside device place b c → SameOutside device place a c
same_outside_trans device place a b c ab bc d p e = bc d p e ∙ ab d p e
