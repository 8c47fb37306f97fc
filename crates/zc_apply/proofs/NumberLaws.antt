-- Numbers that ascend, names that differ, and log areas that are apart.
use Rattle.std.proofs.Common.{◌≡◌, ◌∙◌, ℕ, suc, ◌+◌, ◌<◌, ◌≤◌, Bool, true, false, ◌||◌, eqb, List, [], ◌∷◌, ◌++◌, map, refl, sym, arith}
use Rattle.std.specs.List.{AllByRecursion, list_any}
use Rattle.std.specs.Str.{bytes_eq}
use Rattle.std.proofs.lemmas.Bool.{or_from, or_parts, eqb-false, ne_eqb}
use Rattle.std.proofs.lemmas.Slice.Eq.{bytes_eq-Decides}
use Rattle.std.proofs.lemmas.List.Folds.{list_any-append}
use Rattle.zc_tree.specs.declared.tree.Dataset.{Dataset}
use Rattle.zc_tree.specs.Names.{is_among, AreNewTo}
use Rattle.zc_tree.specs.Spelling.{AscendFrom}
use Rattle.zc_plain.specs.IsPlain.{StandsAt, AreNumbered}

-- numbers that ascend from one number ascend from a lower one
pub ascend_lower : (lower least : ℕ) (numbers : List ℕ) → lower ≤ least → AscendFrom least numbers → AscendFrom lower numbers
ascend_lower lower least [] below are = tt
ascend_lower lower least (number ∷ numbers) below are = (omega (arith, below, are.0), are.1)

-- names that aren't the same differ as bytes
names_differ : (one other : List ℕ) → (one ≡ other → ⊥) → bytes_eq one other ≡ false
names_differ one other apart = at (bytes_eq one other) refl where
  at : (same : Bool) → bytes_eq one other ≡ same → same ≡ false
  at true is = absurd (apart ((bytes_eq-Decides one other).0 is))
  at false is = refl

next_up : (a b : ℕ) → a < b → a + 1 ≤ b
next_up a b below = omega (arith, below)

module _ {X : Type 0} (number_of : X → ℕ) (name_of : X → List ℕ) (next : ℕ) where
  pub numbered_after : (x : X) (xs : List X) → AreNumbered number_of name_of next (x ∷ xs) → AreNumbered number_of name_of next xs
  numbered_after x xs are = record {
    next_from_one = are.next_from_one;
    from_one = λ a y stands. are.from_one (suc a) y stands;
    below_next = λ a y stands. are.below_next (suc a) y stands;
    ascending = λ a b y z before stands other. are.ascending (suc a) (suc b) y z (omega (arith, before)) stands other;
    one_name = λ a b y z before stands other. are.one_name (suc a) (suc b) y z (omega (arith, before)) stands other;
  }

  -- the first's number is below each other's, and its name is none of theirs
  pub first_below : (x : X) (xs : List X) → AreNumbered number_of name_of next (x ∷ xs) → (a : ℕ) (y : X) → StandsAt xs a y → number_of x < number_of y
  first_below x xs are a y stands = are.ascending 0 (suc a) x y (omega arith) refl stands

  pub first_differs : (x : X) (xs : List X) → AreNumbered number_of name_of next (x ∷ xs) → (a : ℕ) (y : X) → StandsAt xs a y → bytes_eq (name_of x) (name_of y) ≡ false
  first_differs x xs are a y stands = names_differ (name_of x) (name_of y) (are.one_name 0 (suc a) x y (omega arith) refl stands)

  pub numbers_ascend : (least : ℕ) (xs : List X) → AreNumbered number_of name_of next xs → ((a : ℕ) (x : X) → StandsAt xs a x → least ≤ number_of x) → AscendFrom least (map number_of xs)
  numbers_ascend least [] are low = tt
  numbers_ascend least (x ∷ xs) are low = (
    low 0 x refl,
    numbers_ascend (number_of x + 1) xs (numbered_after x xs are) (λ a y stands. next_up (number_of x) (number_of y) (first_below x xs are a y stands)),
  )

  pub names_new : (others : List (List ℕ)) (xs : List X) → AreNumbered number_of name_of next xs → ((a : ℕ) (x : X) → StandsAt xs a x → is_among (name_of x) others ≡ false) → AreNewTo others (map name_of xs)
  names_new others [] are apart = tt
  names_new others (x ∷ xs) are apart = (
    apart 0 x refl,
    names_new (name_of x ∷ others) xs (numbered_after x xs are)
        (λ a y stands. or_from (bytes_eq (name_of x) (name_of y)) (is_among (name_of y) others) (first_differs x xs are a y stands) (apart (suc a) y stands)),
  )

-- ---- log areas

-- the areas are none of the datasets'
abbrev pub AreOtherAreas : List Dataset → List ℕ → Type 0
AreOtherAreas others areas = AllByRecursion (λ (area : ℕ). list_any (λ (other : Dataset). eqb other.slot area) others ≡ false) areas

pub areas_none : (areas : List ℕ) → AreOtherAreas [] areas
areas_none [] = tt
areas_none (area ∷ areas) = (refl, areas_none areas)

-- one dataset more has an area that is none of those
pub areas_more : (others : List Dataset) (dataset : Dataset) (area : ℕ) (areas : List ℕ) → dataset.slot ≡ area → list_any (λ (other : ℕ). eqb other area) areas ≡ false → AreOtherAreas others areas
    → AreOtherAreas (others ++ dataset ∷ []) areas
areas_more others dataset area [] slot none are = tt
areas_more others dataset area (other ∷ areas) slot none are =
    let parts = or_parts (eqb other area) (list_any (λ (one : ℕ). eqb one area) areas) none in
    let differs : eqb dataset.slot other ≡ false = ne_eqb dataset.slot other (λ same. eqb-false other area parts.0 (sym same ∙ slot)) in (
      list_any-append (λ (one : Dataset). eqb one.slot other) others (dataset ∷ [])
          ∙ or_from (list_any (λ (one : Dataset). eqb one.slot other) others) (eqb dataset.slot other || false) are.0 (or_from (eqb dataset.slot other) false differs refl),
      areas_more others dataset area areas slot parts.1 are.1,
    )
