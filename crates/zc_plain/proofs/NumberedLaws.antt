-- Lists of items with numbers and names, once an item is added or changed.
use Rattle.std.proofs.Common.{◌≡◌, ◌≢◌, ℕ, zero, suc, ◌+◌, ◌<◌, ◌≤◌, true, false, List, [], ◌∷◌, ◌++◌, length, get_or, Option, Some, None, ◌⊎◌, inl, inr, refl, sym, ap, subst, ◌∙◌, ⊎_elim, arith}
use Rattle.std.specs.Prelude.{is_some, remove}
use Rattle.std.proofs.lemmas.List.{length-append, length-take, length-drop}
use Rattle.std.specs.Str.{bytes_eq}
use Rattle.std.proofs.lemmas.Option.{slice_get_within, get_or_from_slice_get}
use Rattle.std.proofs.lemmas.Slice.Eq.{bytes_eq-Decides}
use Rattle.zc_num.specs.Words.{change_at, found_from}
use Rattle.zc_num.proofs.Found.{none_passes}
use Rattle.zc_plain.specs.IsPlain.{StandsAt, AreNumbered}

abbrev some_of : {X : Type 0} → X → Option X
some_of x = Some x

-- two values of one option are one
pub one_item : {X : Type 0} (x y : X) → some_of x ≡ some_of y → x ≡ y
one_item x y e = cc

pub no_item : {X A : Type 0} (y : X) → None ≡ some_of y → A
no_item y e = cc

-- what stands in a list with one more item stood there before, or is the new item
pub stood_or_new : {X : Type 0} (xs : List X) (x : X) (a : ℕ) (y : X) → StandsAt (xs ++ x ∷ []) a y → StandsAt xs a y ⊎ ((a ≡ length xs) × (y ≡ x))
stood_or_new [] x zero y stands = inr (refl, sym (one_item x y stands))
stood_or_new [] x (suc a) y stands = no_item y stands
stood_or_new (z ∷ xs) x zero y stands = inl stands
stood_or_new (z ∷ xs) x (suc a) y stands =
    ⊎_elim (λ (before : StandsAt xs a y). inl before) (λ (new : (a ≡ length xs) × (y ≡ x)). inr (ap suc new.0, new.1)) (stood_or_new xs x a y stands)

-- what stood in a list stands there with one more item after
pub stands_in_more : {X : Type 0} (xs ys : List X) (a : ℕ) (y : X) → StandsAt xs a y → StandsAt (xs ++ ys) a y
stands_in_more [] ys a y stands = no_item y stands
stands_in_more (z ∷ xs) ys zero y stands = stands
stands_in_more (z ∷ xs) ys (suc a) y stands = stands_in_more xs ys a y stands

-- what stands in a list of which an item was changed stood there before, or is what that item was changed to
pub stood_or_changed : {X : Type 0} (f : X → X) (place : ℕ) (xs : List X) (a : ℕ) (y : X) → StandsAt (change_at f place xs) a y → (x : X) × StandsAt xs a x × ((y ≡ x) ⊎ ((a ≡ place) × (y ≡ f x)))
stood_or_changed f place [] a y stands = no_item y stands
stood_or_changed f zero (x ∷ xs) zero y stands = (x, refl, inr (refl, sym (one_item (f x) y stands)))
stood_or_changed f zero (x ∷ xs) (suc a) y stands = (y, stands, inl refl)
stood_or_changed f (suc place) (x ∷ xs) zero y stands = (y, stands, inl refl)
stood_or_changed {X} f (suc place) (x ∷ xs) (suc a) y stands =
    let was = stood_or_changed f place xs a y stands in
    (was.0, was.1, ⊎_elim (λ (same : y ≡ was.0). inl same) (λ (changed : (a ≡ place) × (y ≡ f was.0)). inr (ap suc changed.0, changed.1)) was.2)

-- a name that no item was found by is none of theirs
pub no_item_has : {X : Type 0} (name_of : X → List ℕ) (name : List ℕ) (xs : List X) (a : ℕ) (x : X) → is_some (found_from (λ (y : X). bytes_eq (name_of y) name) 0 xs) ≡ false → StandsAt xs a x → name_of x ≢ name
no_item_has {X} name_of name xs a x missing stands same =
    let test : X → _ = λ (y : X). bytes_eq (name_of y) name in
    let passes : bytes_eq (name_of x) name ≡ true = (bytes_eq-Decides (name_of x) name).1 same in
    let fails : bytes_eq (name_of (get_or xs a x)) name ≡ false = none_passes (λ (y : X). bytes_eq (name_of y) name) 0 xs (is_none (found_from (λ (y : X). bytes_eq (name_of y) name) 0 xs) missing) a x (slice_get_within xs a x stands) in
    let here : bytes_eq (name_of x) name ≡ false = ap (λ (y : X). bytes_eq (name_of y) name) (sym (get_or_from_slice_get xs a x x stands)) ∙ fails in
    let both : true ≡ false = sym passes ∙ here in
    cc
  where
    is_none : (o : Option ℕ) → is_some o ≡ false → o ≡ None
    is_none None e = refl
    is_none (Some k) e = cc

-- a new item takes the next number, under a new name
pub numbered_more : {X : Type 0} (number_of : X → ℕ) (name_of : X → List ℕ) (next : ℕ) (xs : List X) (x : X) → AreNumbered number_of name_of next xs → number_of x ≡ next
    → ((a : ℕ) (y : X) → StandsAt xs a y → name_of y ≢ name_of x) → AreNumbered number_of name_of (next + 1) (xs ++ x ∷ [])
numbered_more {X} number_of name_of next xs x numbered takes new_name = record {
  next_from_one = omega arith;
  from_one = from_one;
  below_next = below_next;
  ascending = ascending;
  one_name = one_name;
}
  where
    from_one : (a : ℕ) (y : X) → StandsAt (xs ++ x ∷ []) a y → 1 ≤ number_of y
    from_one a y stands =
        ⊎_elim (λ (before : StandsAt xs a y). numbered.from_one a y before)
        (λ (new : (a ≡ length xs) × (y ≡ x)). let is = ap number_of new.1 in omega (arith, numbered.next_from_one))
        (stood_or_new xs x a y stands)

    below_next : (a : ℕ) (y : X) → StandsAt (xs ++ x ∷ []) a y → number_of y < next + 1
    below_next a y stands =
        ⊎_elim (λ (before : StandsAt xs a y). omega (arith, numbered.below_next a y before))
        (λ (new : (a ≡ length xs) × (y ≡ x)). let is = ap number_of new.1 in omega arith)
        (stood_or_new xs x a y stands)

    ascending : (a b : ℕ) (y z : X) → a < b → StandsAt (xs ++ x ∷ []) a y → StandsAt (xs ++ x ∷ []) b z → number_of y < number_of z
    ascending a b y z lt first second =
        ⊎_elim
        (λ (before : StandsAt xs b z).
        ⊎_elim (λ (there : StandsAt xs a y). numbered.ascending a b y z lt there before)
        (λ (new : (a ≡ length xs) × (y ≡ x)). let inside = slice_get_within xs b z before in absurd (omega arith))
        (stood_or_new xs x a y first))
        (λ (last : (b ≡ length xs) × (z ≡ x)).
        let is = ap number_of last.1 in
        ⊎_elim (λ (there : StandsAt xs a y). omega (arith, numbered.below_next a y there))
        (λ (new : (a ≡ length xs) × (y ≡ x)). absurd (omega arith))
        (stood_or_new xs x a y first))
        (stood_or_new xs x b z second)

    one_name : (a b : ℕ) (y z : X) → a < b → StandsAt (xs ++ x ∷ []) a y → StandsAt (xs ++ x ∷ []) b z → name_of y ≢ name_of z
    one_name a b y z lt first second =
        ⊎_elim
        (λ (before : StandsAt xs b z).
        ⊎_elim (λ (there : StandsAt xs a y). numbered.one_name a b y z lt there before)
        (λ (new : (a ≡ length xs) × (y ≡ x)). let inside = slice_get_within xs b z before in absurd (omega arith))
        (stood_or_new xs x a y first))
        (λ (last : (b ≡ length xs) × (z ≡ x)).
        ⊎_elim (λ (there : StandsAt xs a y). λ same. new_name a y there (same ∙ ap name_of last.1))
        (λ (new : (a ≡ length xs) × (y ≡ x)). absurd (omega arith))
        (stood_or_new xs x a y first))
        (stood_or_new xs x b z second)

-- an item that is changed keeps its number and its name
pub numbered_changed : {X : Type 0} (number_of : X → ℕ) (name_of : X → List ℕ) (next : ℕ) (f : X → X) (place : ℕ) (xs : List X) → ((x : X) → number_of (f x) ≡ number_of x) → ((x : X) → name_of (f x) ≡ name_of x)
    → AreNumbered number_of name_of next xs → AreNumbered number_of name_of next (change_at f place xs)
numbered_changed {X} number_of name_of next f place xs keeps_number keeps_name numbered = record {
  next_from_one = numbered.next_from_one;
  from_one = λ a y stands. let was = before a y stands in subst (λ (n : ℕ). 1 ≤ n) (sym was.2) (numbered.from_one a was.0 was.1);
  below_next = λ a y stands. let was = before a y stands in subst (λ (n : ℕ). n < next) (sym was.2) (numbered.below_next a was.0 was.1);
  ascending = λ a b y z lt first second. let one = before a y first in let other = before b z second in omega (arith, one.2, other.2, numbered.ascending a b one.0 other.0 lt one.1 other.1);
  one_name = λ a b y z lt first second same. let one = before a y first in let other = before b z second in numbered.one_name a b one.0 other.0 lt one.1 other.1 (sym one.3 ∙ same ∙ other.3);
}
  where
    before : (a : ℕ) (y : X) → StandsAt (change_at f place xs) a y → (x : X) × StandsAt xs a x × (number_of y ≡ number_of x) × (name_of y ≡ name_of x)
    before a y stands =
        let was = stood_or_changed f place xs a y stands in
        ⊎_elim (λ (same : y ≡ was.0). (was.0, was.1, ap number_of same, ap name_of same))
        (λ (changed : (a ≡ place) × (y ≡ f was.0)). (was.0, was.1, ap number_of changed.1 ∙ keeps_number was.0, ap name_of changed.1 ∙ keeps_name was.0))
        was.2

-- where an item of a list without one stood before
abbrev pub skipped : ℕ → ℕ → ℕ
skipped zero a = suc a
skipped (suc place) zero = zero
skipped (suc place) (suc a) = suc (skipped place a)

-- the items keep their order
skipped_order : (place a b : ℕ) → a < b → skipped place a < skipped place b
skipped_order zero a b lt = omega arith
skipped_order (suc place) zero zero lt = absurd (omega arith)
skipped_order (suc place) zero (suc b) lt = omega arith
skipped_order (suc place) (suc a) zero lt = absurd (omega arith)
skipped_order (suc place) (suc a) (suc b) lt = let rest = skipped_order place a b (omega arith) in omega arith

pub stood_before_removal : {X : Type 0} (place : ℕ) (xs : List X) (a : ℕ) (y : X) → StandsAt (remove xs place) a y → StandsAt xs (skipped place a) y
stood_before_removal zero [] a y stands = no_item y stands
stood_before_removal (suc place) [] a y stands = no_item y stands
stood_before_removal zero (x ∷ xs) a y stands = stands
stood_before_removal (suc place) (x ∷ xs) zero y stands = stands
stood_before_removal (suc place) (x ∷ xs) (suc a) y stands = stood_before_removal place xs a y stands

-- no item comes by a removal
pub length_removed : {X : Type 0} (xs : List X) (place : ℕ) → length (remove xs place) ≤ length xs
length_removed xs place = simp (length-append, length-take, length-drop) (omega arith)

-- the items that are left keep their numbers, and the next number stays
pub numbered_less : {X : Type 0} (number_of : X → ℕ) (name_of : X → List ℕ) (next : ℕ) (place : ℕ) (xs : List X) → AreNumbered number_of name_of next xs → AreNumbered number_of name_of next (remove xs place)
numbered_less number_of name_of next place xs numbered = record {
  next_from_one = numbered.next_from_one;
  from_one = λ a x stands. numbered.from_one (skipped place a) x (stood_before_removal place xs a x stands);
  below_next = λ a x stands. numbered.below_next (skipped place a) x (stood_before_removal place xs a x stands);
  ascending = λ a b x y lt first second. numbered.ascending (skipped place a) (skipped place b) x y (skipped_order place a b lt) (stood_before_removal place xs a x first) (stood_before_removal place xs b y second);
  one_name = λ a b x y lt first second. numbered.one_name (skipped place a) (skipped place b) x y (skipped_order place a b lt) (stood_before_removal place xs a x first) (stood_before_removal place xs b y second);
}
