-- The first of many that is hit: where none is, where one is, and the steps of a loop that looks for it.
use Rattle.std.proofs.Common.{◌≡◌, ◌∙◌, ℕ, zero, suc, ◌+◌, ◌-◌, ◌<◌, ◌≤◌, ◌⊎◌, Option, Some, None, List, [], ◌∷◌, ◌++◌, map, length, get_or, drop, refl, sym, ap, ⊎_elim, arith}
use Rattle.std.specs.List.{AllByRecursion}
use Rattle.std.proofs.lemmas.Bool.{cases_order}
use Rattle.std.proofs.lemmas.List.{at_drop_more, drop_all}
use Rattle.zc_damage.specs.Words.{or_else, first_of, first_from}

-- ---- one or the other

-- where the choice is None, both are
pub neither : {Y : Type 0} (one other : Option Y) → or_else one other ≡ None → (one ≡ None) × (other ≡ None)
neither None other none = (refl, none)
neither (Some y) other none = absurd cc

-- where both are None, the choice is
pub none_of_both : {Y : Type 0} (one other : Option Y) → one ≡ None → other ≡ None → or_else one other ≡ None
none_of_both one other first second = rw (first, second) refl

-- after None comes the other
pub other_if_none : {Y : Type 0} (one other : Option Y) → one ≡ None → or_else one other ≡ other
other_if_none one other none = rw none refl

-- where one is there, it is the choice
pub one_if_some : {Y : Type 0} (one other : Option Y) (y : Y) → one ≡ Some y → or_else one other ≡ Some y
one_if_some one other y is = rw is refl

-- choices group either way
pub or_else_assoc : {Y : Type 0} (one other third : Option Y) → or_else (or_else one other) third ≡ or_else one (or_else other third)
or_else_assoc None other third = refl
or_else_assoc (Some y) other third = refl

-- a choice that ends in None
pub or_else_none : {Y : Type 0} (one : Option Y) → or_else one None ≡ one
or_else_none None = refl
or_else_none (Some y) = refl

-- ---- the numbers from one on

-- where none is hit, none of them is
pub none_from : {Y : Type 0} (f : ℕ → Option Y) (k n : ℕ) → first_from f k n ≡ None → (i : ℕ) → k ≤ i → i < k + n → f i ≡ None
none_from f k zero none i from below = absurd (omega arith)
none_from {Y} f k (suc n) none i from below =
    let both = neither (f k) (first_from f (k + 1) n) none in
    ⊎_elim
    (λ (here : k ≡ i). ap f (sym here) ∙ both.0)
    (λ (there : (k < i) ⊎ (i < k)).
    ⊎_elim (λ (on : k < i). none_from f (k + 1) n both.1 i (omega arith) (omega arith)) (λ (back : i < k). absurd (omega arith)) there)
    (cases_order k i)

-- where none of them is hit, none is found
pub from_none : {Y : Type 0} (f : ℕ → Option Y) (k n : ℕ) → ((i : ℕ) → k ≤ i → i < k + n → f i ≡ None) → first_from f k n ≡ None
from_none f k zero none = refl
from_none f k (suc n) none =
    none_of_both (f k) (first_from f (k + 1) n) (none k (omega arith) (omega arith)) (from_none f (k + 1) n (λ i from below. none i (omega arith) (omega arith)))

-- i is the first of the n numbers from k on that is hit, and y is what comes of it
pub record IsFirstNumber {Y : Type 0} (f : ℕ → Option Y) (k n i : ℕ) (y : Y) : Type 0 where
  pub from : k ≤ i
  pub below : i < k + n
  pub hit : f i ≡ Some y
  pub before : (j : ℕ) → k ≤ j → j < i → f j ≡ None

-- what is found comes of the first that is hit
pub first_number : {Y : Type 0} (f : ℕ → Option Y) (k n : ℕ) (y : Y) → first_from f k n ≡ Some y → (i : ℕ) × IsFirstNumber f k n i y
first_number f k zero y found = absurd cc
first_number {Y} f k (suc n) y found = at_first (f k) refl found (λ found_after. first_number f (k + 1) n y found_after)
  where
    earlier : (i : ℕ) → f k ≡ None → IsFirstNumber f (k + 1) n i y → (j : ℕ) → k ≤ j → j < i → f j ≡ None
    earlier i none first j from_k before =
        ⊎_elim
        (λ (here : k ≡ j). ap f (sym here) ∙ none)
        (λ (there : (k < j) ⊎ (j < k)).
        ⊎_elim (λ (on : k < j). first.before j (omega arith) before) (λ (back : j < k). absurd (omega arith)) there)
        (cases_order k j)

    behind : f k ≡ None → ((i : ℕ) × IsFirstNumber f (k + 1) n i y) → (i : ℕ) × IsFirstNumber f k (suc n) i y
    behind none rest = (
      rest.0,
      record {
        from = omega (arith, rest.1.from);
        below = omega (arith, rest.1.below);
        hit = rest.1.hit;
        before = earlier rest.0 none rest.1;
      },
    )

    at_first : (one : Option Y) → f k ≡ one → or_else one (first_from f (k + 1) n) ≡ Some y → (first_from f (k + 1) n ≡ Some y → (i : ℕ) × IsFirstNumber f (k + 1) n i y) → (i : ℕ) × IsFirstNumber f k (suc n) i y
    at_first None is found others = behind is (others found)
    at_first (Some x) is found others = (k, record { from = omega arith; below = omega arith; hit = is ∙ found; before = λ j from_k before. absurd (omega arith) })

-- what comes of the first that is hit is found
pub from_first : {Y : Type 0} (f : ℕ → Option Y) (k n i : ℕ) (y : Y) → IsFirstNumber f k n i y → first_from f k n ≡ Some y
from_first f k zero i y first = absurd (omega (arith, first.from, first.below))
from_first {Y} f k (suc n) i y first =
    ⊎_elim
    (λ (here : k ≡ i). one_if_some (f k) (first_from f (k + 1) n) y (ap f here ∙ first.hit))
    (λ (there : (k < i) ⊎ (i < k)).
    ⊎_elim
    (λ (on : k < i).
    other_if_none (f k) (first_from f (k + 1) n) (first.before k (omega arith) on)
    ∙ from_first f (k + 1) n i y (record { from = omega arith; below = omega (arith, first.below); hit = first.hit; before = λ j from_k before. first.before j (omega arith) before }))
    (λ (back : i < k). absurd (omega (arith, first.from))) there)
    (cases_order k i)

-- two functions that agree on the numbers find the same
pub same_first_from : {Y : Type 0} (f g : ℕ → Option Y) (k n : ℕ) → ((i : ℕ) → k ≤ i → i < k + n → f i ≡ g i) → first_from f k n ≡ first_from g k n
same_first_from f g k zero agree = refl
same_first_from {Y} f g k (suc n) agree =
    let rest : first_from f (k + 1) n ≡ first_from g (k + 1) n = same_first_from f g (k + 1) n (λ i from below. agree i (omega arith) (omega arith)) in
    ap (λ (one : Option Y). or_else one (first_from f (k + 1) n)) (agree k (omega arith) (omega arith)) ∙ ap (or_else (g k)) rest

-- ---- a loop over numbers, of which the first k are passed by

-- a number that isn't hit is passed by
pub number_passed : {Y : Type 0} (f : ℕ → Option Y) (k n : ℕ) (total : Option Y) → k < n → f k ≡ None → first_from f k (n - k) ≡ total → first_from f (k + 1) (n - (k + 1)) ≡ total
number_passed f k n total lt none so_far =
    let more : n - k ≡ suc (n - (k + 1)) = omega arith in
    sym (other_if_none (f k) (first_from f (k + 1) (n - (k + 1))) none) ∙ sym (ap (first_from f k) more) ∙ so_far

-- the one that is hit is the first
pub number_found : {Y : Type 0} (f : ℕ → Option Y) (k n : ℕ) (y : Y) (total : Option Y) → k < n → f k ≡ Some y → first_from f k (n - k) ≡ total → Some y ≡ total
number_found f k n y total lt is so_far =
    let more : n - k ≡ suc (n - (k + 1)) = omega arith in
    sym (one_if_some (f k) (first_from f (k + 1) (n - (k + 1))) y is) ∙ sym (ap (first_from f k) more) ∙ so_far

-- none is hit
pub numbers_passed : {Y : Type 0} (f : ℕ → Option Y) (k n : ℕ) (total : Option Y) → n ≤ k → first_from f k (n - k) ≡ total → None ≡ total
numbers_passed f k n total le so_far =
    let none : n - k ≡ 0 = omega arith in
    sym (ap (first_from f k) none) ∙ so_far

-- ---- the items of a list

-- where none is hit, none of them is
pub none_of : {X Y : Type 0} (f : X → Option Y) (xs : List X) → first_of f xs ≡ None → AllByRecursion (λ x. f x ≡ None) xs
none_of f [] none = tt
none_of f (x ∷ xs) none =
    let both = neither (f x) (first_of f xs) none in
    (both.0, none_of f xs both.1)

-- where none of them is hit, none is found
pub of_none : {X Y : Type 0} (f : X → Option Y) (xs : List X) → AllByRecursion (λ x. f x ≡ None) xs → first_of f xs ≡ None
of_none f [] none = refl
of_none f (x ∷ xs) none = none_of_both (f x) (first_of f xs) none.0 (of_none f xs none.1)

-- x is the first item that is hit, after those of the front, and y is what comes of it
pub record IsFirstItem {X Y : Type 0} (f : X → Option Y) (xs : List X) (front : List X) (x : X) (back : List X) (y : Y) : Type 0 where
  pub split : xs ≡ front ++ x ∷ back
  pub hit : f x ≡ Some y
  pub before : AllByRecursion (λ x. f x ≡ None) front

-- what is found comes of the first that is hit
pub first_item : {X Y : Type 0} (f : X → Option Y) (xs : List X) (y : Y) → first_of f xs ≡ Some y → (front : List X) × ((x : X) × ((back : List X) × IsFirstItem f xs front x back y))
first_item f [] y found = absurd cc
first_item {X} {Y} f (x ∷ xs) y found = at_first (f x) refl found (λ found_after. first_item f xs y found_after)
  where
    behind : f x ≡ None → ((front : List X) × ((z : X) × ((back : List X) × IsFirstItem f xs front z back y))) → (front : List X) × ((z : X) × ((back : List X) × IsFirstItem f (x ∷ xs) front z back y))
    behind none rest = (
      x ∷ rest.0,
      (
        rest.1.0,
        (
          rest.1.1.0,
          record {
            split = ap (λ (others : List X). x ∷ others) rest.1.1.1.split;
            hit = rest.1.1.1.hit;
            before = (none, rest.1.1.1.before);
          },
        ),
      ),
    )

    at_first : (one : Option Y) → f x ≡ one → or_else one (first_of f xs) ≡ Some y → (first_of f xs ≡ Some y → (front : List X) × ((z : X) × ((back : List X) × IsFirstItem f xs front z back y))) → (front : List X) × ((z : X) × ((back : List X) × IsFirstItem f (x ∷ xs) front z back y))
    at_first None is found others = behind is (others found)
    at_first (Some z) is found others = ([], (x, (xs, record { split = refl; hit = is ∙ found; before = tt })))

-- of two lists, one after the other, the first is looked through first
pub first_of_append : {X Y : Type 0} (f : X → Option Y) (xs ys : List X) → first_of f (xs ++ ys) ≡ or_else (first_of f xs) (first_of f ys)
first_of_append f [] ys = refl
first_of_append {X} {Y} f (x ∷ xs) ys = ap (or_else (f x)) (first_of_append f xs ys) ∙ sym (or_else_assoc (f x) (first_of f xs) (first_of f ys))

-- what comes of the first that is hit is found
pub of_first : {X Y : Type 0} (f : X → Option Y) (xs front : List X) (x : X) (back : List X) (y : Y) → IsFirstItem f xs front x back y → first_of f xs ≡ Some y
of_first f xs front x back y first =
    ap (first_of f) first.split ∙ first_of_append f front (x ∷ back)
    ∙ other_if_none (first_of f front) (first_of f (x ∷ back)) (of_none f front first.before)
    ∙ one_if_some (f x) (first_of f back) y first.hit

-- ---- a loop over a list, of which the first i items are passed by

-- an item that isn't hit is passed by
pub item_passed : {X Y : Type 0} (f : X → Option Y) (xs : List X) (i : ℕ) (x : X) (total : Option Y) → i < length xs → x ≡ get_or xs i x → f x ≡ None → first_of f (drop i xs) ≡ total → first_of f (drop (i + 1) xs) ≡ total
item_passed f xs i x total within is none so_far =
    let none_there : f (get_or xs i x) ≡ None = ap f (sym is) ∙ none in
    sym (other_if_none (f (get_or xs i x)) (first_of f (drop (i + 1) xs)) none_there) ∙ sym (at_drop_more (first_of f) xs i x within) ∙ so_far

-- the one that is hit is the first
pub item_found : {X Y : Type 0} (f : X → Option Y) (xs : List X) (i : ℕ) (x : X) (y : Y) (total : Option Y) → i < length xs → x ≡ get_or xs i x → f x ≡ Some y → first_of f (drop i xs) ≡ total → Some y ≡ total
item_found f xs i x y total within is hit so_far =
    let hit_there : f (get_or xs i x) ≡ Some y = ap f (sym is) ∙ hit in
    sym (one_if_some (f (get_or xs i x)) (first_of f (drop (i + 1) xs)) y hit_there) ∙ sym (at_drop_more (first_of f) xs i x within) ∙ so_far

-- none is hit
pub items_passed : {X Y : Type 0} (f : X → Option Y) (xs : List X) (i : ℕ) (total : Option Y) → length xs ≤ i → first_of f (drop i xs) ≡ total → None ≡ total
items_passed f xs i total le so_far = sym (ap (first_of f) (drop_all i xs le)) ∙ so_far

-- what is found among the images is found through the image
pub first_of_map : {X Y Z : Type 0} (f : Y → Option Z) (g : X → Y) (xs : List X) → first_of f (map g xs) ≡ first_of (λ x. f (g x)) xs
first_of_map f g [] = refl
first_of_map f g (x ∷ xs) = ap (or_else (f (g x))) (first_of_map f g xs)
