-- What holds of the items of lists, and of lists that are joined.
use Rattle.std.proofs.Common.{◌≡◌, ◌∙◌, ℕ, zero, suc, ◌<◌, Bool, true, false, true≢false, ◌==◌, cond, List, [], ◌∷◌, ◌++◌, map, Option, Some, None, refl, sym, ap, subst, ⊎_elim, arith}
use Rattle.std.specs.Prelude.{find, filter, flat_map}
use Rattle.std.specs.List.{AllByRecursion, list_any}
use Rattle.std.proofs.lemmas.Bool.{eqb-true, eq-eqb, ne_eqb, or_cases, or_left, or_right, or_from, or_parts}
use Rattle.std.proofs.lemmas.List.{append-nil}
use Rattle.zc_plain.specs.IsPlain.{StandsAt}

abbrev pub some_of : {X : Type 0} → X → Option X
some_of x = Some x

pub one_item : {X : Type 0} (x y : X) → some_of x ≡ some_of y → x ≡ y
one_item x y same = cc

pub no_item : {X A : Type 0} (x : X) → None ≡ some_of x → A
no_item x same = cc

-- ---- what holds of each item

pub each_of : {X : Type 0} (P Q : X → Type 0) (xs : List X) → ((x : X) → P x → Q x) → AllByRecursion P xs → AllByRecursion Q xs
each_of P Q [] step all = tt
each_of P Q (x ∷ xs) step all = (step x all.0, each_of P Q xs step all.1)

pub each_of_two : {X : Type 0} (P Q R : X → Type 0) (xs : List X) → ((x : X) → P x → Q x → R x) → AllByRecursion P xs → AllByRecursion Q xs → AllByRecursion R xs
each_of_two P Q R [] step all also = tt
each_of_two P Q R (x ∷ xs) step all also = (step x all.0 also.0, each_of_two P Q R xs step all.1 also.1)

pub all_append : {X : Type 0} (P : X → Type 0) (xs ys : List X) → AllByRecursion P xs → AllByRecursion P ys → AllByRecursion P (xs ++ ys)
all_append P [] ys all also = also
all_append P (x ∷ xs) ys all also = (all.0, all_append P xs ys all.1 also)

pub all_flat : {X A : Type 0} (P : A → Type 0) (Q : X → Type 0) (f : X → List A) (xs : List X) → ((x : X) → Q x → AllByRecursion P (f x)) → AllByRecursion Q xs → AllByRecursion P (flat_map f xs)
all_flat P Q f [] step all = tt
all_flat P Q f (x ∷ xs) step all = all_append P (f x) (flat_map f xs) (step x all.0) (all_flat P Q f xs step all.1)

pub all_flat_free : {X A : Type 0} (P : A → Type 0) (f : X → List A) (xs : List X) → ((x : X) → AllByRecursion P (f x)) → AllByRecursion P (flat_map f xs)
all_flat_free P f [] step = tt
all_flat_free P f (x ∷ xs) step = all_append P (f x) (flat_map f xs) (step x) (all_flat_free P f xs step)

pub all_standing : {X : Type 0} (P : X → Type 0) (xs : List X) → ((place : ℕ) (x : X) → StandsAt xs place x → P x) → AllByRecursion P xs
all_standing P [] step = tt
all_standing P (x ∷ xs) step = (step 0 x refl, all_standing P xs (λ place y stands. step (suc place) y stands))

pub all_at : {X : Type 0} (P : X → Type 0) (xs : List X) (place : ℕ) (x : X) → AllByRecursion P xs → StandsAt xs place x → P x
all_at P [] place x all stands = no_item x stands
all_at P (y ∷ xs) zero x all stands = subst P (one_item y x stands) all.0
all_at P (y ∷ xs) (suc place) x all stands = all_at P xs place x all.1 stands

pub all_back : {X Y : Type 0} (P : Y → Type 0) (f : X → Y) (xs : List X) → AllByRecursion P (map f xs) → AllByRecursion (λ x. P (f x)) xs
all_back P f [] all = tt
all_back P f (x ∷ xs) all = (all.0, all_back P f xs all.1)

pub all_mapped : {X Y : Type 0} (P : Y → Type 0) (f : X → Y) (xs : List X) → AllByRecursion (λ x. P (f x)) xs → AllByRecursion P (map f xs)
all_mapped P f [] all = tt
all_mapped P f (x ∷ xs) all = (all.0, all_mapped P f xs all.1)

pub stands_mapped : {X Y : Type 0} (f : X → Y) (xs : List X) (place : ℕ) (x : X) → StandsAt xs place x → StandsAt (map f xs) place (f x)
stands_mapped f [] place x stands = no_item x stands
stands_mapped f (y ∷ xs) zero x stands = ap (λ (z : _). some_of (f z)) (one_item y x stands)
stands_mapped f (y ∷ xs) (suc place) x stands = stands_mapped f xs place x stands

-- a test finds an item for which what holds of each holds
pub found_has : {X : Type 0} (P : X → Type 0) (test : X → Bool) (xs : List X) (x : X) → AllByRecursion P xs → find test xs ≡ Some x → P x × (test x ≡ true)
found_has P test [] x all found = no_item x found
found_has {X} P test (y ∷ xs) x all found = by (λ there. found_has P test xs x all.1 there) (test y) refl found where
  by : (find test xs ≡ Some x → P x × (test x ≡ true)) → (here : Bool) → test y ≡ here → cond here (Some y) (find test xs) ≡ Some x → P x × (test x ≡ true)
  by rest true is there =
      let same : y ≡ x = one_item y x there in
      (subst P same all.0, ap test (sym same) ∙ is)
  by rest false is there = rest there

-- ---- what some item passes

pub any_left : {X : Type 0} (test : X → Bool) (xs ys : List X) → list_any test xs ≡ true → list_any test (xs ++ ys) ≡ true
any_left test [] ys some = absurd (true≢false (sym some))
any_left test (x ∷ xs) ys some =
    ⊎_elim (λ (here : test x ≡ true). or_left (test x) (list_any test (xs ++ ys)) here) (λ (later : list_any test xs ≡ true). or_right (test x) (list_any test (xs ++ ys)) (any_left test xs ys later))
    (or_cases (test x) (list_any test xs) some)

pub any_right : {X : Type 0} (test : X → Bool) (xs ys : List X) → list_any test ys ≡ true → list_any test (xs ++ ys) ≡ true
any_right test [] ys some = some
any_right test (x ∷ xs) ys some = or_right (test x) (list_any test (xs ++ ys)) (any_right test xs ys some)

pub any_flat : {X A : Type 0} (test : A → Bool) (f : X → List A) (xs : List X) (place : ℕ) (x : X) → StandsAt xs place x → list_any test (f x) ≡ true → list_any test (flat_map f xs) ≡ true
any_flat test f [] place x stands some = no_item x stands
any_flat test f (y ∷ xs) zero x stands some = any_left test (f y) (flat_map f xs) (ap (λ (z : _). list_any test (f z)) (one_item y x stands) ∙ some)
any_flat test f (y ∷ xs) (suc place) x stands some = any_right test (f y) (flat_map f xs) (any_flat test f xs place x stands some)

pub any_number : {A : Type 0} (test : A → Bool) (f : ℕ → List A) (number : ℕ) (numbers : List ℕ) → list_any (λ (one : ℕ). one == number) numbers ≡ true → list_any test (f number) ≡ true → list_any test (flat_map f numbers) ≡ true
any_number test f number [] among some = absurd (true≢false (sym among))
any_number test f number (one ∷ numbers) among some =
    ⊎_elim
    (λ (here : (one == number) ≡ true). any_left test (f one) (flat_map f numbers) (ap (λ (n : ℕ). list_any test (f n)) (eqb-true one number here) ∙ some))
    (λ (later : list_any (λ (other : ℕ). other == number) numbers ≡ true). any_right test (f one) (flat_map f numbers) (any_number test f number numbers later some))
    (or_cases (one == number) (list_any (λ (other : ℕ). other == number) numbers) among)

pub none_append : {X : Type 0} (test : X → Bool) (xs ys : List X) → list_any test xs ≡ false → list_any test ys ≡ false → list_any test (xs ++ ys) ≡ false
none_append test [] ys none also = also
none_append test (x ∷ xs) ys none also =
    let parts = or_parts (test x) (list_any test xs) none in
    or_from (test x) (list_any test (xs ++ ys)) parts.0 (none_append test xs ys parts.1 also)

pub none_of : {X : Type 0} (test : X → Bool) (xs : List X) → AllByRecursion (λ x. test x ≡ false) xs → list_any test xs ≡ false
none_of test [] all = refl
none_of test (x ∷ xs) all = or_from (test x) (list_any test xs) all.0 (none_of test xs all.1)

-- ---- numbers that ascend

-- each number is below those after it
abbrev pub Rises : {X : Type 0} → (X → ℕ) → List X → Type 0
Rises number_of [] = Unit {0}
Rises number_of (x ∷ xs) = AllByRecursion (λ y. number_of x < number_of y) xs × Rises number_of xs

pub rises_from : {X : Type 0} (number_of : X → ℕ) (xs : List X) → ((a b : ℕ) (x y : X) → a < b → StandsAt xs a x → StandsAt xs b y → number_of x < number_of y) → Rises number_of xs
rises_from number_of [] ascending = tt
rises_from number_of (x ∷ xs) ascending = (
  all_standing (λ y. number_of x < number_of y) xs (λ place y stands. ascending 0 (suc place) x y (omega arith) refl stands),
  rises_from number_of xs (λ a b y z before first second. ascending (suc a) (suc b) y z (omega arith) first second),
)

pub rises_back : {X Y : Type 0} (number_of : Y → ℕ) (f : X → Y) (xs : List X) → Rises number_of (map f xs) → Rises (λ x. number_of (f x)) xs
rises_back number_of f [] rises = tt
rises_back number_of f (x ∷ xs) rises = (all_back (λ y. number_of (f x) < number_of y) f xs rises.0, rises_back number_of f xs rises.1)

-- an item is found by its number
pub find_is : {X : Type 0} (number_of : X → ℕ) (xs : List X) (place : ℕ) (x : X) → Rises number_of xs → StandsAt xs place x → find (λ y. number_of y == number_of x) xs ≡ Some x
find_is number_of [] place x rises stands = no_item x stands
find_is number_of (y ∷ xs) zero x rises stands =
    let same = one_item y x stands in
    (λ i. cond (eq-eqb (number_of y) (number_of x) (ap number_of same) i) (some_of y) (find (λ z. number_of z == number_of x) xs)) ∙ ap some_of same
find_is number_of (y ∷ xs) (suc place) x rises stands =
    let below = all_at (λ z. number_of y < number_of z) xs place x rises.0 stands in
    (λ i. cond (ne_eqb (number_of y) (number_of x) (λ same. absurd (omega (arith, below))) i) (some_of y) (find (λ z. number_of z == number_of x) xs)) ∙ find_is number_of xs place x rises.1 stands

-- what the items of a number give is what the one gives that has it
none_given : {X A : Type 0} (number_of : X → ℕ) (give : X → List A) (number : ℕ) (xs : List X) → AllByRecursion (λ x. number < number_of x) xs → flat_map (λ x. cond (number_of x == number) (give x) []) xs ≡ []
none_given number_of give number [] above = refl
none_given number_of give number (x ∷ xs) above =
    λ i. cond (ne_eqb (number_of x) number (λ same. absurd (omega (arith, above.0))) i) (give x) [] ++ none_given number_of give number xs above.1 i

pub flat_only : {X A : Type 0} (number_of : X → ℕ) (give : X → List A) (xs : List X) (place : ℕ) (x : X) → Rises number_of xs → StandsAt xs place x → flat_map (λ y. cond (number_of y == number_of x) (give y) []) xs ≡ give x
flat_only number_of give [] place x rises stands = no_item x stands
flat_only number_of give (y ∷ xs) zero x rises stands =
    let same = one_item y x stands in
    let number : number_of y ≡ number_of x = ap number_of same in
    (λ i. cond (eq-eqb (number_of y) (number_of x) number i) (give y) []
    ++ none_given number_of give (number_of x) xs (each_of (λ z. number_of y < number_of z) (λ z. number_of x < number_of z) xs (λ z below. omega (arith, number)) rises.0) i)
    ∙ append-nil (give y) ∙ ap give same
flat_only number_of give (y ∷ xs) (suc place) x rises stands =
    let below = all_at (λ z. number_of y < number_of z) xs place x rises.0 stands in
    (λ i. cond (ne_eqb (number_of y) (number_of x) (λ same. absurd (omega (arith, below))) i) (give y) [] ++ flat_map (λ z. cond (number_of z == number_of x) (give z) []) xs) ∙ flat_only number_of give xs place x rises.1 stands

-- a filter gives each item that passes
pub filter_flat : {X : Type 0} (test : X → Bool) (xs : List X) → filter test xs ≡ flat_map (λ x. cond (test x) (x ∷ []) []) xs
filter_flat test [] = refl
filter_flat {X} test (x ∷ xs) = by (filter_flat test xs) (test x) where
  by : filter test xs ≡ flat_map (λ y. cond (test y) (y ∷ []) []) xs → (here : Bool) → cond here (x ∷ filter test xs) (filter test xs) ≡ cond here (x ∷ []) [] ++ flat_map (λ y. cond (test y) (y ∷ []) []) xs
  by rest true = ap (λ (others : List X). x ∷ others) rest
  by rest false = rest
