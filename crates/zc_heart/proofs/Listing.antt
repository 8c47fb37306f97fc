-- Lists of items with numbers: what is found in them, and what they are once an item is changed or taken out.
use Rattle.std.proofs.Common.{◌≡◌, ℕ, zero, suc, ◌+◌, ◌<◌, ◌≤◌, ◌==◌, Bool, true, false, cond, List, [], ◌∷◌, ◌++◌, map, Some, None, ◌⊎◌, inl, inr, refl, sym, ap, subst, ◌∙◌, ⊎_elim, arith}
use Rattle.std.specs.Prelude.{find, remove, sum_by, count_by, flat_map}
use Rattle.std.specs.List.{AllByRecursion}
use Rattle.std.proofs.lemmas.Bool.{cases_Bool, eq-eqb, ne_eqb}
use Rattle.std.proofs.lemmas.List.Sums.{sum_by-cons, sum_by-append, sum_by_push}
use Rattle.std.proofs.lemmas.List.Concat.{flat_map-cons}
use Rattle.zc_num.specs.Words.{change_at, found_from}
use Rattle.zc_plain.specs.IsPlain.{StandsAt}
use Rattle.zc_plain.proofs.NumberedLaws.{one_item, no_item}
use Rattle.zc_heart.specs.Changes.{change_by, without}

-- ---- what holds of each item

-- what holds of each item holds of the one at a place
pub holds_there : {X : Type 0} (P : X → Type 0) (xs : List X) (at : ℕ) (x : X) → AllByRecursion P xs → StandsAt xs at x → P x
holds_there P [] at x all stands = no_item x stands
holds_there P (y ∷ xs) zero x all stands = subst_in P y x (one_item y x stands) all.0
  where
    subst_in : {X : Type 0} (P : X → Type 0) (y x : X) → y ≡ x → P y → P x
    subst_in P y x same holds = rw same at holds
holds_there P (y ∷ xs) (suc at) x all stands = holds_there P xs at x all.1 stands

-- and what holds of the one at each place holds of each item
pub holds_of_each : {X : Type 0} (P : X → Type 0) (xs : List X) → ((at : ℕ) (x : X) → StandsAt xs at x → P x) → AllByRecursion P xs
holds_of_each P [] there = tt
holds_of_each P (x ∷ xs) there = (there 0 x refl, holds_of_each P xs (λ at y stands. there (suc at) y stands))

-- an item of the image
pub stands_in_map : {X Y : Type 0} (g : X → Y) (xs : List X) (at : ℕ) (x : X) → StandsAt xs at x → StandsAt (map g xs) at (g x)
stands_in_map g [] at x stands = no_item x stands
stands_in_map g (y ∷ xs) zero x stands = ap (λ z. Some (g z)) (one_item y x stands)
stands_in_map g (y ∷ xs) (suc at) x stands = stands_in_map g xs at x stands

pub stood_in_map : {X Y : Type 0} (g : X → Y) (xs : List X) (at : ℕ) (y : Y) → StandsAt (map g xs) at y → (x : X) × StandsAt xs at x × (y ≡ g x)
stood_in_map g [] at y stands = no_item y stands
stood_in_map g (x ∷ xs) zero y stands = (x, refl, sym (one_item (g x) y stands))
stood_in_map g (x ∷ xs) (suc at) y stands = stood_in_map g xs at y stands

-- ---- what is found

-- in the image is found what is found by the image
pub found_in_map : {X Y : Type 0} (g : X → Y) (test : Y → Bool) (k : ℕ) (xs : List X) → found_from test k (map g xs) ≡ found_from (λ x. test (g x)) k xs
found_in_map g test k [] = refl
found_in_map g test k (x ∷ xs) =
    ⊎_elim
    (λ (passes : test (g x) ≡ true). rw passes refl)
    (λ (fails : test (g x) ≡ false). rw fails (found_in_map g test (k + 1) xs))
    (cases_Bool (test (g x)))

-- What is found by place and what is found itself: both are there, or neither.
pub record FindsAt {X : Type 0} (test : X → Bool) (k : ℕ) (xs : List X) : Type 0 where
  pub at : ℕ
  pub item : X
  pub place : found_from test k xs ≡ Some (k + at)
  pub stands : StandsAt xs at item
  pub found : find test xs ≡ Some item
  pub passes : test item ≡ true

pub record FindsNone {X : Type 0} (test : X → Bool) (k : ℕ) (xs : List X) : Type 0 where
  pub place : found_from test k xs ≡ None
  pub found : find test xs ≡ None

pub finds : {X : Type 0} (test : X → Bool) (k : ℕ) (xs : List X) → FindsAt test k xs ⊎ FindsNone test k xs
finds test k [] = inr (record { place = refl; found = refl })
finds test k (x ∷ xs) =
    ⊎_elim
    (λ (passes : test x ≡ true).
    let here : k ≡ k + 0 = omega arith in
    inl (record { at = 0; item = x; place = rw passes (ap Some here); stands = refl; found = rw passes refl; passes = passes }))
    (λ (fails : test x ≡ false).
    ⊎_elim
    (λ (there : FindsAt test (k + 1) xs).
    let behind : k + 1 + there.at ≡ k + suc there.at = omega arith in
    inl (record { at = suc there.at; item = there.item; place = rw fails (there.place ∙ ap Some behind); stands = there.stands; found = rw fails there.found; passes = there.passes }))
    (λ (none : FindsNone test (k + 1) xs). inr (record { place = rw fails none.place; found = rw fails none.found }))
    (finds test (k + 1) xs))
    (cases_Bool (test x))

-- ---- numbers that ascend

-- the numbers of the items ascend
abbrev pub Ascend : {X : Type 0} → (X → ℕ) → List X → Type 0
Ascend {X} number_of xs = (a b : ℕ) (x y : X) → a < b → StandsAt xs a x → StandsAt xs b y → number_of x < number_of y

pub ascend_after : {X : Type 0} (number_of : X → ℕ) (x : X) (xs : List X) → Ascend number_of (x ∷ xs) → Ascend number_of xs
ascend_after number_of x xs ascend = λ a b y z lt first second. ascend (suc a) (suc b) y z (omega arith) first second

-- no item has a number like the first one's
others_above : {X : Type 0} (number_of : X → ℕ) (x : X) (xs : List X) → Ascend number_of (x ∷ xs) → (at : ℕ) (y : X) → StandsAt xs at y → (number_of y == number_of x) ≡ false
others_above number_of x xs ascend at y stands =
    let above = ascend 0 (suc at) x y (omega arith) refl stands in
    ne_eqb (number_of y) (number_of x) (omega arith)

-- the first one's number is not that of the item after it
first_below : {X : Type 0} (number_of : X → ℕ) (x : X) (xs : List X) → Ascend number_of (x ∷ xs) → (at : ℕ) (y : X) → StandsAt xs at y → (number_of x == number_of y) ≡ false
first_below number_of x xs ascend at y stands =
    let above = ascend 0 (suc at) x y (omega arith) refl stands in
    ne_eqb (number_of x) (number_of y) (omega arith)

-- the item at a place is found by its number
pub found_by_number : {X : Type 0} (number_of : X → ℕ) (xs : List X) (at : ℕ) (x : X) → Ascend number_of xs → StandsAt xs at x → find (λ y. number_of y == number_of x) xs ≡ Some x
found_by_number number_of [] at x ascend stands = no_item x stands
found_by_number number_of (y ∷ xs) zero x ascend stands =
    let same = one_item y x stands in
    let test : (number_of y == number_of x) ≡ true = eq-eqb (number_of y) (number_of x) (ap number_of same) in
    rw test stands
found_by_number number_of (y ∷ xs) (suc at) x ascend stands =
    rw (first_below number_of y xs ascend at x stands) (found_by_number number_of xs at x (ascend_after number_of y xs ascend) stands)

-- a change of what no item has changes nothing
pub none_changed : {X : Type 0} (number_of : X → ℕ) (number : ℕ) (f : X → X) (xs : List X) → ((at : ℕ) (y : X) → StandsAt xs at y → (number_of y == number) ≡ false) → change_by number_of number f xs ≡ xs
none_changed number_of number f [] none = refl
none_changed number_of number f (x ∷ xs) none =
    rw (none 0 x refl) (ap (λ rest. x ∷ rest) (none_changed number_of number f xs (λ at y stands. none (suc at) y stands)))

pub none_taken : {X : Type 0} (number_of : X → ℕ) (number : ℕ) (xs : List X) → ((at : ℕ) (y : X) → StandsAt xs at y → (number_of y == number) ≡ false) → without number_of number xs ≡ xs
none_taken number_of number [] none = refl
none_taken number_of number (x ∷ xs) none =
    rw (none 0 x refl) (ap (λ rest. x ∷ rest) (none_taken number_of number xs (λ at y stands. none (suc at) y stands)))

-- a change by the number is one at the place
pub changed_by_number : {X : Type 0} (number_of : X → ℕ) (f : X → X) (xs : List X) (at : ℕ) (x : X) → Ascend number_of xs → StandsAt xs at x → change_by number_of (number_of x) f xs ≡ change_at f at xs
changed_by_number number_of f [] at x ascend stands = no_item x stands
changed_by_number {X} number_of f (y ∷ xs) zero x ascend stands =
    let same = one_item y x stands in
    let test : (number_of y == number_of y) ≡ true = eq-eqb (number_of y) (number_of y) refl in
    let rest = none_changed number_of (number_of y) f xs (others_above number_of y xs ascend) in
    subst (λ (z : X). change_by number_of (number_of z) f (y ∷ xs) ≡ f y ∷ xs) same (rw test (ap (λ (zs : List X). f y ∷ zs) rest))
changed_by_number number_of f (y ∷ xs) (suc at) x ascend stands =
    rw (first_below number_of y xs ascend at x stands) (ap (λ rest. y ∷ rest) (changed_by_number number_of f xs at x (ascend_after number_of y xs ascend) stands))

-- and so is taking out
pub taken_by_number : {X : Type 0} (number_of : X → ℕ) (xs : List X) (at : ℕ) (x : X) → Ascend number_of xs → StandsAt xs at x → without number_of (number_of x) xs ≡ remove xs at
taken_by_number number_of [] at x ascend stands = no_item x stands
taken_by_number {X} number_of (y ∷ xs) zero x ascend stands =
    let same = one_item y x stands in
    let test : (number_of y == number_of y) ≡ true = eq-eqb (number_of y) (number_of y) refl in
    let rest = none_taken number_of (number_of y) xs (others_above number_of y xs ascend) in
    subst (λ (z : X). without number_of (number_of z) (y ∷ xs) ≡ xs) same (rw test rest)
taken_by_number number_of (y ∷ xs) (suc at) x ascend stands =
    rw (first_below number_of y xs ascend at x stands) (ap (λ rest. y ∷ rest) (taken_by_number number_of xs at x (ascend_after number_of y xs ascend) stands))

-- ---- images

-- the image of a list with an item changed in place
pub map_changed_there : {X Y : Type 0} (g : X → Y) (f : X → X) (h : Y → Y) (place : ℕ) (xs : List X) → ((x : X) → StandsAt xs place x → g (f x) ≡ h (g x)) → map g (change_at f place xs) ≡ change_at h place (map g xs)
map_changed_there g f h place [] turns = refl
map_changed_there g f h zero (x ∷ xs) turns = ap (λ y. y ∷ map g xs) (turns x refl)
map_changed_there g f h (suc place) (x ∷ xs) turns = ap (λ rest. g x ∷ rest) (map_changed_there g f h place xs (λ y stands. turns y stands))

-- the image of a list without an item
pub map_removed : {X Y : Type 0} (g : X → Y) (xs : List X) (place : ℕ) → map g (remove xs place) ≡ remove (map g xs) place
map_removed g [] zero = refl
map_removed g [] (suc place) = refl
map_removed g (x ∷ xs) zero = refl
map_removed g (x ∷ xs) (suc place) = ap (λ rest. g x ∷ rest) (map_removed g xs place)

-- the image of a list with one more item
pub map_more : {X Y : Type 0} (g : X → Y) (xs : List X) (x : X) → map g (xs ++ x ∷ []) ≡ map g xs ++ g x ∷ []
map_more g [] x = refl
map_more g (y ∷ xs) x = ap (λ rest. g y ∷ rest) (map_more g xs x)

-- the image of a list with an item changed by its number, and without it
pub map_changed_by : {X Y : Type 0} (g : X → Y) (f : X → X) (h : Y → Y) (number_of : X → ℕ) (other : Y → ℕ) (number : ℕ) (xs : List X) → ((x : X) → other (g x) ≡ number_of x)
    → ((at : ℕ) (x : X) → StandsAt xs at x → (number_of x == number) ≡ true → g (f x) ≡ h (g x)) → map g (change_by number_of number f xs) ≡ change_by other number h (map g xs)
map_changed_by g f h number_of other number [] same turns = refl
map_changed_by {X} {Y} g f h number_of other number (x ∷ xs) same turns =
    let rest = map_changed_by g f h number_of other number xs same (λ at y stands. turns (suc at) y stands) in
    let numbers = same x in
    ⊎_elim
    (λ (here : (number_of x == number) ≡ true). rw (numbers, here) (ap (λ (y : Y). y ∷ map g (change_by number_of number f xs)) (turns 0 x refl here) ∙ ap (λ (ys : List Y). h (g x) ∷ ys) rest))
    (λ (there : (number_of x == number) ≡ false). rw (numbers, there) (ap (λ (ys : List Y). g x ∷ ys) rest))
    (cases_Bool (number_of x == number))

pub map_without : {X Y : Type 0} (g : X → Y) (number_of : X → ℕ) (other : Y → ℕ) (number : ℕ) (xs : List X) → ((x : X) → other (g x) ≡ number_of x) → map g (without number_of number xs) ≡ without other number (map g xs)
map_without g number_of other number [] same = refl
map_without {X} {Y} g number_of other number (x ∷ xs) same =
    let rest = map_without g number_of other number xs same in
    let numbers = same x in
    ⊎_elim
    (λ (here : (number_of x == number) ≡ true). rw (numbers, here) rest)
    (λ (there : (number_of x == number) ≡ false). rw (numbers, there) (ap (λ (ys : List Y). g x ∷ ys) rest))
    (cases_Bool (number_of x == number))

-- ---- sums

-- the sum once an item is changed, and once it is taken out
pub sum_changed : {X : Type 0} (g : X → ℕ) (y : X) (place : ℕ) (xs : List X) (x : X) → StandsAt xs place x → sum_by g (change_at (λ _. y) place xs) + g x ≡ sum_by g xs + g y
sum_changed g y place [] x stands = no_item x stands
sum_changed g y zero (z ∷ xs) x stands = let same = ap g (one_item z x stands) in rw (sum_by-cons, sum_by-cons) (omega arith)
sum_changed g y (suc place) (z ∷ xs) x stands = let rest = sum_changed g y place xs x stands in rw (sum_by-cons, sum_by-cons) (omega arith)

pub sum_removed : {X : Type 0} (g : X → ℕ) (place : ℕ) (xs : List X) (x : X) → StandsAt xs place x → sum_by g (remove xs place) + g x ≡ sum_by g xs
sum_removed g place [] x stands = no_item x stands
sum_removed g zero (z ∷ xs) x stands = let same = ap g (one_item z x stands) in rw sum_by-cons (omega arith)
sum_removed g (suc place) (z ∷ xs) x stands = let rest = sum_removed g place xs x stands in rw (sum_by-cons, sum_by-cons) (omega arith)

pub sum_more : {X : Type 0} (g : X → ℕ) (xs : List X) (x : X) → sum_by g (xs ++ x ∷ []) ≡ sum_by g xs + g x
sum_more g xs x = sum_by_push g xs x

-- one of the items is no more than all
pub sum_of_one : {X : Type 0} (g : X → ℕ) (place : ℕ) (xs : List X) (x : X) → StandsAt xs place x → g x ≤ sum_by g xs
sum_of_one g place xs x stands = let rest = sum_removed g place xs x stands in omega arith

-- what is counted of two lists
pub counted_both : {X : Type 0} (p : X → Bool) (xs ys : List X) → count_by p (xs ++ ys) ≡ count_by p xs + count_by p ys
counted_both p xs ys = sum_by-append (λ x. cond (p x) 1 0) xs ys

-- what is counted of all that comes of items
pub counted_flat : {X Y : Type 0} (p : Y → Bool) (f : X → List Y) (xs : List X) → count_by p (flat_map f xs) ≡ sum_by (λ x. count_by p (f x)) xs
counted_flat p f [] = refl
counted_flat p f (x ∷ xs) =
    let rest = counted_flat p f xs in
    let both = counted_both p (f x) (flat_map f xs) in
    rw (flat_map-cons, both, sum_by-cons) (omega arith)

-- the sum of an image
pub sum_mapped : {X Y : Type 0} (g : Y → ℕ) (f : X → Y) (xs : List X) → sum_by g (map f xs) ≡ sum_by (λ x. g (f x)) xs
sum_mapped g f [] = refl
sum_mapped g f (x ∷ xs) = let rest = sum_mapped g f xs in rw (sum_by-cons, sum_by-cons) (omega arith)

-- ---- what holds of each item of a list that is changed

pub all_more_items : {X : Type 0} (P : X → Type 0) (xs : List X) (x : X) → AllByRecursion P xs → P x → AllByRecursion P (xs ++ x ∷ [])
all_more_items P [] x all one = (one, tt)
all_more_items P (y ∷ xs) x all one = (all.0, all_more_items P xs x all.1 one)

pub all_removed : {X : Type 0} (P : X → Type 0) (xs : List X) (at : ℕ) → AllByRecursion P xs → AllByRecursion P (remove xs at)
all_removed P [] zero all = tt
all_removed P [] (suc at) all = tt
all_removed P (x ∷ xs) zero all = all.1
all_removed P (x ∷ xs) (suc at) all = (all.0, all_removed P xs at all.1)

pub all_changed : {X : Type 0} (P : X → Type 0) (y : X) (place : ℕ) (xs : List X) → AllByRecursion P xs → P y → AllByRecursion P (change_at (λ _. y) place xs)
all_changed P y place [] all one = tt
all_changed P y zero (x ∷ xs) all one = (one, all.1)
all_changed P y (suc place) (x ∷ xs) all one = (all.0, all_changed P y place xs all.1 one)

pub all_weaken : {X : Type 0} (P Q : X → Type 0) (xs : List X) → ((x : X) → P x → Q x) → AllByRecursion P xs → AllByRecursion Q xs
all_weaken P Q [] weaker all = tt
all_weaken P Q (x ∷ xs) weaker all = (weaker x all.0, all_weaken P Q xs weaker all.1)

-- what an item is changed to, where that is known
pub changed_to : {X : Type 0} (f : X → X) (place : ℕ) (xs : List X) (x : X) → StandsAt xs place x → change_at f place xs ≡ change_at (λ _. f x) place xs
changed_to f place [] x stands = refl
changed_to {X} f zero (y ∷ xs) x stands = ap (λ (z : X). f z ∷ xs) (one_item y x stands)
changed_to f (suc place) (y ∷ xs) x stands = ap (λ rest. y ∷ rest) (changed_to f place xs x stands)
