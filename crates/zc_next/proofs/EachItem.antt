-- Lists that are given item by item: what holds of each item, and how such a list grows.
use Rattle.std.proofs.Common.{◌≡◌, ◌∙◌, ℕ, suc, ◌+◌, ◌<◌, List, [], ◌∷◌, ◌++◌, map, length, get_or, Result, Ok, Err, sym, ap, subst, arith}
use Rattle.std.specs.Prelude.{IfOk}
use Rattle.std.specs.List.{AllByRecursion}
use Rattle.std.proofs.lemmas.List.{map-append}
use Rattle.zc_num.specs.Words.{each}
use Rattle.zc_num.proofs.Each.{length_each, item_of_each, each_none, each_more}

-- what holds at each index
pub all_from_items : {X : Type 0} (P : X → Type 0) (xs : List X) → ((k : ℕ) (d : X) → k < length xs → P (get_or xs k d)) → AllByRecursion P xs
all_from_items P [] holds = tt
all_from_items P (x ∷ xs) holds = (holds 0 x (omega arith), all_from_items P xs (λ k d within. holds (suc k) d (omega arith)))

-- what holds of each value of the function
pub all_of_each : {X : Type 0} (P : X → Type 0) (n : ℕ) (f : ℕ → X) → ((k : ℕ) → k < n → P (f k)) → AllByRecursion P (each n f)
all_of_each P n f holds =
    all_from_items P (each n f) (λ k d within.
    let below : k < n = omega (arith, length_each n f) in
    subst P (sym (item_of_each n f k d below)) (holds k below))

-- ---- a list that grows with the numbers

-- no item is the list of no number
pub map_none : {X Y : Type 0} (f : X → Y) (g : ℕ → Y) (xs : List X) → xs ≡ [] → map f xs ≡ each 0 g
map_none f g xs none = ap (map f) none ∙ sym (each_none g)

-- one item more after those so far
pub map_pushed : {X Y : Type 0} (f : X → Y) (g : ℕ → Y) (xs : List X) (x : X) (n : ℕ) → map f xs ≡ each n g → f x ≡ g n → map f (xs ++ x ∷ []) ≡ each (n + 1) g
map_pushed f g xs x n so_far is = map-append f xs (x ∷ []) ∙ (λ i. so_far i ++ is i ∷ []) ∙ sym (each_more n g)

-- what is made of an Ok
pub if_ok_so : {T E : Type 0} (r : Result T E) (P Q : T → Type 0) → ((x : T) → P x → Q x) → IfOk r P → IfOk r Q
if_ok_so (Ok x) P Q so holds = so x holds
if_ok_so (Err e) P Q so holds = tt
