-- A list after one of its items was changed in place, `change_at f index xs`.
use Rattle.std.proofs.Common.{◌≡◌, ◌∙◌, ◌≢◌, ℕ, zero, suc, ◌≤◌, List, [], ◌∷◌, map, length, slice_get, slice_set, Some, refl, sym, ap, arith}
use Rattle.std.specs.Option.{option_map}
use Rattle.zc_num.specs.Words.{change_at}

-- it has as many items as before
pub length_change_at : {X : Type 0} (f : X → X) (index : ℕ) (xs : List X) → length (change_at f index xs) ≡ length xs
length_change_at f index [] = refl
length_change_at f zero (x ∷ xs) = refl
length_change_at f (suc index) (x ∷ xs) = ap suc (length_change_at f index xs)

-- the changed item
pub get_of_change_at : {X : Type 0} (f : X → X) (index : ℕ) (xs : List X) → slice_get (change_at f index xs) index ≡ option_map f (slice_get xs index)
get_of_change_at f index [] = refl
get_of_change_at f zero (x ∷ xs) = refl
get_of_change_at f (suc index) (x ∷ xs) = get_of_change_at f index xs

-- every other item stays
pub other_of_change_at : {X : Type 0} (f : X → X) (index : ℕ) (xs : List X) (k : ℕ) → k ≢ index → slice_get (change_at f index xs) k ≡ slice_get xs k
other_of_change_at f index [] k other = refl
other_of_change_at f zero (x ∷ xs) zero other = absurd (other refl)
other_of_change_at f zero (x ∷ xs) (suc k) other = refl
other_of_change_at f (suc index) (x ∷ xs) zero other = refl
other_of_change_at f (suc index) (x ∷ xs) (suc k) other = other_of_change_at f index xs k (λ same. other (ap suc same))

-- past the end nothing changes
pub change_at_past : {X : Type 0} (f : X → X) (index : ℕ) (xs : List X) → length xs ≤ index → change_at f index xs ≡ xs
change_at_past f index [] past = refl
change_at_past f zero (x ∷ xs) past = absurd (omega arith)
change_at_past f (suc index) (x ∷ xs) past = ap (λ rest. x ∷ rest) (change_at_past f index xs (omega arith))

-- a write of f of the item is the change by f
pub set_as_change_at : {X : Type 0} (f : X → X) (index : ℕ) (xs : List X) (x y : X) → slice_get xs index ≡ Some x → y ≡ f x → slice_set xs index y ≡ change_at f index xs
set_as_change_at f index [] x y found changed = refl
set_as_change_at f zero (z ∷ zs) x y found changed =
    let same : z ≡ x = cc in
    let first : y ≡ f z = changed ∙ ap f (sym same) in
    ap (λ item. item ∷ zs) first
set_as_change_at f (suc index) (z ∷ zs) x y found changed = ap (λ rest. z ∷ rest) (set_as_change_at f index zs x y found changed)

-- a change of the image under g, where g turns f into h
pub map_change_at : {X Y : Type 0} (g : X → Y) (f : X → X) (h : Y → Y) (index : ℕ) (xs : List X) → ((x : X) → g (f x) ≡ h (g x)) → map g (change_at f index xs) ≡ change_at h index (map g xs)
map_change_at g f h index [] turns = refl
map_change_at g f h zero (x ∷ xs) turns = ap (λ y. y ∷ map g xs) (turns x)
map_change_at g f h (suc index) (x ∷ xs) turns = ap (λ rest. g x ∷ rest) (map_change_at g f h index xs turns)

-- a change that g does not see
pub map_change_at_same : {X Y : Type 0} (g : X → Y) (f : X → X) (index : ℕ) (xs : List X) → ((x : X) → g (f x) ≡ g x) → map g (change_at f index xs) ≡ map g xs
map_change_at_same g f index [] unseen = refl
map_change_at_same g f zero (x ∷ xs) unseen = ap (λ y. y ∷ map g xs) (unseen x)
map_change_at_same g f (suc index) (x ∷ xs) unseen = ap (λ rest. g x ∷ rest) (map_change_at_same g f index xs unseen)
