-- Lists that are given item by item, `each n f`.
use Rattle.std.proofs.Common.{◌≡◌, ℕ, ◌+◌, ◌-◌, ◌<◌, ◌≤◌, List, [], ◌∷◌, ◌++◌, map, length, get_or, take, drop, replicate, slice_get, Some, refl, sym, ◌∙◌, ap, ⊎_elim, arith}
use Rattle.std.proofs.lemmas.Bool.{cases_lt}
use Rattle.std.proofs.lemmas.Option.{slice_get-get_or}
use Rattle.std.proofs.lemmas.List.{same_lists, length-append, length-map, length-replicate, get_or-map, get_or_append_left, get_or-append_right, get_or-replicate, drop_at}
use Rattle.std.proofs.lemmas.List.FromFn.{length-map-range_with_len, get_or-map-range_with_len, map-range_with_len_more, fill_by_all, take-map-range_with_len}
use Rattle.zc_num.specs.Words.{each}

-- it has n items
pub length_each : {X : Type 0} (n : ℕ) (f : ℕ → X) → length (each n f) ≡ n
unfolding each
length_each n f = length-map-range_with_len f 0 n

-- its item k is f k
pub item_of_each : {X : Type 0} (n : ℕ) (f : ℕ → X) (k : ℕ) (d : X) → k < n → get_or (each n f) k d ≡ f k
unfolding each
item_of_each n f k d within = get_or-map-range_with_len f 0 n k k d within (omega arith)

-- the same by `slice_get`
pub get_of_each : {X : Type 0} (n : ℕ) (f : ℕ → X) (k : ℕ) → k < n → slice_get (each n f) k ≡ Some (f k)
get_of_each n f k within =
    let inside : k < length (each n f) = rw length_each within in
    slice_get-get_or (each n f) k (f k) inside ∙ ap Some (item_of_each n f k (f k) within)

-- no item
pub each_none : {X : Type 0} (f : ℕ → X) → each 0 f ≡ []
unfolding each
each_none f = refl

-- one more item goes after the others
pub each_more : {X : Type 0} (n : ℕ) (f : ℕ → X) → each (n + 1) f ≡ each n f ++ f n ∷ []
unfolding each
each_more n f = map-range_with_len_more f 0 n n (omega arith)

-- a list of n items whose items are f is `each n f`
pub each_from_items : {X : Type 0} (f : ℕ → X) (xs : List X) (n : ℕ) (d : X) → length xs ≡ n → ((k : ℕ) → k < n → get_or xs k d ≡ f k) → xs ≡ each n f
unfolding each
each_from_items f xs n d as_long items = fill_by_all f xs n d as_long items

-- two functions that agree below n give one list
pub each_same : {X : Type 0} (n : ℕ) (f g : ℕ → X) → ((k : ℕ) → k < n → f k ≡ g k) → each n f ≡ each n g
each_same n f g agree =
    same_lists (each n f) (each n g) (length_each n f ∙ sym (length_each n g))
    (λ k d within.
    let below : k < n = rw length_each at within in
    item_of_each n f k d below ∙ agree k below ∙ sym (item_of_each n g k d below))

-- a function of each item
pub map_each : {X Y : Type 0} (g : X → Y) (n : ℕ) (f : ℕ → X) → map g (each n f) ≡ each n (λ k. g (f k))
map_each g n f =
    same_lists (map g (each n f)) (each n (λ k. g (f k)))
    (length-map (each n f) g ∙ length_each n f ∙ sym (length_each n (λ k. g (f k))))
    (λ k d within.
    let below : k < n = rw (length-map (each n f) g, length_each n f) at within in
    let inside : k < length (each n f) = rw length_each below in
    get_or-map g (each n f) k (f k) d inside ∙ ap g (item_of_each n f k (f k) below)
    ∙ sym (item_of_each n (λ k. g (f k)) k d below))

-- its first m items
pub take_each : {X : Type 0} (m n : ℕ) (f : ℕ → X) → m ≤ n → take m (each n f) ≡ each m f
unfolding each
take_each m n f within = take-map-range_with_len f 0 n m within

-- the items of two lists, one after the other
pub each_append : {X : Type 0} (m n : ℕ) (f : ℕ → X) → each (m + n) f ≡ each m f ++ each n (λ k. f (m + k))
each_append m n f =
    let back = each n (λ k. f (m + k)) in
    let whole : length (each m f ++ back) ≡ m + n = simp (length-append, length_each) in
    same_lists (each (m + n) f) (each m f ++ back) (length_each (m + n) f ∙ sym whole)
    (λ k d within.
    let below : k < m + n = rw length_each at within in
    item_of_each (m + n) f k d below ∙ sym (⊎_elim
    (λ (in_front : k < m).
    let inside : k < length (each m f) = rw length_each in_front in
    get_or_append_left (each m f) back d k inside ∙ item_of_each m f k d in_front)
    (λ (behind : m ≤ k).
    let place : m + (k - m) ≡ k = omega arith in
    get_or-append_right (each m f) back m k d (length_each m f) behind
    ∙ item_of_each n (λ i. f (m + i)) (k - m) d (omega arith) ∙ ap f place)
    (cases_lt k m)))

-- the items after the first m
pub drop_each : {X : Type 0} (m n : ℕ) (f : ℕ → X) → drop m (each (m + n) f) ≡ each n (λ k. f (m + k))
drop_each m n f = rw each_append (drop_at (each m f) (each n (λ k. f (m + k))) m (length_each m f))

-- n times the same item
pub each_alike : {X : Type 0} (n : ℕ) (x : X) → each n (λ _. x) ≡ replicate n x
each_alike n x =
    same_lists (each n (λ _. x)) (replicate n x) (length_each n (λ _. x) ∙ sym (length-replicate n x))
    (λ k d within.
    let below : k < n = rw length_each at within in
    item_of_each n (λ _. x) k d below ∙ sym (get_or-replicate n k x d below))
