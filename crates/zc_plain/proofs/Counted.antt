-- Items that are counted, summed or copied one after another.
use Rattle.std.proofs.Common.{◌≡◌, ℕ, ◌+◌, ◌<◌, ◌≤◌, Bool, cond, refl, List, [], ◌∷◌, ◌++◌, take, length, get_or, sym, ap, ◌∙◌, arith}
use Rattle.std.specs.Prelude.{sum_by, count_by}
use Rattle.std.proofs.lemmas.List.{take_more}
use Rattle.std.proofs.lemmas.List.Sums.{sum_by_push, sum_by-take-le, fold_push}
use Rattle.std.proofs.lemmas.Option.{slice_get_within, get_or_from_slice_get}
use Rattle.zc_plain.specs.declared.plain_pool.PlainBlock.{PlainBlock}
use Rattle.zc_plain.specs.declared.plain_pool.PlainBlock.TheVariants.{Hole}
use Rattle.zc_plain.specs.PlainPool.{block_at, is_made}
use Rattle.zc_plain.specs.Charge.{with_one, with_each}
use Rattle.zc_plain.specs.IsPlain.{StandsAt}
use Rattle.zc_plain.proofs.Together.{block_by_place}

-- one more item, counted where it passes
pub counted_push : {X : Type 0} (p : X → Bool) (xs : List X) (y : X) → count_by p (xs ++ y ∷ []) ≡ count_by p xs + cond (p y) 1 0
counted_push p xs y = sum_by_push (λ x. cond (p x) 1 0) xs y

-- one more item of a list
pub pushed_item : {X : Type 0} (xs : List X) (k : ℕ) (x : X) → StandsAt xs k x → take (k + 1) xs ≡ take k xs ++ x ∷ []
pushed_item xs k x stands = take_more xs k x (slice_get_within xs k x stands) ∙ ap (λ y. take k xs ++ y ∷ []) (get_or_from_slice_get xs k x x stands)

-- one more item of a list, summed
pub summed_item : {X : Type 0} (f : X → ℕ) (xs : List X) (k : ℕ) (x : X) → StandsAt xs k x → sum_by f (take (k + 1) xs) ≡ sum_by f (take k xs) + f x
summed_item f xs k x stands = ap (sum_by f) (pushed_item xs k x stands) ∙ sum_by_push f (take k xs) x

-- one more block, counted where it is no hole
pub counted_block : (blocks : List PlainBlock) (k : ℕ) → k < length blocks → count_by is_made (take (k + 1) blocks) ≡ count_by is_made (take k blocks) + cond (is_made (block_at k blocks)) 1 0
counted_block blocks k within =
    let place = block_by_place blocks k in
    ap (count_by is_made) (take_more blocks k Hole within) ∙ counted_push is_made (take k blocks) (get_or blocks k Hole)
    ∙ ap (λ (block : PlainBlock). count_by is_made (take k blocks) + cond (is_made block) 1 0) (sym place)

-- the items so far and one more sum up to all of them at most
pub summed_within : {X : Type 0} (f : X → ℕ) (xs : List X) (k : ℕ) (x : X) → StandsAt xs k x → sum_by f (take k xs) + f x ≤ sum_by f xs
summed_within f xs k x stands = let more = summed_item f xs k x stands in omega (arith, more, sum_by-take-le f xs (k + 1))

-- no item more, and one more, each once
pub added_none : {X : Type 0} (same : X → X → Bool) (items : List X) → with_each same items [] ≡ items
unfolding with_each
added_none same items = refl

pub added_push : {X : Type 0} (same : X → X → Bool) (items more : List X) (item : X) → with_each same items (more ++ item ∷ []) ≡ with_one same (with_each same items more) item
unfolding with_each
added_push same items more item = fold_push (with_one same) items more item
