-- The uses of places, one pointer and one place of the catalogue after the other.
use Rattle.std.proofs.Common.{◌≡◌, ◌≢◌, ◌∙◌, ℕ, suc, ◌+◌, ◌^◌, ◌<◌, ◌≤◌, ◌⊎◌, Bool, true, false, ◌||◌, cond, eq-eqb, is_some, Option, Some, List, [], ◌∷◌, ◌++◌, length, get_or, take, filter, refl, sym, ap, subst, ⊎_elim, arith}
use Rattle.std.proofs.Math.ListN.{set}
use Rattle.std.specs.List.{list_any}
use Rattle.std.proofs.lemmas.Bool.{cases_order, ne_eqb, cases_Bool}
use Rattle.std.proofs.lemmas.List.{same_lists, take_more, length-set, get_or-set_same, get_or-set_other, append-nil, length-append, length-take}
use Rattle.std.proofs.lemmas.List.Elements.{filter-append}
use Rattle.std.proofs.lemmas.List.Folds.{list_any-append}
use Rattle.zc_num.specs.Words.{each}
use Rattle.zc_num.specs.Limits.{total_of}
use Rattle.zc_num.specs.declared.numbers.PlaceAt.{PlaceAt}
use Rattle.zc_num.proofs.Each.{length_each, item_of_each}
use Rattle.zc_blkptr.specs.declared.ptr.Ptr.{Ptr}
use Rattle.zc_damage.specs.declared.place_use.PlaceUse.{PlaceUse}
use Rattle.zc_damage.specs.Words.{or_else, when, first_of}
use Rattle.zc_damage.specs.Places.{number_of, is_to, is_at, pointers_to, is_reached, chain_has, IsPlace, ReachPlaces, ChainPlaces}
use Rattle.zc_damage.specs.Checks.{differ}
use Rattle.zc_damage.specs.Census.{first_in, use_by, use_of, uses_of, with_pointer}
use Rattle.zc_damage.proofs.FirstLaws.{first_of_append, or_else_none}
use Rattle.zc_damage.proofs.PlaceNumbers.{number_below}

-- ---- lists that are given item by item

-- one item of such a list is another, and the rest stay
pub set_each : {X : Type 0} (n : ℕ) (f g : ℕ → X) (i : ℕ) (x : X) → i < n → g i ≡ x → ((k : ℕ) → k ≢ i → g k ≡ f k) → set (each n f) i x ≡ each n g
set_each n f g i x within here others =
    let inside : i < length (each n f) = omega (arith, length_each n f) in
    same_lists (set (each n f) i x) (each n g) (length-set (each n f) i x ∙ length_each n f ∙ sym (length_each n g))
    (λ k d there.
    let below : k < n = omega (arith, length-set (each n f) i x, length_each n f) in
    ⊎_elim
    (λ (same : k ≡ i).
    subst (λ (j : ℕ). get_or (set (each n f) i x) j d ≡ get_or (each n g) j d) (sym same)
    (get_or-set_same (each n f) i x d inside ∙ sym here ∙ sym (item_of_each n g i d within)))
    (λ (apart : (k < i) ⊎ (i < k)).
    let other : k ≢ i = λ same. ⊎_elim (λ (l : k < i). absurd (omega arith)) (λ (l : i < k). absurd (omega arith)) apart in
    get_or-set_other (each n f) i k x d other ∙ item_of_each n f k d below ∙ sym (others k other) ∙ sym (item_of_each n g k d below))
    (cases_order k i))

-- ---- one more pointer

-- the first of one more
first_more : (ptrs : List Ptr) (ptr : Ptr) → or_else (first_in ptrs) (Some ptr) ≡ first_in (ptrs ++ ptr ∷ [])
first_more [] ptr = refl
first_more (first ∷ ptrs) ptr = refl

-- the use of a place with one more pointer
pub use_more : (ptrs : List Ptr) (ptr : Ptr) (in_catalogue : Bool) → with_pointer (use_by ptrs in_catalogue) ptr ≡ use_by (ptrs ++ ptr ∷ []) in_catalogue
use_more [] ptr in_catalogue = refl
use_more (first ∷ ptrs) ptr in_catalogue =
    let other = λ (p : Ptr). when (differ first p) p.physical in
    let births : or_else (first_of other ptrs) (other ptr) ≡ first_of other (ptrs ++ ptr ∷ []) =
    sym (first_of_append other ptrs (ptr ∷ []) ∙ ap (or_else (first_of other ptrs)) (or_else_none (other ptr))) in
    let many : length (first ∷ ptrs) + 1 ≡ length ((first ∷ ptrs) ++ ptr ∷ []) = sym (length-append (first ∷ ptrs) (ptr ∷ [])) in
    ap (λ (k : ℕ). record { first = Some first; pointers = k; other = or_else (first_of other ptrs) (other ptr); in_catalogue = in_catalogue }) many
    ∙ ap (λ (o : Option ℕ). record { first = Some first; pointers = length ((first ∷ ptrs) ++ ptr ∷ []); other = o; in_catalogue = in_catalogue }) births

-- at its place one more pointer is counted
pub pointers_here : (places : ℕ) (front : List Ptr) (ptr : Ptr) (number : ℕ) → number ≡ number_of places ptr.device ptr.place → pointers_to places (front ++ ptr ∷ []) number ≡ pointers_to places front number ++ ptr ∷ []
pointers_here places front ptr number is =
    filter-append (is_to places number) front (ptr ∷ [])
    ∙ ap (λ (b : Bool). filter (is_to places number) front ++ cond b (ptr ∷ []) []) (eq-eqb (number_of places ptr.device ptr.place) number (sym is))

-- at any other place none is
pub pointers_elsewhere : (places : ℕ) (front : List Ptr) (ptr : Ptr) (number : ℕ) → number ≢ number_of places ptr.device ptr.place → pointers_to places (front ++ ptr ∷ []) number ≡ pointers_to places front number
pointers_elsewhere places front ptr number other =
    filter-append (is_to places number) front (ptr ∷ [])
    ∙ ap (λ (b : Bool). filter (is_to places number) front ++ cond b (ptr ∷ []) []) (ne_eqb (number_of places ptr.device ptr.place) number (λ same. other (sym same)))
    ∙ append-nil (filter (is_to places number) front)

-- the uses of all places with one more pointer
pub uses_more : (devices places : ℕ) (front : List Ptr) (chain : List PlaceAt) (ptr : Ptr) → IsPlace devices places ptr.device ptr.place
    → set (uses_of devices places front chain) (number_of places ptr.device ptr.place) (with_pointer (use_of places front chain (number_of places ptr.device ptr.place)) ptr) ≡ uses_of devices places (front ++ ptr ∷ []) chain
uses_more devices places front chain ptr there =
    let number : ℕ = number_of places ptr.device ptr.place in
    set_each (total_of devices places) (use_of places front chain) (use_of places (front ++ ptr ∷ []) chain) number
    (with_pointer (use_of places front chain number) ptr)
    (number_below devices places ptr.device ptr.place there.0 there.1)
    (ap (λ (ptrs : List Ptr). use_by ptrs (chain_has places chain number)) (pointers_here places front ptr number refl)
    ∙ sym (use_more (pointers_to places front number) ptr (chain_has places chain number)))
    (λ k other. ap (λ (ptrs : List Ptr). use_by ptrs (chain_has places chain k)) (pointers_elsewhere places front ptr k other))

-- ---- one more place of the catalogue

-- its place is marked
pub mark_here : (places : ℕ) (front : List PlaceAt) (at : PlaceAt) (number : ℕ) → number ≡ number_of places at.device at.place → chain_has places (front ++ at ∷ []) number ≡ true
mark_here places front at number is =
    list_any-append (is_at places number) front (at ∷ [])
    ∙ ap (λ (b : Bool). list_any (is_at places number) front || (b || false)) (eq-eqb (number_of places at.device at.place) number (sym is))
    ∙ or_true (list_any (is_at places number) front)
  where
    or_true : (b : Bool) → (b || true) ≡ true
    or_true true = refl
    or_true false = refl

-- any other place stays
pub mark_elsewhere : (places : ℕ) (front : List PlaceAt) (at : PlaceAt) (number : ℕ) → number ≢ number_of places at.device at.place → chain_has places (front ++ at ∷ []) number ≡ chain_has places front number
mark_elsewhere places front at number other =
    list_any-append (is_at places number) front (at ∷ [])
    ∙ ap (λ (b : Bool). list_any (is_at places number) front || (b || false)) (ne_eqb (number_of places at.device at.place) number (λ same. other (sym same)))
    ∙ or_false (list_any (is_at places number) front)
  where
    or_false : (b : Bool) → (b || false) ≡ b
    or_false true = refl
    or_false false = refl

-- the uses of all places with one more place of the catalogue
pub marks_more : (devices places : ℕ) (reach : List Ptr) (front : List PlaceAt) (at : PlaceAt) → IsPlace devices places at.device at.place
    → set (uses_of devices places reach front) (number_of places at.device at.place) (use_by (pointers_to places reach (number_of places at.device at.place)) true) ≡ uses_of devices places reach (front ++ at ∷ [])
marks_more devices places reach front at there =
    let number : ℕ = number_of places at.device at.place in
    set_each (total_of devices places) (use_of places reach front) (use_of places reach (front ++ at ∷ [])) number
    (use_by (pointers_to places reach number) true)
    (number_below devices places at.device at.place there.0 there.1)
    (ap (use_by (pointers_to places reach number)) (mark_here places front at number refl))
    (λ k other. ap (use_by (pointers_to places reach k)) (mark_elsewhere places front at k other))

-- ---- the use of one place

-- as many uses as places
pub uses_length : (devices places : ℕ) (reach : List Ptr) (chain : List PlaceAt) → length (uses_of devices places reach chain) ≡ total_of devices places
uses_length devices places reach chain = length_each (total_of devices places) (use_of places reach chain)

-- each is that of its place
pub use_is : (devices places : ℕ) (reach : List Ptr) (chain : List PlaceAt) (number : ℕ) (d : PlaceUse) → number < total_of devices places → get_or (uses_of devices places reach chain) number d ≡ use_of places reach chain number
use_is devices places reach chain number d within = item_of_each (total_of devices places) (use_of places reach chain) number d within

-- a place is reached where there is a first pointer to it
pub reached_as : (places : ℕ) (reach : List Ptr) (number : ℕ) → is_some (first_in (pointers_to places reach number)) ≡ is_reached places reach number
reached_as places [] number = refl
reached_as places (ptr ∷ reach) number =
    ⊎_elim
    (λ (is : is_to places number ptr ≡ true). ap (λ (b : Bool). is_some (first_in (cond b (ptr ∷ pointers_to places reach number) (pointers_to places reach number)))) is ∙ sym (ap (λ (b : Bool). b || is_reached places reach number) is))
    (λ (not : is_to places number ptr ≡ false). ap (λ (b : Bool). is_some (first_in (cond b (ptr ∷ pointers_to places reach number) (pointers_to places reach number)))) not ∙ reached_as places reach number ∙ sym (ap (λ (b : Bool). b || is_reached places reach number) not))
    (cases_Bool (is_to places number ptr))

-- no more pointers are to one place than there are
pub few_pointers : (places : ℕ) (reach : List Ptr) (number : ℕ) → length (pointers_to places reach number) ≤ length reach
few_pointers places [] number = omega arith
few_pointers places (ptr ∷ reach) number =
    let rest = few_pointers places reach number in
    ⊎_elim
    (λ (is : is_to places number ptr ≡ true). subst (λ (b : Bool). length (cond b (ptr ∷ pointers_to places reach number) (pointers_to places reach number)) ≤ suc (length reach)) (sym is) (omega arith))
    (λ (not : is_to places number ptr ≡ false). subst (λ (b : Bool). length (cond b (ptr ∷ pointers_to places reach number) (pointers_to places reach number)) ≤ suc (length reach)) (sym not) (omega arith))
    (cases_Bool (is_to places number ptr))

-- ---- the steps of the loops

-- a place of the pool has a use
pub use_there : (devices places : ℕ) (reach : List Ptr) (chain : List PlaceAt) (uses : List PlaceUse) (number : ℕ) → uses ≡ uses_of devices places reach chain → number < total_of devices places → number < length uses
use_there devices places reach chain uses number is within = omega (arith, ap length is, uses_length devices places reach chain)

-- one pointer more still fits
pub pointers_fit : (devices places : ℕ) (reach : List Ptr) (i : ℕ) (uses : List PlaceUse) (number : ℕ) (e : PlaceUse) → i < length reach → length reach < 2 ^ 32 → number < total_of devices places
    → uses ≡ uses_of devices places (take i reach) [] → (get_or uses number e).pointers + 1 < 2 ^ 32
pointers_fit devices places reach i uses number e within few there is =
    let used : (get_or uses number e).pointers ≡ length (pointers_to places (take i reach) number) =
    ap (λ (all : List PlaceUse). (get_or all number e).pointers) is ∙ ap (λ (used : PlaceUse). used.pointers) (use_is devices places (take i reach) [] number e there) in
    omega (arith, used, few_pointers places (take i reach) number, length-take i reach)

-- one more pointer is counted
pub uses_step : (devices places : ℕ) (reach : List Ptr) (i : ℕ) (uses : List PlaceUse) (number : ℕ) (d : Ptr) (e after : PlaceUse) → ReachPlaces devices places reach → i < length reach
    → number ≡ number_of places (get_or reach i d).device (get_or reach i d).place → uses ≡ uses_of devices places (take i reach) [] → after ≡ with_pointer (get_or uses number e) (get_or reach i d)
    → set uses number after ≡ uses_of devices places (take (i + 1) reach) []
uses_step devices places reach i uses number d e after there within numbered is put =
    let ptr : Ptr = get_or reach i d in
    let front : List Ptr = take i reach in
    let own : ℕ = number_of places ptr.device ptr.place in
    let below : own < total_of devices places = number_below devices places ptr.device ptr.place (there i d within).0 (there i d within).1 in
    let used : get_or uses number e ≡ use_of places front [] own =
    ap (λ (all : List PlaceUse). get_or all number e) is ∙ ap (λ (k : ℕ). get_or (uses_of devices places front []) k e) numbered ∙ use_is devices places front [] own e below in
    ap (λ (all : List PlaceUse). set all number after) is
    ∙ ap (λ (k : ℕ). set (uses_of devices places front []) k after) numbered
    ∙ ap (set (uses_of devices places front []) own) (put ∙ ap (λ (u : PlaceUse). with_pointer u ptr) used)
    ∙ uses_more devices places front [] ptr (there i d within)
    ∙ ap (λ (ptrs : List Ptr). uses_of devices places ptrs []) (sym (take_more reach i d within))

-- one more place of the catalogue is marked
pub marks_step : (devices places : ℕ) (reach : List Ptr) (chain : List PlaceAt) (i : ℕ) (uses : List PlaceUse) (number : ℕ) (d : PlaceAt) (e : PlaceUse) → ChainPlaces devices places chain → i < length chain
    → number ≡ number_of places (get_or chain i d).device (get_or chain i d).place → uses ≡ uses_of devices places reach (take i chain)
    → set uses number (record (get_or uses number e) { in_catalogue = true }) ≡ uses_of devices places reach (take (i + 1) chain)
marks_step devices places reach chain i uses number d e there within numbered is =
    let at : PlaceAt = get_or chain i d in
    let front : List PlaceAt = take i chain in
    let own : ℕ = number_of places at.device at.place in
    let below : own < total_of devices places = number_below devices places at.device at.place (there i d within).0 (there i d within).1 in
    let used : get_or uses number e ≡ use_of places reach front own =
    ap (λ (all : List PlaceUse). get_or all number e) is ∙ ap (λ (k : ℕ). get_or (uses_of devices places reach front) k e) numbered ∙ use_is devices places reach front own e below in
    ap (λ (all : List PlaceUse). set all number (record (get_or uses number e) { in_catalogue = true })) is
    ∙ ap (λ (k : ℕ). set (uses_of devices places reach front) k (record (get_or uses number e) { in_catalogue = true })) numbered
    ∙ ap (λ (u : PlaceUse). set (uses_of devices places reach front) own (record u { in_catalogue = true })) used
    ∙ marks_more devices places reach front at (there i d within)
    ∙ ap (uses_of devices places reach) (sym (take_more chain i d within))
