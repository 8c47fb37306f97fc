-- Counts and changes of the states of places.
use Rattle.std.proofs.Common.{◌≡◌, ◌∙◌, ℕ, zero, suc, ◌+◌, ◌<◌, ◌≤◌, Bool, true, false, cond, List, [], ◌∷◌, ◌++◌, map, length, get_or, set, take, drop, replicate, count_by, slice_get, position, Some, None, refl, sym, ap, ltb, true≢false, arith}
use Rattle.std.proofs.lemmas.Bool.{ltb-true, ltb-false}
use Rattle.std.proofs.lemmas.Option.{slice_get-get_or, slice_get_within, get_or_from_slice_get, cond_some}
use Rattle.std.proofs.lemmas.List.{get_or-drop, get_or-take, length-drop, length-take, take_more, map_push}
use Rattle.std.proofs.lemmas.List.Sums.{sum_by-cons, sum_by_push, sum_by-set, sum_by-take-drop, passes_at_first, fails_before_first}
use Rattle.std.specs.List.{position_or_len}
use Rattle.zc_spacemap.specs.declared.state.PlaceState.{PlaceState}
use Rattle.zc_spacemap.specs.declared.state.PlaceState.TheVariants.{Free, Allocated, Given}
use Rattle.zc_spacemap.specs.MapBytes.{kept_places}
use Rattle.zc_spacemap.specs.States.{is_free, is_given, settled, state_of}

-- a count after one place has changed
pub count_set : (test : PlaceState → Bool) (states : List PlaceState) (place : ℕ) (after before : PlaceState) → slice_get states place ≡ Some before
    → count_by test (set states place after) + cond (test before) 1 0 ≡ count_by test states + cond (test after) 1 0
count_set test states place after before found =
    let was : get_or states place before ≡ before = get_or_from_slice_get states place before before found in
    ap (λ state. count_by test (set states place after) + cond (test state) 1 0) (sym was)
    ∙ sum_by-set (λ state. cond (test state) 1 0) states place after before (slice_get_within states place before found)

-- a count over a front and its back
pub count_split : (test : PlaceState → Bool) (states : List PlaceState) (n : ℕ) → count_by test (take n states) + count_by test (drop n states) ≡ count_by test states
count_split test states n = sum_by-take-drop (λ state. cond (test state) 1 0) states n

-- a count where none passes
pub count_none : (test : PlaceState → Bool) (states : List PlaceState) → ((place : ℕ) (d : PlaceState) → place < length states → test (get_or states place d) ≡ false) → count_by test states ≡ 0
count_none test [] fails = refl
count_none test (state ∷ states) fails =
    let first : ◌≡◌ {A = ℕ} (cond (test state) 1 0) 0 = ap (λ b. cond {A = ℕ} b 1 0) (fails 0 state (omega arith)) in
    let rest : count_by test states ≡ 0 = count_none test states (λ place d within. fails (suc place) d (omega arith)) in
    sum_by-cons (λ s. cond (test s) 1 0) state states ∙ omega (arith, first, rest)

-- no place is both free and given
pub count_two : (states : List PlaceState) → count_by is_free states + count_by is_given states ≤ length states
count_two [] = omega arith
count_two (state ∷ states) =
    let rest = count_two states in
    omega (arith, one state, sum_by-cons (λ s. cond (is_free s) 1 0) state states, sum_by-cons (λ s. cond (is_given s) 1 0) state states)
  where
    one : (state : PlaceState) → cond (is_free state) 1 0 + cond (is_given state) 1 0 ≤ 1
    one Free = omega arith
    one Allocated = omega arith
    one Given = omega arith

-- what is found first is free
pub first_is_free : (states : List PlaceState) (place : ℕ) → position is_free states ≡ Some place → slice_get states place ≡ Some Free
first_is_free states place found =
    let parts = cond_some (ltb (position_or_len is_free states) (length states)) (position_or_len is_free states) place found in
    let within = ltb-true _ _ parts.0 in
    ap (slice_get states) (sym parts.1) ∙ slice_get-get_or states (position_or_len is_free states) Free within
    ∙ ap Some (free_is _ (passes_at_first is_free states Free within))
  where
    free_is : (state : PlaceState) → is_free state ≡ true → state ≡ Free
    free_is Free e = refl
    free_is Allocated e = absurd (true≢false (sym e))
    free_is Given e = absurd (true≢false (sym e))

-- where none is found, none is free
pub none_is_free : (states : List PlaceState) → position is_free states ≡ None → count_by is_free states ≡ 0
none_is_free states missing =
    let past : length states ≤ position_or_len is_free states = ltb-false _ _ (no_place _ _ missing) in
    count_none is_free states (λ place d within. fails_before_first is_free states place d (omega arith))
  where
    no_place : (b : Bool) (place : ℕ) → cond b (Some place) None ≡ None → b ≡ false
    no_place true place e = absurd cc
    no_place false place e = refl

-- a place of the back is that many places on
pub get_of_back : (states : List PlaceState) (n place : ℕ) (state : PlaceState) → slice_get (drop n states) place ≡ Some state → slice_get states (n + place) ≡ Some state
get_of_back states n place state found =
    let within : place < length (drop n states) = slice_get_within (drop n states) place state found in
    slice_get-get_or states (n + place) state (omega (arith, length-drop n states))
    ∙ ap Some (sym (get_or-drop n states place state) ∙ get_or_from_slice_get (drop n states) place state state found)

-- a place of the front is where it was
pub get_of_front : (states : List PlaceState) (n place : ℕ) (state : PlaceState) → slice_get (take n states) place ≡ Some state → slice_get states place ≡ Some state
get_of_front states n place state found =
    let within : place < length (take n states) = slice_get_within (take n states) place state found in
    slice_get-get_or states place state (omega (arith, length-take n states))
    ∙ ap Some (sym (get_or-take n states place state (omega (arith, length-take n states))) ∙ get_or_from_slice_get (take n states) place state state found)

-- a search that begins after n places, and goes on before them
pub found_after : (states : List PlaceState) (n place : ℕ) → position is_free (drop n states) ≡ Some place → slice_get states (n + place) ≡ Some Free
found_after states n place found = get_of_back states n place Free (first_is_free (drop n states) place found)

pub found_before : (states : List PlaceState) (n place : ℕ) → position is_free (take n states) ≡ Some place → slice_get states place ≡ Some Free
found_before states n place found = get_of_front states n place Free (first_is_free (take n states) place found)

pub found_nowhere : (states : List PlaceState) (n : ℕ) → position is_free (drop n states) ≡ None → position is_free (take n states) ≡ None → count_by is_free states ≡ 0
found_nowhere states n behind before = omega (arith, count_split is_free states n, none_is_free (drop n states) behind, none_is_free (take n states) before)

-- states that are settled
pub settled_twice : (states : List PlaceState) → map settled (map settled states) ≡ map settled states
settled_twice [] = refl
settled_twice (Free ∷ states) = ap (λ rest. Free ∷ rest) (settled_twice states)
settled_twice (Allocated ∷ states) = ap (λ rest. Allocated ∷ rest) (settled_twice states)
settled_twice (Given ∷ states) = ap (λ rest. Free ∷ rest) (settled_twice states)

-- once settled, the given places are free too
pub free_of_settled : (states : List PlaceState) → count_by is_free (map settled states) ≡ count_by is_free states + count_by is_given states
free_of_settled [] = refl
free_of_settled (state ∷ states) =
    omega (arith, one state, free_of_settled states, sum_by-cons (λ s. cond (is_free s) 1 0) (settled state) (map settled states), sum_by-cons (λ s. cond (is_free s) 1 0) state states, sum_by-cons (λ s. cond (is_given s) 1 0) state states)
  where
    one : (state : PlaceState) → ◌≡◌ {A = ℕ} (cond (is_free (settled state)) 1 0) (cond (is_free state) 1 0 + cond (is_given state) 1 0)
    one Free = refl
    one Allocated = refl
    one Given = refl

-- and none is given
pub given_of_settled : (states : List PlaceState) → count_by is_given (map settled states) ≡ 0
given_of_settled [] = refl
given_of_settled (state ∷ states) =
    omega (arith, one state, given_of_settled states, sum_by-cons (λ s. cond (is_given s) 1 0) (settled state) (map settled states))
  where
    one : (state : PlaceState) → ◌≡◌ {A = ℕ} (cond (is_given (settled state)) 1 0) 0
    one Free = refl
    one Allocated = refl
    one Given = refl

-- the states of a stored map are settled
pub stored_settled : (allocated : List Bool) → map settled (map state_of allocated) ≡ map state_of allocated
stored_settled [] = refl
stored_settled (true ∷ allocated) = ap (λ rest. Allocated ∷ rest) (stored_settled allocated)
stored_settled (false ∷ allocated) = ap (λ rest. Free ∷ rest) (stored_settled allocated)

-- the free places among the first of a stored map
pub free_so_far : (allocated : List Bool) (n : ℕ) (bit : Bool) → n < length allocated → bit ≡ get_or allocated n bit → count_by is_free (map state_of (take (n + 1) allocated)) ≡ count_by is_free (map state_of (take n allocated)) + cond bit 0 1
free_so_far allocated n bit within read =
    let more : map state_of (take (n + 1) allocated) ≡ map state_of (take n allocated) ++ state_of bit ∷ [] =
    ap (map state_of) (take_more allocated n bit within ∙ ap (λ b. take n allocated ++ b ∷ []) (sym read)) ∙ map_push state_of (take n allocated) bit in
    ap (count_by is_free) more ∙ sum_by_push (λ s. cond (is_free s) 1 0) (map state_of (take n allocated)) (state_of bit) ∙ ap (λ k. count_by is_free (map state_of (take n allocated)) + k) (one bit)
  where
    one : (bit : Bool) → ◌≡◌ {A = ℕ} (cond (is_free (state_of bit)) 1 0) (cond bit 0 1)
    one true = refl
    one false = refl

-- free places are as settled as can be
pub free_settled : (n : ℕ) → map settled (replicate n Free) ≡ replicate n Free
free_settled zero = refl
free_settled (suc n) = ap (λ rest. Free ∷ rest) (free_settled n)

-- and each of them is counted
pub count_free : (n : ℕ) → count_by is_free (replicate n Free) ≡ n
count_free zero = refl
count_free (suc n) = sum_by-cons (λ s. cond (is_free s) 1 0) Free (replicate n Free) ∙ omega (arith, count_free n)

-- a place that is neither free nor given is allocated
pub allocated_only : (states : List PlaceState) (place : ℕ) → place < length states → (slice_get states place ≡ Some Free → ⊥) → (slice_get states place ≡ Some Given → ⊥) → slice_get states place ≡ Some Allocated
allocated_only [] place within not_free not_given = absurd (omega arith)
allocated_only (Free ∷ states) zero within not_free not_given = absurd (not_free refl)
allocated_only (Allocated ∷ states) zero within not_free not_given = refl
allocated_only (Given ∷ states) zero within not_free not_given = absurd (not_given refl)
allocated_only (state ∷ states) (suc place) within not_free not_given = allocated_only states place (omega arith) not_free not_given

-- a map that is made of a stored one keeps what that says
pub kept_of_stored : (allocated : List Bool) → kept_places (map state_of allocated) ≡ allocated
kept_of_stored [] = refl
kept_of_stored (true ∷ allocated) = ap (λ rest. true ∷ rest) (kept_of_stored allocated)
kept_of_stored (false ∷ allocated) = ap (λ rest. false ∷ rest) (kept_of_stored allocated)

-- a map that is settled keeps what it kept before
pub kept_of_settled : (states : List PlaceState) → kept_places (map settled states) ≡ kept_places states
kept_of_settled [] = refl
kept_of_settled (Free ∷ states) = ap (λ rest. false ∷ rest) (kept_of_settled states)
kept_of_settled (Allocated ∷ states) = ap (λ rest. true ∷ rest) (kept_of_settled states)
kept_of_settled (Given ∷ states) = ap (λ rest. false ∷ rest) (kept_of_settled states)
