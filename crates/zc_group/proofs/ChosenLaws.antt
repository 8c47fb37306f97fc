-- The first free places: how they are chosen one after the other, and that a catalogue may have them.
use Rattle.std.proofs.Common.{◌≡◌, ◌∙◌, ℕ, zero, suc, ◌+◌, ◌/◌, ◌%◌, ◌<◌, ◌≤◌, ◌||◌, ◌*◌, Bool, true, false, true≢false, cond, not, eqb, ltb, List, [], ◌∷◌, ◌++◌, length, map, filter, take, refl, sym, ap, ⊎_elim, arith, add-zero, add-one, zero-add}
use Rattle.std.specs.List.{range_with_len, AllByRecursion}
use Rattle.std.proofs.lemmas.Bool.{cases_lt, or_parts, and_from, not-true, ne_eqb, eq-eqb, lt-ltb}
use Rattle.std.proofs.lemmas.List.{take-append-le, take_all, length-take, length-take-le, length-map, length-append, append-nil, map-append}
use Rattle.std.proofs.lemmas.List.Elements.{filter-append, All-from_recursion}
use Rattle.std.proofs.lemmas.Nat.{div_below, div-add-mod'}
use Rattle.std.proofs.Math.Nat.{mod-lt}
use Rattle.zc_num.specs.Limits.{AreLimits, IsFixed, is_fixed, total_of, log_places_of}
use Rattle.zc_num.specs.declared.numbers.PlaceAt.{PlaceAt}
use Rattle.zc_blkptr.specs.declared.ptr.Ptr.{Ptr}
use Rattle.zc_tape.proofs.Places.{both_false}
use Rattle.zc_tree.specs.Spelling.{AscendFrom}
use Rattle.zc_damage.specs.Places.{is_owned, is_reached, chain_has, number_of, IsPlace, ChainPlaces}
use Rattle.zc_damage.proofs.PlaceNumbers.{some_places}
use Rattle.zc_state.specs.State.{IsFree, AreChainPlaces, place_at}
use Rattle.zc_group.specs.Chosen.{is_free, free_below, free_places}

-- ---- one number more

-- one number more after those from the first on
range_from_more : (first n : ℕ) → range_with_len first (suc n) ≡ range_with_len first n ++ (first + n) ∷ []
range_from_more first zero = ap (λ (k : ℕ). k ∷ []) (sym (add-zero first))
range_from_more first (suc n) =
    let along : first + 1 + n ≡ first + suc n = omega arith in
    ap (λ (xs : List ℕ). first ∷ xs) (range_from_more (first + 1) n) ∙ ap (λ (k : ℕ). first ∷ (range_with_len (first + 1) n ++ k ∷ [])) along

range_more : (n : ℕ) → range_with_len 0 (n + 1) ≡ range_with_len 0 n ++ n ∷ []
range_more n = ap (range_with_len 0) (add-one n) ∙ range_from_more 0 n ∙ ap (λ (k : ℕ). range_with_len 0 n ++ k ∷ []) (zero-add n)

-- those that pass a test, with one number more
passing_more : (test : ℕ → Bool) (n : ℕ) → filter test (range_with_len 0 (n + 1)) ≡ filter test (range_with_len 0 n) ++ filter test (n ∷ [])
passing_more test n = ap (filter test) (range_more n) ∙ filter-append test (range_with_len 0 n) (n ∷ [])

-- so many of them are taken already
taken_enough : (count : ℕ) (xs ys : List ℕ) → length (take count xs) ≡ count → take count (xs ++ ys) ≡ take count xs
taken_enough count xs ys all = take-append-le count xs ys (omega (arith, all, length-take count xs))

-- or too few
taken_more : (count x : ℕ) (xs : List ℕ) → (length (take count xs) ≡ count → ⊥) → take count (xs ++ x ∷ []) ≡ take count xs ++ x ∷ []
taken_more count x xs few =
    ⊎_elim
    (λ (short : length xs < count).
    let one : length (xs ++ x ∷ []) ≡ length xs + 1 = length-append xs (x ∷ []) in
    take_all count (xs ++ x ∷ []) (omega (arith, one, short)) ∙ ap (λ (front : List ℕ). front ++ x ∷ []) (sym (take_all count xs (omega (arith, short)))))
    (λ (enough : count ≤ length xs). absurd (few (length-take-le count xs enough)))
    (cases_lt (length xs) count)

-- ---- the loop

module _ (devices places : ℕ) (taken : List PlaceAt) (reach : List Ptr) (count : ℕ) where
  -- none below 0
  pub none_chosen : (chosen : List PlaceAt) → chosen ≡ [] → chosen ≡ map (place_at places) (free_below devices places taken reach count 0)
  none_chosen chosen none = none ∙ ap (map (place_at places)) (sym (take_all count [] (omega arith)))

  -- enough are chosen
  pub enough_chosen : (number : ℕ) (chosen : List PlaceAt) → chosen ≡ map (place_at places) (free_below devices places taken reach count number) → length chosen ≡ count
      → chosen ≡ map (place_at places) (free_below devices places taken reach count (number + 1))
  enough_chosen number chosen is all =
      let test : ℕ → Bool = is_free devices places taken reach in
      let numbers : List ℕ = filter test (range_with_len 0 number) in
      let same : length (take count numbers) ≡ count = sym (length-map (take count numbers) (place_at places)) ∙ sym (ap length is) ∙ all in
      is ∙ ap (map (place_at places)) (sym (ap (take count) (passing_more test number) ∙ taken_enough count numbers (filter test (number ∷ [])) same))

  -- somebody owns the place
  pub owned_left : (number : ℕ) (chosen : List PlaceAt) → chosen ≡ map (place_at places) (free_below devices places taken reach count number)
      → is_owned devices places taken reach number ≡ true → chosen ≡ map (place_at places) (free_below devices places taken reach count (number + 1))
  owned_left number chosen is owned =
      let test : ℕ → Bool = is_free devices places taken reach in
      let numbers : List ℕ = filter test (range_with_len 0 number) in
      let none : filter test (number ∷ []) ≡ [] = ap (λ (b : Bool). cond (not b) (number ∷ []) []) owned in
      is ∙ ap (λ (xs : List ℕ). map (place_at places) (take count xs)) (sym (passing_more test number ∙ ap (λ (xs : List ℕ). numbers ++ xs) none ∙ append-nil numbers))

  -- one more is chosen
  pub one_chosen : (number : ℕ) (chosen : List PlaceAt) → chosen ≡ map (place_at places) (free_below devices places taken reach count number)
      → (length chosen ≡ count → ⊥) → is_owned devices places taken reach number ≡ false
      → chosen ++ record { device = number / places; place = number % places } ∷ [] ≡ map (place_at places) (free_below devices places taken reach count (number + 1))
  one_chosen number chosen is few free =
      let test : ℕ → Bool = is_free devices places taken reach in
      let numbers : List ℕ = filter test (range_with_len 0 number) in
      let one : filter test (number ∷ []) ≡ number ∷ [] = ap (λ (b : Bool). cond (not b) (number ∷ []) []) free in
      let short : length (take count numbers) ≡ count → ⊥ = λ all. few (ap length is ∙ length-map (take count numbers) (place_at places) ∙ all) in
      let more : free_below devices places taken reach count (number + 1) ≡ take count numbers ++ number ∷ [] =
      ap (take count) (passing_more test number ∙ ap (λ (xs : List ℕ). numbers ++ xs) one) ∙ taken_more count number numbers short in
      ap (λ (xs : List PlaceAt). xs ++ place_at places number ∷ []) is
      ∙ sym (ap (map (place_at places)) more ∙ map-append (place_at places) (take count numbers) (number ∷ []))

-- ---- what numbers below a bound have

-- numbers from one on ascend
range_ascends : (first n : ℕ) → AscendFrom first (range_with_len first n)
range_ascends first zero = tt
range_ascends first (suc n) = (omega arith, range_ascends (first + 1) n)

-- and those of them that pass a test
ascend_lower : (least lower : ℕ) (numbers : List ℕ) → lower ≤ least → AscendFrom least numbers → AscendFrom lower numbers
ascend_lower least lower [] low ascend = tt
ascend_lower least lower (number ∷ numbers) low ascend = (omega (arith, low, ascend.0), ascend.1)

ascend_passing : (test : ℕ → Bool) (least : ℕ) (numbers : List ℕ) → AscendFrom least numbers → AscendFrom least (filter test numbers)
ascend_passing test least [] ascend = tt
ascend_passing test least (number ∷ numbers) ascend = at (ascend_passing test (number + 1) numbers ascend.1) (test number) where
  at : AscendFrom (number + 1) (filter test numbers) → (passes : Bool) → AscendFrom least (cond passes (number ∷ filter test numbers) (filter test numbers))
  at behind true = (ascend.0, behind)
  at behind false = ascend_lower (number + 1) least (filter test numbers) (omega (arith, ascend.0)) behind

-- and the first of those
ascend_front : (count least : ℕ) (numbers : List ℕ) → AscendFrom least numbers → AscendFrom least (take count numbers)
ascend_front zero least numbers ascend = tt
ascend_front (suc count) least [] ascend = tt
ascend_front (suc count) least (number ∷ numbers) ascend = (ascend.0, ascend_front count (number + 1) numbers ascend.1)

-- each is below the end
range_below : (first n end : ℕ) → first + n ≤ end → AllByRecursion (λ (number : ℕ). number < end) (range_with_len first n)
range_below first zero end low = tt
range_below first (suc n) end low = (omega (arith, low), range_below (first + 1) n end (omega (arith, low)))

-- what passes a test, and what is so of the numbers, is so of those that pass
all_passing : (P : ℕ → Type 0) (test : ℕ → Bool) (numbers : List ℕ) → AllByRecursion P numbers → AllByRecursion (λ (number : ℕ). P number × (test number ≡ true)) (filter test numbers)
all_passing P test [] all = tt
all_passing P test (number ∷ numbers) all = at (all_passing P test numbers all.1) (test number) refl where
  at : AllByRecursion (λ (n : ℕ). P n × (test n ≡ true)) (filter test numbers) → (passes : Bool) → test number ≡ passes
      → AllByRecursion (λ (n : ℕ). P n × (test n ≡ true)) (cond passes (number ∷ filter test numbers) (filter test numbers))
  at behind true is = ((all.0, is), behind)
  at behind false is = behind

-- and of the first of them
all_front : (P : ℕ → Type 0) (count : ℕ) (numbers : List ℕ) → AllByRecursion P numbers → AllByRecursion P (take count numbers)
all_front P zero numbers all = tt
all_front P (suc count) [] all = tt
all_front P (suc count) (number ∷ numbers) all = (all.0, all_front P count numbers all.1)

-- ---- the places of a catalogue

-- a test of a fixed place
fixed_passes : (devices places device place : ℕ) → IsFixed devices places device place → is_fixed devices places device place ≡ true
fixed_passes devices places device place fixed =
    and_from (eqb device 0) (ltb place (4 + 8 * log_places_of devices places)) (eq-eqb device 0 fixed.0) (lt-ltb place (4 + 8 * log_places_of devices places) fixed.1)

module _ (devices places : ℕ) (taken : List PlaceAt) (reach : List Ptr) (limits : AreLimits devices places) where
  some : 0 < places
  some = some_places devices places limits

  -- the number of a place of a pool whose number is known
  number_again : (number : ℕ) → number_of places (place_at places number).device (place_at places number).place ≡ number
  number_again number = div-add-mod' number places

  -- a number below others is none of theirs
  lacks_lower : (number least : ℕ) (numbers : List ℕ) → number < least → AscendFrom least numbers → chain_has places (map (place_at places) numbers) number ≡ false
  lacks_lower number least [] low ascend = refl
  lacks_lower number least (other ∷ numbers) low ascend =
      both_false _ _
      (ne_eqb (number_of places (place_at places other).device (place_at places other).place) number (λ same. omega (arith, low, ascend.0, number_again other, same)))
      (lacks_lower number (other + 1) numbers (omega (arith, low, ascend.0)) ascend.1)

  -- a number that may be chosen
  abbrev IsOpen : ℕ → Type 0
  IsOpen number = (number < total_of devices places) × (is_free devices places taken reach number ≡ true)

  -- nobody owns its place
  unowned_number : (number : ℕ) → IsOpen number → is_owned devices places taken reach number ≡ false
  unowned_number number open_is = not-true (is_owned devices places taken reach number) open_is.1

  -- and a catalogue may have it
  free_number : (number : ℕ) → IsOpen number → IsFree devices places (place_at places number)
  free_number number open_is =
      let owned = or_parts (is_reached places reach number) (chain_has places taken number || is_fixed devices places (number / places) (number % places)) (unowned_number number open_is) in
      let fixed = or_parts (chain_has places taken number) (is_fixed devices places (number / places) (number % places)) owned.1 in
      record {
        device = div_below number places devices some open_is.0;
        place = mod-lt number some;
        not_fixed = λ is. true≢false (sym (fixed_passes devices places (number / places) (number % places) is) ∙ fixed.1);
      }

  places_of_numbers : (least : ℕ) (numbers : List ℕ) → AscendFrom least numbers → AllByRecursion IsOpen numbers → AreChainPlaces devices places (map (place_at places) numbers)
  places_of_numbers least [] ascend all = tt
  places_of_numbers least (number ∷ numbers) ascend all = (
    free_number number all.0,
    ap (chain_has places (map (place_at places) numbers)) (number_again number) ∙ lacks_lower number (number + 1) numbers (omega arith) ascend.1,
    places_of_numbers (number + 1) numbers ascend.1 all.1,
  )

  unowned_of_numbers : (numbers : List ℕ) → AllByRecursion IsOpen numbers
      → AllByRecursion (λ (at : PlaceAt). is_owned devices places taken reach (number_of places at.device at.place) ≡ false) (map (place_at places) numbers)
  unowned_of_numbers [] all = tt
  unowned_of_numbers (number ∷ numbers) all = (ap (is_owned devices places taken reach) (number_again number) ∙ unowned_number number all.0, unowned_of_numbers numbers all.1)

  open_numbers : (count : ℕ) → AllByRecursion IsOpen (free_below devices places taken reach count (total_of devices places))
  open_numbers count =
      let total : ℕ = total_of devices places in
      all_front IsOpen count (filter (is_free devices places taken reach) (range_with_len 0 total))
      (all_passing (λ (number : ℕ). number < total) (is_free devices places taken reach) (range_with_len 0 total) (range_below 0 total total (omega arith)))

  -- a catalogue may have the first free places
  pub chosen_places : (count : ℕ) → AreChainPlaces devices places (free_places devices places taken reach count)
  chosen_places count =
      let total : ℕ = total_of devices places in
      places_of_numbers 0 (free_below devices places taken reach count total)
      (ascend_front count 0 (filter (is_free devices places taken reach) (range_with_len 0 total)) (ascend_passing (is_free devices places taken reach) 0 (range_with_len 0 total) (range_ascends 0 total)))
      (open_numbers count)

  -- and nobody owns them
  pub chosen_unowned : (count : ℕ)
      → AllByRecursion (λ (at : PlaceAt). is_owned devices places taken reach (number_of places at.device at.place) ≡ false) (free_places devices places taken reach count)
  chosen_unowned count = unowned_of_numbers (free_below devices places taken reach count (total_of devices places)) (open_numbers count)

-- the places are places of the pool
pub chain_there : (devices places : ℕ) (chain : List PlaceAt) → AreChainPlaces devices places chain → ChainPlaces devices places chain
chain_there devices places chain are = All-from_recursion (λ (at : PlaceAt). IsPlace devices places at.device at.place) chain (each chain are) where
  each : (chain : List PlaceAt) → AreChainPlaces devices places chain → AllByRecursion (λ (at : PlaceAt). IsPlace devices places at.device at.place) chain
  each [] are = tt
  each (at ∷ chain) are = ((are.0.device, are.0.place), each chain are.2)
