-- The parts of a map after each of its calls.
use Rattle.std.proofs.Common.{◌≡◌, ◌∙◌, ◌≢◌, ℕ, zero, suc, ◌+◌, ◌-◌, ◌^◌, ◌<◌, ◌≤◌, Bool, true, false, ◌&&◌, List, [], ◌∷◌, ◌++◌, map, length, set, replicate, slice_get, take, drop, count_by, Some, refl, sym, ap, subst, ltb, true≢false, arith}
use Rattle.std.specs.List.{list_all}
use Rattle.std.proofs.lemmas.Bool.{lt-ltb, ltb-true}
use Rattle.std.proofs.lemmas.List.{length-set, length-map, length_push, set_comm, set-set, map-set, get_or-set_other, get_or-set_same, drop_all, take_at, length-replicate}
use Rattle.std.proofs.lemmas.List.Sums.{fold_push}
use Rattle.std.proofs.lemmas.List.Folds.{list_all-append}
use Rattle.std.proofs.lemmas.Option.{slice_get_within, get_or_from_slice_get}
use Rattle.zc_spacemap.specs.declared.state.PlaceState.{PlaceState}
use Rattle.zc_spacemap.specs.declared.state.PlaceState.TheVariants.{Free, Allocated, Given}
use Rattle.zc_spacemap.specs.States.{is_free, is_given, settled, state_of}
use Rattle.zc_spacemap.specs.Sound.{is_given_at, IsSound, freed}
use Rattle.zc_spacemap.proofs.StateLaws.{count_set, count_two, settled_twice, free_of_settled, given_of_settled, stored_settled, free_settled, count_free}

-- both tests held
both : (a b : Bool) → (a && b) ≡ true → (a ≡ true) × (b ≡ true)
both true b e = (refl, e)
both false b e = absurd (true≢false (sym e))

-- a place that is given is none that is not
other_place : (states : List PlaceState) (place other : ℕ) → is_given_at states place ≡ false → is_given_at states other ≡ true → other ≢ place
other_place states place other unlike alike same = true≢false (sym alike ∙ ap (is_given_at states) same ∙ unlike)

-- a change of another place, before or after
freed_set : (marks : List PlaceState) (given : List ℕ) (states : List PlaceState) (place : ℕ) (after : PlaceState) → is_given_at marks place ≡ false → list_all (is_given_at marks) given ≡ true
    → freed given (set states place after) ≡ set (freed given states) place after
freed_set marks [] states place after unlike all = refl
freed_set marks (first ∷ given) states place after unlike all =
    let parts = both (is_given_at marks first) (list_all (is_given_at marks) given) all in
    ap (freed given) (set_comm states place first after Free (λ same. other_place marks place first unlike parts.0 (sym same)))
    ∙ freed_set marks given (set states first Free) place after unlike parts.1

-- the given places stay so
there_set : (given : List ℕ) (states : List PlaceState) (place : ℕ) (after : PlaceState) → is_given_at states place ≡ false → list_all (is_given_at states) given ≡ true
    → list_all (is_given_at (set states place after)) given ≡ true
there_set [] states place after unlike all = refl
there_set (first ∷ given) states place after unlike all =
    let parts = both (is_given_at states first) (list_all (is_given_at states) given) all in
    let same : is_given_at (set states place after) first ≡ true = ap is_given (get_or-set_other states place first after Free (other_place states place first unlike parts.0)) ∙ parts.0 in
    rw same (there_set given states place after unlike parts.1)

-- a place that is given is there
pub given_within : (states : List PlaceState) (given : List ℕ) → list_all (is_given_at states) given ≡ true → list_all (λ place. ltb place (length states)) given ≡ true
given_within states [] all = refl
given_within states (first ∷ given) all =
    let parts = both (is_given_at states first) (list_all (is_given_at states) given) all in
    rw (one states first parts.0) (given_within states given parts.1)
  where
    one : (states : List PlaceState) (place : ℕ) → is_given_at states place ≡ true → ltb place (length states) ≡ true
    one [] place e = absurd (true≢false (sym e))
    one (state ∷ states) zero e = lt-ltb _ _ (omega arith)
    one (state ∷ states) (suc place) e = lt-ltb _ _ (let h = ltb-true _ _ (one states place e) in omega arith)

-- what is known of a place of one state
state_at : (states : List PlaceState) (place : ℕ) (state : PlaceState) → slice_get states place ≡ Some state → is_given_at states place ≡ is_given state
state_at states place state found = ap is_given (get_or_from_slice_get states place state Free found)

-- a free place is taken
pub taken_sound : (states : List PlaceState) (free : ℕ) (given : List ℕ) (place : ℕ) → IsSound states free given → slice_get states place ≡ Some Free
    → IsSound (set states place Allocated) (free - 1) given
taken_sound states free given place sound found =
    let unlike : is_given_at states place ≡ false = state_at states place Free found in
    let frees = count_set is_free states place Allocated Free found in
    let givens = count_set is_given states place Allocated Free found in
    record {
      few = omega (arith, sound.few, length-set states place Allocated);
      free_counted = omega (arith, sound.free_counted);
      given_counted = omega (arith, sound.given_counted);
      given_there = there_set given states place Allocated unlike sound.given_there;
      given_listed = freed_set states given states place Allocated unlike sound.given_there ∙ ap (λ (s : List PlaceState). set s place Allocated) sound.given_listed ∙ sym (map-set settled states place Allocated);
    }

-- where a place is free, some is counted
pub free_some : (states : List PlaceState) (free : ℕ) (given : List ℕ) (place : ℕ) → IsSound states free given → slice_get states place ≡ Some Free → 1 ≤ free
free_some states free given place sound found =
    let frees = count_set is_free states place Allocated Free found in
    omega (arith, sound.free_counted)

-- an allocated place is given
pub given_sound : (states : List PlaceState) (free : ℕ) (given : List ℕ) (place : ℕ) → IsSound states free given → slice_get states place ≡ Some Allocated
    → IsSound (set states place Given) free (given ++ place ∷ [])
given_sound states free given place sound found =
    let unlike : is_given_at states place ≡ false = state_at states place Allocated found in
    let frees = count_set is_free states place Given Allocated found in
    let givens = count_set is_given states place Given Allocated found in
    let within = slice_get_within states place Allocated found in
    let now : is_given_at (set states place Given) place ≡ true = ap is_given (get_or-set_same states place Given Free within) in
    record {
      few = omega (arith, sound.few, length-set states place Given);
      free_counted = omega (arith, sound.free_counted);
      given_counted = omega (arith, sound.given_counted, length_push given place);
      given_there = list_all-append (is_given_at (set states place Given)) given (place ∷ []) ∙ rw (there_set given states place Given unlike sound.given_there, now) refl;
      given_listed =
          fold_push (λ (before : List PlaceState) (k : ℕ). set before k Free) (set states place Given) given place
          ∙ ap (λ (s : List PlaceState). set s place Free) (freed_set states given states place Given unlike sound.given_there)
          ∙ set-set (freed given states) place Given Free
          ∙ ap (λ (s : List PlaceState). set s place Free) sound.given_listed
          ∙ sym (map-set settled states place Given);
    }

-- the map is settled
pub settled_sound : (states : List PlaceState) (free : ℕ) (given : List ℕ) → IsSound states free given → IsSound (freed given states) (free + length given) []
settled_sound states free given sound = rw (sound.given_listed) (record {
  few = omega (arith, sound.few, length-map states settled);
  free_counted = omega (arith, sound.free_counted, sound.given_counted, free_of_settled states);
  given_counted = sym (given_of_settled states);
  given_there = refl;
  given_listed = sym (settled_twice states);
})

-- the free and the given places are no more than all
pub sound_fits : (states : List PlaceState) (free : ℕ) (given : List ℕ) → IsSound states free given → free + length given < 2 ^ 32
sound_fits states free given sound = omega (arith, sound.few, sound.free_counted, sound.given_counted, count_two states)

-- a map whose states are settled
pub new_sound : (states : List PlaceState) (free : ℕ) → length states < 2 ^ 32 → free ≡ count_by is_free states → map settled states ≡ states → IsSound states free []
new_sound states free few counted same = record {
  few = few;
  free_counted = counted;
  given_counted = sym (given_of_settled states) ∙ ap (count_by is_given) same;
  given_there = refl;
  given_listed = sym same;
}

-- a new map
pub free_sound : (places : ℕ) → places < 2 ^ 32 → IsSound (replicate places Free) places []
free_sound places few = new_sound (replicate places Free) places (omega (arith, length-replicate places Free)) (sym (count_free places)) (free_settled places)

-- a map made of a stored one
pub stored_sound : (allocated : List Bool) (free : ℕ) → length allocated < 2 ^ 32 → free ≡ count_by is_free (map state_of allocated) → IsSound (map state_of allocated) free []
stored_sound allocated free few counted = new_sound (map state_of allocated) free (omega (arith, length-map allocated state_of)) counted (stored_settled allocated)

-- the parts as they are spelled elsewhere
pub sound_as : (states other : List PlaceState) (free other_free : ℕ) (given other_given : List ℕ) → IsSound states free given → states ≡ other → free ≡ other_free → given ≡ other_given → IsSound other other_free other_given
sound_as states other free other_free given other_given sound e f g =
    subst (λ (s : List PlaceState). IsSound s other_free other_given) e (subst (λ (k : ℕ). IsSound states k other_given) f (subst (λ (p : List ℕ). IsSound states free p) g sound))

-- all of a list, written over all of another
pub written_over : (before after : List PlaceState) (n : ℕ) → n ≡ length before → length after ≡ length before → take n (after ++ drop (length after) before) ≡ after
written_over before after n all as_long =
    let none : drop (length after) before ≡ [] = drop_all (length after) before (omega arith) in
    ap (λ (back : List PlaceState). take n (after ++ back)) none ∙ take_at after [] n (omega arith)
