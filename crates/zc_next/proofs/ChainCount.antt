-- The places of a chain are no more than those of the pool, since none comes twice.
use Rattle.std.proofs.Common.{◌≡◌, ◌∙◌, ℕ, ◌<◌, ◌≤◌, true, false, true≢false, eqb, List, [], ◌∷◌, length, map, sym, subst, ⊎_elim, arith}
use Rattle.std.specs.List.{AllByRecursion, IsDistinct, list_any}
use Rattle.std.proofs.lemmas.Bool.{eq-eqb, eqb-true, ne_eqb, or_cases, or_parts}
use Rattle.std.proofs.lemmas.List.{length-map}
use Rattle.std.proofs.lemmas.Map.Keys.{IsDistinct-cons}
use Rattle.std.proofs.lemmas.Map.Steps.{length-le_from_distinct_below}
use Rattle.zc_num.specs.Limits.{total_of}
use Rattle.zc_num.specs.declared.numbers.PlaceAt.{PlaceAt}
use Rattle.zc_damage.specs.Places.{number_of, is_at, chain_has}
use Rattle.zc_damage.proofs.PlaceNumbers.{number_below}
use Rattle.zc_state.specs.State.{AreChainPlaces}

-- the numbers of places
abbrev chain_numbers : (places : ℕ) → List PlaceAt → List ℕ
chain_numbers places chain = map (λ (at : PlaceAt). number_of places at.device at.place) chain

-- a number that the chain hasn't is none of its places'
none_is : (places number : ℕ) (chain : List PlaceAt) → chain_has places chain number ≡ false → AllByRecursion (λ (other : ℕ). eqb number other ≡ false) (chain_numbers places chain)
none_is places number [] none = tt
none_is places number (at ∷ chain) none =
    let both = or_parts (is_at places number at) (chain_has places chain number) none in
    let own : ℕ = number_of places at.device at.place in
    (ne_eqb number own (λ same. true≢false (sym (eq-eqb own number (sym same)) ∙ both.0)), none_is places number chain both.1)

-- so no two are one
numbers_distinct : (devices places : ℕ) (chain : List PlaceAt) → AreChainPlaces devices places chain → IsDistinct eqb (chain_numbers places chain)
unfolding IsDistinct
numbers_distinct devices places [] are = tt
numbers_distinct devices places (at ∷ chain) are =
    IsDistinct-cons eqb (number_of places at.device at.place) (chain_numbers places chain) (none_is places (number_of places at.device at.place) chain are.1) (numbers_distinct devices places chain are.2)

-- each is one of the pool
numbers_below : (devices places : ℕ) (chain : List PlaceAt) (number : ℕ) → AreChainPlaces devices places chain → list_any (eqb number) (chain_numbers places chain) ≡ true → number < total_of devices places
numbers_below devices places [] number are there = absurd (true≢false (sym there))
numbers_below devices places (at ∷ chain) number are there =
    let own : ℕ = number_of places at.device at.place in
    ⊎_elim
    (λ (here : eqb number own ≡ true). subst (λ (k : ℕ). k < total_of devices places) (sym (eqb-true number own here)) (number_below devices places at.device at.place are.0.device are.0.place))
    (λ (behind : list_any (eqb number) (chain_numbers places chain) ≡ true). numbers_below devices places chain number are.2 behind)
    (or_cases (eqb number own) (list_any (eqb number) (chain_numbers places chain)) there)

-- so there are no more of them than places
pub chain_few : (devices places : ℕ) (chain : List PlaceAt) → AreChainPlaces devices places chain → length chain ≤ total_of devices places
chain_few devices places chain are =
    let numbers : List ℕ = chain_numbers places chain in
    let few : length numbers ≤ total_of devices places =
    length-le_from_distinct_below numbers (total_of devices places) (numbers_distinct devices places chain are) (λ q there. numbers_below devices places chain q are there) in
    omega (arith, few, length-map chain (λ (at : PlaceAt). number_of places at.device at.place))
