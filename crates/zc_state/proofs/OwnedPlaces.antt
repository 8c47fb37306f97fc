-- The places that a state owns: they are there, none is fixed, no two are one, and the checks of a catalogue know them.
use Rattle.std.proofs.Common.{◌≡◌, ◌∙◌, ℕ, zero, suc, ◌+◌, ◌*◌, ◌/◌, ◌%◌, ◌<◌, ◌≤◌, ◌⊎◌, Bool, true, false, true≢false, cond, ◌||◌, eqb, List, [], ◌∷◌, ◌++◌, map, filter, Option, None, refl, sym, ap, ap₂, subst, inl, inr, ⊎_elim, arith}
use Rattle.std.specs.List.{AllByRecursion, range_with_len}
use Rattle.std.proofs.Math.Nat.{mul_comm}
use Rattle.std.proofs.lemmas.Bool.{cases_order, eq-eqb, eqb-true, or_left, or_right, or_parts, or_cases}
use Rattle.std.proofs.lemmas.Nat.{mod-mul-add, div-mul-add}
use Rattle.zc_num.specs.Limits.{AreLimits, IsFixed, is_fixed, total_of}
use Rattle.zc_num.specs.declared.numbers.PlaceAt.{PlaceAt}
use Rattle.zc_blkptr.specs.Ptr.{IsPtr}
use Rattle.zc_blkptr.specs.declared.ptr.Ptr.{Ptr}
use Rattle.zc_tape.specs.Tape.{Shape, is_at}
use Rattle.zc_tape.proofs.Places.{not_true, both_false, is_at_means}
use Rattle.zc_tree.specs.Reach.{pointers_of_tree}
use Rattle.zc_tree.specs.Catalogue.{catalogue_bytes}
use Rattle.zc_catalog.specs.Chain.{links}
use Rattle.zc_damage.specs.declared.block.FoundBlock.{FoundBlock}
use Rattle.zc_damage.specs.Words.{first_from}
use Rattle.zc_damage.specs.Places.{number_of, is_to, pointers_to, is_reached, chain_has, is_owned, is_allocated, bytes_in}
use Rattle.zc_damage.specs.Checks.{owners_of, owner_hit_in, owner_hit_at, owner_hit, one_if, map_hit_at}
use Rattle.zc_layout.specs.Layout as layout
use Rattle.zc_layout.specs.Layout.{Put, IsAmong, owns, AreDistinct, AreApart, NotAtRoots, at_places}
use Rattle.zc_layout.proofs.LayoutLaws.{among_back, owns_first, owns_after, owns_append, owns_at_places_within, distinct_at_places}
use Rattle.zc_state.specs.State.{State, IsState, IsFree, AreChainPlaces, layout, put_of, place_at, place_of_block, block_places}
use Rattle.zc_state.proofs.Steps.{none_of_choice, when_none, not_false}
use Rattle.zc_state.proofs.Pointers.{ArePtrs, parts_have_ptrs}
use Rattle.zc_state.proofs.BlockLaws.{number_low, unreached, reached_from, owns_of_places, all_mapped, pointers_owned}

-- ---- places of the chain

-- a place of the chain is free, and the catalogue has it by its number
chain_place : (devices places : ℕ) (chain : List PlaceAt) (d p : ℕ) → AreChainPlaces devices places chain → layout.has_place chain d p ≡ true
    → IsFree devices places (record { device = d; place = p }) × (chain_has places chain (number_of places d p) ≡ true)
chain_place devices places [] d p are there = absurd (true≢false (sym there))
chain_place devices places (at ∷ chain) d p are there =
    ⊎_elim
    (λ (here : is_at at.device at.place d p ≡ true).
    let same = is_at_means at.device at.place d p here in
    let free : IsFree devices places (record { device = d; place = p }) =
    subst (IsFree devices places) (λ i. record { device = same.0 i; place = same.1 i }) are.0 in
    let number : number_of places at.device at.place ≡ number_of places d p = ap₂ (number_of places) same.0 same.1 in
    (free, or_left _ _ (eq-eqb (number_of places at.device at.place) (number_of places d p) number)))
    (λ (behind : layout.has_place chain d p ≡ true).
    let rest = chain_place devices places chain d p are.2 behind in
    (rest.0, or_right _ _ rest.1))
    (or_cases (is_at at.device at.place d p) (layout.has_place chain d p) there)

-- a place that the catalogue hasn't by its number is none of the chain's
chain_lacks : (places : ℕ) (chain : List PlaceAt) (d p : ℕ) → chain_has places chain (number_of places d p) ≡ false → layout.has_place chain d p ≡ false
chain_lacks places [] d p none = refl
chain_lacks places (at ∷ chain) d p none =
    let both = or_parts _ _ none in
    both_false _ _
    (not_true (is_at at.device at.place d p) (λ here.
    let same = is_at_means at.device at.place d p here in
    true≢false (sym (eq-eqb (number_of places at.device at.place) (number_of places d p) (ap₂ (number_of places) same.0 same.1)) ∙ both.0)))
    (chain_lacks places chain d p both.1)

-- no two places of the chain are one
chain_apart : (devices places : ℕ) (chain : List PlaceAt) → AreChainPlaces devices places chain → AreApart chain
chain_apart devices places [] are = tt
chain_apart devices places (at ∷ chain) are = (chain_lacks places chain at.device at.place are.1, chain_apart devices places chain are.2)

-- ---- places of blocks

-- a place is that of a number, which is reached
pub record IsReachedNumber (places : ℕ) (reach : List Ptr) (left number d p k : ℕ) : Type 0 where
  pub from : number ≤ k
  pub low : k < number + left
  pub there : is_reached places reach k ≡ true
  pub device : k / places ≡ d
  pub place : k % places ≡ p

reached_number : (places : ℕ) (reach : List Ptr) (left number d p : ℕ) → layout.has_place (reached_from places reach left number) d p ≡ true
    → (k : ℕ) × IsReachedNumber places reach left number d p k
reached_number places reach zero number d p there = absurd (true≢false (sym there))
reached_number places reach (suc left) number d p there = at (is_reached places reach number) refl there (reached_number places reach left (number + 1) d p) where
  more : ((k : ℕ) × IsReachedNumber places reach left (number + 1) d p k) → (k : ℕ) × IsReachedNumber places reach (suc left) number d p k
  more x = (x.0, record { from = omega (arith, x.1.from); low = omega (arith, x.1.low); there = x.1.there; device = x.1.device; place = x.1.place })

  at : (here : Bool) → is_reached places reach number ≡ here
      → layout.has_place (map (place_at places) (cond here (number ∷ filter (is_reached places reach) (range_with_len (number + 1) left)) (filter (is_reached places reach) (range_with_len (number + 1) left)))) d p ≡ true
      → (layout.has_place (reached_from places reach left (number + 1)) d p ≡ true → (k : ℕ) × IsReachedNumber places reach left (number + 1) d p k)
      → (k : ℕ) × IsReachedNumber places reach (suc left) number d p k
  at true is there behind =
      ⊎_elim
      (λ (here : is_at (number / places) (number % places) d p ≡ true).
      let same = is_at_means (number / places) (number % places) d p here in
      (number, record { from = omega arith; low = omega arith; there = is; device = same.0; place = same.1 }))
      (λ (rest : layout.has_place (reached_from places reach left (number + 1)) d p ≡ true). more (behind rest))
      (or_cases (is_at (number / places) (number % places) d p) (layout.has_place (reached_from places reach left (number + 1)) d p) there)
  at false is there behind = more (behind there)

-- a reached number is that of a pointer
reached_ptr : (devices places : ℕ) (reach : List Ptr) (k : ℕ) → ArePtrs devices places reach → is_reached places reach k ≡ true → (ptr : Ptr) × IsPtr devices places ptr × (number_of places ptr.device ptr.place ≡ k)
reached_ptr devices places [] k fits there = absurd (true≢false (sym there))
reached_ptr devices places (ptr ∷ reach) k fits there =
    ⊎_elim
    (λ (here : is_to places k ptr ≡ true). (ptr, fits.0, eqb-true (number_of places ptr.device ptr.place) k here))
    (λ (behind : is_reached places reach k ≡ true). reached_ptr devices places reach k fits.1 behind)
    (or_cases (is_to places k ptr) (is_reached places reach k) there)

-- a place with a block is free, and it is reached by its number
block_place : (devices places : ℕ) (reach : List Ptr) (d p : ℕ) → ArePtrs devices places reach → layout.has_place (block_places devices places reach) d p ≡ true
    → IsFree devices places (record { device = d; place = p }) × (is_reached places reach (number_of places d p) ≡ true)
block_place devices places reach d p fits there =
    let number = reached_number places reach (total_of devices places) 0 d p there in
    let found = reached_ptr devices places reach number.0 fits number.1.there in
    let ptr : Ptr = found.0 in
    let device : ptr.device ≡ d = sym (div-mul-add ptr.device places ptr.place found.1.in_places) ∙ ap (λ (n : ℕ). n / places) found.2 ∙ number.1.device in
    let place : ptr.place ≡ p = sym (mod-mul-add ptr.device places ptr.place found.1.in_places) ∙ ap (λ (n : ℕ). n % places) found.2 ∙ number.1.place in
    let at_ptr : IsFree devices places (record { device = ptr.device; place = ptr.place }) =
    record { device = found.1.on_device; place = found.1.in_places; not_fixed = found.1.not_fixed } in
    let free : IsFree devices places (record { device = d; place = p }) = subst (IsFree devices places) (λ i. record { device = device i; place = place i }) at_ptr in
    let is_number : number.0 ≡ number_of places d p = sym found.2 ∙ ap₂ (number_of places) device place in
    (free, ap (is_reached places reach) (sym is_number) ∙ number.1.there)

-- no two places of blocks are one
blocks_apart : (places : ℕ) (reach : List Ptr) (left number : ℕ) → 0 < places → AreApart (reached_from places reach left number)
blocks_apart places reach zero number some = tt
blocks_apart places reach (suc left) number some = at (is_reached places reach number) (blocks_apart places reach left (number + 1) some) where
  whole : (n : ℕ) → n ≡ n / places * places + n % places
  whole n = omega (arith, mul_comm places (n / places))

  at : (here : Bool) → AreApart (reached_from places reach left (number + 1))
      → AreApart (map (place_at places) (cond here (number ∷ filter (is_reached places reach) (range_with_len (number + 1) left)) (filter (is_reached places reach) (range_with_len (number + 1) left))))
  at true behind = (
    not_true (layout.has_place (reached_from places reach left (number + 1)) (number / places) (number % places)) (λ there.
        let other = reached_number places reach left (number + 1) (number / places) (number % places) there in
        let k : ℕ = other.0 in
        let same : k ≡ number = whole k ∙ (λ i. other.1.device i * places + other.1.place i) ∙ sym (whole number) in
        absurd (omega (arith, same, other.1.from))),
    behind,
  )
  at false behind = behind

-- blocks at places of which no two are one
blocks_distinct : (blocks : List FoundBlock) → AreApart (map place_of_block blocks) → AreDistinct (map put_of blocks)
blocks_distinct [] apart = tt
blocks_distinct (block ∷ blocks) apart = (owns_of_places blocks block.device block.place ∙ apart.0, blocks_distinct blocks apart.1)

-- ---- what the checks say of one place

-- where none of the numbers is hit, no one of them is
none_from : {Y : Type 0} (f : ℕ → Option Y) (k n : ℕ) → first_from f k n ≡ None → (i : ℕ) → k ≤ i → i < k + n → f i ≡ None
none_from f k zero none i from low = absurd (omega arith)
none_from {Y} f k (suc n) none i from low =
    let both = none_of_choice (f k) (first_from f (k + 1) n) none in
    ⊎_elim
    (λ (here : k ≡ i). ap f (sym here) ∙ both.0)
    (λ (there : (k < i) ⊎ (i < k)). ⊎_elim (λ (on : k < i). none_from f (k + 1) n both.1 i (omega arith) (omega arith)) (λ (back : i < k). absurd (omega arith)) there)
    (cases_order k i)

-- no pointer is to a place of the catalogue
no_owner : (places number : ℕ) (in_catalogue : Bool) (ptrs : List Ptr) → owner_hit_in places number (owners_of in_catalogue ptrs) ≡ None → in_catalogue ≡ true → ptrs ≡ []
no_owner places number in_catalogue [] none is = refl
no_owner places number true (ptr ∷ ptrs) none is = absurd cc
no_owner places number false (ptr ∷ ptrs) none is = absurd (true≢false (sym is))

-- no pointer is to a place of the chain
pub chain_unreached : (devices places : ℕ) (chain : List PlaceAt) (reach : List Ptr) (number : ℕ) → owner_hit devices places chain reach ≡ None → number < total_of devices places
    → chain_has places chain number ≡ true → is_reached places reach number ≡ false
chain_unreached devices places chain reach number none low is =
    let here = none_from (owner_hit_at places chain reach) 0 (total_of devices places) none number (omega arith) (omega arith) in
    unreached places reach number (no_owner places number (chain_has places chain number) (pointers_to places reach number) here is)

-- the maps say of each place whether it is owned
one_if_same : (a b : Bool) → one_if a ≡ one_if b → a ≡ b
one_if_same true true e = refl
one_if_same true false e = absurd (omega arith)
one_if_same false true e = absurd (omega arith)
one_if_same false false e = refl

-- the maps have exactly those places allocated that are owned
pub allocated_is_owned : (shape : Shape) (s : State) (number : ℕ) → IsState shape s → number < total_of shape.devices shape.places
    → is_allocated shape.places s.parts.maps number ≡ is_owned shape.devices shape.places s.chain (pointers_of_tree s.parts.tree) number
allocated_is_owned shape s number is low =
    let reach : List Ptr = pointers_of_tree s.parts.tree in
    let kept : Bool = is_allocated shape.places s.parts.maps number in
    let found : Bool = is_owned shape.devices shape.places s.chain reach number in
    let here : map_hit_at shape.devices shape.places s.parts.maps s.chain reach number ≡ None =
    none_from (map_hit_at shape.devices shape.places s.parts.maps s.chain reach) 0 (total_of shape.devices shape.places) is.maps number (omega arith) (omega arith) in
    one_if_same kept found (eqb-true (one_if kept) (one_if found) (not_false (eqb (one_if kept) (one_if found)) (when_none _ _ here)))

-- ---- what the state owns

-- the chain's part of the layout, and the blocks'
abbrev chain_puts : State → List Put
chain_puts s = at_places s.chain (links s.chain (catalogue_bytes s.parts))

-- a place of the chain's part
chain_put : (shape : Shape) (s : State) (d p : ℕ) → IsState shape s → owns (chain_puts s) d p ≡ true
    → IsFree shape.devices shape.places (record { device = d; place = p }) × (chain_has shape.places s.chain (number_of shape.places d p) ≡ true)
chain_put shape s d p is there =
    chain_place shape.devices shape.places s.chain d p is.chain_places
    (at (layout.has_place s.chain d p) refl)
  where
    at : (here : Bool) → layout.has_place s.chain d p ≡ here → layout.has_place s.chain d p ≡ true
    at true e = e
    at false e = absurd (true≢false (sym there ∙ owns_at_places_within s.chain (links s.chain (catalogue_bytes s.parts)) d p e))

-- a place of the blocks' part
block_put : (shape : Shape) (s : State) (d p : ℕ) → IsState shape s → owns (map put_of s.blocks) d p ≡ true
    → IsFree shape.devices shape.places (record { device = d; place = p }) × (is_reached shape.places (pointers_of_tree s.parts.tree) (number_of shape.places d p) ≡ true)
block_put shape s d p is there =
    let reach : List Ptr = pointers_of_tree s.parts.tree in
    let fits = parts_have_ptrs shape.devices shape.places s.body.group s.body.next_dataset s.parts is.parts in
    block_place shape.devices shape.places reach d p fits
    (sym (ap (λ (ps : List PlaceAt). layout.has_place ps d p) is.blocks) ∙ sym (owns_of_places s.blocks d p) ∙ there)

-- a place of the layout is free, and is owned by the checks' word
pub owned_means : (shape : Shape) (s : State) (d p : ℕ) → IsState shape s → owns (layout s) d p ≡ true
    → IsFree shape.devices shape.places (record { device = d; place = p })
    × (is_owned shape.devices shape.places s.chain (pointers_of_tree s.parts.tree) (number_of shape.places d p) ≡ true)
owned_means shape s d p is there =
    let number : ℕ = number_of shape.places d p in
    let reached : Bool = is_reached shape.places (pointers_of_tree s.parts.tree) number in
    let fixed : Bool = is_fixed shape.devices shape.places (number / shape.places) (number % shape.places) in
    ⊎_elim
    (λ (here : owns (chain_puts s) d p ≡ true).
    let found = chain_put shape s d p is here in
    (found.0, or_right reached (chain_has shape.places s.chain number || fixed) (or_left (chain_has shape.places s.chain number) fixed found.1)))
    (λ (here : owns (map put_of s.blocks) d p ≡ true).
    let found = block_put shape s d p is here in
    (found.0, or_left reached (chain_has shape.places s.chain number || fixed) found.1))
    (or_cases (owns (chain_puts s) d p) (owns (map put_of s.blocks) d p) (sym (owns_append (chain_puts s) (map put_of s.blocks) d p) ∙ there))

-- a place that isn't owned by the checks' word isn't in the layout
pub unowned : (shape : Shape) (s : State) (d p : ℕ) → IsState shape s
    → is_owned shape.devices shape.places s.chain (pointers_of_tree s.parts.tree) (number_of shape.places d p) ≡ false → owns (layout s) d p ≡ false
unowned shape s d p is none = not_true (owns (layout s) d p) (λ there. true≢false (sym (owned_means shape s d p is there).1 ∙ none))

-- nor is one that the maps say is free
pub unallocated : (shape : Shape) (s : State) (d p : ℕ) → IsState shape s → is_allocated shape.places s.parts.maps (number_of shape.places d p) ≡ false → owns (layout s) d p ≡ false
unallocated shape s d p is none = not_true (owns (layout s) d p) (λ there.
    let found = owned_means shape s d p is there in
    let low = number_low shape.devices shape.places d p found.0.device found.0.place in
    true≢false (sym found.1 ∙ sym (allocated_is_owned shape s (number_of shape.places d p) is low) ∙ none))

-- nor is a fixed place,
pub beside_fixed : (shape : Shape) (s : State) (d p : ℕ) → IsState shape s → IsFixed shape.devices shape.places d p → owns (layout s) d p ≡ false
beside_fixed shape s d p is fixed = not_true (owns (layout s) d p) (λ there. (owned_means shape s d p is there).0.not_fixed fixed)

-- so not one of the roots
pub beside_roots : (shape : Shape) (s : State) → IsState shape s → NotAtRoots (layout s)
beside_roots shape s is place low = beside_fixed shape s 0 place is (refl, omega arith)

-- two lists of puts, each at places of its own
both_distinct : (xs ys : List Put) → AreDistinct xs → AreDistinct ys → ((d p : ℕ) → owns xs d p ≡ true → owns ys d p ≡ false) → AreDistinct (xs ++ ys)
both_distinct [] ys first second beside = second
both_distinct (put ∷ xs) ys first second beside = (
  owns_append xs ys put.at.device put.at.place ∙ both_false _ _ first.0 (beside put.at.device put.at.place (owns_first put xs)),
  both_distinct xs ys first.1 second (λ d p there. beside d p (owns_after put xs d p there)),
)

-- no two puts of the layout are at one place
pub layout_distinct : (shape : Shape) (s : State) → IsState shape s → AreDistinct (layout s)
layout_distinct shape s is =
    let reach : List Ptr = pointers_of_tree s.parts.tree in
    both_distinct (chain_puts s) (map put_of s.blocks)
    (distinct_at_places s.chain (links s.chain (catalogue_bytes s.parts)) (chain_apart shape.devices shape.places s.chain is.chain_places))
    (blocks_distinct s.blocks (subst AreApart (sym is.blocks) (blocks_apart shape.places reach (total_of shape.devices shape.places) 0 (some_places shape.devices shape.places is.size))))
    (λ d p there. not_true (owns (map put_of s.blocks) d p) (λ also.
    let chained = chain_put shape s d p is there in
    let block = block_put shape s d p is also in
    let low = number_low shape.devices shape.places d p chained.0.device chained.0.place in
    true≢false (sym block.1 ∙ chain_unreached shape.devices shape.places s.chain reach (number_of shape.places d p) is.owners low chained.1)))
  where
    some_places : (devices places : ℕ) → AreLimits devices places → 0 < places
    some_places devices zero limits = absurd (omega (arith, limits.enough_places))
    some_places devices (suc places) limits = omega arith

-- ---- the puts of its blocks

-- the bytes of the blocks at a place that one of them has are a put of theirs
pub block_is_among : (blocks : List FoundBlock) (d p : ℕ) → owns (map put_of blocks) d p ≡ true → IsAmong (record { at = record { device = d; place = p }; bytes = bytes_in blocks d p }) (map put_of blocks)
block_is_among [] d p there = absurd (true≢false (sym there))
block_is_among (block ∷ blocks) d p there = at (is_at block.device block.place d p) refl there (block_is_among blocks d p) where
  put : List ℕ → Put
  put bytes = record { at = record { device = d; place = p }; bytes = bytes }

  at : (here : Bool) → is_at block.device block.place d p ≡ here → (here || owns (map put_of blocks) d p) ≡ true
      → (owns (map put_of blocks) d p ≡ true → IsAmong (put (bytes_in blocks d p)) (map put_of blocks)) → IsAmong (put (cond here block.bytes (bytes_in blocks d p))) (map put_of (block ∷ blocks))
  at true is there behind =
      let same = is_at_means block.device block.place d p is in
      inl (λ i. record { at = record { device = sym same.0 i; place = sym same.1 i }; bytes = block.bytes })
  at false is there behind = inr (behind there)

-- the bytes at the place of each pointer of a state are a put of its layout
pub pointers_are_among : (shape : Shape) (s : State) → IsState shape s
    → AllByRecursion (λ (ptr : Ptr). IsAmong (record { at = record { device = ptr.device; place = ptr.place }; bytes = bytes_in s.blocks ptr.device ptr.place }) (layout s)) (pointers_of_tree s.parts.tree)
pointers_are_among shape s is =
    let reach : List Ptr = pointers_of_tree s.parts.tree in
    all_mapped (λ (ptr : Ptr). owns (map put_of s.blocks) ptr.device ptr.place ≡ true) _ reach
    (λ ptr there. among_back _ (chain_puts s) (map put_of s.blocks) (block_is_among s.blocks ptr.device ptr.place there))
    (pointers_owned shape.devices shape.places reach s.blocks (parts_have_ptrs shape.devices shape.places s.body.group s.body.next_dataset s.parts is.parts) is.blocks)
