-- The places that a group writes: those of its chain and of its new blocks are there, none is fixed, none is owned, and no two are one.
use Rattle.std.proofs.Common.{◌≡◌, ◌∙◌, ℕ, ◌/◌, ◌%◌, ◌<◌, Bool, true, false, true≢false, List, [], ◌∷◌, map, refl, sym, ap, ap₂, subst, ⊎_elim}
use Rattle.std.specs.List.{AllByRecursion}
use Rattle.std.proofs.lemmas.Bool.{or_cases, or_parts, eq-eqb, eqb-true}
use Rattle.std.proofs.lemmas.Nat.{div-mul-add, mod-mul-add}
use Rattle.zc_num.specs.Limits.{IsFixed}
use Rattle.zc_num.specs.declared.numbers.PlaceAt.{PlaceAt}
use Rattle.zc_tape.specs.Tape.{Shape, is_at}
use Rattle.zc_tape.proofs.Places.{not_true, both_false, is_at_means}
use Rattle.zc_tree.specs.Reach.{pointers_of_tree}
use Rattle.zc_damage.specs.declared.block.FoundBlock.{FoundBlock}
use Rattle.zc_damage.specs.Places as damage
use Rattle.zc_damage.specs.Places.{number_of, chain_has, is_owned}
use Rattle.zc_layout.specs.Layout as layout
use Rattle.zc_layout.specs.Layout.{owns, AreDistinct, AreApart}
use Rattle.zc_state.specs.State.{State, IsFree, AreChainPlaces, place_of_block, put_of}
use Rattle.zc_state.proofs.BlockLaws.{owns_of_places}
use Rattle.zc_next.specs.Next.{IsUnowned, AreNewBlocks}

-- ---- places by their numbers

-- places with one number are one
pub same_place : (places d p e q : ℕ) → p < places → q < places → number_of places d p ≡ number_of places e q → (d ≡ e) × (p ≡ q)
same_place places d p e q low other is = (
  sym (div-mul-add d places p low) ∙ ap (λ (n : ℕ). n / places) is ∙ div-mul-add e places q other,
  sym (mod-mul-add d places p low) ∙ ap (λ (n : ℕ). n % places) is ∙ mod-mul-add e places q other,
)

-- a place whose number the places don't have is none of them
lacks : (places : ℕ) (chain : List PlaceAt) (d p : ℕ) → chain_has places chain (number_of places d p) ≡ false → layout.has_place chain d p ≡ false
lacks places [] d p none = refl
lacks places (at ∷ chain) d p none =
    let both = or_parts _ _ none in
    both_false _ _
    (not_true (is_at at.device at.place d p) (λ here.
    let same = is_at_means at.device at.place d p here in
    true≢false (sym (eq-eqb (number_of places at.device at.place) (number_of places d p) (ap₂ (number_of places) same.0 same.1)) ∙ both.0)))
    (lacks places chain d p both.1)

-- ---- places of the chain

-- no two are one
pub chain_apart : (devices places : ℕ) (chain : List PlaceAt) → AreChainPlaces devices places chain → AreApart chain
chain_apart devices places [] are = tt
chain_apart devices places (at ∷ chain) are = (lacks places chain at.device at.place are.1, chain_apart devices places chain are.2)

-- none is a fixed place
pub chain_beside_fixed : (devices places : ℕ) (chain : List PlaceAt) (d p : ℕ) → AreChainPlaces devices places chain → IsFixed devices places d p → layout.has_place chain d p ≡ false
chain_beside_fixed devices places [] d p are fixed = refl
chain_beside_fixed devices places (at ∷ chain) d p are fixed =
    both_false _ _
    (not_true (is_at at.device at.place d p) (λ here.
    let same = is_at_means at.device at.place d p here in
    are.0.not_fixed (subst (IsFixed devices places at.device) (sym same.1) (same.0 ∙ fixed.0, fixed.1))))
    (chain_beside_fixed devices places chain d p are.2 fixed)

module _ (shape : Shape) (s : State) where
  -- the state owns the place with this number
  abbrev pub is_owned_in : ℕ → Bool
  is_owned_in number = is_owned shape.devices shape.places s.chain (pointers_of_tree s.parts.tree) number

  -- none has a number that the state owns
  pub chain_beside_owned : (chain : List PlaceAt) (number : ℕ) → AllByRecursion (IsUnowned shape s) chain → is_owned_in number ≡ true → chain_has shape.places chain number ≡ false
  chain_beside_owned [] number are owned = refl
  chain_beside_owned (at ∷ chain) number are owned =
      both_false _ _
      (not_true (damage.is_at shape.places number at) (λ here.
      true≢false (sym owned ∙ ap is_owned_in (sym (eqb-true (number_of shape.places at.device at.place) number here)) ∙ are.0)))
      (chain_beside_owned chain number are.1 owned)

  pub chain_place_beside_owned : (chain : List PlaceAt) (d p : ℕ) → AllByRecursion (IsUnowned shape s) chain → is_owned_in (number_of shape.places d p) ≡ true → layout.has_place chain d p ≡ false
  chain_place_beside_owned chain d p are owned = lacks shape.places chain d p (chain_beside_owned chain (number_of shape.places d p) are owned)

  -- ---- places of new blocks

  -- a place that a new block may have
  pub record IsNewPlace (chain : List PlaceAt) (d p : ℕ) : Type 0 where
    pub free : IsFree shape.devices shape.places (record { device = d; place = p })
    pub unowned : is_owned_in (number_of shape.places d p) ≡ false
    pub beside : chain_has shape.places chain (number_of shape.places d p) ≡ false

  -- each place of new blocks is one
  pub new_place : (chain : List PlaceAt) (new : List FoundBlock) (d p : ℕ) → AreNewBlocks shape s chain new → owns (map put_of new) d p ≡ true → IsNewPlace chain d p
  new_place chain [] d p are there = absurd (true≢false (sym there))
  new_place chain (block ∷ new) d p are there =
      ⊎_elim
      (λ (here : is_at block.device block.place d p ≡ true).
      let same = is_at_means block.device block.place d p here in
      let at_block : IsNewPlace chain block.device block.place = record { free = are.0; unowned = are.1; beside = are.2 } in
      subst (λ (place : ℕ). IsNewPlace chain d place) same.1 (subst (λ (device : ℕ). IsNewPlace chain device block.place) same.0 at_block))
      (λ (behind : owns (map put_of new) d p ≡ true). new_place chain new d p are.4 behind)
      (or_cases (is_at block.device block.place d p) (owns (map put_of new) d p) there)

  -- so none is a place that the state owns,
  pub new_beside_owned : (chain : List PlaceAt) (new : List FoundBlock) (d p : ℕ) → AreNewBlocks shape s chain new → is_owned_in (number_of shape.places d p) ≡ true → owns (map put_of new) d p ≡ false
  new_beside_owned chain new d p are owned = not_true (owns (map put_of new) d p) (λ there. true≢false (sym owned ∙ (new_place chain new d p are there).unowned))

  -- a fixed one,
  pub new_beside_fixed : (chain : List PlaceAt) (new : List FoundBlock) (d p : ℕ) → AreNewBlocks shape s chain new → IsFixed shape.devices shape.places d p → owns (map put_of new) d p ≡ false
  new_beside_fixed chain new d p are fixed = not_true (owns (map put_of new) d p) (λ there. (new_place chain new d p are there).free.not_fixed fixed)

  -- or one of the chain
  pub new_beside_chain : (chain : List PlaceAt) (new : List FoundBlock) (d p : ℕ) → AreNewBlocks shape s chain new → owns (map put_of new) d p ≡ true → layout.has_place chain d p ≡ false
  new_beside_chain chain new d p are there = lacks shape.places chain d p (new_place chain new d p are there).beside

  -- and no two are one
  pub new_distinct : (chain : List PlaceAt) (new : List FoundBlock) → AreNewBlocks shape s chain new → AreDistinct (map put_of new)
  new_distinct chain [] are = tt
  new_distinct chain (block ∷ new) are = (
    owns_of_places new block.device block.place ∙ lacks shape.places (map place_of_block new) block.device block.place are.3,
    new_distinct chain new are.4,
  )
