-- The chain of a catalogue: what is followed is a chain that holds the bytes, and a chain that holds bytes is followed.
use Rattle.std.proofs.Common.{◌≡◌, ◌∙◌, ℕ, zero, suc, ◌+◌, ◌-◌, ◌*◌, ◌<◌, ◌≤◌, Bool, true, false, cond, ◌&&◌, ◌||◌, not, eqb, ltb, List, [], ◌∷◌, ◌++◌, length, take, drop, Option, Some, None, slice_get, Result, Ok, Err, refl, sym, ap, subst, length-append, arith}
use Rattle.std.specs.List.{AllByRecursion}
use Rattle.std.proofs.lemmas.Bool.{and_parts, and_from, not-true, or_parts, eqb-true, eq-eqb, ne_eqb, ltb-true, lt-ltb}
use Rattle.std.proofs.lemmas.List.{drop_at, length-take, length-drop, take-append-drop}
use Rattle.zc_num.specs.Limits.{AreLimits, is_fixed}
use Rattle.zc_num.specs.declared.numbers.PlaceAt.{PlaceAt}
use Rattle.zc_wire.specs.Numbers.{IsBytes}
use Rattle.zc_wire.proofs.Bytes.{bytes_dropped, bytes_taken, bytes_joined}
use Rattle.zc_tape.specs.Tape.{Image}
use Rattle.zc_tape.proofs.Places.{not_true, both_false}
use Rattle.zc_catalog.specs.Chain.{last_link, inner_link, link_before, links, next_in}
use Rattle.zc_catalog.proofs.ChainLaws.{inner_names_next}
use Rattle.zc_damage.specs.Places.{number_of, chain_has}
use Rattle.zc_layout.specs.Layout.{Holds, at_places}
use Rattle.zc_state.specs.State.{IsFree, AreChainPlaces}
use Rattle.zc_state.specs.Reading.{may_follow, is_last, joined, follow}
use Rattle.zc_state.proofs.Steps.{ok_is, if_ok}
use Rattle.zc_state.proofs.LinkLaws.{IsBlock, last_is_link, inner_is_link, link_is_last, bytes_of_last, bytes_of_inner}

-- the image has blocks of 4,096 bytes at the places
abbrev pub AreBlocksAt : Image → List PlaceAt → Type 0
AreBlocksAt image places = AllByRecursion (λ (at : PlaceAt). IsBlock (image at.device at.place)) places

-- none of the places is one of these
abbrev pub AreUnseen : (places : ℕ) → List PlaceAt → List PlaceAt → Type 0
AreUnseen places seen chain = AllByRecursion (λ (at : PlaceAt). chain_has places seen (number_of places at.device at.place) ≡ false) chain

-- ---- places that may be followed

-- a place that may be followed is free, and is none of those before it
pub may_follow_means : (devices places : ℕ) (seen : List PlaceAt) (at : PlaceAt) → may_follow devices places seen at ≡ true
    → IsFree devices places at × (chain_has places seen (number_of places at.device at.place) ≡ false)
may_follow_means devices places seen at e =
    let there : Bool = ltb at.device devices && ltb at.place places in
    let fixed : Bool = is_fixed devices places at.device at.place in
    let again : Bool = chain_has places seen (number_of places at.device at.place) in
    let both = and_parts there (not (fixed || again)) e in
    let ranges = and_parts (ltb at.device devices) (ltb at.place places) both.0 in
    let neither = or_parts fixed again (not-true (fixed || again) both.1) in (
      record {
        device = ltb-true at.device devices ranges.0;
        place = ltb-true at.place places ranges.1;
        not_fixed = λ is. absurd (clash fixed (and_from _ _ (eq-eqb at.device 0 is.0) (lt-ltb _ _ is.1)) neither.0);
      },
      neither.1,
    )
  where
    clash : (test : Bool) → test ≡ true → test ≡ false → ⊥
    clash true holds fails = absurd cc
    clash false holds fails = absurd cc

-- and such a place may be followed
pub may_follow_again : (devices places : ℕ) (seen : List PlaceAt) (at : PlaceAt) → IsFree devices places at → chain_has places seen (number_of places at.device at.place) ≡ false
    → may_follow devices places seen at ≡ true
may_follow_again devices places seen at free unseen =
    let fixed : Bool = is_fixed devices places at.device at.place in
    let again : Bool = chain_has places seen (number_of places at.device at.place) in
    let not_fixed : fixed ≡ false = not_true fixed (λ is.
    let both = and_parts (eqb at.device 0) _ is in free.not_fixed (eqb-true at.device 0 both.0, ltb-true _ _ both.1)) in
    and_from _ _ (and_from _ _ (lt-ltb at.device devices free.device) (lt-ltb at.place places free.place)) (ap not (both_false fixed again not_fixed unseen))

-- ---- what is among the places seen

-- a number beside another, either way
apart : (a b : ℕ) → eqb a b ≡ false → eqb b a ≡ false
apart a b e = ne_eqb b a (λ same. absurd (clash (eqb a b) (eq-eqb a b (sym same)) e)) where
  clash : (test : Bool) → test ≡ true → test ≡ false → ⊥
  clash true holds fails = absurd cc
  clash false holds fails = absurd cc

-- what isn't among one place and others isn't among the others
pub unseen_after : (places : ℕ) (at : PlaceAt) (seen chain : List PlaceAt) → AreUnseen places (at ∷ seen) chain → AreUnseen places seen chain
unseen_after places at seen [] unseen = tt
unseen_after places at seen (next ∷ chain) unseen = ((or_parts _ _ unseen.0).1, unseen_after places at seen chain unseen.1)

-- nor is it the one, so that one isn't among them
pub unseen_apart : (places : ℕ) (at : PlaceAt) (seen chain : List PlaceAt) → AreUnseen places (at ∷ seen) chain → chain_has places chain (number_of places at.device at.place) ≡ false
unseen_apart places at seen [] unseen = refl
unseen_apart places at seen (next ∷ chain) unseen =
    both_false _ _ (apart (number_of places at.device at.place) (number_of places next.device next.place) (or_parts _ _ unseen.0).0) (unseen_apart places at seen chain unseen.1)

-- the other way
pub unseen_before : (places : ℕ) (at : PlaceAt) (seen chain : List PlaceAt) → chain_has places chain (number_of places at.device at.place) ≡ false → AreUnseen places seen chain → AreUnseen places (at ∷ seen) chain
unseen_before places at seen [] alone unseen = tt
unseen_before places at seen (next ∷ chain) alone unseen =
    let both = or_parts _ _ alone in
    (both_false _ _ (apart (number_of places next.device next.place) (number_of places at.device at.place) both.0) unseen.0, unseen_before places at seen chain both.1 unseen.1)

-- none is among no places
pub unseen_by_none : (places : ℕ) (chain : List PlaceAt) → AreUnseen places [] chain
unseen_by_none places [] = tt
unseen_by_none places (at ∷ chain) = (refl, unseen_by_none places chain)

-- ---- what is followed is a chain

-- the places from one on, which has `left` places after it, are a chain that holds so many bytes, and these are the bytes
pub record FollowFound (devices places : ℕ) (image : Image) (left : ℕ) (seen : List PlaceAt) (count : ℕ) (at : PlaceAt) (chain : List PlaceAt) (bytes : List ℕ) : Type 0 where
  pub first : slice_get chain 0 ≡ Some at
  pub as_long : length chain ≡ left + 1
  pub chain_places : AreChainPlaces devices places chain
  pub unseen : AreUnseen places seen chain
  pub all_bytes : length bytes ≡ count
  pub are_bytes : IsBytes bytes
  pub holds : Holds image (at_places chain (links chain bytes))

-- the block before a chain that begins with this place
link_of_first : (chain : List PlaceAt) (next : PlaceAt) (bytes : List ℕ) → slice_get chain 0 ≡ Some next → link_before chain bytes ≡ inner_link next bytes
link_of_first [] next bytes first = absurd cc
link_of_first (at ∷ chain) next bytes first = let same : at ≡ next = cc in ap (λ (place : PlaceAt). inner_link place bytes) same

-- what follows a next place that is named
abbrev named : {A E : Type 0} → Option PlaceAt → E → (PlaceAt → Result A E) → Result A E
named next bad f = elim next [ None ↦ Err bad | Some at ↦ f at ]

-- what is made of an answer
abbrev mapped : {A B E : Type 0} → (A → B) → Result A E → Result B E
mapped f r = elim r [ Ok x ↦ Ok (f x) | Err bad ↦ Err bad ]

-- the answer after a next place
named_ok : {A E : Type 0} (next : Option PlaceAt) (bad : E) (f : PlaceAt → Result A E) (y : A) → named next bad f ≡ Ok y → (at : PlaceAt) × (next ≡ Some at) × (f at ≡ Ok y)
named_ok None bad f y e = absurd cc
named_ok (Some at) bad f y e = (at, refl, e)

-- the answer after the rest of a chain
rest_ok : {A B E : Type 0} (r : Result A E) (f : A → B) (y : B) → mapped f r ≡ Ok y → (x : A) × (r ≡ Ok x) × (f x ≡ y)
rest_ok (Ok x) f y e = (x, refl, cc)
rest_ok (Err bad) f y e = absurd cc

-- what is followed is a chain that holds the bytes
pub follow_found : (devices places : ℕ) (image : Image) (left index : ℕ) (seen : List PlaceAt) (count : ℕ) (at : PlaceAt) (x : List PlaceAt × List ℕ)
    → follow devices places image left index seen count at ≡ Ok x → AreBlocksAt image x.0 → 4088 * left < count → count ≤ 4088 * (left + 1)
    → FollowFound devices places image left seen count at x.0 x.1
unfolding follow
follow_found devices places image zero index seen count at x e blocks more few =
    let block : List ℕ = image at.device at.place in
    let found : List PlaceAt × List ℕ = (at ∷ [], take count (drop 8 block)) in
    let goes = if_ok (may_follow devices places seen at && is_last count block) (Ok found) (at, index) x e in
    let both = and_parts (may_follow devices places seen at) (is_last count block) goes.0 in
    let is_found : found ≡ x = ok_is found x goes.1 in
    let is_block : IsBlock block = (subst (λ (y : List PlaceAt × List ℕ). AreBlocksAt image y.0) (sym is_found) blocks).0 in
    let free = may_follow_means devices places seen at both.0 in
    let few_bytes : count ≤ 4088 = omega arith in
    let made : FollowFound devices places image zero seen count at (at ∷ []) (take count (drop 8 block)) = record {
      first = refl;
      as_long = refl;
      chain_places = (free.0, refl, tt);
      unseen = (free.1, tt);
      all_bytes = omega (arith, length-take count (drop 8 block), length-drop 8 block, is_block.0);
      are_bytes = bytes_taken count (drop 8 block) (bytes_dropped 8 block is_block.1);
      holds = (last_is_link count block is_block few_bytes both.1, tt);
    } in
    subst (λ (y : List PlaceAt × List ℕ). FollowFound devices places image zero seen count at y.0 y.1) is_found made
follow_found devices places image (suc left) index seen count at x e blocks more few =
    let block : List ℕ = image at.device at.place in
    let on = λ (n : PlaceAt). mapped (joined at (drop 8 block)) (follow devices places image left (index + 1) (at ∷ seen) (count - 4088) n) in
    let goes = if_ok (may_follow devices places seen at) (named (next_in block) (at, index) on) (at, index) x e in
    let step = named_ok (next_in block) (at, index) on x goes.1 in
    let next : PlaceAt = step.0 in
    let behind = rest_ok (follow devices places image left (index + 1) (at ∷ seen) (count - 4088) next) (joined at (drop 8 block)) x step.2 in
    let rest : List PlaceAt × List ℕ = behind.0 in
    let is_found : joined at (drop 8 block) rest ≡ x = behind.2 in
    let here : AreBlocksAt image (at ∷ rest.0) = subst (λ (y : List PlaceAt × List ℕ). AreBlocksAt image y.0) (sym is_found) blocks in
    let free = may_follow_means devices places seen at goes.0 in
    let found = follow_found devices places image left (index + 1) (at ∷ seen) (count - 4088) next rest behind.1 here.1 (omega arith) (omega arith) in
    let whole : length (drop 8 block) ≡ 4088 = omega (arith, length-drop 8 block, here.0.0) in
    let bytes : List ℕ = drop 8 block ++ rest.1 in
    let link : block ≡ link_before rest.0 bytes = inner_is_link block rest.1 next here.0 step.1 ∙ sym (link_of_first rest.0 next bytes found.first) in
    let after_block : rest.1 ≡ drop 4088 bytes = sym (drop_at (drop 8 block) rest.1 4088 whole) in
    let made : FollowFound devices places image (suc left) seen count at (at ∷ rest.0) bytes = record {
      first = refl;
      as_long = omega (arith, found.as_long);
      chain_places = (free.0, unseen_apart places at seen rest.0 found.unseen, found.chain_places);
      unseen = (free.1, unseen_after places at seen rest.0 found.unseen);
      all_bytes = omega (arith, length-append (drop 8 block) rest.1, whole, found.all_bytes);
      are_bytes = bytes_joined (drop 8 block) rest.1 (bytes_dropped 8 block here.0.1) found.are_bytes;
      holds = (link, subst (λ (others : List ℕ). Holds image (at_places rest.0 (links rest.0 others))) after_block found.holds);
    } in
    subst (λ (y : List PlaceAt × List ℕ). FollowFound devices places image (suc left) seen count at y.0 y.1) is_found made

-- ---- a chain is followed

-- a chain from its first place on, with the bytes that it holds
pub record IsChain (devices places : ℕ) (image : Image) (seen chain : List PlaceAt) (bytes : List ℕ) : Type 0 where
  pub chain_places : AreChainPlaces devices places chain
  pub unseen : AreUnseen places seen chain
  pub holds : Holds image (at_places chain (links chain bytes))

-- a test that holds
if_again : {A E : Type 0} (test : Bool) (r : Result A E) (bad : E) (y : Result A E) → test ≡ true → r ≡ y → cond test r (Err bad) ≡ y
if_again {A} {E} test r bad y holds on = ap (λ (t : Bool). cond t r (Err bad)) holds ∙ on

-- a next place that is named
named_again : {A E : Type 0} (next : Option PlaceAt) (at : PlaceAt) (bad : E) (f : PlaceAt → Result A E) (y : Result A E) → next ≡ Some at → f at ≡ y → named next bad f ≡ y
named_again {A} {E} next at bad f y is on = ap (λ (n : Option PlaceAt). named n bad f) is ∙ on

-- the rest of a chain that is followed
rest_again : {A B E : Type 0} (r : Result A E) (x : A) (f : A → B) → r ≡ Ok x → mapped f r ≡ Ok (f x)
rest_again {A} {B} {E} r x f is = ap (mapped f) is

-- a chain that holds the bytes is followed
pub follow_only : (devices places : ℕ) (image : Image) (left index : ℕ) (seen : List PlaceAt) (count : ℕ) (at : PlaceAt) (others : List PlaceAt) (bytes : List ℕ) → AreLimits devices places
    → IsChain devices places image seen (at ∷ others) bytes → length others ≡ left → length bytes ≡ count → 4088 * left < count → count ≤ 4088 * (left + 1)
    → follow devices places image left index seen count at ≡ Ok (at ∷ others, bytes)
unfolding follow
follow_only devices places image zero index seen count at [] bytes limits chain as_long all more few =
    let block : List ℕ = image at.device at.place in
    let is_link : block ≡ last_link bytes = chain.holds.0 in
    let goes : may_follow devices places seen at ≡ true = may_follow_again devices places seen at chain.chain_places.0 chain.unseen.0 in
    let ends : is_last count block ≡ true = ap (is_last count) is_link ∙ ap (λ (n : ℕ). is_last n (last_link bytes)) (sym all) ∙ link_is_last bytes in
    let text : take count (drop 8 block) ≡ bytes = ap (λ (b : List ℕ). take count (drop 8 b)) is_link ∙ ap (λ (n : ℕ). take n (drop 8 (last_link bytes))) (sym all) ∙ bytes_of_last bytes in
    if_again (may_follow devices places seen at && is_last count block) (Ok (at ∷ [], take count (drop 8 block))) (at, index) (Ok (at ∷ [], bytes)) (and_from _ _ goes ends)
    (ap (λ (t : List ℕ). Ok (at ∷ [], t)) text)
follow_only devices places image zero index seen count at (next ∷ others) bytes limits chain as_long all more few = absurd (omega arith)
follow_only devices places image (suc left) index seen count at [] bytes limits chain as_long all more few = absurd (omega arith)
follow_only devices places image (suc left) index seen count at (next ∷ others) bytes limits chain as_long all more few =
    let block : List ℕ = image at.device at.place in
    let is_link : block ≡ inner_link next bytes = chain.holds.0 in
    let goes : may_follow devices places seen at ≡ true = may_follow_again devices places seen at chain.chain_places.0 chain.unseen.0 in
    let free : IsFree devices places next = chain.chain_places.2.0 in
    let low : places ≤ 131072 = few_places devices places limits in
    let names : next_in block ≡ Some next = ap next_in is_link ∙ inner_names_next next bytes (omega (arith, free.device, limits.few_devices)) (omega (arith, free.place, low)) (λ both. absurd (omega (arith, both.0, free.device, limits.few_devices))) in
    let front : drop 8 block ≡ take 4088 bytes = ap (drop 8) is_link ∙ bytes_of_inner next bytes in
    let back : List ℕ = drop 4088 bytes in
    let behind : IsChain devices places image (at ∷ seen) (next ∷ others) back = record {
      chain_places = chain.chain_places.2;
      unseen = unseen_before places at seen (next ∷ others) chain.chain_places.1 chain.unseen.1;
      holds = chain.holds.1;
    } in
    let rest = follow_only devices places image left (index + 1) (at ∷ seen) (count - 4088) next others back limits behind (omega arith) (omega (arith, length-drop 4088 bytes)) (omega arith) (omega arith) in
    let text : drop 8 block ++ back ≡ bytes = ap (λ (t : List ℕ). t ++ back) front ∙ take-append-drop 4088 bytes in
    let on = λ (n : PlaceAt). mapped (joined at (drop 8 block)) (follow devices places image left (index + 1) (at ∷ seen) (count - 4088) n) in
    if_again (may_follow devices places seen at) (named (next_in block) (at, index) on) (at, index) (Ok (at ∷ (next ∷ others), bytes)) goes
    (named_again (next_in block) next (at, index) on (Ok (at ∷ (next ∷ others), bytes)) names
    (rest_again (follow devices places image left (index + 1) (at ∷ seen) (count - 4088) next) (next ∷ others, back) (joined at (drop 8 block)) rest
    ∙ ap (λ (t : List ℕ). Ok (at ∷ (next ∷ others), t)) text))
  where
    few_places : (devices places : ℕ) → AreLimits devices places → places ≤ 131072
    few_places zero places limits = absurd (omega (arith, limits.some_device))
    few_places (suc devices) places limits = grind (arith, limits.few_places)
