-- The chain that a body names: what is read as its chain holds the bytes, and a chain that holds them is read.
use Rattle.std.proofs.Common.{◌≡◌, ◌∙◌, ℕ, ◌+◌, ◌-◌, ◌*◌, ◌<◌, ◌≤◌, Bool, cond, eqb, List, [], ◌∷◌, length, Option, Some, slice_get, Result, Ok, Err, refl, sym, ap, arith}
use Rattle.std.proofs.lemmas.Bool.{eqb-true, eq-eqb}
use Rattle.zc_num.specs.Limits.{AreLimits}
use Rattle.zc_num.specs.declared.numbers.PlaceAt.{PlaceAt}
use Rattle.zc_wire.specs.Numbers.{IsBytes}
use Rattle.zc_tape.specs.Tape.{Image}
use Rattle.zc_root.specs.declared.body.Body.{Body}
use Rattle.zc_catalog.specs.Chain.{chain_length, links}
use Rattle.zc_damage.specs.declared.damage.Damage.{Damage}
use Rattle.zc_layout.specs.Layout.{Holds, at_places}
use Rattle.zc_state.specs.State.{AreChainPlaces}
use Rattle.zc_state.specs.Reading.{first_place, chain_damage, follow, chain_of}
use Rattle.zc_state.proofs.Steps.{ok_is, if_ok}
use Rattle.zc_state.proofs.FollowLaws.{AreBlocksAt, follow_found, follow_only, unseen_by_none}

-- a chain of so many places has bytes in the last of them
pub last_has_bytes : (bytes left : ℕ) → chain_length bytes ≡ left + 1 → (4088 * left < bytes) × (bytes ≤ 4088 * (left + 1))
last_has_bytes bytes left is = (omega arith, omega arith)

-- the chain of a body that holds the bytes
pub record IsChainOf (devices places : ℕ) (image : Image) (body : Body) (chain : List PlaceAt) (bytes : List ℕ) : Type 0 where
  pub first : slice_get chain 0 ≡ Some (first_place body)
  pub as_long : length chain ≡ body.chain
  pub long_enough : body.chain ≡ chain_length body.length
  pub chain_places : AreChainPlaces devices places chain
  pub all_bytes : length bytes ≡ body.length
  pub holds : Holds image (at_places chain (links chain bytes))

-- an answer, or the damage of the place at which there is none
abbrev damaged : {A : Type 0} → Body → Result A (PlaceAt × ℕ) → Result A Damage
damaged body r = elim r [ Ok found ↦ Ok found | Err bad ↦ Err (chain_damage body bad.0 bad.1) ]

damaged_ok : {A : Type 0} (body : Body) (r : Result A (PlaceAt × ℕ)) (x : A) → damaged body r ≡ Ok x → r ≡ Ok x
damaged_ok body (Ok y) x e = let same : y ≡ x = ok_is y x e in ap Ok same
damaged_ok body (Err bad) x e = absurd cc

-- what is read as the chain of a body is its chain, and the bytes are bytes
pub chain_found : (devices places : ℕ) (image : Image) (body : Body) (x : List PlaceAt × List ℕ) → 1 ≤ body.chain
    → chain_of devices places image body ≡ Ok x → AreBlocksAt image x.0 → IsChainOf devices places image body x.0 x.1 × IsBytes x.1
unfolding chain_of
chain_found devices places image body x some e blocks =
    let read : Result (List PlaceAt × List ℕ) (PlaceAt × ℕ) = follow devices places image (body.chain - 1) 0 [] body.length (first_place body) in
    let goes = if_ok (eqb body.chain (chain_length body.length)) (damaged body read) (chain_damage body (first_place body) 0) x e in
    let long_enough : body.chain ≡ chain_length body.length = eqb-true body.chain (chain_length body.length) goes.0 in
    let bounds = last_has_bytes body.length (body.chain - 1) (omega arith) in
    let found = follow_found devices places image (body.chain - 1) 0 [] body.length (first_place body) x (damaged_ok body read x goes.1) blocks bounds.0 bounds.1 in (
      record {
        first = found.first;
        as_long = omega (arith, found.as_long);
        long_enough = long_enough;
        chain_places = found.chain_places;
        all_bytes = found.all_bytes;
        holds = found.holds;
      },
      found.are_bytes,
    )

-- the chain of a body is read
pub chain_only : (devices places : ℕ) (image : Image) (body : Body) (chain : List PlaceAt) (bytes : List ℕ) → AreLimits devices places → 1 ≤ body.chain
    → IsChainOf devices places image body chain bytes → chain_of devices places image body ≡ Ok (chain, bytes)
unfolding chain_of
chain_only devices places image body [] bytes limits some is = absurd (omega (arith, is.as_long))
chain_only devices places image body (at ∷ others) bytes limits some is =
    let bounds = last_has_bytes body.length (body.chain - 1) (omega (arith, is.long_enough)) in
    let begins : at ≡ first_place body = one_of (slice_get (at ∷ others) 0) at (first_place body) refl is.first in
    let read : follow devices places image (body.chain - 1) 0 [] body.length at ≡ Ok (at ∷ others, bytes) =
    follow_only devices places image (body.chain - 1) 0 [] body.length at others bytes limits
    (record { chain_places = is.chain_places; unseen = unseen_by_none places (at ∷ others); holds = is.holds }) (omega (arith, is.as_long)) is.all_bytes bounds.0 bounds.1 in
    let from_first : follow devices places image (body.chain - 1) 0 [] body.length (first_place body) ≡ Ok (at ∷ others, bytes) =
    ap (follow devices places image (body.chain - 1) 0 [] body.length) (sym begins) ∙ read in
    ap (λ (test : Bool). cond test (damaged body (follow devices places image (body.chain - 1) 0 [] body.length (first_place body))) (Err (chain_damage body (first_place body) 0)))
    (eq-eqb body.chain (chain_length body.length) is.long_enough)
    ∙ ap (damaged body) from_first
  where
    one_of : {A : Type 0} (o : Option A) (x y : A) → o ≡ Some x → o ≡ Some y → x ≡ y
    one_of o x y first second = cc
