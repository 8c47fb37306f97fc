-- A chain that is followed place by place: what was found so far, and what is still to be followed.
use Rattle.std.proofs.Common.{◌≡◌, ◌≢◌, ◌∙◌, ℕ, zero, suc, ◌+◌, ◌-◌, ◌*◌, ◌<◌, Bool, true, false, cond, ◌&&◌, eqb, eq-eqb, List, [], ◌∷◌, ◌++◌, reverse, take, drop, Option, Some, None, Result, Ok, Err, refl, sym, ap, subst, append_assoc, arith}
use Rattle.std.specs.List.{All, AllByRecursion}
use Rattle.std.proofs.lemmas.Bool.{ne_eqb}
use Rattle.std.proofs.lemmas.List.{reverse-append}
use Rattle.std.proofs.lemmas.List.Elements.{All-append}
use Rattle.zc_num.specs.declared.limits.Limits.{Limits}
use Rattle.zc_num.specs.declared.numbers.PlaceAt.{PlaceAt}
use Rattle.zc_tape.specs.Tape.{Image, Tape}
use Rattle.zc_tape.specs.Crash.{reads}
use Rattle.zc_root.specs.declared.body.Body.{Body}
use Rattle.zc_catalog.specs.Chain.{chain_length, next_in}
use Rattle.zc_damage.specs.declared.damage.Damage.{Damage}
use Rattle.zc_damage.specs.Places.{IsPlace, ChainPlaces}
use Rattle.zc_state.specs.Reading.{chain_damage, first_place, may_follow, is_last, joined, follow, chain_of}
use Rattle.zc_image.specs.declared.fault.ImageFault.{ImageFault}
use Rattle.zc_image.specs.declared.fault.ImageFault.TheVariants.{NoMemory, NoPool, DiskFault, Damaged}
use Rattle.zc_image.specs.ReadAnswers.{IsWhole, ReadFails, Tells}
use Rattle.zc_image.specs.Blocks.{IsBlock, AreBlocksAt}
use Rattle.zc_image.specs.Following.{next_after, last_bytes, or_broken, ahead, placed}

-- ---- one place

-- what is followed after a next place that is there or not
abbrev behind : Option PlaceAt → PlaceAt × ℕ → (PlaceAt → Result (List PlaceAt × List ℕ) (PlaceAt × ℕ)) → PlaceAt → List ℕ → Result (List PlaceAt × List ℕ) (PlaceAt × ℕ)
behind next bad f at bytes = elim next [ None ↦ Err bad | Some place ↦ elim (f place) [ Ok rest ↦ Ok (joined at bytes rest) | Err worse ↦ Err worse ] ]

joined_is : (r : Result (List PlaceAt × List ℕ) (PlaceAt × ℕ)) (at : PlaceAt) (bytes : List ℕ)
    → elim r [ Ok rest ↦ Ok (joined at bytes rest) | Err worse ↦ Err worse ] ≡ ahead (at ∷ []) bytes r
joined_is (Ok rest) at bytes = refl
joined_is (Err bad) at bytes = refl

after_some : (go : Bool) (next : Option PlaceAt) (bad : PlaceAt × ℕ) (f : PlaceAt → Result (List PlaceAt × List ℕ) (PlaceAt × ℕ)) (at place : PlaceAt) (bytes : List ℕ)
    → cond go next None ≡ Some place → cond go (behind next bad f at bytes) (Err bad) ≡ ahead (at ∷ []) bytes (f place)
after_some true None bad f at place bytes e = absurd cc
after_some true (Some other) bad f at place bytes e =
    let same : other ≡ place = cc in joined_is (f other) at bytes ∙ ap (λ (p : PlaceAt). ahead (at ∷ []) bytes (f p)) same
after_some false next bad f at place bytes e = absurd cc

after_none : (go : Bool) (next : Option PlaceAt) (bad : PlaceAt × ℕ) (f : PlaceAt → Result (List PlaceAt × List ℕ) (PlaceAt × ℕ)) (at : PlaceAt) (bytes : List ℕ)
    → cond go next None ≡ None → cond go (behind next bad f at bytes) (Err bad) ≡ Err bad
after_none true None bad f at bytes e = refl
after_none true (Some other) bad f at bytes e = absurd cc
after_none false next bad f at bytes e = refl

-- a place that names a next one is in front of what follows from there
pub follow_next : (devices places : ℕ) (image : Image) (left index : ℕ) (seen : List PlaceAt) (count : ℕ) (at next : PlaceAt)
    → next_after devices places image seen at ≡ Some next
    → follow devices places image (suc left) index seen count at ≡ ahead (at ∷ []) (drop 8 (image at.device at.place)) (follow devices places image left (index + 1) (at ∷ seen) (count - 4088) next)
unfolding follow
follow_next devices places image left index seen count at next e =
    after_some (may_follow devices places seen at) (next_in (image at.device at.place)) (at, index) (follow devices places image left (index + 1) (at ∷ seen) (count - 4088)) at next
    (drop 8 (image at.device at.place)) e

-- one that names none is where the chain is none
pub follow_stops : (devices places : ℕ) (image : Image) (left index : ℕ) (seen : List PlaceAt) (count : ℕ) (at : PlaceAt)
    → next_after devices places image seen at ≡ None → follow devices places image (suc left) index seen count at ≡ Err (at, index)
unfolding follow
follow_stops devices places image left index seen count at e =
    after_none (may_follow devices places seen at) (next_in (image at.device at.place)) (at, index) (follow devices places image left (index + 1) (at ∷ seen) (count - 4088)) at
    (drop 8 (image at.device at.place)) e

-- the last place of a chain, or not
abbrev ended : PlaceAt → ℕ → Option (List ℕ) → Result (List PlaceAt × List ℕ) (PlaceAt × ℕ)
ended at index None = Err (at, index)
ended at index (Some bytes) = Ok (at ∷ [], bytes)

ended_is : (test : Bool) (at : PlaceAt) (index : ℕ) (bytes : List ℕ) → cond test (Ok (at ∷ [], bytes)) (Err (at, index)) ≡ ended at index (cond test (Some bytes) None)
ended_is true at index bytes = refl
ended_is false at index bytes = refl

pub follow_ends : (devices places : ℕ) (image : Image) (index : ℕ) (seen : List PlaceAt) (count : ℕ) (at : PlaceAt)
    → follow devices places image 0 index seen count at ≡ ended at index (last_bytes devices places image seen count at)
unfolding follow
follow_ends devices places image index seen count at =
    ended_is (may_follow devices places seen at && is_last count (image at.device at.place)) at index (take count (drop 8 (image at.device at.place)))

-- ---- places in front

ahead_of_ahead : (places more : List PlaceAt) (bytes after_them : List ℕ) (r : Result (List PlaceAt × List ℕ) (PlaceAt × ℕ))
    → ahead places bytes (ahead more after_them r) ≡ ahead (places ++ more) (bytes ++ after_them) r
ahead_of_ahead places more bytes after_them (Ok rest) =
    let front : places ++ (more ++ rest.0) ≡ (places ++ more) ++ rest.0 = sym (append_assoc places more rest.0) in
    let back : bytes ++ (after_them ++ rest.1) ≡ (bytes ++ after_them) ++ rest.1 = sym (append_assoc bytes after_them rest.1) in
    λ i. Ok (front i, back i)
ahead_of_ahead places more bytes after_them (Err bad) = refl

-- ---- the way so far

-- so many places of the chain of a body were followed, which hold these bytes, and this is the next
pub record IsFollowed (devices places : ℕ) (image : Image) (body : Body) (index : ℕ) (seen : List PlaceAt) (bytes : List ℕ) (at : PlaceAt) : Type 0 where
  pub rest : follow devices places image (body.chain - 1) 0 [] body.length (first_place body)
      ≡ ahead seen bytes (follow devices places image (body.chain - 1 - index) index (reverse seen) (body.length - 4088 * index) at)
  pub blocks : AreBlocksAt image seen

-- at the first place nothing was followed
pub followed_none : (devices places : ℕ) (image : Image) (body : Body) (seen : List PlaceAt) (bytes : List ℕ) (at : PlaceAt) → seen ≡ [] → bytes ≡ [] → at ≡ first_place body
    → IsFollowed devices places image body 0 seen bytes at
followed_none devices places image body seen bytes at no_place no_byte first =
    let start : IsFollowed devices places image body 0 [] [] (first_place body) = record {
      rest = nothing_ahead (follow devices places image (body.chain - 1) 0 [] body.length (first_place body))
          ∙ ap (λ (left : ℕ). ahead [] [] (follow devices places image left 0 [] body.length (first_place body))) (omega arith)
          ∙ ap (λ (count : ℕ). ahead [] [] (follow devices places image (body.chain - 1 - 0) 0 [] count (first_place body))) (omega arith);
      blocks = tt;
    } in
    subst (λ (s : List PlaceAt). IsFollowed devices places image body 0 s bytes at) (sym no_place)
    (subst (λ (b : List ℕ). IsFollowed devices places image body 0 [] b at) (sym no_byte)
    (subst (λ (p : PlaceAt). IsFollowed devices places image body 0 [] [] p) (sym first) start))
  where
    nothing_ahead : (r : Result (List PlaceAt × List ℕ) (PlaceAt × ℕ)) → r ≡ ahead [] [] r
    nothing_ahead (Ok rest) = refl
    nothing_ahead (Err bad) = refl

all_and_one : {X : Type 0} (P : X → Type 0) (xs : List X) (x : X) → AllByRecursion P xs → P x → AllByRecursion P (xs ++ x ∷ [])
all_and_one P [] x all one = (one, tt)
all_and_one P (y ∷ xs) x all one = (all.0, all_and_one P xs x all.1 one)

-- one more place
pub followed_more : (devices places : ℕ) (image : Image) (body : Body) (index : ℕ) (seen : List PlaceAt) (bytes : List ℕ) (at next : PlaceAt) (seen' : List PlaceAt) (bytes' : List ℕ)
    → IsFollowed devices places image body index seen bytes at → index < body.chain - 1 → next_after devices places image (reverse seen) at ≡ Some next
    → seen' ≡ seen ++ at ∷ [] → bytes' ≡ bytes ++ drop 8 (image at.device at.place) → IsBlock (image at.device at.place)
    → IsFollowed devices places image body (index + 1) seen' bytes' next
followed_more devices places image body index seen bytes at next seen' bytes' so_far within goes_on seen_is bytes_are block =
    let here : List ℕ = drop 8 (image at.device at.place) in
    let one_less : body.chain - 1 - index ≡ suc (body.chain - 1 - (index + 1)) = omega arith in
    let counted : body.length - 4088 * index - 4088 ≡ body.length - 4088 * (index + 1) = omega arith in
    let turned : at ∷ reverse seen ≡ reverse (seen ++ at ∷ []) = sym (reverse-append seen (at ∷ [])) in
    let step = follow_next devices places image (body.chain - 1 - (index + 1)) index (reverse seen) (body.length - 4088 * index) at next goes_on in
    let more : IsFollowed devices places image body (index + 1) (seen ++ at ∷ []) (bytes ++ here) next = record {
      rest = so_far.rest
          ∙ ap (λ (left : ℕ). ahead seen bytes (follow devices places image left index (reverse seen) (body.length - 4088 * index) at)) one_less
          ∙ ap (ahead seen bytes) step
          ∙ ahead_of_ahead seen (at ∷ []) bytes here _
          ∙ ap (λ (count : ℕ). ahead (seen ++ at ∷ []) (bytes ++ here) (follow devices places image (body.chain - 1 - (index + 1)) (index + 1) (at ∷ reverse seen) count next)) counted
          ∙ ap (λ (s : List PlaceAt). ahead (seen ++ at ∷ []) (bytes ++ here) (follow devices places image (body.chain - 1 - (index + 1)) (index + 1) s (body.length - 4088 * (index + 1)) next)) turned;
      blocks = all_and_one (λ (p : PlaceAt). IsBlock (image p.device p.place)) seen at so_far.blocks block;
    } in
    subst (λ (s : List PlaceAt). IsFollowed devices places image body (index + 1) s bytes' next) (sym seen_is)
    (subst (λ (b : List ℕ). IsFollowed devices places image body (index + 1) (seen ++ at ∷ []) b next) (sym bytes_are) more)

-- ---- the whole chain

-- the chain of a body that has as many places as its length takes
chain_followed : (devices places : ℕ) (image : Image) (body : Body) → body.chain ≡ chain_length body.length
    → chain_of devices places image body ≡ placed body (follow devices places image (body.chain - 1) 0 [] body.length (first_place body))
unfolding chain_of
chain_followed devices places image body long =
    at (eqb body.chain (chain_length body.length)) (follow devices places image (body.chain - 1) 0 [] body.length (first_place body)) (eq-eqb body.chain (chain_length body.length) long)
  where
    at : (test : Bool) (r : Result (List PlaceAt × List ℕ) (PlaceAt × ℕ)) → test ≡ true
        → cond test (elim r [ Ok found ↦ Ok found | Err bad ↦ Err (chain_damage body bad.0 bad.1) ]) (Err (chain_damage body (first_place body) 0)) ≡ placed body r
    at true (Ok found) e = refl
    at true (Err bad) e = refl
    at false r e = absurd cc

-- a body that has fewer places than its length takes, or more
pub chain_too_short : (devices places : ℕ) (image : Image) (body : Body) (fault : ImageFault) → body.chain ≢ chain_length body.length
    → Tells fault (chain_damage body (first_place body) 0) → ReadFails fault (chain_of devices places image body)
unfolding chain_of
chain_too_short devices places image body NoMemory other tells = tt
chain_too_short devices places image body NoPool other tells = tells
chain_too_short devices places image body DiskFault other tells = absurd tells
chain_too_short devices places image body (Damaged damage) other tells =
    (let test : eqb body.chain (chain_length body.length) ≡ false = ne_eqb body.chain (chain_length body.length) other in
    at (eqb body.chain (chain_length body.length)) _ test) ∙ ap Err (sym tells)
  where
    at : (test : Bool) (r : Result (List PlaceAt × List ℕ) Damage) → test ≡ false → cond test r (Err (chain_damage body (first_place body) 0)) ≡ Err (chain_damage body (first_place body) 0)
    at true r e = absurd cc
    at false r e = refl

-- a place that names no next one is the damage
pub chain_stops : (devices places : ℕ) (image : Image) (body : Body) (index : ℕ) (seen : List PlaceAt) (bytes : List ℕ) (at : PlaceAt)
    → body.chain ≡ chain_length body.length → IsFollowed devices places image body index seen bytes at → index < body.chain - 1
    → next_after devices places image (reverse seen) at ≡ None → chain_of devices places image body ≡ Err (chain_damage body at index)
chain_stops devices places image body index seen bytes at long so_far within stops =
    let one_less : body.chain - 1 - index ≡ suc (body.chain - 1 - (index + 1)) = omega arith in
    chain_followed devices places image body long ∙ ap (placed body) (so_far.rest
    ∙ ap (λ (left : ℕ). ahead seen bytes (follow devices places image left index (reverse seen) (body.length - 4088 * index) at)) one_less
    ∙ ap (ahead seen bytes) (follow_stops devices places image (body.chain - 1 - (index + 1)) index (reverse seen) (body.length - 4088 * index) at stops))

-- at the last place the chain ends, or that is the damage
chain_ends : (devices places : ℕ) (image : Image) (body : Body) (seen : List PlaceAt) (bytes : List ℕ) (at : PlaceAt) (last : Option (List ℕ))
    → body.chain ≡ chain_length body.length → IsFollowed devices places image body (body.chain - 1) seen bytes at
    → last_bytes devices places image (reverse seen) (body.length - 4088 * (body.chain - 1)) at ≡ last
    → chain_of devices places image body ≡ placed body (ahead seen bytes (ended at (body.chain - 1) last))
chain_ends devices places image body seen bytes at last long so_far is =
    let none_left : body.chain - 1 - (body.chain - 1) ≡ 0 = omega arith in
    chain_followed devices places image body long ∙ ap (placed body) (so_far.rest
    ∙ ap (λ (left : ℕ). ahead seen bytes (follow devices places image left (body.chain - 1) (reverse seen) (body.length - 4088 * (body.chain - 1)) at)) none_left
    ∙ ap (ahead seen bytes) (follow_ends devices places image (body.chain - 1) (reverse seen) (body.length - 4088 * (body.chain - 1)) at ∙ ap (ended at (body.chain - 1)) is))

-- ---- what the reader answers

-- a place that is there or broken, and is there
or_broken_some : {X : Type 0} (body : Body) (at : PlaceAt) (index : ℕ) (o : Option X) (x : X) → or_broken body at index o ≡ Ok x → o ≡ Some x
or_broken_some body at index None x e = absurd cc
or_broken_some body at index (Some y) x e = let same : y ≡ x = cc in ap Some same

-- a fault of one place is a fault of the chain, where its damage is the chain's
broken_fails : {X Y : Type 0} (body : Body) (at : PlaceAt) (index : ℕ) (o : Option X) (fault : ImageFault) (read : Result Y Damage)
    → (o ≡ None → read ≡ Err (chain_damage body at index)) → ReadFails fault (or_broken body at index o) → ReadFails fault read
broken_fails body at index o NoMemory read is fails = tt
broken_fails body at index o NoPool read is fails = fails
broken_fails body at index o DiskFault read is fails = tt
broken_fails body at index None (Damaged damage) read is fails = is refl ∙ (let same : chain_damage body at index ≡ damage = cc in ap Err same)
broken_fails body at index (Some x) (Damaged damage) read is fails = absurd cc

-- the way goes on where a place after this one was answered
pub goes_on : (devices places : ℕ) (image : Image) (body : Body) (index : ℕ) (seen : List PlaceAt) (bytes : List ℕ) (at next : PlaceAt) (seen' : List PlaceAt) (bytes' : List ℕ)
    → IsFollowed devices places image body index seen bytes at → index < body.chain - 1
    → or_broken body at index (next_after devices places image (reverse seen) at) ≡ Ok next
    → seen' ≡ seen ++ at ∷ [] → bytes' ≡ bytes ++ drop 8 (image at.device at.place) → IsBlock (image at.device at.place)
    → IsFollowed devices places image body (index + 1) seen' bytes' next
goes_on devices places image body index seen bytes at next seen' bytes' so_far within answer seen_is bytes_are block =
    followed_more devices places image body index seen bytes at next seen' bytes' so_far within (or_broken_some body at index _ next answer) seen_is bytes_are block

-- the fault of an inner place is the chain's
pub inner_fails : (devices places : ℕ) (image : Image) (body : Body) (index : ℕ) (seen : List PlaceAt) (bytes : List ℕ) (at : PlaceAt) (fault : ImageFault)
    → body.chain ≡ chain_length body.length → IsFollowed devices places image body index seen bytes at → index < body.chain - 1
    → ReadFails fault (or_broken body at index (next_after devices places image (reverse seen) at)) → ReadFails fault (chain_of devices places image body)
inner_fails devices places image body index seen bytes at fault long so_far within fails =
    broken_fails body at index (next_after devices places image (reverse seen) at) fault (chain_of devices places image body)
    (chain_stops devices places image body index seen bytes at long so_far within) fails

-- the fault of the last place is the chain's
pub last_fails : (devices places : ℕ) (image : Image) (body : Body) (seen : List PlaceAt) (bytes : List ℕ) (at : PlaceAt) (fault : ImageFault)
    → body.chain ≡ chain_length body.length → IsFollowed devices places image body (body.chain - 1) seen bytes at
    → ReadFails fault (or_broken body at (body.chain - 1) (last_bytes devices places image (reverse seen) (body.length - 4088 * (body.chain - 1)) at)) → ReadFails fault (chain_of devices places image body)
last_fails devices places image body seen bytes at fault long so_far fails =
    broken_fails body at (body.chain - 1) (last_bytes devices places image (reverse seen) (body.length - 4088 * (body.chain - 1)) at) fault (chain_of devices places image body)
    (chain_ends devices places image body seen bytes at None long so_far) fails

-- the whole chain, where the last place was answered
pub chain_found : (devices places : ℕ) (image : Image) (body : Body) (seen : List PlaceAt) (bytes more : List ℕ) (at : PlaceAt) (seen' : List PlaceAt) (bytes' : List ℕ)
    → body.chain ≡ chain_length body.length → IsFollowed devices places image body (body.chain - 1) seen bytes at
    → or_broken body at (body.chain - 1) (last_bytes devices places image (reverse seen) (body.length - 4088 * (body.chain - 1)) at) ≡ Ok more
    → seen' ≡ seen ++ at ∷ [] → bytes' ≡ bytes ++ more → chain_of devices places image body ≡ Ok (seen', bytes')
chain_found devices places image body seen bytes more at seen' bytes' long so_far answer seen_is bytes_are =
    let both : chain_of devices places image body ≡ Ok (seen ++ at ∷ [], bytes ++ more) =
    chain_ends devices places image body seen bytes at (Some more) long so_far (or_broken_some body at (body.chain - 1) _ more answer) in
    both ∙ (λ i. Ok (sym seen_is i, sym bytes_are i))

-- and its blocks
pub blocks_found : (devices places : ℕ) (image : Image) (body : Body) (index : ℕ) (seen : List PlaceAt) (bytes : List ℕ) (at : PlaceAt) (seen' : List PlaceAt)
    → IsFollowed devices places image body index seen bytes at → seen' ≡ seen ++ at ∷ [] → IsBlock (image at.device at.place) → AreBlocksAt image seen'
blocks_found devices places image body index seen bytes at seen' so_far seen_is block =
    subst (AreBlocksAt image) (sym seen_is) (all_and_one (λ (p : PlaceAt). IsBlock (image p.device p.place)) seen at so_far.blocks block)

-- ---- the same, of a loop that keeps the disks and the limits

-- the fault of an inner place
pub inner_fails_here : (t u : Tape) (a b : Limits) (body : Body) (index : ℕ) (seen : List PlaceAt) (bytes : List ℕ) (at : PlaceAt) (fault : ImageFault) → u ≡ t → b ≡ a
    → body.chain ≡ chain_length body.length → (IsWhole t → IsFollowed a.devices a.places (reads t) body index seen bytes at) → index < body.chain - 1
    → (IsWhole u → ReadFails fault (or_broken body at index (next_after b.devices b.places (reads u) (reverse seen) at))) → IsWhole t → ReadFails fault (chain_of a.devices a.places (reads t) body)
inner_fails_here t u a b body index seen bytes at fault same_tape same_limits long so_far within fails whole =
    let of_limits = subst (λ (l : Limits). IsWhole u → ReadFails fault (or_broken body at index (next_after l.devices l.places (reads u) (reverse seen) at))) same_limits fails in
    let of_tape = subst (λ (v : Tape). IsWhole v → ReadFails fault (or_broken body at index (next_after a.devices a.places (reads v) (reverse seen) at))) same_tape of_limits in
    inner_fails a.devices a.places (reads t) body index seen bytes at fault long (so_far whole) within (of_tape whole)

-- one more place
pub goes_on_here : (t u : Tape) (a b : Limits) (body : Body) (index : ℕ) (seen : List PlaceAt) (bytes : List ℕ) (at next : PlaceAt) (seen' : List PlaceAt) (bytes' : List ℕ) → u ≡ t → b ≡ a
    → (IsWhole t → IsFollowed a.devices a.places (reads t) body index seen bytes at) → index < body.chain - 1
    → (IsWhole u → or_broken body at index (next_after b.devices b.places (reads u) (reverse seen) at) ≡ Ok next)
    → seen' ≡ seen ++ at ∷ [] → (IsWhole u → bytes' ≡ bytes ++ drop 8 (reads u at.device at.place)) → (IsWhole u → IsBlock (reads u at.device at.place))
    → IsWhole t → IsFollowed a.devices a.places (reads t) body (index + 1) seen' bytes' next
goes_on_here t u a b body index seen bytes at next seen' bytes' same_tape same_limits so_far within answer seen_is bytes_are block whole =
    let of_limits = subst (λ (l : Limits). IsWhole u → or_broken body at index (next_after l.devices l.places (reads u) (reverse seen) at) ≡ Ok next) same_limits answer in
    let of_tape = subst (λ (v : Tape). IsWhole v → or_broken body at index (next_after a.devices a.places (reads v) (reverse seen) at) ≡ Ok next) same_tape of_limits in
    let bytes_here = subst (λ (v : Tape). IsWhole v → bytes' ≡ bytes ++ drop 8 (reads v at.device at.place)) same_tape bytes_are in
    let block_here = subst (λ (v : Tape). IsWhole v → IsBlock (reads v at.device at.place)) same_tape block in
    goes_on a.devices a.places (reads t) body index seen bytes at next seen' bytes' (so_far whole) within (of_tape whole) seen_is (bytes_here whole) (block_here whole)

-- each place is there
pub places_more : (a b : Limits) (seen : List PlaceAt) (at : PlaceAt) (seen' : List PlaceAt) → b ≡ a
    → ChainPlaces a.devices a.places seen → IsPlace b.devices b.places at.device at.place → seen' ≡ seen ++ at ∷ [] → ChainPlaces a.devices a.places seen'
places_more a b seen at seen' same_limits so_far here seen_is =
    let IsHere : PlaceAt → Type 0 = λ place. IsPlace a.devices a.places place.device place.place in
    let here' : IsHere at = subst (λ (l : Limits). IsPlace l.devices l.places at.device at.place) same_limits here in
    subst (All IsHere) (sym seen_is) (All-append IsHere seen (at ∷ []) so_far (All_one at here'))
  where
    All_one : (at : PlaceAt) → IsPlace a.devices a.places at.device at.place → ChainPlaces a.devices a.places (at ∷ [])
    All_one at is zero d lt = is
    All_one at is (suc k) d lt = absurd (omega arith)

-- the last place is the next one, where no inner place is left
at_last : (devices places : ℕ) (image : Image) (body : Body) (index : ℕ) (seen : List PlaceAt) (bytes : List ℕ) (at : PlaceAt) → index ≡ body.chain - 1
    → IsFollowed devices places image body index seen bytes at → IsFollowed devices places image body (body.chain - 1) seen bytes at
at_last devices places image body index seen bytes at e = subst (λ (k : ℕ). IsFollowed devices places image body k seen bytes at) e

-- the fault of the last place
pub last_fails_here : (t u : Tape) (a b : Limits) (body : Body) (index count : ℕ) (seen : List PlaceAt) (bytes : List ℕ) (at : PlaceAt) (fault : ImageFault) → u ≡ t → b ≡ a
    → body.chain ≡ chain_length body.length → (IsWhole t → IsFollowed a.devices a.places (reads t) body index seen bytes at) → index ≡ body.chain - 1 → count ≡ body.length - 4088 * (body.chain - 1)
    → (IsWhole u → ReadFails fault (or_broken body at (body.chain - 1) (last_bytes b.devices b.places (reads u) (reverse seen) count at))) → IsWhole t → ReadFails fault (chain_of a.devices a.places (reads t) body)
last_fails_here t u a b body index count seen bytes at fault same_tape same_limits long so_far at_end counted fails whole =
    let of_limits = subst (λ (l : Limits). IsWhole u → ReadFails fault (or_broken body at (body.chain - 1) (last_bytes l.devices l.places (reads u) (reverse seen) count at))) same_limits fails in
    let of_tape = subst (λ (v : Tape). IsWhole v → ReadFails fault (or_broken body at (body.chain - 1) (last_bytes a.devices a.places (reads v) (reverse seen) count at))) same_tape of_limits in
    let of_count = subst (λ (k : ℕ). IsWhole t → ReadFails fault (or_broken body at (body.chain - 1) (last_bytes a.devices a.places (reads t) (reverse seen) k at))) counted of_tape in
    last_fails a.devices a.places (reads t) body seen bytes at fault long (at_last a.devices a.places (reads t) body index seen bytes at at_end (so_far whole)) (of_count whole)

-- the whole chain
pub chain_found_here : (t u : Tape) (a b : Limits) (body : Body) (index count : ℕ) (seen : List PlaceAt) (bytes more : List ℕ) (at : PlaceAt) (seen' : List PlaceAt) (bytes' : List ℕ) → u ≡ t → b ≡ a
    → body.chain ≡ chain_length body.length → (IsWhole t → IsFollowed a.devices a.places (reads t) body index seen bytes at) → index ≡ body.chain - 1 → count ≡ body.length - 4088 * (body.chain - 1)
    → (IsWhole u → or_broken body at (body.chain - 1) (last_bytes b.devices b.places (reads u) (reverse seen) count at) ≡ Ok more)
    → seen' ≡ seen ++ at ∷ [] → (IsWhole u → bytes' ≡ bytes ++ more) → IsWhole t → chain_of a.devices a.places (reads t) body ≡ Ok (seen', bytes')
chain_found_here t u a b body index count seen bytes more at seen' bytes' same_tape same_limits long so_far at_end counted answer seen_is bytes_are whole =
    let of_limits = subst (λ (l : Limits). IsWhole u → or_broken body at (body.chain - 1) (last_bytes l.devices l.places (reads u) (reverse seen) count at) ≡ Ok more) same_limits answer in
    let of_tape = subst (λ (v : Tape). IsWhole v → or_broken body at (body.chain - 1) (last_bytes a.devices a.places (reads v) (reverse seen) count at) ≡ Ok more) same_tape of_limits in
    let of_count = subst (λ (k : ℕ). IsWhole t → or_broken body at (body.chain - 1) (last_bytes a.devices a.places (reads t) (reverse seen) k at) ≡ Ok more) counted of_tape in
    let bytes_here = subst (λ (v : Tape). IsWhole v → bytes' ≡ bytes ++ more) same_tape bytes_are in
    chain_found a.devices a.places (reads t) body seen bytes more at seen' bytes' long (at_last a.devices a.places (reads t) body index seen bytes at at_end (so_far whole)) (of_count whole) seen_is (bytes_here whole)

-- and its blocks
pub blocks_found_here : (t u : Tape) (a : Limits) (body : Body) (index : ℕ) (seen : List PlaceAt) (bytes : List ℕ) (at : PlaceAt) (seen' : List PlaceAt) → u ≡ t
    → (IsWhole t → IsFollowed a.devices a.places (reads t) body index seen bytes at) → seen' ≡ seen ++ at ∷ [] → (IsWhole u → IsBlock (reads u at.device at.place)) → IsWhole t → AreBlocksAt (reads t) seen'
blocks_found_here t u a body index seen bytes at seen' same_tape so_far seen_is block whole =
    let block_here = subst (λ (v : Tape). IsWhole v → IsBlock (reads v at.device at.place)) same_tape block in
    blocks_found a.devices a.places (reads t) body index seen bytes at seen' (so_far whole) seen_is (block_here whole)
