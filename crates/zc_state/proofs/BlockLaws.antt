-- The blocks of a pool: what is read are the blocks of the reached places, with the digests of the pointers, and such blocks are read.
use Rattle.std.proofs.Common.{◌≡◌, ◌∙◌, ℕ, zero, suc, ◌+◌, ◌/◌, ◌%◌, ◌<◌, ◌≤◌, Bool, true, false, true≢false, cond, ◌||◌, not, List, [], ◌∷◌, map, filter, Option, Some, None, Result, Ok, Err, refl, sym, ap, ap₂, subst, ⊎_elim, ◌⊎◌, arith}
use Rattle.std.specs.List.{AllByRecursion, range_with_len}
use Rattle.std.specs.Str.{bytes_eq}
use Rattle.std.proofs.lemmas.Bool.{cases_order, eqb-true, eq-eqb, or_right}
use Rattle.std.proofs.Math.Nat.{mul_comm}
use Rattle.std.proofs.lemmas.Nat.{div-mul-add, mod-mul-add, mul-add-lt}
use Rattle.std.proofs.lemmas.Slice.Eq.{bytes_eq-Decides}
use Rattle.zc_num.specs.Limits.{total_of}
use Rattle.zc_num.specs.declared.numbers.PlaceAt.{PlaceAt}
use Rattle.zc_blkptr.specs.Digest.{digest_bytes}
use Rattle.zc_blkptr.specs.Ptr.{IsPtr}
use Rattle.zc_blkptr.specs.declared.ptr.Ptr.{Ptr}
use Rattle.zc_tape.specs.Tape.{Image, is_at}
use Rattle.zc_tape.proofs.Places.{is_at_here, is_at_means}
use Rattle.zc_damage.specs.declared.block.FoundBlock.{FoundBlock}
use Rattle.zc_damage.specs.declared.damage.Damage.{Damage}
use Rattle.zc_damage.specs.Places.{number_of, is_to, pointers_to, is_reached, bytes_in}
use Rattle.zc_layout.specs.Layout as layout
use Rattle.zc_layout.specs.Layout.{Put, Holds, owns}
use Rattle.zc_state.specs.State.{put_of, place_at, place_of_block, block_places, HasDigest}
use Rattle.zc_state.specs.Reading.{block_damage, block_at, with_block, blocks_from, blocks_of}
use Rattle.zc_state.proofs.Steps.{ok_is, bind_ok, bind_again, none_of_choice, no_choice, when_none, when_not, not_false}
use Rattle.zc_state.proofs.Pointers.{ArePtrs}

-- ---- the pointers to one place

-- a place to which no pointer is isn't reached
pub unreached : (places : ℕ) (reach : List Ptr) (number : ℕ) → pointers_to places reach number ≡ [] → is_reached places reach number ≡ false
unreached places [] number none = refl
unreached places (ptr ∷ reach) number none = at (is_to places number ptr) none (unreached places reach number) where
  at : (here : Bool) → cond here (ptr ∷ pointers_to places reach number) (pointers_to places reach number) ≡ [] → (pointers_to places reach number ≡ [] → is_reached places reach number ≡ false)
      → (here || is_reached places reach number) ≡ false
  at true is behind = absurd cc
  at false is behind = behind is

-- a place to which one is is reached
pub reached : (places : ℕ) (reach : List Ptr) (number : ℕ) (ptr : Ptr) (ptrs : List Ptr) → pointers_to places reach number ≡ ptr ∷ ptrs → is_reached places reach number ≡ true
reached places [] number ptr ptrs some = absurd cc
reached places (other ∷ reach) number ptr ptrs some = at (is_to places number other) some (reached places reach number ptr ptrs) where
  at : (here : Bool) → cond here (other ∷ pointers_to places reach number) (pointers_to places reach number) ≡ ptr ∷ ptrs → (pointers_to places reach number ≡ ptr ∷ ptrs → is_reached places reach number ≡ true)
      → (here || is_reached places reach number) ≡ true
  at true is behind = refl
  at false is behind = behind is

-- what holds of the items that pass a test
all_passed : {X : Type 0} (P : X → Type 0) (test : X → Bool) (xs : List X) → AllByRecursion P (filter test xs) → AllByRecursion (λ (x : X). test x ≡ true → P x) xs
all_passed P test [] all = tt
all_passed {X} P test (x ∷ xs) all = at (test x) refl all (all_passed P test xs) where
  at : (passes : Bool) → test x ≡ passes → AllByRecursion P (cond passes (x ∷ filter test xs) (filter test xs)) → (AllByRecursion P (filter test xs) → AllByRecursion (λ (y : X). test y ≡ true → P y) xs)
      → AllByRecursion (λ (y : X). test y ≡ true → P y) (x ∷ xs)
  at true is here behind = (λ _. here.0, behind here.1)
  at false is here behind = (λ passes. absurd (true≢false (sym passes ∙ is)), behind here)

-- and back
passed_all : {X : Type 0} (P : X → Type 0) (test : X → Bool) (xs : List X) → AllByRecursion (λ (x : X). test x ≡ true → P x) xs → AllByRecursion P (filter test xs)
passed_all P test [] all = tt
passed_all {X} P test (x ∷ xs) all = at (test x) refl (passed_all P test xs all.1) where
  at : (passes : Bool) → test x ≡ passes → AllByRecursion P (filter test xs) → AllByRecursion P (cond passes (x ∷ filter test xs) (filter test xs))
  at true is behind = (all.0 is, behind)
  at false is behind = behind

-- ---- digests

-- the image has the block of the pointer at its place, by its digest
abbrev pub HasDigestAt : Image → Ptr → Type 0
HasDigestAt image ptr = digest_bytes (image ptr.device ptr.place) ≡ ptr.digest

-- no damage of pointers to one place: the bytes there have the digest of each
no_damage_means : (ptrs : List Ptr) (bytes : List ℕ) → block_damage ptrs bytes ≡ None → AllByRecursion (λ (ptr : Ptr). digest_bytes bytes ≡ ptr.digest) ptrs
no_damage_means [] bytes none = tt
no_damage_means (ptr ∷ ptrs) bytes none =
    let both = none_of_choice _ _ none in
    let same : bytes_eq ptr.digest (digest_bytes bytes) ≡ true = not_false _ (when_none _ _ both.0) in
    (sym ((bytes_eq-Decides ptr.digest (digest_bytes bytes)).0 same), no_damage_means ptrs bytes both.1)

no_damage_again : (ptrs : List Ptr) (bytes : List ℕ) → AllByRecursion (λ (ptr : Ptr). digest_bytes bytes ≡ ptr.digest) ptrs → block_damage ptrs bytes ≡ None
no_damage_again [] bytes have = refl
no_damage_again (ptr ∷ ptrs) bytes have =
    let same : bytes_eq ptr.digest (digest_bytes bytes) ≡ true = (bytes_eq-Decides ptr.digest (digest_bytes bytes)).1 (sym have.0) in
    no_choice _ _ (when_not _ _ (ap not same)) (no_damage_again ptrs bytes have.1)

-- the bytes at the place with this number have the digest of the pointer, where it is to that place
abbrev IsDigestAt : (places : ℕ) → Image → ℕ → Ptr → Type 0
IsDigestAt places image number ptr = is_to places number ptr ≡ true → digest_bytes (image (number / places) (number % places)) ≡ ptr.digest

-- the place of a pointer from its number
device_of_number : (devices places : ℕ) (ptr : Ptr) → IsPtr devices places ptr → number_of places ptr.device ptr.place / places ≡ ptr.device
device_of_number devices places ptr is = div-mul-add ptr.device places ptr.place is.in_places

place_of_number : (devices places : ℕ) (ptr : Ptr) → IsPtr devices places ptr → number_of places ptr.device ptr.place % places ≡ ptr.place
place_of_number devices places ptr is = mod-mul-add ptr.device places ptr.place is.in_places

-- the number of a place is below the number of all places
pub number_low : (devices places device place : ℕ) → device < devices → place < places → number_of places device place < total_of devices places
number_low devices places device place on_device in_places = omega (arith, mul-add-lt device places place devices on_device in_places, mul_comm devices places)

-- no place has damage
abbrev pub HasNoDamage : (places : ℕ) → Image → List Ptr → (number left : ℕ) → Type 0
HasNoDamage places image reach number left = (k : ℕ) → number ≤ k → k < number + left → block_damage (pointers_to places reach k) (image (k / places) (k % places)) ≡ None

-- then each pointer has its digest
each_digest : (devices places : ℕ) (image : Image) (ptrs : List Ptr) → ArePtrs devices places ptrs → ((k : ℕ) → k < total_of devices places → AllByRecursion (IsDigestAt places image k) ptrs) → AllByRecursion (HasDigestAt image) ptrs
each_digest devices places image [] fits each = tt
each_digest devices places image (ptr ∷ ptrs) fits each =
    let number : ℕ = number_of places ptr.device ptr.place in
    let here : digest_bytes (image (number / places) (number % places)) ≡ ptr.digest = (each number (number_low devices places ptr.device ptr.place fits.0.on_device fits.0.in_places)).0 (eq-eqb number number refl) in
    let same : image (number / places) (number % places) ≡ image ptr.device ptr.place = ap₂ image (device_of_number devices places ptr fits.0) (place_of_number devices places ptr fits.0) in
    (sym (ap digest_bytes same) ∙ here, each_digest devices places image ptrs fits.1 (λ k low. (each k low).1))

-- where no place has damage, the image has each pointer's block by its digest
pub digests_of_no_damage : (devices places : ℕ) (image : Image) (reach : List Ptr) → ArePtrs devices places reach → HasNoDamage places image reach 0 (total_of devices places) → AllByRecursion (HasDigestAt image) reach
digests_of_no_damage devices places image reach fits none =
    each_digest devices places image reach fits (λ k low.
    all_passed (λ (ptr : Ptr). digest_bytes (image (k / places) (k % places)) ≡ ptr.digest) (is_to places k) reach
    (no_damage_means (pointers_to places reach k) (image (k / places) (k % places)) (none k (omega arith) (omega arith))))

-- and back
digest_each : (devices places : ℕ) (image : Image) (ptrs : List Ptr) (k : ℕ) → ArePtrs devices places ptrs → AllByRecursion (HasDigestAt image) ptrs → AllByRecursion (IsDigestAt places image k) ptrs
digest_each devices places image [] k fits have = tt
digest_each devices places image (ptr ∷ ptrs) k fits have = (
  (λ to.
      let number : number_of places ptr.device ptr.place ≡ k = eqb-true _ k to in
      let device : k / places ≡ ptr.device = ap (λ (n : ℕ). n / places) (sym number) ∙ device_of_number devices places ptr fits.0 in
      let place : k % places ≡ ptr.place = ap (λ (n : ℕ). n % places) (sym number) ∙ place_of_number devices places ptr fits.0 in
      ap digest_bytes (ap₂ image device place) ∙ have.0),
  digest_each devices places image ptrs k fits.1 have.1,
)

-- where it has each of them, no place has damage
pub no_damage_of_digests : (devices places : ℕ) (image : Image) (reach : List Ptr) (number left : ℕ) → ArePtrs devices places reach → AllByRecursion (HasDigestAt image) reach → HasNoDamage places image reach number left
no_damage_of_digests devices places image reach number left fits have k from low =
    no_damage_again (pointers_to places reach k) (image (k / places) (k % places))
    (passed_all (λ (ptr : Ptr). digest_bytes (image (k / places) (k % places)) ≡ ptr.digest) (is_to places k) reach (digest_each devices places image reach k fits have))

-- ---- the blocks at the reached places

-- the places that are reached among so many from this number on
abbrev pub reached_from : (places : ℕ) → List Ptr → (left number : ℕ) → List PlaceAt
reached_from places reach left number = map (place_at places) (filter (is_reached places reach) (range_with_len number left))

-- the next number is one of them, or it isn't
reached_next : (places : ℕ) (reach : List Ptr) (left number : ℕ) → is_reached places reach number ≡ true
    → reached_from places reach (suc left) number ≡ place_at places number ∷ reached_from places reach left (number + 1)
reached_next places reach left number is =
    ap (λ (t : Bool). map (place_at places) (cond t (number ∷ filter (is_reached places reach) (range_with_len (number + 1) left)) (filter (is_reached places reach) (range_with_len (number + 1) left)))) is

reached_not : (places : ℕ) (reach : List Ptr) (left number : ℕ) → is_reached places reach number ≡ false → reached_from places reach (suc left) number ≡ reached_from places reach left (number + 1)
reached_not places reach left number is =
    ap (λ (t : Bool). map (place_at places) (cond t (number ∷ filter (is_reached places reach) (range_with_len (number + 1) left)) (filter (is_reached places reach) (range_with_len (number + 1) left)))) is

-- the image has these blocks at the reached places, and none has damage
pub record AreBlocksFrom (places : ℕ) (image : Image) (reach : List Ptr) (left number : ℕ) (blocks : List FoundBlock) : Type 0 where
  pub places_are : map place_of_block blocks ≡ reached_from places reach left number
  pub holds : Holds image (map put_of blocks)
  pub no_damage : HasNoDamage places image reach number left

-- the damage of a place, or its block in front of the others
abbrev chosen : Option Damage → FoundBlock → Result (List FoundBlock) Damage → Result (List FoundBlock) Damage
chosen damage block rest = elim damage [ None ↦ with_block block rest | Some bad ↦ Err bad ]

-- the others alone where no pointer is to the place
abbrev stepped : List Ptr → FoundBlock → List ℕ → Result (List FoundBlock) Damage → Result (List FoundBlock) Damage
stepped ptrs block bytes rest = elim ptrs [ [] ↦ rest | ptr ∷ others ↦ chosen (block_damage (ptr ∷ others) bytes) block rest ]

chosen_ok : (damage : Option Damage) (block : FoundBlock) (rest : Result (List FoundBlock) Damage) (blocks : List FoundBlock) → chosen damage block rest ≡ Ok blocks
    → (damage ≡ None) × ((others : List FoundBlock) × (rest ≡ Ok others) × (block ∷ others ≡ blocks))
chosen_ok None block rest blocks e =
    let step = bind_ok rest (λ (others : List FoundBlock). Ok (block ∷ others)) blocks e in
    (refl, (step.0, step.1, ok_is (block ∷ step.0) blocks step.2))
chosen_ok (Some bad) block rest blocks e = absurd cc

-- one more number without damage
no_damage_more : (places : ℕ) (image : Image) (reach : List Ptr) (number left : ℕ) → block_damage (pointers_to places reach number) (image (number / places) (number % places)) ≡ None
    → HasNoDamage places image reach (number + 1) left → HasNoDamage places image reach number (suc left)
no_damage_more places image reach number left here behind k from low =
    ⊎_elim
    (λ (same : number ≡ k). subst (λ (n : ℕ). block_damage (pointers_to places reach n) (image (n / places) (n % places)) ≡ None) same here)
    (λ (other : (number < k) ⊎ (k < number)). ⊎_elim (λ (on : number < k). behind k (omega arith) (omega arith)) (λ (back : k < number). absurd (omega arith)) other)
    (cases_order number k)

-- what is read at one number more
step_found : (places : ℕ) (image : Image) (reach : List Ptr) (left number : ℕ) (ptrs : List Ptr) (rest : Result (List FoundBlock) Damage) (blocks : List FoundBlock)
    → pointers_to places reach number ≡ ptrs → stepped ptrs (block_at places image number) (image (number / places) (number % places)) rest ≡ Ok blocks
    → ((others : List FoundBlock) → rest ≡ Ok others → AreBlocksFrom places image reach left (number + 1) others) → AreBlocksFrom places image reach (suc left) number blocks
step_found places image reach left number [] rest blocks is e behind =
    let found = behind blocks e in
    record {
      places_are = found.places_are ∙ sym (reached_not places reach left number (unreached places reach number is));
      holds = found.holds;
      no_damage = no_damage_more places image reach number left (ap (λ (p : List Ptr). block_damage p (image (number / places) (number % places))) is) found.no_damage;
    }
step_found places image reach left number (ptr ∷ ptrs) rest blocks is e behind =
    let step = chosen_ok (block_damage (ptr ∷ ptrs) (image (number / places) (number % places))) (block_at places image number) rest blocks e in
    let others : List FoundBlock = step.1.0 in
    let found = behind others step.1.1 in
    let made : AreBlocksFrom places image reach (suc left) number (block_at places image number ∷ others) = record {
      places_are = ap (λ (ps : List PlaceAt). place_at places number ∷ ps) found.places_are ∙ sym (reached_next places reach left number (reached places reach number ptr ptrs is));
      holds = (refl, found.holds);
      no_damage = no_damage_more places image reach number left (ap (λ (p : List Ptr). block_damage p (image (number / places) (number % places))) is ∙ step.0) found.no_damage;
    } in
    subst (AreBlocksFrom places image reach (suc left) number) step.1.2 made

-- what is read are the blocks
pub blocks_found : (places : ℕ) (image : Image) (reach : List Ptr) (left number : ℕ) (blocks : List FoundBlock) → blocks_from places image reach left number ≡ Ok blocks
    → AreBlocksFrom places image reach left number blocks
unfolding blocks_from
blocks_found places image reach zero number blocks e =
    subst (AreBlocksFrom places image reach zero number) (ok_is [] blocks e) (record { places_are = refl; holds = tt; no_damage = λ k from low. absurd (omega arith) })
blocks_found places image reach (suc left) number blocks e =
    step_found places image reach left number (pointers_to places reach number) (blocks_from places image reach left (number + 1)) blocks refl e
    (λ others is. blocks_found places image reach left (number + 1) others is)

-- the block of a place that the image holds
held_block : (places : ℕ) (image : Image) (number : ℕ) (block : FoundBlock) → place_of_block block ≡ place_at places number → image block.device block.place ≡ block.bytes → block_at places image number ≡ block
held_block places image number block is holds =
    let device : block.device ≡ number / places = ap (λ (at : PlaceAt). at.device) is in
    let place : block.place ≡ number % places = ap (λ (at : PlaceAt). at.place) is in
    let bytes : image (number / places) (number % places) ≡ block.bytes = sym (ap₂ image device place) ∙ holds in
    λ i. record { device = sym device i; place = sym place i; bytes = bytes i }

chosen_again : (damage : Option Damage) (block : FoundBlock) (rest : Result (List FoundBlock) Damage) (others : List FoundBlock) → damage ≡ None → rest ≡ Ok others → chosen damage block rest ≡ Ok (block ∷ others)
chosen_again damage block rest others none is =
    ap (λ (d : Option Damage). chosen d block rest) none ∙ bind_again rest (λ (more : List FoundBlock). Ok (block ∷ more)) others (Ok (block ∷ others)) is refl

-- at one number more
step_only : (places : ℕ) (image : Image) (reach : List Ptr) (left number : ℕ) (ptrs : List Ptr) (rest : Result (List FoundBlock) Damage) (blocks : List FoundBlock)
    → pointers_to places reach number ≡ ptrs → AreBlocksFrom places image reach (suc left) number blocks
    → ((others : List FoundBlock) → AreBlocksFrom places image reach left (number + 1) others → rest ≡ Ok others)
    → stepped ptrs (block_at places image number) (image (number / places) (number % places)) rest ≡ Ok blocks
step_only places image reach left number [] rest blocks is are behind =
    behind blocks (record {
      places_are = are.places_are ∙ reached_not places reach left number (unreached places reach number is);
      holds = are.holds;
      no_damage = λ k from low. are.no_damage k (omega arith) (omega arith);
    })
step_only places image reach left number (ptr ∷ ptrs) rest [] is are behind =
    let some = are.places_are ∙ reached_next places reach left number (reached places reach number ptr ptrs is) in absurd cc
step_only places image reach left number (ptr ∷ ptrs) rest (block ∷ others) is are behind =
    let both = are.places_are ∙ reached_next places reach left number (reached places reach number ptr ptrs is) in
    let here : place_of_block block ≡ place_at places number = cc in
    let more : map place_of_block others ≡ reached_from places reach left (number + 1) = cc in
    let damage : block_damage (ptr ∷ ptrs) (image (number / places) (number % places)) ≡ None =
    ap (λ (p : List Ptr). block_damage p (image (number / places) (number % places))) (sym is) ∙ are.no_damage number (omega arith) (omega arith) in
    let rest_is : rest ≡ Ok others = behind others (record { places_are = more; holds = are.holds.1; no_damage = λ k from low. are.no_damage k (omega arith) (omega arith) }) in
    chosen_again (block_damage (ptr ∷ ptrs) (image (number / places) (number % places))) (block_at places image number) rest others damage rest_is
    ∙ ap (λ (b : FoundBlock). Ok (b ∷ others)) (held_block places image number block here are.holds.0)

-- the blocks are read
pub blocks_only : (places : ℕ) (image : Image) (reach : List Ptr) (left number : ℕ) (blocks : List FoundBlock) → AreBlocksFrom places image reach left number blocks
    → blocks_from places image reach left number ≡ Ok blocks
unfolding blocks_from
blocks_only places image reach zero number [] are = refl
blocks_only places image reach zero number (block ∷ blocks) are = let none = are.places_are in absurd cc
blocks_only places image reach (suc left) number blocks are =
    step_only places image reach left number (pointers_to places reach number) (blocks_from places image reach left (number + 1)) blocks refl are
    (λ others is. blocks_only places image reach left (number + 1) others is)

-- ---- the bytes of a reached place

-- the blocks are at their places
pub owns_of_places : (blocks : List FoundBlock) (d p : ℕ) → owns (map put_of blocks) d p ≡ layout.has_place (map place_of_block blocks) d p
owns_of_places [] d p = refl
owns_of_places (block ∷ blocks) d p = ap (λ (rest : Bool). is_at block.device block.place d p || rest) (owns_of_places blocks d p)

-- at a place of a block the bytes of the blocks are the image's
pub bytes_of_held : (image : Image) (blocks : List FoundBlock) (d p : ℕ) → owns (map put_of blocks) d p ≡ true → Holds image (map put_of blocks) → bytes_in blocks d p ≡ image d p
bytes_of_held image [] d p there holds = absurd (true≢false (sym there))
bytes_of_held image (block ∷ blocks) d p there holds = at (is_at block.device block.place d p) refl there (λ behind. bytes_of_held image blocks d p behind holds.1) where
  at : (here : Bool) → is_at block.device block.place d p ≡ here → (here || owns (map put_of blocks) d p) ≡ true → (owns (map put_of blocks) d p ≡ true → bytes_in blocks d p ≡ image d p)
      → cond here block.bytes (bytes_in blocks d p) ≡ image d p
  at true is there behind = let same = is_at_means block.device block.place d p is in sym holds.0 ∙ ap₂ image same.0 same.1
  at false is there behind = behind there

-- a reached place is among them
pub reached_is_among : (places : ℕ) (reach : List Ptr) (left number k : ℕ) → number ≤ k → k < number + left → is_reached places reach k ≡ true
    → layout.has_place (reached_from places reach left number) (k / places) (k % places) ≡ true
reached_is_among places reach zero number k from low is = absurd (omega arith)
reached_is_among places reach (suc left) number k from low is =
    ⊎_elim
    (λ (same : number ≡ k).
    subst (λ (n : ℕ). layout.has_place (reached_from places reach (suc left) number) (n / places) (n % places) ≡ true) same
    (ap (λ (ps : List PlaceAt). layout.has_place ps (number / places) (number % places)) (reached_next places reach left number (ap (is_reached places reach) same ∙ is))
    ∙ ap (λ (b : Bool). b || layout.has_place (reached_from places reach left (number + 1)) (number / places) (number % places)) (is_at_here (number / places) (number % places))))
    (λ (other : (number < k) ⊎ (k < number)).
    ⊎_elim
    (λ (on : number < k). behind (is_reached places reach number) refl (reached_is_among places reach left (number + 1) k (omega arith) (omega arith) is))
    (λ (back : k < number). absurd (omega arith)) other)
    (cases_order number k)
  where
    behind : (here : Bool) → is_reached places reach number ≡ here → layout.has_place (reached_from places reach left (number + 1)) (k / places) (k % places) ≡ true
        → layout.has_place (reached_from places reach (suc left) number) (k / places) (k % places) ≡ true
    behind true is there =
        ap (λ (ps : List PlaceAt). layout.has_place ps (k / places) (k % places)) (reached_next places reach left number is)
        ∙ or_right (is_at (number / places) (number % places) (k / places) (k % places)) (layout.has_place (reached_from places reach left (number + 1)) (k / places) (k % places)) there
    behind false is there = ap (λ (ps : List PlaceAt). layout.has_place ps (k / places) (k % places)) (reached_not places reach left number is) ∙ there

-- what follows for each item
pub all_mapped : {X : Type 0} (P Q : X → Type 0) (xs : List X) → ((x : X) → P x → Q x) → AllByRecursion P xs → AllByRecursion Q xs
all_mapped P Q [] step all = tt
all_mapped P Q (x ∷ xs) step all = (step x all.0, all_mapped P Q xs step all.1)

-- what follows for each item from two facts
pub all_of_two : {X : Type 0} (P Q R : X → Type 0) (xs : List X) → ((x : X) → P x → Q x → R x) → AllByRecursion P xs → AllByRecursion Q xs → AllByRecursion R xs
all_of_two P Q R [] step first second = tt
all_of_two P Q R (x ∷ xs) step first second = (step x first.0 second.0, all_of_two P Q R xs step first.1 second.1)

-- the place of each pointer is reached
pub each_reached : (places : ℕ) (reach : List Ptr) → AllByRecursion (λ (ptr : Ptr). is_reached places reach (number_of places ptr.device ptr.place) ≡ true) reach
each_reached places [] = tt
each_reached places (ptr ∷ reach) =
    let number : ℕ = number_of places ptr.device ptr.place in
    let others : List Ptr = ptr ∷ reach in (
      ap (λ (b : Bool). b || is_reached places reach number) (eq-eqb number number refl),
      all_mapped (λ (p : Ptr). is_reached places reach (number_of places p.device p.place) ≡ true) (λ (p : Ptr). is_reached places others (number_of places p.device p.place) ≡ true) reach
          (λ p is. or_right (is_to places (number_of places p.device p.place) ptr) (is_reached places reach (number_of places p.device p.place)) is) (each_reached places reach),
    )

-- so the blocks are at the place of each pointer,
pub pointers_owned : (devices places : ℕ) (reach : List Ptr) (blocks : List FoundBlock) → ArePtrs devices places reach → map place_of_block blocks ≡ block_places devices places reach
    → AllByRecursion (λ (ptr : Ptr). owns (map put_of blocks) ptr.device ptr.place ≡ true) reach
pointers_owned devices places reach blocks fits are =
    all_of_two (IsPtr devices places) (λ (ptr : Ptr). is_reached places reach (number_of places ptr.device ptr.place) ≡ true)
    (λ (ptr : Ptr). owns (map put_of blocks) ptr.device ptr.place ≡ true) reach
    (λ ptr is there.
    let number : ℕ = number_of places ptr.device ptr.place in
    let among = reached_is_among places reach (total_of devices places) 0 number (omega arith) (omega (arith, number_low devices places ptr.device ptr.place is.on_device is.in_places)) there in
    let at_number : layout.has_place (map place_of_block blocks) (number / places) (number % places) ≡ true = ap (λ (ps : List PlaceAt). layout.has_place ps (number / places) (number % places)) are ∙ among in
    owns_of_places blocks ptr.device ptr.place
    ∙ sym (ap₂ (layout.has_place (map place_of_block blocks)) (device_of_number devices places ptr is) (place_of_number devices places ptr is)) ∙ at_number)
    fits (each_reached places reach)

-- and their bytes there are the image's
pub bytes_of_pointers : (devices places : ℕ) (image : Image) (reach : List Ptr) (blocks : List FoundBlock) → ArePtrs devices places reach
    → map place_of_block blocks ≡ block_places devices places reach → Holds image (map put_of blocks)
    → AllByRecursion (λ (ptr : Ptr). bytes_in blocks ptr.device ptr.place ≡ image ptr.device ptr.place) reach
bytes_of_pointers devices places image reach blocks fits are holds =
    all_mapped (λ (ptr : Ptr). owns (map put_of blocks) ptr.device ptr.place ≡ true) (λ (ptr : Ptr). bytes_in blocks ptr.device ptr.place ≡ image ptr.device ptr.place) reach
    (λ ptr there. bytes_of_held image blocks ptr.device ptr.place there holds) (pointers_owned devices places reach blocks fits are)

-- the blocks of a pool: what is read are the blocks of its places, with their digests, and the image holds them
pub record AreBlocksOf (devices places : ℕ) (image : Image) (reach : List Ptr) (blocks : List FoundBlock) : Type 0 where
  pub places_are : map place_of_block blocks ≡ block_places devices places reach
  pub digests : AllByRecursion (HasDigest blocks) reach
  pub holds : Holds image (map put_of blocks)

-- what is read are the blocks of the pool
pub all_blocks_found : (devices places : ℕ) (image : Image) (reach : List Ptr) (blocks : List FoundBlock) → ArePtrs devices places reach
    → blocks_of devices places image reach ≡ Ok blocks → AreBlocksOf devices places image reach blocks
all_blocks_found devices places image reach blocks fits e =
    let found = blocks_found places image reach (total_of devices places) 0 blocks e in
    record {
      places_are = found.places_are;
      digests = all_of_two (λ (ptr : Ptr). bytes_in blocks ptr.device ptr.place ≡ image ptr.device ptr.place) (HasDigestAt image) (HasDigest blocks) reach
          (λ ptr bytes have. ap digest_bytes bytes ∙ have)
          (bytes_of_pointers devices places image reach blocks fits found.places_are found.holds)
          (digests_of_no_damage devices places image reach fits found.no_damage);
      holds = found.holds;
    }

-- and such blocks are read
pub all_blocks_only : (devices places : ℕ) (image : Image) (reach : List Ptr) (blocks : List FoundBlock) → ArePtrs devices places reach
    → AreBlocksOf devices places image reach blocks → blocks_of devices places image reach ≡ Ok blocks
all_blocks_only devices places image reach blocks fits are =
    let have = all_of_two (λ (ptr : Ptr). bytes_in blocks ptr.device ptr.place ≡ image ptr.device ptr.place) (HasDigest blocks) (HasDigestAt image) reach
    (λ ptr bytes digest. sym (ap digest_bytes bytes) ∙ digest)
    (bytes_of_pointers devices places image reach blocks fits are.places_are are.holds) are.digests in
    blocks_only places image reach (total_of devices places) 0 blocks
    (record { places_are = are.places_are; holds = are.holds; no_damage = no_damage_of_digests devices places image reach 0 (total_of devices places) fits have })
