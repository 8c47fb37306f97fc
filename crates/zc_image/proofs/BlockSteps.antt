-- Blocks that are gathered place by place: what was gathered so far, and what is still to be read.
use Rattle.std.proofs.Common.{◌≡◌, ◌∙◌, ℕ, zero, suc, ◌+◌, ◌-◌, ◌/◌, ◌%◌, ◌<◌, ◌≤◌, Bool, true, false, cond, not, ◌&&◌, eqb, List, [], ◌∷◌, ◌++◌, map, filter, Option, Some, None, is_some, Result, Ok, Err, refl, sym, ap, subst, append_assoc, add-one, add-zero, zero-add, arith}
use Rattle.std.specs.Str.{bytes_eq}
use Rattle.std.specs.List.{All, range_with_len}
use Rattle.std.specs.List.Sorted.{IsStrictlyIncreasing}
use Rattle.std.proofs.lemmas.Bool.{and_parts, not-false}
use Rattle.std.proofs.lemmas.Slice.Eq.{bytes_eq-Decides}
use Rattle.std.proofs.lemmas.Grind.{common_steps}
use Rattle.std.proofs.lemmas.List.{append-nil, map-append}
use Rattle.std.proofs.lemmas.List.Elements.{All-append, filter-append}
use Rattle.zc_num.specs.Limits.{total_of}
use Rattle.zc_num.specs.declared.numbers.PlaceAt.{PlaceAt}
use Rattle.zc_blkptr.specs.Digest.{digest_bytes}
use Rattle.zc_blkptr.specs.declared.ptr.Ptr.{Ptr}
use Rattle.zc_tape.specs.Tape.{Image, Tape}
use Rattle.zc_tape.specs.Crash.{reads}
use Rattle.zc_damage.specs.declared.block.FoundBlock.{FoundBlock}
use Rattle.zc_damage.specs.declared.damage.Damage.{Damage}
use Rattle.zc_damage.specs.declared.damage.DamageKind.TheVariants.{Block}
use Rattle.zc_damage.specs.Words.{or_else, when}
use Rattle.zc_damage.specs.Places.{pointers_to, is_reached, chain_has, numbers_of}
use Rattle.zc_damage.specs.Census.{first_in}
use Rattle.zc_damage.specs.Checks.{differ, other_block, owners_of, owners_at, owner_hit, owner_hit_at, owner_hit_in, beside}
use Rattle.zc_damage.proofs.CensusLaws.{reached_as}
use Rattle.zc_damage.proofs.FirstLaws.{none_from, neither, none_of_both, one_if_some}
use Rattle.zc_state.specs.State.{place_at, place_of_block, block_places}
use Rattle.zc_state.specs.Reading.{block_damage, block_at, with_block, blocks_from, blocks_of}
use Rattle.zc_image.specs.declared.fault.ImageFault.{ImageFault}
use Rattle.zc_image.specs.declared.fault.ImageFault.TheVariants.{NoMemory, NoPool, DiskFault, Damaged}
use Rattle.zc_image.specs.ReadAnswers.{IsWhole, ReadFails}
use Rattle.zc_image.specs.Gathering.{unless_damaged, and_block, and_block_by, gathered, before, IsRisingTo, AreBlocksBelow}

-- ---- numbers that rise

-- one more number, higher than all
rises_more : (xs : List ℕ) (n : ℕ) → IsRisingTo n xs → IsStrictlyIncreasing (xs ++ n ∷ [])
rises_more xs n is k lt = grind (arith, common_steps, is.rising k, is.below k)

-- what holds of one item holds of each of a list of it
all_one : {X : Type 0} (P : X → Type 0) (x : X) → P x → All P (x ∷ [])
all_one P x holds zero d lt = holds
all_one P x holds (suc k) d lt = absurd (omega arith)

-- the same numbers below a higher one
pub rises_further : (n : ℕ) (xs : List ℕ) → IsRisingTo n xs → IsRisingTo (n + 1) xs
rises_further n xs is = record { rising = is.rising; below = λ k d lt. let b = is.below k d lt in omega arith }

pub rises_by_one : (n m : ℕ) (xs : List ℕ) → m ≡ n → IsRisingTo n xs → IsRisingTo (n + 1) (xs ++ m ∷ [])
rises_by_one n m xs e is = subst (λ (k : ℕ). IsRisingTo (n + 1) (xs ++ k ∷ [])) (sym e) (record {
  rising = rises_more xs n is;
  below = All-append (λ (k : ℕ). k < n + 1) xs (n ∷ []) (rises_further n xs is).below (all_one (λ (k : ℕ). k < n + 1) n (omega arith));
})

-- ---- the places of the blocks

-- one number more after so many
range_more : (first n : ℕ) → range_with_len first (n + 1) ≡ range_with_len first n ++ (first + n) ∷ []
range_more first n = ap (range_with_len first) (add-one n) ∙ more first n where
  more : (first n : ℕ) → range_with_len first (suc n) ≡ range_with_len first n ++ (first + n) ∷ []
  more first zero = ap (λ (k : ℕ). k ∷ []) (sym (add-zero first))
  more first (suc n) = let along : first + 1 + n ≡ first + suc n = omega arith in ap (λ (ks : List ℕ). first ∷ ks) (more (first + 1) n ∙ ap (λ (k : ℕ). range_with_len (first + 1) n ++ k ∷ []) along)

-- the places below this number to which a pointer is
abbrev reached_below : (places : ℕ) → List Ptr → ℕ → List PlaceAt
reached_below places reach number = map (place_at places) (filter (is_reached places reach) (range_with_len 0 number))

-- those below one number more
below_more : (places : ℕ) (reach : List Ptr) (number : ℕ)
    → reached_below places reach (number + 1) ≡ reached_below places reach number ++ map (place_at places) (cond (is_reached places reach number) (number ∷ []) [])
below_more places reach number =
    let more : range_with_len 0 (number + 1) ≡ range_with_len 0 number ++ number ∷ [] = range_more 0 number ∙ ap (λ (k : ℕ). range_with_len 0 number ++ k ∷ []) (zero-add number) in
    ap (λ (ns : List ℕ). map (place_at places) (filter (is_reached places reach) ns)) more
    ∙ ap (map (place_at places)) (filter-append (is_reached places reach) (range_with_len 0 number) (number ∷ []))
    ∙ map-append (place_at places) (filter (is_reached places reach) (range_with_len 0 number)) (filter (is_reached places reach) (number ∷ []))

-- a place is reached just where there is a first pointer to it
reached_by : (places : ℕ) (reach : List Ptr) (number : ℕ) (first : Option Ptr) → first_in (pointers_to places reach number) ≡ first → is_reached places reach number ≡ is_some first
reached_by places reach number first is = sym (reached_as places reach number) ∙ ap is_some is

-- below 0 there is no place
pub no_blocks_below : (places : ℕ) (reach : List Ptr) (blocks : List FoundBlock) → blocks ≡ [] → AreBlocksBelow places reach 0 blocks
no_blocks_below places reach blocks none = record { there = ap (map place_of_block) none }

-- a place to which no pointer is adds none
pub no_block_more : (places : ℕ) (reach : List Ptr) (number : ℕ) (blocks : List FoundBlock) → first_in (pointers_to places reach number) ≡ None
    → AreBlocksBelow places reach number blocks → AreBlocksBelow places reach (number + 1) blocks
no_block_more places reach number blocks none are = record {
  there = are.there ∙ sym (append-nil (reached_below places reach number))
      ∙ sym (below_more places reach number ∙ ap (λ (b : Bool). reached_below places reach number ++ map (place_at places) (cond b (number ∷ []) [])) (reached_by places reach number None none));
}

-- a place to which a pointer is adds its block
pub one_block_more : (places : ℕ) (reach : List Ptr) (number : ℕ) (blocks : List FoundBlock) (block : FoundBlock) (ptr : Ptr) → first_in (pointers_to places reach number) ≡ Some ptr
    → block.device ≡ number / places → block.place ≡ number % places → AreBlocksBelow places reach number blocks → AreBlocksBelow places reach (number + 1) (blocks ++ block ∷ [])
one_block_more places reach number blocks block ptr some device place are =
    let here : place_of_block block ≡ place_at places number = λ i. record { device = device i; place = place i } in
    record {
      there = map-append place_of_block blocks (block ∷ []) ∙ ap (λ (front : List PlaceAt). front ++ place_of_block block ∷ []) are.there
          ∙ ap (λ (at : PlaceAt). reached_below places reach number ++ at ∷ []) here
          ∙ sym (below_more places reach number ∙ ap (λ (b : Bool). reached_below places reach number ++ map (place_at places) (cond b (number ∷ []) [])) (reached_by places reach number (Some ptr) some));
    }

-- those below the number of all places are those of the pool
pub all_blocks_below : (devices places : ℕ) (reach : List Ptr) (number : ℕ) (blocks : List FoundBlock) → number ≡ total_of devices places
    → AreBlocksBelow places reach number blocks → map place_of_block blocks ≡ block_places devices places reach
all_blocks_below devices places reach number blocks all are = are.there ∙ ap (reached_below places reach) all

-- ---- the first pointer decides

-- a place without two owners that don't agree has no block of another pointer than the first
pub no_other_block : (in_catalogue : Bool) (first : Ptr) (ptrs : List Ptr) → owners_of in_catalogue (first ∷ ptrs) ≡ None → other_block first ptrs ≡ None
no_other_block true first ptrs e = absurd cc
no_other_block false first ptrs e = at (other_block first ptrs) e where
  at : (other : Option ℕ) → beside first.physical other ≡ None → other ≡ None
  at None e = refl
  at (Some birth) e = absurd cc

-- an item after a test that isn't there
pub test_fails : {Y : Type 0} (test : Bool) (y : Y) → when test y ≡ None → test ≡ false
test_fails true y e = absurd cc
test_fails false y e = refl

-- the damage of a pointer whose block has these bytes
abbrev damage_by : List ℕ → Ptr → Option Damage
damage_by bytes ptr = when (not (bytes_eq ptr.digest (digest_bytes bytes))) (record { kind = Block; device = ptr.device; place = ptr.place; kept = ptr.digest; found = digest_bytes bytes })

-- a pointer of the same block has damage only with the first
damage_of_same : (bytes : List ℕ) (first ptr : Ptr) → differ first ptr ≡ false → damage_by bytes first ≡ None → damage_by bytes ptr ≡ None
damage_of_same bytes first ptr alike none =
    let births_and_digests = not-false (eqb first.physical ptr.physical && bytes_eq first.digest ptr.digest) alike in
    let digests : first.digest ≡ ptr.digest = (bytes_eq-Decides first.digest ptr.digest).0 (and_parts (eqb first.physical ptr.physical) (bytes_eq first.digest ptr.digest) births_and_digests).1 in
    let fits : bytes_eq first.digest (digest_bytes bytes) ≡ true = not-false (bytes_eq first.digest (digest_bytes bytes)) (test_fails _ _ none) in
    let fits_too : not (bytes_eq ptr.digest (digest_bytes bytes)) ≡ false = ap (λ (digest : List ℕ). not (bytes_eq digest (digest_bytes bytes))) (sym digests) ∙ ap not fits in
    ap (λ (test : Bool). when test (record { kind = Block; device = ptr.device; place = ptr.place; kept = ptr.digest; found = digest_bytes bytes })) fits_too

damages_of_same : (bytes : List ℕ) (first : Ptr) (ptrs : List Ptr) → other_block first ptrs ≡ None → damage_by bytes first ≡ None → block_damage ptrs bytes ≡ None
damages_of_same bytes first [] none fits = refl
damages_of_same bytes first (ptr ∷ ptrs) none fits =
    let both = neither (when (differ first ptr) ptr.physical) (other_block first ptrs) none in
    none_of_both (damage_by bytes ptr) (block_damage ptrs bytes) (damage_of_same bytes first ptr (test_fails _ _ both.0) fits) (damages_of_same bytes first ptrs both.1 fits)

-- pointers to one block have the damage of the first
first_decides : (bytes : List ℕ) (first : Ptr) (ptrs : List Ptr) → other_block first ptrs ≡ None → block_damage (first ∷ ptrs) bytes ≡ block_damage (first ∷ []) bytes
first_decides bytes first ptrs none = at (damage_by bytes first) refl where
  at : (damage : Option Damage) → damage_by bytes first ≡ damage → or_else (damage_by bytes first) (block_damage ptrs bytes) ≡ or_else (damage_by bytes first) None
  at None e = ap (or_else (damage_by bytes first)) (damages_of_same bytes first ptrs none e)
  at (Some damage) e = one_if_some (damage_by bytes first) (block_damage ptrs bytes) damage e ∙ sym (one_if_some (damage_by bytes first) None damage e)

-- ---- one more place

-- what was gathered, and the blocks after it
abbrev going_on : Result (List FoundBlock) Damage → Result (List FoundBlock) Damage → Result (List FoundBlock) Damage
going_on (Ok blocks) rest = before blocks rest
going_on (Err damage) rest = Err damage

-- a block in front of the others, after some
block_between : (blocks : List FoundBlock) (block : FoundBlock) (rest : Result (List FoundBlock) Damage) → before blocks (with_block block rest) ≡ before (blocks ++ block ∷ []) rest
block_between blocks block (Ok others) = ap Ok (sym (append_assoc blocks (block ∷ []) others))
block_between blocks block (Err damage) = refl

-- what the pointers to one place make of the blocks after it
abbrev by_pointers : List Ptr → List ℕ → FoundBlock → Result (List FoundBlock) Damage → Result (List FoundBlock) Damage
by_pointers ptrs bytes block rest = elim ptrs [
  | [] ↦ rest
  | ptr ∷ others ↦ elim (block_damage (ptr ∷ others) bytes) [ None ↦ with_block block rest | Some damage ↦ Err damage ]
]

-- one place by the first pointer to it
by_first : (places : ℕ) (image : Image) (number : ℕ) (in_catalogue : Bool) (blocks : List FoundBlock) (ptrs : List Ptr) (rest : Result (List FoundBlock) Damage) → owners_of in_catalogue ptrs ≡ None
    → before blocks (by_pointers ptrs (image (number / places) (number % places)) (block_at places image number) rest) ≡ going_on (and_block_by places image number blocks (first_in ptrs)) rest
by_first places image number in_catalogue blocks [] rest none = refl
by_first places image number in_catalogue blocks (first ∷ ptrs) rest none =
    let bytes : List ℕ = image (number / places) (number % places) in
    let block : FoundBlock = block_at places image number in
    let alone : block_damage (first ∷ ptrs) bytes ≡ block_damage (first ∷ []) bytes = first_decides bytes first ptrs (no_other_block in_catalogue first ptrs none) in
    ap (λ (damage : Option Damage). before blocks (elim damage [ None ↦ with_block block rest | Some d ↦ Err d ])) alone ∙ at (block_damage (first ∷ []) bytes)
  where
    at : (damage : Option Damage)
        → before blocks (elim damage [ None ↦ with_block (block_at places image number) rest | Some d ↦ Err d ]) ≡ going_on (and_block blocks (unless_damaged damage (block_at places image number))) rest
    at None = block_between blocks (block_at places image number) rest
    at (Some damage) = refl

-- one more place is gathered
gathered_more : (places : ℕ) (image : Image) (chain : List PlaceAt) (reach : List Ptr) (left number : ℕ) (blocks : List FoundBlock) → owners_at places chain reach number ≡ None
    → before blocks (blocks_from places image reach (suc left) number) ≡ going_on (gathered places image reach number blocks) (blocks_from places image reach left (number + 1))
unfolding blocks_from
gathered_more places image chain reach left number blocks none =
    by_first places image number (chain_has places chain number) blocks (pointers_to places reach number) (blocks_from places image reach left (number + 1)) none

-- ---- all places

-- no place has two owners that don't agree
no_owners : (places number : ℕ) (owners : Option (ℕ × ℕ)) → owner_hit_in places number owners ≡ None → owners ≡ None
no_owners places number None e = refl
no_owners places number (Some births) e = absurd cc

pub owners_apart : (devices places : ℕ) (chain : List PlaceAt) (reach : List Ptr) (number : ℕ) → owner_hit devices places chain reach ≡ None → number < total_of devices places → owners_at places chain reach number ≡ None
owners_apart devices places chain reach number none lt =
    no_owners places number (owners_at places chain reach number) (none_from (owner_hit_at places chain reach) 0 (total_of devices places) none number (omega arith) (omega arith))

-- so many places were gone through, and these are their blocks
pub record AreGathered (devices places : ℕ) (image : Image) (reach : List Ptr) (number : ℕ) (blocks : List FoundBlock) : Type 0 where
  pub rest : blocks_of devices places image reach ≡ before blocks (blocks_from places image reach (total_of devices places - number) number)

-- at first none
pub gathered_none : (devices places : ℕ) (image : Image) (reach : List Ptr) (blocks : List FoundBlock) → blocks ≡ [] → AreGathered devices places image reach 0 blocks
gathered_none devices places image reach blocks none = subst (AreGathered devices places image reach 0) (sym none) (record {
  rest = nothing_before (blocks_of devices places image reach) ∙ ap (λ (left : ℕ). before [] (blocks_from places image reach left 0)) (omega arith);
}) where
  nothing_before : (r : Result (List FoundBlock) Damage) → r ≡ before [] r
  nothing_before (Ok blocks) = refl
  nothing_before (Err damage) = refl

-- no number is below 0
pub rises_from_none : (places : ℕ) (blocks : List FoundBlock) → blocks ≡ [] → IsRisingTo 0 (numbers_of places blocks)
rises_from_none places blocks none = subst (λ (b : List FoundBlock). IsRisingTo 0 (numbers_of places b)) (sym none) (record { rising = λ k lt. absurd (omega arith); below = λ k d lt. absurd (omega arith) })

one_place : (devices places : ℕ) (image : Image) (chain : List PlaceAt) (reach : List Ptr) (number : ℕ) (blocks : List FoundBlock) → owner_hit devices places chain reach ≡ None → number < total_of devices places
    → AreGathered devices places image reach number blocks
    → blocks_of devices places image reach ≡ going_on (gathered places image reach number blocks) (blocks_from places image reach (total_of devices places - (number + 1)) (number + 1))
one_place devices places image chain reach number blocks none lt is =
    let one_less : total_of devices places - number ≡ suc (total_of devices places - (number + 1)) = omega arith in
    is.rest ∙ ap (λ (left : ℕ). before blocks (blocks_from places image reach left number)) one_less
    ∙ gathered_more places image chain reach (total_of devices places - (number + 1)) number blocks (owners_apart devices places chain reach number none lt)

-- the blocks of one place more
pub gathered_next : (devices places : ℕ) (image : Image) (chain : List PlaceAt) (reach : List Ptr) (number : ℕ) (blocks blocks' : List FoundBlock) → owner_hit devices places chain reach ≡ None → number < total_of devices places
    → AreGathered devices places image reach number blocks → gathered places image reach number blocks ≡ Ok blocks' → AreGathered devices places image reach (number + 1) blocks'
gathered_next devices places image chain reach number blocks blocks' none lt is e = record {
  rest = one_place devices places image chain reach number blocks none lt is
      ∙ ap (λ (r : Result (List FoundBlock) Damage). going_on r (blocks_from places image reach (total_of devices places - (number + 1)) (number + 1))) e;
}

-- the fault of one place is that of all
pub gathered_fails : (devices places : ℕ) (image : Image) (chain : List PlaceAt) (reach : List Ptr) (number : ℕ) (blocks : List FoundBlock) (fault : ImageFault) → owner_hit devices places chain reach ≡ None
    → number < total_of devices places → AreGathered devices places image reach number blocks → ReadFails fault (gathered places image reach number blocks) → ReadFails fault (blocks_of devices places image reach)
gathered_fails devices places image chain reach number blocks NoMemory none lt is fails = tt
gathered_fails devices places image chain reach number blocks NoPool none lt is fails = fails
gathered_fails devices places image chain reach number blocks DiskFault none lt is fails = tt
gathered_fails devices places image chain reach number blocks (Damaged damage) none lt is fails =
    one_place devices places image chain reach number blocks none lt is
    ∙ ap (λ (r : Result (List FoundBlock) Damage). going_on r (blocks_from places image reach (total_of devices places - (number + 1)) (number + 1))) fails

-- after the last place all are gathered
pub gathered_all : (devices places : ℕ) (image : Image) (reach : List Ptr) (number : ℕ) (blocks : List FoundBlock) → total_of devices places ≤ number
    → AreGathered devices places image reach number blocks → blocks_of devices places image reach ≡ Ok blocks
unfolding blocks_from
gathered_all devices places image reach number blocks le is =
    let none_left : total_of devices places - number ≡ 0 = omega arith in
    is.rest ∙ ap (λ (left : ℕ). before blocks (blocks_from places image reach left number)) none_left ∙ ap Ok (append-nil blocks)

-- ---- the same, of a loop that keeps the disks

pub gathered_next_here : (t u : Tape) (devices places : ℕ) (chain : List PlaceAt) (reach : List Ptr) (number : ℕ) (blocks blocks' : List FoundBlock) → u ≡ t
    → owner_hit devices places chain reach ≡ None → number < total_of devices places → (IsWhole t → AreGathered devices places (reads t) reach number blocks)
    → (IsWhole u → gathered places (reads u) reach number blocks ≡ Ok blocks') → IsWhole t → AreGathered devices places (reads t) reach (number + 1) blocks'
gathered_next_here t u devices places chain reach number blocks blocks' same_tape none lt is e whole =
    gathered_next devices places (reads t) chain reach number blocks blocks' none lt (is whole) (subst (λ (v : Tape). IsWhole v → gathered places (reads v) reach number blocks ≡ Ok blocks') same_tape e whole)

pub gathered_fails_here : (t u : Tape) (devices places : ℕ) (chain : List PlaceAt) (reach : List Ptr) (number : ℕ) (blocks : List FoundBlock) (fault : ImageFault) → u ≡ t
    → owner_hit devices places chain reach ≡ None → number < total_of devices places → (IsWhole t → AreGathered devices places (reads t) reach number blocks)
    → (IsWhole u → ReadFails fault (gathered places (reads u) reach number blocks)) → IsWhole t → ReadFails fault (blocks_of devices places (reads t) reach)
gathered_fails_here t u devices places chain reach number blocks fault same_tape none lt is fails whole =
    gathered_fails devices places (reads t) chain reach number blocks fault none lt (is whole) (subst (λ (v : Tape). IsWhole v → ReadFails fault (gathered places (reads v) reach number blocks)) same_tape fails whole)
