-- The block at a place, of blocks that ascend by the numbers of their places.
use Rattle.std.proofs.Common.{◌≡◌, ◌≢◌, ◌∙◌, ℕ, zero, suc, ◌+◌, ◌*◌, ◌<◌, ◌≤◌, ◌⊎◌, Bool, true, false, cond, eqb, List, [], ◌∷◌, length, get_or, refl, sym, ap, subst, ⊎_elim, arith}
use Rattle.std.specs.List.Sorted.{IsStrictlyIncreasing}
use Rattle.std.proofs.lemmas.Bool.{cases_Bool, cases_order, cases_lt, and_parts, eqb-true}
use Rattle.std.proofs.lemmas.List.{get_or-map, length-map}
use Rattle.std.proofs.lemmas.List.Kept.{AllPairs-from_increasing}
use Rattle.zc_damage.specs.declared.block.FoundBlock.{FoundBlock}
use Rattle.zc_damage.specs.Words.{when}
use Rattle.zc_damage.specs.Places.{number_of, numbers_of, is_block_at, bytes_in, bytes_of}

-- a block at a place has its number
at_number : (places device place : ℕ) (block : FoundBlock) → is_block_at device place block ≡ true → number_of places block.device block.place ≡ number_of places device place
at_number places device place block is =
    let parts = and_parts (eqb block.device device) (eqb block.place place) is in
    let same_device : block.device ≡ device = eqb-true block.device device parts.0 in
    let same_place : block.place ≡ place = eqb-true block.place place parts.1 in
    ap (λ (d : ℕ). d * places + block.place) same_device ∙ ap (λ (p : ℕ). device * places + p) same_place

-- a block of another number is not at the place
pub not_at : (places device place : ℕ) (block : FoundBlock) → number_of places block.device block.place ≢ number_of places device place → is_block_at device place block ≡ false
not_at places device place block other =
    ⊎_elim
    (λ (is : is_block_at device place block ≡ true). absurd (other (at_number places device place block is)))
    (λ (not : is_block_at device place block ≡ false). not)
    (cases_Bool (is_block_at device place block))

-- where no block is at the place, there are no bytes
pub none_there : (device place : ℕ) (blocks : List FoundBlock) → ((k : ℕ) (d : FoundBlock) → k < length blocks → is_block_at device place (get_or blocks k d) ≡ false) → bytes_in blocks device place ≡ []
none_there device place [] none = refl
none_there device place (block ∷ blocks) none =
    ap (λ (b : Bool). cond b block.bytes (bytes_in blocks device place)) (none zero block (omega arith))
    ∙ none_there device place blocks (λ k d within. none (suc k) d (omega arith))

-- where only one block may be at the place, the bytes are those of that one, if it is there
pub one_there : (device place : ℕ) (blocks : List FoundBlock) (m : ℕ) (block : FoundBlock) → m < length blocks → block ≡ get_or blocks m block
    → ((k : ℕ) (d : FoundBlock) → k < length blocks → k ≢ m → is_block_at device place (get_or blocks k d) ≡ false) → bytes_of (when (is_block_at device place block) block) ≡ bytes_in blocks device place
one_there device place [] m block within is others = absurd (omega arith)
one_there device place (first ∷ blocks) zero block within is others =
    let none : bytes_in blocks device place ≡ [] = none_there device place blocks (λ k d inside. others (suc k) d (omega arith) (λ same. absurd (omega arith))) in
    ap (λ (b : FoundBlock). bytes_of (when (is_block_at device place b) b)) is
    ∙ first_or_none (is_block_at device place first) first (bytes_in blocks device place) none
  where
    first_or_none : (b : Bool) (first : FoundBlock) (rest : List ℕ) → rest ≡ [] → bytes_of (when b first) ≡ cond b first.bytes rest
    first_or_none true first rest none = refl
    first_or_none false first rest none = sym none
one_there device place (first ∷ blocks) (suc m) block within is others =
    one_there device place blocks m block (omega arith) is (λ k d inside other. others (suc k) d (omega arith) (λ same. other (omega arith)))
    ∙ sym (ap (λ (b : Bool). cond b first.bytes (bytes_in blocks device place)) (others zero first (omega arith) (λ same. absurd (omega arith))))

-- ---- by numbers

-- the number of a block
pub number_at : (places : ℕ) (blocks : List FoundBlock) (k : ℕ) (d : FoundBlock) (e : ℕ) → k < length blocks → get_or (numbers_of places blocks) k e ≡ number_of places (get_or blocks k d).device (get_or blocks k d).place
number_at places blocks k d e within = get_or-map (λ (block : FoundBlock). number_of places block.device block.place) blocks k d e within

-- a block that stands before another has a lower number
pub lower_before : (places : ℕ) (blocks : List FoundBlock) (j k : ℕ) → IsStrictlyIncreasing (numbers_of places blocks) → j < k → k < length blocks → get_or (numbers_of places blocks) j 0 < get_or (numbers_of places blocks) k 0
lower_before places blocks j k ascending before within =
    AllPairs-from_increasing (numbers_of places blocks) ascending j k 0 before (omega (arith, length-map blocks (λ (block : FoundBlock). number_of places block.device block.place)))

-- the block whose number is the place's is there, or none is
pub found_there : (places device place : ℕ) (blocks : List FoundBlock) (m : ℕ) (block : FoundBlock) → IsStrictlyIncreasing (numbers_of places blocks) → m < length blocks → block ≡ get_or blocks m block
    → number_of places block.device block.place ≡ number_of places device place → bytes_of (when (is_block_at device place block) block) ≡ bytes_in blocks device place
found_there places device place blocks m block ascending within is same =
    one_there device place blocks m block within is
    (λ k d inside other.
    let here : get_or (numbers_of places blocks) m 0 ≡ number_of places device place =
    number_at places blocks m block 0 within ∙ ap (λ (b : FoundBlock). number_of places b.device b.place) (sym is) ∙ same in
    not_at places device place (get_or blocks k d)
    (λ equal.
    let there : get_or (numbers_of places blocks) k 0 ≡ number_of places device place = number_at places blocks k d 0 inside ∙ equal in
    ⊎_elim
    (λ (equal_places : k ≡ m). other equal_places)
    (λ (apart : (k < m) ⊎ (m < k)).
    ⊎_elim
    (λ (before : k < m). absurd (omega (arith, lower_before places blocks k m ascending before within)))
    (λ (behind : m < k). absurd (omega (arith, lower_before places blocks m k ascending behind inside))) apart)
    (cases_order k m)))

-- one more block lies before the place
pub more_before : (places wanted : ℕ) (blocks : List FoundBlock) (m : ℕ) → IsStrictlyIncreasing (numbers_of places blocks) → m < length blocks → get_or (numbers_of places blocks) m 0 < wanted
    → (k : ℕ) → k < m + 1 → k < length blocks → get_or (numbers_of places blocks) k 0 < wanted
more_before places wanted blocks m ascending within lower k below inside =
    ⊎_elim
    (λ (same : k ≡ m). subst (λ (j : ℕ). get_or (numbers_of places blocks) j 0 < wanted) (sym same) lower)
    (λ (apart : (k < m) ⊎ (m < k)).
    ⊎_elim (λ (before : k < m). omega (arith, lower_before places blocks k m ascending before within)) (λ (behind : m < k). absurd (omega arith)) apart)
    (cases_order k m)

-- one more block lies after the place
pub more_after : (places wanted : ℕ) (blocks : List FoundBlock) (m : ℕ) → IsStrictlyIncreasing (numbers_of places blocks) → m < length blocks → wanted < get_or (numbers_of places blocks) m 0
    → (k : ℕ) → m ≤ k → k < length blocks → wanted < get_or (numbers_of places blocks) k 0
more_after places wanted blocks m ascending within higher k from inside =
    ⊎_elim
    (λ (same : k ≡ m). subst (λ (j : ℕ). wanted < get_or (numbers_of places blocks) j 0) (sym same) higher)
    (λ (apart : (k < m) ⊎ (m < k)).
    ⊎_elim (λ (before : k < m). absurd (omega arith)) (λ (behind : m < k). omega (arith, lower_before places blocks m k ascending behind inside)) apart)
    (cases_order k m)

-- where all lie before or after it, there are no bytes
pub nowhere : (places device place : ℕ) (blocks : List FoundBlock) (low high : ℕ) → high ≤ low
    → ((k : ℕ) → k < low → k < length blocks → get_or (numbers_of places blocks) k 0 < number_of places device place)
    → ((k : ℕ) → high ≤ k → k < length blocks → number_of places device place < get_or (numbers_of places blocks) k 0) → [] ≡ bytes_in blocks device place
nowhere places device place blocks low high none before behind =
    sym (none_there device place blocks
    (λ k d inside.
    not_at places device place (get_or blocks k d)
    (λ equal.
    let there : get_or (numbers_of places blocks) k 0 ≡ number_of places device place = number_at places blocks k d 0 inside ∙ equal in
    ⊎_elim
    (λ (lower : k < low). absurd (omega (arith, before k lower inside)))
    (λ (from : low ≤ k). absurd (omega (arith, behind k (omega arith) inside)))
    (cases_lt k low))))

-- the number of a block that was read
pub number_here : (places : ℕ) (blocks : List FoundBlock) (k : ℕ) (block : FoundBlock) → k < length blocks → block ≡ get_or blocks k block → get_or (numbers_of places blocks) k 0 ≡ number_of places block.device block.place
number_here places blocks k block within is = number_at places blocks k block 0 within ∙ ap (λ (b : FoundBlock). number_of places b.device b.place) (sym is)
