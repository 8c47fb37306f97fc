-- The entries of counts, part by part.
use Rattle.std.proofs.Common.{◌≡◌, ◌∙◌, ℕ, suc, ◌+◌, ◌-◌, ◌*◌, ◌<◌, ◌≤◌, Bool, true, false, cond, eqb, List, [], ◌∷◌, ◌++◌, length, get_or, take, drop, sum, min, Result, Ok, Err, OnOk, OnErr, refl, sym, ap, ⊎_elim, append_assoc, arith}
use Rattle.std.specs.List.{flat_map}
use Rattle.std.proofs.Math.Seq.{drop-cons}
use Rattle.std.proofs.lemmas.Bool.{cases_lt, ne_eqb}
use Rattle.std.proofs.lemmas.List.{take_all, take_at, take_more, drop-drop, length-take, length-drop, append-nil}
use Rattle.std.proofs.lemmas.List.Sums.{sum_by-cons}
use Rattle.std.proofs.lemmas.List.Concat.{flat_map-cons}
use Rattle.std.proofs.lemmas.Grind.{flat_map-append}
use Rattle.zc_wire.specs.Numbers.{u32_bytes}
use Rattle.zc_table.specs.declared.stored.StoredCount.{StoredCount}
use Rattle.zc_table.specs.Counts.{region_at, used_of, entries_from, entries_in}
use Rattle.zc_table.specs.Growing.{Extends}
use Rattle.zc_table.specs.TableBytes.{entry_bytes}
use Rattle.zc_table.proofs.RegionLaws.{take_plus, entry_or_none, an_entry}

-- an entry that a test keeps or leaves out, in front of others
kept_in_front : (test : Bool) (entry : StoredCount) (all front back : List StoredCount) → all ≡ front ++ back → cond test all (entry ∷ all) ≡ cond test front (entry ∷ front) ++ back
kept_in_front true entry all front back e = e
kept_in_front false entry all front back e = ap (λ (es : List StoredCount). entry ∷ es) e

-- the entries of counts after counts
entries_append : (first : ℕ) (xs ys : List ℕ) → entries_from first (xs ++ ys) ≡ entries_from first xs ++ entries_from (first + length xs) ys
unfolding entries_from
entries_append first [] ys = let same : first ≡ first + 0 = omega arith in ap (λ (k : ℕ). entries_from k ys) same
entries_append first (x ∷ xs) ys =
    let place : first + 1 + length xs ≡ first + suc (length xs) = omega arith in
    kept_in_front (eqb x 0) (record { place = first; count = x }) (entries_from (first + 1) (xs ++ ys)) (entries_from (first + 1) xs) (entries_from (first + suc (length xs)) ys)
    (entries_append (first + 1) xs ys ∙ ap (λ (k : ℕ). entries_from (first + 1) xs ++ entries_from k ys) place)

-- counts that sum to 0 have no entry
no_entries : (first : ℕ) (xs : List ℕ) → sum xs ≡ 0 → entries_from first xs ≡ []
unfolding entries_from
no_entries first [] none = refl
no_entries first (x ∷ xs) none =
    let sums : sum (x ∷ xs) ≡ x + sum xs = sum_by-cons (λ count. count) x xs in
    let here : x ≡ 0 = omega arith in
    let others : sum xs ≡ 0 = omega arith in
    ap (λ (count : ℕ). cond (eqb count 0) (entries_from (first + 1) xs) (record { place = first; count = count } ∷ entries_from (first + 1) xs)) here ∙ no_entries (first + 1) xs others

-- ---- the entries of places

-- of some places and of those after them
entries_in_more : (counts : List ℕ) (first m n : ℕ) → first + m ≤ length counts → entries_in counts first (m + n) ≡ entries_in counts first m ++ entries_in counts (first + m) n
entries_in_more counts first m n within =
    let front : List ℕ = take m (drop first counts) in
    let long : length front ≡ m = omega (arith, length-take m (drop first counts), length-drop first counts) in
    ap (entries_from first) (take_plus m n (drop first counts))
    ∙ entries_append first front (take n (drop m (drop first counts)))
    ∙ (λ i. entries_from first front ++ entries_from (first + long i) (take n (drop-drop m first counts i)))

-- of more places than there are
pub entries_to_end : (counts : List ℕ) (first m n : ℕ) → length counts ≤ first + m → length counts ≤ first + n → entries_in counts first m ≡ entries_in counts first n
entries_to_end counts first m n past past_too =
    let short : length (drop first counts) ≤ m = omega (arith, length-drop first counts) in
    let short_too : length (drop first counts) ≤ n = omega (arith, length-drop first counts) in
    ap (entries_from first) (take_all m (drop first counts) short ∙ sym (take_all n (drop first counts) short_too))

-- of no place
pub entries_in_none : (counts : List ℕ) (first : ℕ) → entries_in counts first 0 ≡ []
unfolding entries_from
entries_in_none counts first = refl

-- of a region whose counts sum to 0
pub no_entries_in_region : (counts : List ℕ) (region : ℕ) → region_at counts region ≡ 0 → entries_in counts (64 * region) 64 ≡ []
unfolding region_at
no_entries_in_region counts region none = no_entries (64 * region) (take 64 (drop (64 * region) counts)) none

-- of a place
pub entries_in_place : (counts : List ℕ) (place : ℕ) → place < length counts → entries_in counts place 1 ≡ cond (eqb (get_or counts place 0) 0) [] (record { place = place; count = get_or counts place 0 } ∷ [])
unfolding entries_from
entries_in_place counts place there = ap (λ (xs : List ℕ). entries_from place (take 1 xs)) (drop-cons counts place 0 there)

-- of all places
pub entries_of_all : (counts : List ℕ) (n : ℕ) → length counts ≤ n → entries_in counts 0 n ≡ entries_from 0 counts
entries_of_all counts n past = ap (entries_from 0) (take_all n counts past)

-- there are as many as places with an entry
pub entries_used : (first : ℕ) (counts : List ℕ) → length (entries_from first counts) ≡ used_of counts
unfolding entries_from
entries_used first [] = refl
entries_used first (x ∷ xs) =
    let sums : used_of (x ∷ xs) ≡ entry_or_none x + used_of xs = sum_by-cons entry_or_none x xs in
    let others = entries_used (first + 1) xs in
    ⊎_elim
    (λ (none : x < 1).
    let here : x ≡ 0 = omega arith in
    let test : entry_or_none x ≡ 0 = ap entry_or_none here in
    ap (λ (count : ℕ). length (cond (eqb count 0) (entries_from (first + 1) xs) (record { place = first; count = count } ∷ entries_from (first + 1) xs))) here ∙ others ∙ omega (arith, sums, test))
    (λ (some : 1 ≤ x).
    let is : eqb x 0 ≡ false = ne_eqb x 0 (λ none. absurd (omega arith)) in
    let test = an_entry x some in
    ap (λ (b : Bool). length (cond b (entries_from (first + 1) xs) (record { place = first; count = x } ∷ entries_from (first + 1) xs))) is ∙ ap suc others ∙ omega (arith, sums, test))
    (cases_lt x 1)

-- ---- their bytes

-- of no entry
pub nothing_put : (before : List ℕ) (entries : List StoredCount) → entries ≡ [] → before ≡ before ++ flat_map entry_bytes entries
nothing_put before entries none = sym (append-nil before) ∙ ap (λ (es : List StoredCount). before ++ flat_map entry_bytes es) (sym none)

-- of some places and of those after them, where the bytes of the first stand after others
pub bytes_in_more : (counts before middle after : List ℕ) (first m at n total : ℕ) → at ≡ first + m → total ≡ m + n → at ≤ length counts
    → middle ≡ before ++ flat_map entry_bytes (entries_in counts first m) → after ≡ middle ++ flat_map entry_bytes (entries_in counts at n)
    → after ≡ before ++ flat_map entry_bytes (entries_in counts first total)
bytes_in_more counts before middle after first m at n total at_is total_is within front back =
    let inside : first + m ≤ length counts = omega arith in
    let parts : entries_in counts first total ≡ entries_in counts first m ++ entries_in counts at n =
    ap (entries_in counts first) total_is ∙ entries_in_more counts first m n inside ∙ ap (λ (k : ℕ). entries_in counts first m ++ entries_in counts k n) (sym at_is) in
    back ∙ ap (λ (bytes : List ℕ). bytes ++ flat_map entry_bytes (entries_in counts at n)) front
    ∙ append_assoc before (flat_map entry_bytes (entries_in counts first m)) (flat_map entry_bytes (entries_in counts at n))
    ∙ ap (λ (bytes : List ℕ). before ++ bytes) (sym (flat_map-append entry_bytes (entries_in counts first m) (entries_in counts at n)))
    ∙ ap (λ (entries : List StoredCount). before ++ flat_map entry_bytes entries) (sym parts)

-- of the places of a region that are there
pub region_done : (counts : List ℕ) (first m : ℕ) → first ≤ length counts → m ≡ min (length counts - first) 64 → entries_in counts first m ≡ entries_in counts first 64
region_done counts first m there as_many =
    ⊎_elim
    (λ (whole : 64 < length counts - first). let all : m ≡ 64 = omega arith in ap (entries_in counts first) all)
    (λ (short : length counts - first ≤ 64). entries_to_end counts first m 64 (omega arith) (omega arith))
    (cases_lt 64 (length counts - first))

-- of the counters up to one and of that one
pub counters_more : (counters before middle after : List ℕ) (i d : ℕ) → i < length counters
    → middle ≡ before ++ flat_map u32_bytes (take i counters) → after ≡ middle ++ u32_bytes (get_or counters i d)
    → after ≡ before ++ flat_map u32_bytes (take (i + 1) counters)
counters_more counters before middle after i d within front back =
    let one : flat_map u32_bytes (get_or counters i d ∷ []) ≡ u32_bytes (get_or counters i d) = flat_map-cons u32_bytes (get_or counters i d) [] ∙ append-nil (u32_bytes (get_or counters i d)) in
    back ∙ ap (λ (bytes : List ℕ). bytes ++ u32_bytes (get_or counters i d)) front
    ∙ append_assoc before (flat_map u32_bytes (take i counters)) (u32_bytes (get_or counters i d))
    ∙ ap (λ (bytes : List ℕ). before ++ (flat_map u32_bytes (take i counters) ++ bytes)) (sym one)
    ∙ ap (λ (bytes : List ℕ). before ++ bytes) (sym (flat_map-append u32_bytes (take i counters) (get_or counters i d ∷ [])))
    ∙ ap (λ (numbers : List ℕ). before ++ flat_map u32_bytes numbers) (sym (take_more counters i d within))

-- ---- bytes that grow at their end

-- what an answer of want of memory says
pub on_err : {T E P : Type 0} (r : Result T E) → P → OnErr r P
on_err (Ok x) p = tt
on_err (Err e) p = p

-- what an Ok says, from what an Ok says
pub on_ok : {T E P Q : Type 0} (r : Result T E) → (P → Q) → OnOk r P → OnOk r Q
on_ok (Ok x) f p = f p
on_ok (Err e) f p = tt

pub extends_by : (old more new : List ℕ) → new ≡ old ++ more → Extends old new
extends_by old more new is = record { more = more; joined = is }

-- bytes put after bytes that were put after
pub extends_on : (old more middle new : List ℕ) → middle ≡ old ++ more → Extends middle new → Extends old new
extends_on old more middle new is on =
    record { more = more ++ on.more; joined = on.joined ∙ ap (λ (bytes : List ℕ). bytes ++ on.more) is ∙ append_assoc old more on.more }

-- the old bytes are a front of the new
pub extends_front : (old new : List ℕ) → Extends old new → take (length old) new ≡ old
extends_front old new extends = ap (take (length old)) extends.joined ∙ take_at old extends.more (length old) refl
