-- The sums of regions, the number of entries and the sum of all counts, of a table without entries and after a change of one count.
use Rattle.std.proofs.Common.{◌≡◌, ◌≢◌, ◌∙◌, ℕ, zero, suc, ◌+◌, ◌-◌, ◌*◌, ◌/◌, ◌^◌, ◌<◌, ◌≤◌, ◌⊎◌, Bool, false, cond, ltb, eqb, List, ◌++◌, length, get_or, take, drop, replicate, sum, refl, sym, ap, subst, ⊎_elim, mul-zero, add-zero, arith}
use Rattle.std.proofs.Math.ListN.{set}
use Rattle.std.proofs.Math.Seq.{take-set-lt}
use Rattle.std.proofs.lemmas.Bool.{cases_lt, cases_order, lt-ltb, ne_eqb}
use Rattle.std.proofs.lemmas.List.{take-set-le, drop-set-lt, drop-set-add, drop-take, take-take, take-append-drop, take_all, drop-replicate, get_or-take, get_or-drop, get_or-set_same, get_or-set_other, length-take, length-drop, length-set, length-replicate}
use Rattle.std.proofs.lemmas.List.Folds.{sum_by-replicate}
use Rattle.std.proofs.lemmas.List.Sums.{sum_by-set, sum_by-append, sum_by-take-le, count_by-le-length}
use Rattle.std.proofs.lemmas.Grind.{same_number_lists}
use Rattle.zc_num.specs.Words.{each}
use Rattle.zc_num.proofs.Each.{length_each, item_of_each, each_same, each_alike}
use Rattle.zc_table.specs.Plain.{entries_made}
use Rattle.zc_table.specs.Counts.{region_at, region_sum, region_count, regions_of, used_of, saved_of}

-- ---- one count is set

-- the counter of its region changes as the count does
pub region_of_set : (counts : List ℕ) (place y : ℕ) → place < length counts → region_at (set counts place y) (place / 64) + get_or counts place 0 ≡ region_at counts (place / 64) + y
unfolding region_at
region_of_set counts place y there =
    let start : ℕ = 64 * (place / 64) in
    let i : ℕ = place - start in
    let whole : start + i ≡ place = omega arith in
    let near : i < 64 = omega arith in
    let part = take 64 (drop start counts) in
    let inside : i < length part = omega (arith, length-take 64 (drop start counts), length-drop start counts) in
    let dropped : drop start (set counts place y) ≡ set (drop start counts) i y = ap (λ (p : ℕ). drop start (set counts p y)) (sym whole) ∙ drop-set-add start counts i y in
    let taken : take 64 (drop start (set counts place y)) ≡ set part i y = ap (take 64) dropped ∙ take-set-lt 64 (drop start counts) i y near in
    let item : get_or part i 0 ≡ get_or counts place 0 = get_or-take 64 (drop start counts) i 0 near ∙ get_or-drop start counts i 0 ∙ ap (λ (p : ℕ). get_or counts p 0) whole in
    let sums : sum (set part i y) + get_or part i 0 ≡ sum part + y = sum_by-set (λ x. x) part i y 0 inside in
    let same : sum (take 64 (drop start (set counts place y))) ≡ sum (set part i y) = ap sum taken in
    omega arith

-- every other counter stays
pub region_of_other_set : (counts : List ℕ) (place y region : ℕ) → region ≢ place / 64 → region_at (set counts place y) region ≡ region_at counts region
unfolding region_at
region_of_other_set counts place y region apart =
    ⊎_elim
    (λ (before : place < 64 * region). ap (λ (l : List ℕ). sum (take 64 l)) (drop-set-lt (64 * region) counts place y before))
    (λ (from : 64 * region ≤ place).
    let start : ℕ = 64 * region in
    let i : ℕ = place - start in
    let whole : start + i ≡ place = omega arith in
    let far : 64 ≤ i = omega arith in
    let dropped : drop start (set counts place y) ≡ set (drop start counts) i y = ap (λ (p : ℕ). drop start (set counts p y)) (sym whole) ∙ drop-set-add start counts i y in
    ap sum (ap (take 64) dropped ∙ take-set-le 64 (drop start counts) i y far))
    (cases_lt place (64 * region))

-- a count is part of the counter of its region
pub count_in_region : (counts : List ℕ) (place : ℕ) → place < length counts → get_or counts place 0 ≤ region_at counts (place / 64)
count_in_region counts place there =
    let zeroed = region_of_set counts place 0 there in
    omega arith

-- a number is added to one count: the counter of its region
pub region_of_added : (counts : List ℕ) (place n : ℕ) → place < length counts → region_at (set counts place (get_or counts place 0 + n)) (place / 64) ≡ region_at counts (place / 64) + n
region_of_added counts place n there =
    let changed = region_of_set counts place (get_or counts place 0 + n) there in
    omega arith

-- each counter is still a number of 32 bits
pub regions_fit_added : (counts : List ℕ) (place n : ℕ) → place < length counts → region_at counts (place / 64) + n < 2 ^ 32 → ((region : ℕ) → region_at counts region < 2 ^ 32)
    → (region : ℕ) → region_at (set counts place (get_or counts place 0 + n)) region < 2 ^ 32
regions_fit_added counts place n there room fit region =
    let new : List ℕ = set counts place (get_or counts place 0 + n) in
    let apart : region ≢ place / 64 → region_at new region < 2 ^ 32 = λ other. subst (λ (k : ℕ). k < 2 ^ 32) (sym (region_of_other_set counts place (get_or counts place 0 + n) region other)) (fit region) in
    ⊎_elim
    (λ (same : region ≡ place / 64).
    let here = region_of_added counts place n there in
    let at : region_at new region ≡ region_at new (place / 64) = ap (region_at new) same in
    omega arith)
    (λ (other : (region < place / 64) ⊎ (place / 64 < region)).
    apart (⊎_elim (λ (l : region < place / 64) (same : region ≡ place / 64). absurd (omega arith)) (λ (l : place / 64 < region) (same : region ≡ place / 64). absurd (omega arith)) other))
    (cases_order region (place / 64))

-- ---- the list of the counters

-- one counter for each region
pub regions_length : (counts : List ℕ) → length (regions_of counts) ≡ region_count (length counts)
unfolding regions_of
regions_length counts = length_each (region_count (length counts)) (region_at counts)

-- which is its sum
pub region_item : (counts : List ℕ) (region d : ℕ) → region < region_count (length counts) → get_or (regions_of counts) region d ≡ region_at counts region
unfolding regions_of
region_item counts region d there = item_of_each (region_count (length counts)) (region_at counts) region d there

-- a place that is there lies in a region that is there
pub place_in_region : (counts : List ℕ) (place : ℕ) → place < length counts → place / 64 < length (regions_of counts)
place_in_region counts place there = omega (arith, regions_length counts)

-- the counter of the region that a place lies in
pub region_of_place : (counts : List ℕ) (place d : ℕ) → place < length counts → get_or (regions_of counts) (place / 64) d ≡ region_sum counts place
region_of_place counts place d there = region_item counts (place / 64) d (omega arith)

-- a number is added to one count: the list of the counters
pub regions_added : (counts : List ℕ) (place n : ℕ) → place < length counts
    → set (regions_of counts) (place / 64) (get_or (regions_of counts) (place / 64) 0 + n) ≡ regions_of (set counts place (get_or counts place 0 + n))
regions_added counts place n there =
    let new : List ℕ = set counts place (get_or counts place 0 + n) in
    let at : ℕ = place / 64 in
    let old : List ℕ = regions_of counts in
    let count : region_count (length new) ≡ region_count (length counts) = ap region_count (length-set counts place (get_or counts place 0 + n)) in
    let long : length (set old at (get_or old at 0 + n)) ≡ region_count (length counts) = length-set old at (get_or old at 0 + n) ∙ regions_length counts in
    same_number_lists (set old at (get_or old at 0 + n)) (regions_of new) (long ∙ sym count ∙ sym (regions_length new))
    (λ region within.
    let inside : region < region_count (length counts) = omega arith in
    let inside_new : region < region_count (length new) = omega arith in
    let here : at < length old = place_in_region counts place there in
    ⊎_elim
    (λ (same : region ≡ at).
    subst (λ (r : ℕ). get_or (set old at (get_or old at 0 + n)) r 0 ≡ get_or (regions_of new) r 0) (sym same)
    (get_or-set_same old at (get_or old at 0 + n) 0 here
    ∙ ap (λ (k : ℕ). k + n) (region_item counts at 0 (omega (arith, regions_length counts)))
    ∙ sym (region_of_added counts place n there) ∙ sym (region_item new at 0 (omega (arith, regions_length counts)))))
    (λ (other : (region < at) ⊎ (at < region)).
    let apart : region ≢ at = ⊎_elim (λ (l : region < at) (same : region ≡ at). absurd (omega arith)) (λ (l : at < region) (same : region ≡ at). absurd (omega arith)) other in
    get_or-set_other old at region (get_or old at 0 + n) 0 apart
    ∙ region_item counts region 0 inside ∙ sym (region_of_other_set counts place (get_or counts place 0 + n) region apart) ∙ sym (region_item new region 0 inside_new))
    (cases_order region at))

-- ---- the sum of all counts

-- a longer front of a list
pub take_plus : {X : Type 0} (m n : ℕ) (xs : List X) → take (m + n) xs ≡ take m xs ++ take n (drop m xs)
take_plus m n xs =
    let front : take m (take (m + n) xs) ≡ take m xs = take-take m (m + n) xs (omega arith) in
    sym (take-append-drop m (take (m + n) xs)) ∙ (λ i. front i ++ drop-take m n xs i)

-- the sums of the first regions bound the sum of the counts there
front_below : (counts : List ℕ) (regions : ℕ) → ((region : ℕ) → region_at counts region < 2 ^ 32) → sum (take (64 * regions) counts) ≤ regions * 2 ^ 32
unfolding region_at
front_below counts zero fit = omega arith
front_below counts (suc regions) fit =
    let more : 64 * suc regions ≡ 64 * regions + 64 = omega arith in
    let split : take (64 * suc regions) counts ≡ take (64 * regions) counts ++ take 64 (drop (64 * regions) counts) = ap (λ (n : ℕ). take n counts) more ∙ take_plus (64 * regions) 64 counts in
    let sums = sum_by-append (λ x. x) (take (64 * regions) counts) (take 64 (drop (64 * regions) counts)) in
    let before = front_below counts regions fit in
    let here = fit regions in
    let whole : sum (take (64 * suc regions) counts) ≡ sum (take (64 * regions) counts ++ take 64 (drop (64 * regions) counts)) = ap sum split in
    omega arith

-- the sum of all counts is a number of 59 bits
pub saved_below : (counts : List ℕ) → length counts < 2 ^ 32 → ((region : ℕ) → region_at counts region < 2 ^ 32) → saved_of counts < 2 ^ 59
saved_below counts few fit =
    let all : take (64 * (length counts / 64 + 1)) counts ≡ counts = take_all (64 * (length counts / 64 + 1)) counts (omega arith) in
    let bound = front_below counts (length counts / 64 + 1) fit in
    let same : sum (take (64 * (length counts / 64 + 1)) counts) ≡ sum counts = ap sum all in
    omega arith

-- a number is added to one count: the sum of all
pub saved_added : (counts : List ℕ) (place n : ℕ) → place < length counts → saved_of (set counts place (get_or counts place 0 + n)) ≡ saved_of counts + n
saved_added counts place n there =
    let sums = sum_by-set (λ x. x) counts place (get_or counts place 0 + n) 0 there in
    omega arith

-- ---- the number of entries

-- what a count adds to the number of entries
abbrev pub entry_or_none : ℕ → ℕ
entry_or_none count = cond (ltb 0 count) 1 0

used_of_set : (counts : List ℕ) (place y : ℕ) → place < length counts → used_of (set counts place y) + entry_or_none (get_or counts place 0) ≡ used_of counts + entry_or_none y
used_of_set counts place y there = sum_by-set entry_or_none counts place y 0 there

pub an_entry : (count : ℕ) → 0 < count → entry_or_none count ≡ 1
an_entry count some = rw (lt-ltb 0 count some) refl

-- a count that wasn't 0 is set to one that isn't: as many as before
pub used_kept : (counts : List ℕ) (place y : ℕ) → place < length counts → 0 < get_or counts place 0 → 0 < y → used_of (set counts place y) ≡ used_of counts
used_kept counts place y there was is =
    let sums = used_of_set counts place y there in
    let before = an_entry (get_or counts place 0) was in
    let after = an_entry y is in
    omega (arith, sums, before, after)

-- a count that was 0: one more
pub used_more : (counts : List ℕ) (place y : ℕ) → place < length counts → get_or counts place 0 ≡ 0 → 0 < y → used_of (set counts place y) ≡ used_of counts + 1
used_more counts place y there was is =
    let sums = used_of_set counts place y there in
    let before : entry_or_none (get_or counts place 0) ≡ 0 = ap entry_or_none was in
    let after = an_entry y is in
    omega (arith, sums, before, after)

-- a number that isn't 0 is added to one count
pub used_added : (counts : List ℕ) (place n : ℕ) → place < length counts → 0 < n → used_of (set counts place (get_or counts place 0 + n)) ≡ used_of counts + entries_made (get_or counts place 0)
used_added counts place n there some =
    ⊎_elim
    (λ (less : get_or counts place 0 < 1).
    let was : get_or counts place 0 ≡ 0 = omega arith in
    used_more counts place (get_or counts place 0 + n) there was (omega arith) ∙ ap (λ (count : ℕ). used_of counts + entries_made count) (sym was))
    (λ (more : 1 ≤ get_or counts place 0).
    let test : eqb (get_or counts place 0) 0 ≡ false = ne_eqb (get_or counts place 0) 0 (λ none. absurd (omega arith)) in
    used_kept counts place (get_or counts place 0 + n) there more (omega arith) ∙ sym (add-zero (used_of counts)) ∙ ap (λ (test : Bool). used_of counts + cond test 1 0) (sym test))
    (cases_lt (get_or counts place 0) 1)

-- there are no more entries than places
pub used_below : (counts : List ℕ) → used_of counts ≤ length counts
used_below counts = count_by-le-length (λ count. ltb 0 count) counts

pub ruleset changes = (count_in_region, place_in_region, region_of_place, regions_added, regions_fit_added, saved_below, saved_added, used_added, used_below)

-- ---- no entry

-- the counts of a table without entries sum to 0
pub saved_of_zeros : (places : ℕ) → saved_of (replicate places 0) ≡ 0
saved_of_zeros places = sum_by-replicate (λ x. x) places 0 ∙ mul-zero places

-- each counter of a table without entries is 0
pub region_of_zeros : (places region : ℕ) → region_at (replicate places 0) region ≡ 0
unfolding region_at
region_of_zeros places region =
    let part : sum (take 64 (replicate (places - 64 * region) 0)) ≤ saved_of (replicate (places - 64 * region) 0) = sum_by-take-le (λ x. x) (replicate (places - 64 * region) 0) 64 in
    let none : saved_of (replicate (places - 64 * region) 0) ≡ 0 = saved_of_zeros (places - 64 * region) in
    let same : sum (take 64 (drop (64 * region) (replicate places 0))) ≡ sum (take 64 (replicate (places - 64 * region) 0)) = ap (λ (l : List ℕ). sum (take 64 l)) (drop-replicate (64 * region) places 0) in
    omega arith

-- the list of the counters
pub regions_of_zeros : (places : ℕ) → regions_of (replicate places 0) ≡ replicate (region_count places) 0
unfolding regions_of
regions_of_zeros places =
    let as_many : length (replicate places 0) ≡ places = length-replicate places 0 in
    ap (λ (n : ℕ). each (region_count n) (region_at (replicate places 0))) as_many
    ∙ each_same (region_count places) (region_at (replicate places 0)) (λ _. 0) (λ region _. region_of_zeros places region)
    ∙ each_alike (region_count places) 0

-- the number of entries
pub used_of_zeros : (places : ℕ) → used_of (replicate places 0) ≡ 0
used_of_zeros places = sum_by-replicate entry_or_none places 0 ∙ mul-zero places

pub ruleset zeros = (length-replicate, region_of_zeros, regions_of_zeros, saved_of_zeros, used_of_zeros)
