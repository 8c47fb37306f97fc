-- The counts of a device, one place after the other.
use Rattle.std.proofs.Common.{◌≡◌, ◌≢◌, ◌∙◌, ℕ, ◌+◌, ◌*◌, ◌/◌, ◌%◌, ◌^◌, ◌<◌, ◌≤◌, Bool, true, false, cond, ltb, List, length, get_or, replicate, sym, ap, ⊎_elim, arith}
use Rattle.std.proofs.Math.ListN.{set}
use Rattle.std.proofs.lemmas.Bool.{cases_lt, lt-ltb, le-ltb}
use Rattle.zc_num.specs.Words.{each}
use Rattle.zc_num.proofs.Each.{length_each, item_of_each, each_same, each_alike}
use Rattle.zc_blkptr.specs.declared.ptr.Ptr.{Ptr}
use Rattle.zc_table.specs.Counts.{region_at, region_sum}
use Rattle.zc_table.proofs.RegionLaws.{region_of_set}
use Rattle.zc_damage.specs.Places.{extra_at}
use Rattle.zc_damage.proofs.CensusLaws.{set_each}
use Rattle.zc_next.proofs.EntryCounts.{region_of_each, region_past}
use Rattle.zc_next.proofs.ExactTables.{counts_on, region_few}
use Rattle.zc_next.proofs.PointerSums.{sum_no_more}

-- the count of one place of the device
abbrev extra_on : (places device : ℕ) → List Ptr → ℕ → ℕ
extra_on places device reach place = extra_at places reach (device * places + place)

-- the count of a place, where it is one of the first k
abbrev pub count_so_far : (places device : ℕ) → List Ptr → (k place : ℕ) → ℕ
count_so_far places device reach k place = cond (ltb place k) (extra_on places device reach place) 0

-- the counts of a device, as far as its first k places
abbrev pub counts_so_far : (places device : ℕ) → List Ptr → ℕ → List ℕ
counts_so_far places device reach k = each places (count_so_far places device reach k)

-- a place is counted once it is passed by
counted : (places device : ℕ) (reach : List Ptr) (k place : ℕ) → place < k → count_so_far places device reach k place ≡ extra_on places device reach place
counted places device reach k place passed = ap (λ (b : Bool). cond b (extra_on places device reach place) 0) (lt-ltb place k passed)

uncounted : (places device : ℕ) (reach : List Ptr) (k place : ℕ) → k ≤ place → count_so_far places device reach k place ≡ 0
uncounted places device reach k place yet = ap (λ (b : Bool). cond b (extra_on places device reach place) 0) (le-ltb place k yet)

-- no place is counted yet
pub none_counted : (places device : ℕ) (reach : List Ptr) → replicate places 0 ≡ counts_so_far places device reach 0
none_counted places device reach =
    sym (each_alike places 0) ∙ each_same places (λ place. 0) (count_so_far places device reach 0) (λ place within. sym (uncounted places device reach 0 place (omega arith)))

-- all places are
pub all_counted : (places device : ℕ) (reach : List Ptr) (k : ℕ) → places ≤ k → counts_so_far places device reach k ≡ counts_on places device reach
all_counted places device reach k all = each_same places (count_so_far places device reach k) (extra_on places device reach) (λ place within. counted places device reach k place (omega arith))

-- each place has a count
pub count_there : (places device : ℕ) (reach : List Ptr) (k place : ℕ) → place < places → place < length (counts_so_far places device reach k)
count_there places device reach k place within = omega (arith, length_each places (count_so_far places device reach k))

-- one place more is counted
pub one_counted : (places device : ℕ) (reach : List Ptr) (place : ℕ) → place < places
    → set (counts_so_far places device reach place) place (get_or (counts_so_far places device reach place) place 0 + extra_on places device reach place) ≡ counts_so_far places device reach (place + 1)
one_counted places device reach place within =
    let before : ℕ → ℕ = count_so_far places device reach place in
    let after : ℕ → ℕ = count_so_far places device reach (place + 1) in
    let none : get_or (each places before) place 0 ≡ 0 = item_of_each places before place 0 within ∙ uncounted places device reach place place (omega arith) in
    ap (λ (n : ℕ). set (each places before) place (n + extra_on places device reach place)) none
    ∙ set_each places before after place (0 + extra_on places device reach place) within
    (counted places device reach (place + 1) place (omega arith) ∙ omega arith)
    (λ k other. same k other)
  where
    same : (k : ℕ) → k ≢ place → count_so_far places device reach (place + 1) k ≡ count_so_far places device reach place k
    same k other =
        ⊎_elim
        (λ (passed : k < place). counted places device reach (place + 1) k (omega arith) ∙ sym (counted places device reach place k passed))
        (λ (yet : place ≤ k).
        let behind : place + 1 ≤ k = past k other yet in
        uncounted places device reach (place + 1) k behind ∙ sym (uncounted places device reach place k yet))
        (cases_lt k place)
      where
        past : (k : ℕ) → k ≢ place → place ≤ k → place + 1 ≤ k
        past k other yet =
            ⊎_elim
            (λ (beyond : place < k). omega arith)
            (λ (short : k ≤ place). absurd (other (omega arith)))
            (cases_lt place k)

-- ---- the counters

-- counts that are no more have counters that are no more
region_no_more : (places : ℕ) (f g : ℕ → ℕ) (region : ℕ) → places % 64 ≡ 0 → ((k : ℕ) → f k ≤ g k) → region_at (each places f) region ≤ region_at (each places g) region
region_no_more places f g region whole less =
    ⊎_elim
    (λ (there : 64 * region < places).
    let one = region_of_each places f region (omega arith) in
    let other = region_of_each places g region (omega arith) in
    omega (arith, one, other, sum_no_more 64 (λ k. f (64 * region + k)) (λ k. g (64 * region + k)) (λ k. less (64 * region + k))))
    (λ (past : places ≤ 64 * region). omega (arith, region_past (each places f) region (omega (arith, length_each places f))))
    (cases_lt (64 * region) places)

-- a count so far is no more than it will be
so_far_less : (places device : ℕ) (reach : List Ptr) (k place : ℕ) → count_so_far places device reach k place ≤ extra_on places device reach place
so_far_less places device reach k place = at (ltb place k) where
  at : (passed : Bool) → cond passed (extra_on places device reach place) 0 ≤ extra_on places device reach place
  at true = omega arith
  at false = omega arith

-- the counter of the region of a place has room for its count
pub room_for : (places device : ℕ) (reach : List Ptr) (place : ℕ) → places % 64 ≡ 0 → length reach < 2 ^ 32 → place < places
    → region_sum (counts_so_far places device reach place) place + extra_on places device reach place < 2 ^ 32
room_for places device reach place whole few within =
    let before : List ℕ = counts_so_far places device reach place in
    let old : ℕ = get_or before place 0 in
    let extra : ℕ = extra_on places device reach place in
    let changed : region_at (set before place (old + extra)) (place / 64) + old ≡ region_at before (place / 64) + (old + extra) =
    region_of_set before place (old + extra) (count_there places device reach place place within) in
    let next : region_at (set before place (old + extra)) (place / 64) ≡ region_at (counts_so_far places device reach (place + 1)) (place / 64) =
    ap (λ (counts : List ℕ). region_at counts (place / 64)) (one_counted places device reach place within) in
    let less = region_no_more places (count_so_far places device reach (place + 1)) (extra_on places device reach) (place / 64) whole (so_far_less places device reach (place + 1)) in
    omega (arith, changed, next, less, region_few places device reach (place / 64) whole)
