-- What the entries and the counters of a table say of the counts that they were made of.
use Rattle.std.proofs.Common.{◌≡◌, ◌∙◌, ℕ, zero, suc, ◌+◌, ◌-◌, ◌*◌, ◌<◌, ◌≤◌, Bool, true, false, cond, eqb, List, [], ◌∷◌, length, get_or, take, drop, sum, slice_get, refl, sym, ap, ⊎_elim, arith}
use Rattle.std.proofs.lemmas.Bool.{cases_Bool, eq-eqb, eqb-true, ne_eqb}
use Rattle.std.proofs.lemmas.List.{drop_all}
use Rattle.std.proofs.lemmas.Option.{slice_get-get_or}
use Rattle.zc_num.specs.Words.{each}
use Rattle.zc_num.proofs.Each.{drop_each, take_each}
use Rattle.zc_table.specs.declared.stored.StoredCount.{StoredCount}
use Rattle.zc_table.specs.Counts.{region_at, region_count, regions_of, entries_from}
use Rattle.zc_table.proofs.RegionLaws.{regions_length, region_item}
use Rattle.zc_damage.specs.Places.{count_in, or_zero}

-- ---- entries

-- the entries of counts, of which the first may have one or not
abbrev entries_with : Bool → (place count : ℕ) → List StoredCount → List StoredCount
entries_with none place count entries = cond none entries (record { place = place; count = count } ∷ entries)

-- a place before the first has no entry
pub count_before : (first : ℕ) (counts : List ℕ) (place : ℕ) → place < first → count_in (entries_from first counts) place ≡ 0
unfolding entries_from
count_before first [] place before = refl
count_before first (count ∷ counts) place before =
    let rest : List StoredCount = entries_from (first + 1) counts in
    let behind : count_in rest place ≡ 0 = count_before (first + 1) counts place (omega arith) in
    ⊎_elim
    (λ (none : eqb count 0 ≡ true). ap (λ (b : Bool). count_in (entries_with b first count rest) place) none ∙ behind)
    (λ (some : eqb count 0 ≡ false).
    ap (λ (b : Bool). count_in (entries_with b first count rest) place) some
    ∙ ap (λ (b : Bool). cond b count (count_in rest place)) (ne_eqb first place (λ same. absurd (omega arith))) ∙ behind)
    (cases_Bool (eqb count 0))

-- each other place has its count
pub count_at : (first : ℕ) (counts : List ℕ) (k place : ℕ) → place ≡ first + k → count_in (entries_from first counts) place ≡ get_or counts k 0
unfolding entries_from
count_at first [] k place is = refl
count_at first (count ∷ counts) zero place is =
    let rest : List StoredCount = entries_from (first + 1) counts in
    ⊎_elim
    (λ (none : eqb count 0 ≡ true).
    ap (λ (b : Bool). count_in (entries_with b first count rest) place) none ∙ count_before (first + 1) counts place (omega arith) ∙ sym (eqb-true count 0 none))
    (λ (some : eqb count 0 ≡ false).
    ap (λ (b : Bool). count_in (entries_with b first count rest) place) some
    ∙ ap (λ (b : Bool). cond b count (count_in rest place)) (eq-eqb first place (omega arith)))
    (cases_Bool (eqb count 0))
count_at first (count ∷ counts) (suc k) place is =
    let rest : List StoredCount = entries_from (first + 1) counts in
    let behind : count_in rest place ≡ get_or counts k 0 = count_at (first + 1) counts k place (omega arith) in
    ⊎_elim
    (λ (none : eqb count 0 ≡ true). ap (λ (b : Bool). count_in (entries_with b first count rest) place) none ∙ behind)
    (λ (some : eqb count 0 ≡ false).
    ap (λ (b : Bool). count_in (entries_with b first count rest) place) some
    ∙ ap (λ (b : Bool). cond b count (count_in rest place)) (ne_eqb first place (λ same. absurd (omega arith))) ∙ behind)
    (cases_Bool (eqb count 0))

-- the entries of all counts
pub count_in_entries : (counts : List ℕ) (place : ℕ) → count_in (entries_from 0 counts) place ≡ get_or counts place 0
count_in_entries counts place = count_at 0 counts place place (omega arith)

-- ---- counters

-- the counter of a region that is there
pub counter_is : (counts : List ℕ) (region : ℕ) → region < region_count (length counts) → or_zero (slice_get (regions_of counts) region) ≡ region_at counts region
counter_is counts region within =
    ap or_zero (slice_get-get_or (regions_of counts) region 0 (omega (arith, regions_length counts))) ∙ region_item counts region 0 within

-- it is the sum over the places of the region
pub region_of_each : (places : ℕ) (f : ℕ → ℕ) (region : ℕ) → 64 * region + 64 ≤ places → region_at (each places f) region ≡ sum (each 64 (λ k. f (64 * region + k)))
unfolding region_at
region_of_each places f region within =
    let left : ℕ = places - 64 * region in
    let whole : places ≡ 64 * region + left = omega arith in
    ap (λ (n : ℕ). sum (take 64 (drop (64 * region) (each n f)))) whole
    ∙ ap (λ (counts : List ℕ). sum (take 64 counts)) (drop_each (64 * region) left f)
    ∙ ap sum (take_each 64 left (λ k. f (64 * region + k)) (omega arith))

-- after the last place nothing is counted
pub region_past : (counts : List ℕ) (region : ℕ) → length counts ≤ 64 * region → region_at counts region ≡ 0
unfolding region_at
region_past counts region past = ap (λ (back : List ℕ). sum (take 64 back)) (drop_all (64 * region) counts past)
