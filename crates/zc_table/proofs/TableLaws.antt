-- The two laws of a table's bytes: what is read is spelled so, and what is spelled so is read. And which counts have a spelling.
use Rattle.std.proofs.Common.{◌≡◌, ◌∙◌, ℕ, zero, suc, ◌+◌, ◌-◌, ◌*◌, ◌/◌, ◌%◌, ◌^◌, ◌<◌, ◌≤◌, Bool, true, false, not, ◌&&◌, cond, eqb, ltb, nat_lt, nat_le, List, [], ◌∷◌, ◌++◌, length, get_or, drop, Result, Ok, Err, refl, sym, ap, subst, append_assoc, arith, ⊎_elim}
use Rattle.std.specs.Prelude.{IfOk}
use Rattle.std.specs.List.{flat_map, AllByRecursion}
use Rattle.std.proofs.lemmas.Bool.{cases_Bool, cases_lt, eqb-false, and_parts, and_from, leb-true, le-leb, ltb-true, lt-ltb, eqb-true, eq-eqb, not-true}
use Rattle.std.proofs.lemmas.Nat.{mul-le}
use Rattle.std.proofs.lemmas.List.{drop_at, get_or_past}
use Rattle.std.proofs.lemmas.List.Concat.{flat_map-cons}
use Rattle.zc_num.specs.Limits.{AreLimits, IsFixed, is_fixed, log_places_of}
use Rattle.zc_wire.specs.Numbers.{u32_bytes, IsBytes}
use Rattle.zc_wire.specs.declared.fault.CatalogFault.{CatalogFault}
use Rattle.zc_wire.specs.Fields.{Read, FieldAnswers, ◌>>=◌, u32_field, rule}
use Rattle.zc_wire.proofs.FieldLaws.{ok_is, bind_ok, rule_ok, rule_again, Takes, takes_then, takes_none, takes_length, u32_takes, u32_again}
use Rattle.zc_table.specs.declared.stored.StoredCount.{StoredCount}
use Rattle.zc_table.specs.declared.stored.StoredTable.{StoredTable}
use Rattle.zc_table.specs.Counts.{region_at, region_count, regions_of, entries_from, stored_of}
use Rattle.zc_table.specs.TableBytes.{entry_bytes, table_bytes, IsEntry, AreEntries, IsTable, is_next, entry_field, entries_field, counters_field, table_field}
use Rattle.zc_table.proofs.RegionLaws.{regions_length, region_item, count_in_region}

-- ---- the test of an entry's place

-- a place that passes may come
place_passes : (devices places device least place : ℕ) → is_next devices places device least place ≡ true → (least ≤ place) × (place < places) × (¬ IsFixed devices places device place)
place_passes devices places device least place passes =
    let parts = and_parts (nat_le least place) (nat_lt place places && not (is_fixed devices places device place)) passes in
    let more = and_parts (nat_lt place places) (not (is_fixed devices places device place)) parts.1 in
    let not_fixed : is_fixed devices places device place ≡ false = not-true (is_fixed devices places device place) more.1 in
    (leb-true least place parts.0, ltb-true place places more.0, λ fixed. fixed_fails fixed not_fixed)
  where
    fixed_fails : IsFixed devices places device place → is_fixed devices places device place ≡ false → ⊥
    fixed_fails fixed fails =
        let is : is_fixed devices places device place ≡ true = and_from (eqb device 0) (ltb place (4 + 8 * log_places_of devices places)) (eq-eqb device 0 fixed.0) (lt-ltb place (4 + 8 * log_places_of devices places) fixed.1) in
        let no : true ≡ false = sym is ∙ fails in
        cc

-- a place that may come passes
place_may_come : (devices places device least : ℕ) (entry : StoredCount) → IsEntry devices places device least entry → is_next devices places device least entry.place ≡ true
place_may_come devices places device least entry fits =
    and_from (nat_le least entry.place) (nat_lt entry.place places && not (is_fixed devices places device entry.place)) (le-leb least entry.place fits.above)
    (and_from (nat_lt entry.place places) (not (is_fixed devices places device entry.place)) (lt-ltb entry.place places fits.in_places) not_fixed)
  where
    not_fixed : not (is_fixed devices places device entry.place) ≡ true
    not_fixed =
        ⊎_elim
        (λ (is : is_fixed devices places device entry.place ≡ true).
        let parts = and_parts (eqb device 0) (ltb entry.place (4 + 8 * log_places_of devices places)) is in
        absurd (fits.not_fixed (eqb-true device 0 parts.0, ltb-true entry.place (4 + 8 * log_places_of devices places) parts.1)))
        (λ (is : is_fixed devices places device entry.place ≡ false). ap not is)
        (cases_Bool (is_fixed devices places device entry.place))

-- ---- an entry

entry_takes : (devices places device least : ℕ) (bytes : List ℕ) (x : StoredCount × List ℕ) → IsBytes bytes → entry_field devices places device least bytes ≡ Ok x
    → Takes bytes (entry_bytes x.0) x.1 × IsEntry devices places device least x.0
unfolding entry_field entry_bytes
entry_takes devices places device least bytes x fits e =
    let a = bind_ok (u32_field bytes) (λ place. rule (is_next devices places device least place.0) bytes >>= λ _. u32_field place.1 >>= λ count. rule (nat_lt 0 count.0) place.1 >>= λ _. Ok (record { place = place.0; count = count.0 }, count.1)) x e in
    let place : ℕ = a.0.0 in
    let b = rule_ok (is_next devices places device least place) bytes (λ _. u32_field a.0.1 >>= λ count. rule (nat_lt 0 count.0) a.0.1 >>= λ _. Ok (record { place = place; count = count.0 }, count.1)) x a.2 in
    let c = bind_ok (u32_field a.0.1) (λ count. rule (nat_lt 0 count.0) a.0.1 >>= λ _. Ok (record { place = place; count = count.0 }, count.1)) x b.1 in
    let d = rule_ok (nat_lt 0 c.0.0) a.0.1 (λ _. Ok (record { place = place; count = c.0.0 }, c.0.1)) x c.2 in
    let first = u32_takes bytes place a.0.1 fits a.1 in
    let second = u32_takes a.0.1 c.0.0 c.0.1 first.0.rest_fits c.1 in
    let may_come = place_passes devices places device least place b.0 in
    let some : 0 < c.0.0 = ltb-true 0 c.0.0 d.0 in
    let both = takes_then bytes (u32_bytes place) a.0.1 (u32_bytes c.0.0) c.0.1 first.0 second.0 in
    let made : StoredCount × List ℕ = (record { place = place; count = c.0.0 }, c.0.1) in
    subst (λ (y : StoredCount × List ℕ). Takes bytes (u32_bytes y.0.place ++ u32_bytes y.0.count) y.1 × IsEntry devices places device least y.0) (ok_is made x d.1)
    (both, record { above = may_come.0; in_places = may_come.1; not_fixed = may_come.2; counted = omega arith; fits = second.1 })

entry_again : (devices places device least : ℕ) (entry : StoredCount) (rest : List ℕ) → places ≤ 2 ^ 32 → IsEntry devices places device least entry
    → entry_field devices places device least (entry_bytes entry ++ rest) ≡ Ok (entry, rest)
unfolding entry_field entry_bytes
entry_again devices places device least entry rest few fits =
    let back : List ℕ = u32_bytes entry.count ++ rest in
    let bytes : List ℕ = u32_bytes entry.place ++ back in
    let regrouped : (u32_bytes entry.place ++ u32_bytes entry.count) ++ rest ≡ bytes = append_assoc (u32_bytes entry.place) (u32_bytes entry.count) rest in
    let place : u32_field bytes ≡ Ok (entry.place, back) = u32_again entry.place back (omega (arith, fits.in_places)) in
    let count : u32_field back ≡ Ok (entry.count, rest) = u32_again entry.count rest fits.fits in
    let next : is_next devices places device least entry.place ≡ true = place_may_come devices places device least entry fits in
    let some : nat_lt 0 entry.count ≡ true = lt-ltb 0 entry.count fits.counted in
    ap (λ (b : List ℕ). u32_field b >>= λ place. rule (is_next devices places device least place.0) b >>= λ _. u32_field place.1 >>= λ count. rule (nat_lt 0 count.0) place.1 >>= λ _. Ok (record { place = place.0; count = count.0 }, count.1)) regrouped
    ∙ ap (λ (r : Read ℕ). r >>= λ place. rule (is_next devices places device least place.0) bytes >>= λ _. u32_field place.1 >>= λ count. rule (nat_lt 0 count.0) place.1 >>= λ _. Ok (record { place = place.0; count = count.0 }, count.1)) place
    ∙ rule_again (is_next devices places device least entry.place) bytes (λ _. u32_field back >>= λ count. rule (nat_lt 0 count.0) back >>= λ _. Ok (record { place = entry.place; count = count.0 }, count.1)) next
    ∙ ap (λ (r : Read ℕ). r >>= λ count. rule (nat_lt 0 count.0) back >>= λ _. Ok (record { place = entry.place; count = count.0 }, count.1)) count
    ∙ rule_again (nat_lt 0 entry.count) back (λ _. Ok (record { place = entry.place; count = entry.count }, rest)) some

-- ---- entries

entries_take : (devices places device number least : ℕ) (bytes : List ℕ) (x : List StoredCount × List ℕ) → IsBytes bytes → entries_field devices places device number least bytes ≡ Ok x
    → Takes bytes (flat_map entry_bytes x.0) x.1 × (length x.0 ≡ number) × AreEntries devices places device least x.0
unfolding entries_field
entries_take devices places device zero least bytes x fits e =
    subst (λ (y : List StoredCount × List ℕ). Takes bytes (flat_map entry_bytes y.0) y.1 × (length y.0 ≡ 0) × AreEntries devices places device least y.0) (ok_is ([], bytes) x e) (takes_none bytes fits, refl, tt)
entries_take devices places device (suc number) least bytes x fits e =
    let a = bind_ok (entry_field devices places device least bytes) (λ first. entries_field devices places device number (first.0.place + 1) first.1 >>= λ others. Ok (first.0 ∷ others.0, others.1)) x e in
    let b = bind_ok (entries_field devices places device number (a.0.0.place + 1) a.0.1) (λ others. Ok (a.0.0 ∷ others.0, others.1)) x a.2 in
    let first = entry_takes devices places device least bytes a.0 fits a.1 in
    let second = entries_take devices places device number (a.0.0.place + 1) a.0.1 b.0 first.0.rest_fits b.1 in
    let both = takes_then bytes (entry_bytes a.0.0) a.0.1 (flat_map entry_bytes b.0.0) b.0.1 first.0 second.0 in
    let whole : Takes bytes (flat_map entry_bytes (a.0.0 ∷ b.0.0)) b.0.1 = subst (λ (t : List ℕ). Takes bytes t b.0.1) (sym (flat_map-cons entry_bytes a.0.0 b.0.0)) both in
    let made : List StoredCount × List ℕ = (a.0.0 ∷ b.0.0, b.0.1) in
    subst (λ (y : List StoredCount × List ℕ). Takes bytes (flat_map entry_bytes y.0) y.1 × (length y.0 ≡ suc number) × AreEntries devices places device least y.0) (ok_is made x b.2)
    (whole, ap suc second.1, (first.1, second.2))

entries_again : (devices places device least : ℕ) (entries : List StoredCount) (rest : List ℕ) → places ≤ 2 ^ 32 → AreEntries devices places device least entries
    → entries_field devices places device (length entries) least (flat_map entry_bytes entries ++ rest) ≡ Ok (entries, rest)
unfolding entries_field
entries_again devices places device least [] rest few fits = refl
entries_again devices places device least (entry ∷ entries) rest few fits =
    let back : List ℕ = flat_map entry_bytes entries ++ rest in
    let regrouped : flat_map entry_bytes (entry ∷ entries) ++ rest ≡ entry_bytes entry ++ back = ap (λ (t : List ℕ). t ++ rest) (flat_map-cons entry_bytes entry entries) ∙ append_assoc (entry_bytes entry) (flat_map entry_bytes entries) rest in
    ap (entries_field devices places device (suc (length entries)) least) regrouped
    ∙ rw (entry_again devices places device least entry back few fits.0, entries_again devices places device (entry.place + 1) entries rest few fits.1) refl

-- entries ascend, so there are no more than places
pub entries_few : (devices places device least : ℕ) (entries : List StoredCount) → AreEntries devices places device least entries → length entries ≤ places - least
entries_few devices places device least [] fits = omega arith
entries_few devices places device least (entry ∷ entries) fits =
    let others = entries_few devices places device (entry.place + 1) entries fits.1 in
    omega (arith, fits.0.above, fits.0.in_places)

-- ---- counters

abbrev FitsU32 : ℕ → Type 0
FitsU32 counter = counter < 2 ^ 32

counters_take : (number : ℕ) (bytes : List ℕ) (x : List ℕ × List ℕ) → IsBytes bytes → counters_field number bytes ≡ Ok x
    → Takes bytes (flat_map u32_bytes x.0) x.1 × (length x.0 ≡ number) × AllByRecursion FitsU32 x.0
unfolding counters_field
counters_take zero bytes x fits e =
    subst (λ (y : List ℕ × List ℕ). Takes bytes (flat_map u32_bytes y.0) y.1 × (length y.0 ≡ 0) × AllByRecursion FitsU32 y.0) (ok_is ([], bytes) x e) (takes_none bytes fits, refl, tt)
counters_take (suc number) bytes x fits e =
    let a = bind_ok (u32_field bytes) (λ first. counters_field number first.1 >>= λ others. Ok (first.0 ∷ others.0, others.1)) x e in
    let b = bind_ok (counters_field number a.0.1) (λ others. Ok (a.0.0 ∷ others.0, others.1)) x a.2 in
    let first = u32_takes bytes a.0.0 a.0.1 fits a.1 in
    let second = counters_take number a.0.1 b.0 first.0.rest_fits b.1 in
    let both = takes_then bytes (u32_bytes a.0.0) a.0.1 (flat_map u32_bytes b.0.0) b.0.1 first.0 second.0 in
    let whole : Takes bytes (flat_map u32_bytes (a.0.0 ∷ b.0.0)) b.0.1 = subst (λ (t : List ℕ). Takes bytes t b.0.1) (sym (flat_map-cons u32_bytes a.0.0 b.0.0)) both in
    let made : List ℕ × List ℕ = (a.0.0 ∷ b.0.0, b.0.1) in
    subst (λ (y : List ℕ × List ℕ). Takes bytes (flat_map u32_bytes y.0) y.1 × (length y.0 ≡ suc number) × AllByRecursion FitsU32 y.0) (ok_is made x b.2)
    (whole, ap suc second.1, (first.1, second.2))

counters_again : (counters rest : List ℕ) → AllByRecursion FitsU32 counters → counters_field (length counters) (flat_map u32_bytes counters ++ rest) ≡ Ok (counters, rest)
unfolding counters_field
counters_again [] rest fits = refl
counters_again (counter ∷ counters) rest fits =
    let back : List ℕ = flat_map u32_bytes counters ++ rest in
    let regrouped : flat_map u32_bytes (counter ∷ counters) ++ rest ≡ u32_bytes counter ++ back = ap (λ (t : List ℕ). t ++ rest) (flat_map-cons u32_bytes counter counters) ∙ append_assoc (u32_bytes counter) (flat_map u32_bytes counters) rest in
    ap (λ (b : List ℕ). u32_field b >>= λ first. counters_field (length counters) first.1 >>= λ others. Ok (first.0 ∷ others.0, others.1)) regrouped
    ∙ ap (λ (r : Read ℕ). r >>= λ first. counters_field (length counters) first.1 >>= λ others. Ok (first.0 ∷ others.0, others.1)) (u32_again counter back fits.0)
    ∙ ap (λ (r : Read (List ℕ)). r >>= λ others. Ok (counter ∷ others.0, others.1)) (counters_again counters rest fits.1)

-- ---- a table

-- what is read is spelled so
pub table_takes : (devices places device : ℕ) (bytes : List ℕ) (table : StoredTable) (rest : List ℕ) → IsBytes bytes → table_field devices places device bytes ≡ Ok (table, rest)
    → Takes bytes (table_bytes table) rest × IsTable devices places device table
unfolding table_field table_bytes
table_takes devices places device bytes table rest fits e =
    let a = bind_ok (u32_field bytes) (λ number. entries_field devices places device number.0 0 number.1 >>= λ entries. counters_field (places / 64) entries.1 >>= λ regions. Ok (record { entries = entries.0; regions = regions.0 }, regions.1)) (table, rest) e in
    let b = bind_ok (entries_field devices places device a.0.0 0 a.0.1) (λ entries. counters_field (places / 64) entries.1 >>= λ regions. Ok (record { entries = entries.0; regions = regions.0 }, regions.1)) (table, rest) a.2 in
    let c = bind_ok (counters_field (places / 64) b.0.1) (λ regions. Ok (record { entries = b.0.0; regions = regions.0 }, regions.1)) (table, rest) b.2 in
    let first = u32_takes bytes a.0.0 a.0.1 fits a.1 in
    let second = entries_take devices places device a.0.0 0 a.0.1 b.0 first.0.rest_fits b.1 in
    let third = counters_take (places / 64) b.0.1 c.0 second.0.rest_fits c.1 in
    let numbered : Takes bytes (u32_bytes (length b.0.0)) a.0.1 = subst (λ (n : ℕ). Takes bytes (u32_bytes n) a.0.1) (sym second.1) first.0 in
    let behind = takes_then a.0.1 (flat_map entry_bytes b.0.0) b.0.1 (flat_map u32_bytes c.0.0) c.0.1 second.0 third.0 in
    let whole = takes_then bytes (u32_bytes (length b.0.0)) a.0.1 (flat_map entry_bytes b.0.0 ++ flat_map u32_bytes c.0.0) c.0.1 numbered behind in
    let made : StoredTable × List ℕ = (record { entries = b.0.0; regions = c.0.0 }, c.0.1) in
    subst (λ (y : StoredTable × List ℕ). Takes bytes (u32_bytes (length y.0.entries) ++ (flat_map entry_bytes y.0.entries ++ flat_map u32_bytes y.0.regions)) y.1 × IsTable devices places device y.0) (ok_is made (table, rest) c.2)
    (whole, record { entries = second.2; regions = third.1; counters = third.2 })

-- what is spelled so is read
pub table_again : (devices places device : ℕ) (table : StoredTable) (rest : List ℕ) → places < 2 ^ 32 → IsTable devices places device table
    → table_field devices places device (table_bytes table ++ rest) ≡ Ok (table, rest)
unfolding table_field table_bytes
table_again devices places device table rest few fits =
    let entries : List ℕ = flat_map entry_bytes table.entries in
    let counters : List ℕ = flat_map u32_bytes table.regions in
    let number : List ℕ = u32_bytes (length table.entries) in
    let regrouped : (number ++ (entries ++ counters)) ++ rest ≡ number ++ (entries ++ (counters ++ rest)) = append_assoc number (entries ++ counters) rest ∙ ap (λ (t : List ℕ). number ++ t) (append_assoc entries counters rest) in
    let some : length table.entries < 2 ^ 32 = omega (arith, entries_few devices places device 0 table.entries fits.entries) in
    let as_many : counters_field (places / 64) (counters ++ rest) ≡ Ok (table.regions, rest) = ap (λ (n : ℕ). counters_field n (counters ++ rest)) (sym fits.regions) ∙ counters_again table.regions rest fits.counters in
    ap (λ (b : List ℕ). u32_field b >>= λ number. entries_field devices places device number.0 0 number.1 >>= λ entries. counters_field (places / 64) entries.1 >>= λ regions. Ok (record { entries = entries.0; regions = regions.0 }, regions.1)) regrouped
    ∙ ap (λ (r : Read ℕ). r >>= λ number. entries_field devices places device number.0 0 number.1 >>= λ entries. counters_field (places / 64) entries.1 >>= λ regions. Ok (record { entries = entries.0; regions = regions.0 }, regions.1)) (u32_again (length table.entries) (entries ++ (counters ++ rest)) some)
    ∙ ap (λ (r : Read (List StoredCount)). r >>= λ entries. counters_field (places / 64) entries.1 >>= λ regions. Ok (record { entries = entries.0; regions = regions.0 }, regions.1)) (entries_again devices places device 0 table.entries (counters ++ rest) (omega arith) fits.entries)
    ∙ ap (λ (r : Read (List ℕ)). r >>= λ regions. Ok (record { entries = table.entries; regions = regions.0 }, regions.1)) as_many

-- a device of a pool has places that a number of 32 bits counts
pub places_few : (devices places : ℕ) → AreLimits devices places → places < 2 ^ 32
places_few devices places limits =
    let part : 1 * places ≤ devices * places = mul-le 1 places devices places limits.some_device (omega arith) in
    omega (arith, part, limits.few_places)

-- ---- what a reader answers

-- where it is Ok, the bytes begin with the spelling of the table
pub is_found : (devices places device : ℕ) (bytes : List ℕ) (result : Result (StoredTable × ℕ) CatalogFault) → IsBytes bytes → FieldAnswers (length bytes) result (table_field devices places device bytes)
    → IfOk result (λ x. IsTable devices places device x.0 × (x.1 ≡ length (table_bytes x.0)) × (bytes ≡ table_bytes x.0 ++ drop x.1 bytes))
is_found devices places device bytes (Ok x) fits answer =
    let text : List ℕ = table_bytes x.0 in
    let found = table_takes devices places device bytes x.0 answer.0 fits answer.1 in
    let size : x.1 ≡ length text = omega (arith, answer.2, takes_length bytes text answer.0 found.0) in
    let behind : drop x.1 bytes ≡ answer.0 = ap (drop x.1) found.0.parts ∙ drop_at text answer.0 x.1 (sym size) in
    (found.1, size, found.0.parts ∙ ap (λ (t : List ℕ). text ++ t) (sym behind))
is_found devices places device bytes (Err fault) fits answer = tt

-- bytes that begin with the spelling of a table are read as that table
pub is_read : (devices places device : ℕ) (bytes : List ℕ) (result : Result (StoredTable × ℕ) CatalogFault) → AreLimits devices places → FieldAnswers (length bytes) result (table_field devices places device bytes)
    → (table : StoredTable) (rest : List ℕ) → IsTable devices places device table → bytes ≡ table_bytes table ++ rest → FieldAnswers (length bytes) result (Ok (table, rest))
is_read devices places device bytes result limits answer table rest fits spelled =
    subst (λ (read : Read StoredTable). FieldAnswers (length bytes) result read) (ap (table_field devices places device) spelled ∙ table_again devices places device table rest (places_few devices places limits) fits) answer

-- what is left after a table is no longer than the bytes
pub rest_within : (devices places device : ℕ) (bytes : List ℕ) (table : StoredTable) (rest : List ℕ) → IsBytes bytes → table_field devices places device bytes ≡ Ok (table, rest) → length rest ≤ length bytes
rest_within devices places device bytes table rest fits read =
    let found = table_takes devices places device bytes table rest fits read in
    omega (arith, takes_length bytes (table_bytes table) rest found.0)

-- ---- which counts have a spelling

-- what is known of each count, so that its entry may stand in the bytes
abbrev MayStand : (devices places device place count : ℕ) → Type 0
MayStand devices places device place count = (count < 2 ^ 32) × (IsFixed devices places device place → count ≡ 0)

-- the entries of counts of which each may stand
entries_stand : (devices places device least first : ℕ) (counts : List ℕ) → least ≤ first → first + length counts ≤ places
    → ((k : ℕ) → MayStand devices places device (first + k) (get_or counts k 0)) → AreEntries devices places device least (entries_from first counts)
unfolding entries_from
entries_stand devices places device least first [] above within stand = tt
entries_stand devices places device least first (count ∷ counts) above within stand =
    let here : MayStand devices places device first count = subst (λ (place : ℕ). MayStand devices places device place count) (omega arith) (stand 0) in
    let others : (k : ℕ) → MayStand devices places device (first + 1 + k) (get_or counts k 0) = λ k. subst (λ (place : ℕ). MayStand devices places device place (get_or counts k 0)) (omega arith) (stand (suc k)) in
    ⊎_elim
    (λ (none : eqb count 0 ≡ true).
    subst (λ (b : Bool). AreEntries devices places device least (cond b (entries_from (first + 1) counts) (record { place = first; count = count } ∷ entries_from (first + 1) counts))) (sym none)
    (entries_stand devices places device least (first + 1) counts (omega arith) (omega arith) others))
    (λ (some : eqb count 0 ≡ false).
    let not_zero : 1 ≤ count = omega (arith, eqb-false count 0 some) in
    subst (λ (b : Bool). AreEntries devices places device least (cond b (entries_from (first + 1) counts) (record { place = first; count = count } ∷ entries_from (first + 1) counts))) (sym some) (
      record { above = above; in_places = omega arith; not_fixed = λ fixed. absurd (omega (arith, here.1 fixed)); counted = not_zero; fits = here.0 },
      entries_stand devices places device (first + 1) (first + 1) counts (omega arith) (omega arith) others,
    ))
    (cases_Bool (eqb count 0))

-- numbers of which each is one of 32 bits
all_fit : (numbers : List ℕ) → ((k : ℕ) → k < length numbers → get_or numbers k 0 < 2 ^ 32) → AllByRecursion FitsU32 numbers
all_fit [] fit = tt
all_fit (number ∷ numbers) fit = (fit 0 (omega arith), all_fit numbers (λ k within. fit (suc k) (omega arith)))

-- a table whose sums are numbers of 32 bits and that has no entry for a fixed place has a spelling
pub stored_is_table : (devices places device : ℕ) (counts : List ℕ) → places % 64 ≡ 0 → length counts ≡ places → ((region : ℕ) → region_at counts region < 2 ^ 32)
    → ((place : ℕ) → IsFixed devices places device place → get_or counts place 0 ≡ 0) → IsTable devices places device (stored_of counts)
stored_is_table devices places device counts whole as_many fit free =
    record {
      entries = entries_stand devices places device 0 0 counts (omega arith) (omega arith) (λ k. subst (λ (place : ℕ). MayStand devices places device place (get_or counts k 0)) (omega arith) (count_fits k, free k));
      regions = regions_length counts ∙ ap region_count as_many ∙ omega arith;
      counters = all_fit (regions_of counts) (λ k within. subst FitsU32 (sym (region_item counts k 0 (omega (arith, regions_length counts)))) (fit k));
    }
  where
    count_fits : (k : ℕ) → get_or counts k 0 < 2 ^ 32
    count_fits k =
        ⊎_elim
        (λ (there : k < length counts). omega (arith, count_in_region counts k there, fit (k / 64)))
        (λ (past : length counts ≤ k). let none : get_or counts k 0 ≡ 0 = get_or_past counts k 0 past in omega arith)
        (cases_lt k (length counts))
