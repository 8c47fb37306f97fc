-- The counts of all places in a row are what the tables have for each place.
use Rattle.std.proofs.Common.{◌≡◌, ◌≢◌, ◌∙◌, ℕ, zero, suc, ◌+◌, ◌*◌, ◌/◌, ◌%◌, ◌<◌, ◌≤◌, ◌⊎◌, Bool, true, false, cond, eqb, eq-eqb, ltb, List, [], ◌∷◌, ◌++◌, length, get_or, take, drop, replicate, slice_get, Option, Some, None, refl, sym, ap, ⊎_elim, true≢false, add-one, arith}
use Rattle.std.proofs.Math.ListN.{set}
use Rattle.std.proofs.lemmas.Bool.{cases_Bool, cases_order, lt-ltb, ltb-true, eqb-true}
use Rattle.std.proofs.lemmas.List.{length-set, get_or-set_same, get_or-set_other, get_or-replicate, length-replicate, drop_all, take_all, append-nil}
use Rattle.std.proofs.lemmas.Nat.{div-mul-add, mod-mul-add, div-add-mod', div_below}
use Rattle.std.proofs.Math.Nat.{mod-lt}
use Rattle.zc_num.specs.Words.{each}
use Rattle.zc_num.specs.Limits.{total_of}
use Rattle.zc_num.proofs.Each.{each_from_items, item_of_each}
use Rattle.zc_table.specs.declared.stored.StoredCount.{StoredCount}
use Rattle.zc_table.specs.declared.stored.StoredTable.{StoredTable}
use Rattle.zc_damage.specs.Places.{number_of, count_in, count_of, stored_count}
use Rattle.zc_damage.specs.Spread.{with_entry, with_entries, with_table, with_tables}

-- ---- one device

-- as many counts as before
entry_length : (places device : ℕ) (entry : StoredCount) (counts : List ℕ) → length (with_entry places device entry counts) ≡ length counts
entry_length places device entry counts =
    ⊎_elim
    (λ (is : ltb entry.place places ≡ true). ap (λ (b : Bool). length (cond b (set counts (number_of places device entry.place) entry.count) counts)) is ∙ length-set counts (number_of places device entry.place) entry.count)
    (λ (not : ltb entry.place places ≡ false). ap (λ (b : Bool). length (cond b (set counts (number_of places device entry.place) entry.count) counts)) not)
    (cases_Bool (ltb entry.place places))

pub entries_length : (places device : ℕ) (entries : List StoredCount) (counts : List ℕ) → length (with_entries places device entries counts) ≡ length counts
entries_length places device [] counts = refl
entries_length places device (entry ∷ entries) counts = entry_length places device entry (with_entries places device entries counts) ∙ entries_length places device entries counts

pub table_length : (places device : ℕ) (table : Option StoredTable) (counts : List ℕ) → length (with_table places device table counts) ≡ length counts
table_length places device None counts = refl
table_length places device (Some table) counts = entries_length places device table.entries counts

-- the place of an entry gets its count
entry_here : (places device : ℕ) (entry : StoredCount) (counts : List ℕ) (number : ℕ) → 0 < places → number / places ≡ device → number < length counts → entry.place ≡ number % places → get_or (with_entry places device entry counts) number 0 ≡ entry.count
entry_here places device entry counts number some on_device within is =
    let there : ltb entry.place places ≡ true = lt-ltb entry.place places (omega (arith, mod-lt number some)) in
    let whole : number_of places device entry.place ≡ number = ap (λ (d : ℕ). d * places + entry.place) (sym on_device) ∙ ap (λ (p : ℕ). number / places * places + p) is ∙ div-add-mod' number places in
    ap (λ (b : Bool). get_or (cond b (set counts (number_of places device entry.place) entry.count) counts) number 0) there
    ∙ ap (λ (k : ℕ). get_or (set counts k entry.count) number 0) whole
    ∙ get_or-set_same counts number entry.count 0 within

-- any other place keeps its count
entry_elsewhere : (places device : ℕ) (entry : StoredCount) (counts : List ℕ) (number : ℕ) → (entry.place < places → number ≢ number_of places device entry.place) → get_or (with_entry places device entry counts) number 0 ≡ get_or counts number 0
entry_elsewhere places device entry counts number other =
    ⊎_elim
    (λ (is : ltb entry.place places ≡ true).
    ap (λ (b : Bool). get_or (cond b (set counts (number_of places device entry.place) entry.count) counts) number 0) is
    ∙ get_or-set_other counts (number_of places device entry.place) number entry.count 0 (other (ltb-true entry.place places is)))
    (λ (not : ltb entry.place places ≡ false). ap (λ (b : Bool). get_or (cond b (set counts (number_of places device entry.place) entry.count) counts) number 0) not)
    (cases_Bool (ltb entry.place places))

-- a place of the device has the count of its first entry
pub entries_here : (places device : ℕ) (entries : List StoredCount) (counts : List ℕ) (number : ℕ) → 0 < places → number / places ≡ device → number < length counts → get_or counts number 0 ≡ 0
    → get_or (with_entries places device entries counts) number 0 ≡ count_in entries (number % places)
entries_here places device [] counts number some on_device within none = none
entries_here places device (entry ∷ entries) counts number some on_device within none =
    let rest : List ℕ = with_entries places device entries counts in
    let inside : number < length rest = omega (arith, entries_length places device entries counts) in
    ⊎_elim
    (λ (is : eqb entry.place (number % places) ≡ true).
    entry_here places device entry rest number some on_device inside (eqb-true entry.place (number % places) is)
    ∙ sym (ap (λ (b : Bool). cond b entry.count (count_in entries (number % places))) is))
    (λ (not : eqb entry.place (number % places) ≡ false).
    entry_elsewhere places device entry rest number
    (λ there same. absurd (apart entry.place (number % places) not (sym (mod-mul-add device places entry.place there) ∙ ap (λ (k : ℕ). k % places) (sym same))))
    ∙ entries_here places device entries counts number some on_device within none
    ∙ sym (ap (λ (b : Bool). cond b entry.count (count_in entries (number % places))) not))
    (cases_Bool (eqb entry.place (number % places)))
  where
    apart : (a b : ℕ) → eqb a b ≡ false → a ≡ b → ⊥
    apart a b not same = true≢false (sym (eq-eqb a b same) ∙ not)

-- a place of another device keeps its count
pub entries_elsewhere : (places device : ℕ) (entries : List StoredCount) (counts : List ℕ) (number : ℕ) → number / places ≢ device → get_or (with_entries places device entries counts) number 0 ≡ get_or counts number 0
entries_elsewhere places device [] counts number other = refl
entries_elsewhere places device (entry ∷ entries) counts number other =
    entry_elsewhere places device entry (with_entries places device entries counts) number
    (λ there same. other (ap (λ (k : ℕ). k / places) same ∙ div-mul-add device places entry.place there))
    ∙ entries_elsewhere places device entries counts number other

-- the same of a table that is there or not
table_here : (places device : ℕ) (table : Option StoredTable) (counts : List ℕ) (number : ℕ) → 0 < places → number / places ≡ device → number < length counts → get_or counts number 0 ≡ 0
    → get_or (with_table places device table counts) number 0 ≡ count_of table (number % places)
table_here places device None counts number some on_device within none = none
table_here places device (Some table) counts number some on_device within none = entries_here places device table.entries counts number some on_device within none

table_elsewhere : (places device : ℕ) (table : Option StoredTable) (counts : List ℕ) (number : ℕ) → number / places ≢ device → get_or (with_table places device table counts) number 0 ≡ get_or counts number 0
table_elsewhere places device None counts number other = refl
table_elsewhere places device (Some table) counts number other = entries_elsewhere places device table.entries counts number other

-- ---- all devices

-- of no device
pub no_tables : (places : ℕ) (tables : List StoredTable) (counts : List ℕ) → with_tables places tables 0 counts ≡ counts
unfolding with_tables
no_tables places tables counts = refl

-- of one device more
pub more_tables : (places : ℕ) (tables : List StoredTable) (device : ℕ) (counts : List ℕ) → with_tables places tables (device + 1) counts ≡ with_table places device (slice_get tables device) (with_tables places tables device counts)
unfolding with_tables
more_tables places tables device counts = rw add-one refl

-- as many counts as before
pub tables_length : (places : ℕ) (tables : List StoredTable) (devices : ℕ) (counts : List ℕ) → length (with_tables places tables devices counts) ≡ length counts
unfolding with_tables
tables_length places tables zero counts = refl
tables_length places tables (suc device) counts = table_length places device (slice_get tables device) (with_tables places tables device counts) ∙ tables_length places tables device counts

-- a place of a device that is yet to come keeps its count
pub tables_before : (places : ℕ) (tables : List StoredTable) (devices : ℕ) (counts : List ℕ) (number : ℕ) → devices ≤ number / places → get_or (with_tables places tables devices counts) number 0 ≡ get_or counts number 0
unfolding with_tables
tables_before places tables zero counts number later = refl
tables_before places tables (suc device) counts number later =
    table_elsewhere places device (slice_get tables device) (with_tables places tables device counts) number (λ same. absurd (omega arith))
    ∙ tables_before places tables device counts number (omega arith)

-- a place of one of the devices has the count that the tables have for it
pub tables_here : (places : ℕ) (tables : List StoredTable) (devices : ℕ) (counts : List ℕ) (number : ℕ) → 0 < places → number / places < devices → number < length counts → get_or counts number 0 ≡ 0
    → get_or (with_tables places tables devices counts) number 0 ≡ stored_count places tables number
unfolding with_tables
tables_here places tables zero counts number some on_device within none = absurd (omega arith)
tables_here places tables (suc device) counts number some on_device within none =
    let before : List ℕ = with_tables places tables device counts in
    let inside : number < length before = omega (arith, tables_length places tables device counts) in
    ⊎_elim
    (λ (same : number / places ≡ device).
    table_here places device (slice_get tables device) before number some same inside (tables_before places tables device counts number (omega arith) ∙ none)
    ∙ ap (λ (d : ℕ). count_of (slice_get tables d) (number % places)) (sym same))
    (λ (apart : (number / places < device) ⊎ (device < number / places)).
    ⊎_elim
    (λ (less : number / places < device).
    table_elsewhere places device (slice_get tables device) before number (λ same. absurd (omega arith)) ∙ tables_here places tables device counts number some less within none)
    (λ (more : device < number / places). absurd (omega arith)) apart)
    (cases_order (number / places) device)

-- put over zeros, the counts are what the tables have for each place
pub all_tables : (devices places : ℕ) (tables : List StoredTable) → 0 < places → with_tables places tables devices (replicate (total_of devices places) 0) ≡ each (total_of devices places) (stored_count places tables)
all_tables devices places tables some =
    let zeros : List ℕ = replicate (total_of devices places) 0 in
    each_from_items (stored_count places tables) (with_tables places tables devices zeros) (total_of devices places) 0
    (tables_length places tables devices zeros ∙ length-replicate {A = ℕ} (total_of devices places) 0)
    (λ number within.
    tables_here places tables devices zeros number some (div_below number places devices some within) (omega (arith, length-replicate {A = ℕ} (total_of devices places) 0))
    (get_or-replicate {A = ℕ} (total_of devices places) number 0 0 within))

-- ---- read

-- the count that was read of a place is what the tables have for it
pub count_read : (devices places : ℕ) (tables : List StoredTable) (counts : List ℕ) (number count : ℕ) → counts ≡ each (total_of devices places) (stored_count places tables) → number < total_of devices places
    → count ≡ get_or counts number count → count ≡ stored_count places tables number
count_read devices places tables counts number count are within is =
    is ∙ ap (λ (all : List ℕ). get_or all number count) are ∙ item_of_each (total_of devices places) (stored_count places tables) number count within

-- a list that is written over another of its length is there alone
pub over_whole : (old new : List ℕ) (n : ℕ) → n ≡ length old → length new ≡ length old → take n (new ++ drop (length new) old) ≡ new
over_whole old new n whole as_long =
    ap (λ (rest : List ℕ). take n (new ++ rest)) (drop_all (length new) old (omega arith)) ∙ ap (take n) (append-nil new) ∙ take_all n new (omega arith)
