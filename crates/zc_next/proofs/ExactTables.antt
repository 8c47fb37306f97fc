-- Exact tables: they have for each place and each region what the checks look for, and a catalogue may have them.
use Rattle.std.proofs.Common.{◌≡◌, ◌∙◌, ℕ, suc, ◌+◌, ◌*◌, ◌/◌, ◌%◌, ◌^◌, ◌<◌, ◌≤◌, List, [], ◌∷◌, length, map, get_or, sum, slice_get, Some, None, sym, ap, subst, ⊎_elim, zero-add, arith}
use Rattle.std.proofs.Math.Nat.{mod-lt}
use Rattle.std.proofs.lemmas.Bool.{cases_lt}
use Rattle.std.proofs.lemmas.List.{get_or_past}
use Rattle.std.proofs.lemmas.Nat.{div_below, div-add-mod'}
use Rattle.zc_num.specs.Words.{each}
use Rattle.zc_num.specs.Limits.{AreLimits, total_of}
use Rattle.zc_num.proofs.Each.{length_each, item_of_each, get_of_each, map_each, each_same}
use Rattle.zc_blkptr.specs.declared.ptr.Ptr.{Ptr}
use Rattle.zc_table.specs.declared.stored.StoredTable.{StoredTable}
use Rattle.zc_table.specs.Counts.{region_at, stored_of}
use Rattle.zc_table.specs.TableBytes.{IsTable}
use Rattle.zc_table.proofs.TableLaws.{stored_is_table}
use Rattle.zc_tree.specs.Catalogue.{AreTables}
use Rattle.zc_damage.specs.Places.{extra_at, count_of, counter_of, stored_count, stored_counter}
use Rattle.zc_damage.specs.Checks.{region_extra, count_hit, region_hit}
use Rattle.zc_damage.proofs.LateLaws.{none_count, none_region}
use Rattle.zc_damage.proofs.PlaceNumbers.{some_places}
use Rattle.zc_state.proofs.Pointers.{ArePtrs}
use Rattle.zc_next.specs.Exact.{exact_counts}
use Rattle.zc_next.proofs.EntryCounts.{count_in_entries, counter_is, region_of_each, region_past}
use Rattle.zc_next.proofs.PointerSums.{extra_in_row, fixed_extra}

-- the counts of one device
abbrev pub counts_on : (places device : ℕ) → List Ptr → List ℕ
counts_on places device reach = each places (λ place. extra_at places reach (device * places + place))

-- the tables of the devices, one by one
abbrev pub exact_tables : (devices places : ℕ) → List Ptr → List StoredTable
exact_tables devices places reach = map stored_of (exact_counts devices places reach)

pub tables_are : (devices places : ℕ) (reach : List Ptr) → exact_tables devices places reach ≡ each devices (λ device. stored_of (counts_on places device reach))
tables_are devices places reach = map_each stored_of devices (λ device. counts_on places device reach)

-- the table of a device that is there
pub table_at : (devices places device : ℕ) (reach : List Ptr) → device < devices → slice_get (exact_tables devices places reach) device ≡ Some (stored_of (counts_on places device reach))
table_at devices places device reach on_device =
    ap (λ (tables : List StoredTable). slice_get tables device) (tables_are devices places reach) ∙ get_of_each devices (λ device. stored_of (counts_on places device reach)) device on_device

-- there is one for each device
pub tables_length : (devices places : ℕ) (reach : List Ptr) → length (exact_tables devices places reach) ≡ devices
tables_length devices places reach = ap length (tables_are devices places reach) ∙ length_each devices (λ device. stored_of (counts_on places device reach))

-- ---- counts

-- each place has its count
pub count_is : (devices places : ℕ) (reach : List Ptr) (number : ℕ) → 0 < places → number < total_of devices places → stored_count places (exact_tables devices places reach) number ≡ extra_at places reach number
count_is devices places reach number some within =
    let device : ℕ = number / places in
    let place : ℕ = number % places in
    let whole : device * places + place ≡ number = div-add-mod' number places in
    ap (λ table. count_of table place) (table_at devices places device reach (div_below number places devices some within))
    ∙ count_in_entries (counts_on places device reach) place
    ∙ item_of_each places (λ p. extra_at places reach (device * places + p)) place 0 (mod-lt number some)
    ∙ ap (extra_at places reach) whole

-- so none is wrong
pub no_count_hit : (devices places : ℕ) (reach : List Ptr) → AreLimits devices places → count_hit devices places (exact_tables devices places reach) reach ≡ None
no_count_hit devices places reach limits =
    none_count devices places (exact_tables devices places reach) reach (λ number within. count_is devices places reach number (some_places devices places limits) within)

-- ---- regions

-- where a region of the pool lies: in one device
record RegionLies (devices places region : ℕ) : Type 0 where
  on_device : 64 * region / places < devices
  within : 64 * (64 * region % places / 64) + 64 ≤ places
  whole : 64 * region / places * places + 64 * (64 * region % places / 64) ≡ 64 * region

-- devices have whole regions
no_straddling : (devices places region : ℕ) → AreLimits devices places → region < total_of devices places / 64 → RegionLies devices places region
no_straddling devices places region limits below =
    let some : 0 < places = some_places devices places limits in
    let number : ℕ = 64 * region in
    let device : ℕ = number / places in
    let place : ℕ = number % places in
    let parts : ℕ = places / 64 in
    let regions : places ≡ 64 * parts = omega (arith, limits.whole_regions) in
    let split : device * places + place ≡ number = div-add-mod' number places in
    let front : device * places ≡ 64 * (device * parts) = ap (λ (n : ℕ). device * n) regions ∙ regroup device parts in
    let start : 64 * (place / 64) ≡ place = omega (arith, split, front) in
    let near : place < places = mod-lt number some in
    record {
      on_device = div_below number places devices some (omega arith);
      within = omega (arith, near, start, regions);
      whole = ap (λ (p : ℕ). device * places + p) start ∙ split;
    }
  where
    regroup : (d p : ℕ) → d * (64 * p) ≡ 64 * (d * p)
    regroup d p = omega arith

-- each region has its sum
pub counter_of_region : (devices places : ℕ) (reach : List Ptr) (region : ℕ) → AreLimits devices places → region < total_of devices places / 64
    → stored_counter places (exact_tables devices places reach) (64 * region) ≡ region_extra places reach region
counter_of_region devices places reach region limits below =
    let lies = no_straddling devices places region limits below in
    let device : ℕ = 64 * region / places in
    let own : ℕ = 64 * region % places / 64 in
    let counts : List ℕ = counts_on places device reach in
    let long : length counts ≡ places = length_each places (λ p. extra_at places reach (device * places + p)) in
    ap (λ table. counter_of table own) (table_at devices places device reach lies.on_device)
    ∙ counter_is counts own (omega (arith, long, lies.within))
    ∙ region_of_each places (λ p. extra_at places reach (device * places + p)) own lies.within
    ∙ ap sum (each_same 64 (λ k. extra_at places reach (device * places + (64 * own + k))) (λ k. extra_at places reach (64 * region + k))
    (λ k within. ap (extra_at places reach) (omega (arith, lies.whole))))

-- so none is wrong
pub no_region_hit : (devices places : ℕ) (reach : List Ptr) → AreLimits devices places → region_hit devices places (exact_tables devices places reach) reach ≡ None
no_region_hit devices places reach limits = none_region devices places (exact_tables devices places reach) reach (λ region below. counter_of_region devices places reach region limits below)

-- ---- a catalogue may have them

-- no region has more extra pointers than there are pointers
pub region_few : (places device : ℕ) (reach : List Ptr) (region : ℕ) → places % 64 ≡ 0 → region_at (counts_on places device reach) region ≤ length reach
region_few places device reach region whole =
    ⊎_elim
    (λ (there : 64 * region < places).
    let from : ℕ = device * places + 64 * region in
    let row : region_at (counts_on places device reach) region ≡ sum (each 64 (λ k. extra_at places reach (from + k))) =
    region_of_each places (λ p. extra_at places reach (device * places + p)) region (omega arith)
    ∙ ap sum (each_same 64 (λ k. extra_at places reach (device * places + (64 * region + k))) (λ k. extra_at places reach (from + k)) (λ k within. ap (extra_at places reach) (omega arith))) in
    omega (arith, row, extra_in_row places reach from 64))
    (λ (past : places ≤ 64 * region).
    omega (arith, region_past (counts_on places device reach) region (omega (arith, length_each places (λ p. extra_at places reach (device * places + p))))))
    (cases_lt (64 * region) places)

-- the table of one device
pub is_exact_table : (devices places device : ℕ) (reach : List Ptr) → AreLimits devices places → ArePtrs devices places reach → length reach < 2 ^ 32 → IsTable devices places device (stored_of (counts_on places device reach))
is_exact_table devices places device reach limits fits few =
    let f : ℕ → ℕ = λ place. extra_at places reach (device * places + place) in
    let whole : places % 64 ≡ 0 = omega (arith, limits.whole_regions) in
    let long : length (counts_on places device reach) ≡ places = length_each places f in
    stored_is_table devices places device (counts_on places device reach) whole long
    (λ region. omega (arith, region_few places device reach region whole))
    (λ place fixed.
    ⊎_elim
    (λ (there : place < places). item_of_each places f place 0 there ∙ fixed_extra devices places device place reach fits there fixed)
    (λ (past : places ≤ place). get_or_past (counts_on places device reach) place 0 (omega arith))
    (cases_lt place places))

-- tables one by one, from a device on
tables_from : (devices places first : ℕ) (tables : List StoredTable) (d : StoredTable) → ((k : ℕ) → k < length tables → IsTable devices places (first + k) (get_or tables k d)) → AreTables devices places first tables
tables_from devices places first [] d each = tt
tables_from devices places first (table ∷ tables) d each = (
  subst (λ (device : ℕ). IsTable devices places device table) (omega arith) (each 0 (omega arith)),
  tables_from devices places (first + 1) tables d (λ k within. subst (λ (device : ℕ). IsTable devices places device (get_or tables k d)) (omega arith) (each (suc k) (omega arith))),
)

-- all of them
pub are_exact_tables : (devices places : ℕ) (reach : List Ptr) → AreLimits devices places → ArePtrs devices places reach → length reach < 2 ^ 32 → AreTables devices places 0 (exact_tables devices places reach)
are_exact_tables devices places reach limits fits few =
    let none : StoredTable = stored_of [] in
    tables_from devices places 0 (exact_tables devices places reach) none (λ k within.
    let below : k < devices = omega (arith, tables_length devices places reach) in
    let item : get_or (exact_tables devices places reach) k none ≡ stored_of (counts_on places k reach) =
    ap (λ (tables : List StoredTable). get_or tables k none) (tables_are devices places reach) ∙ item_of_each devices (λ device. stored_of (counts_on places device reach)) k none below in
    subst (λ (device : ℕ). IsTable devices places device (get_or (exact_tables devices places reach) k none)) (sym (zero-add k)) (subst (IsTable devices places k) (sym item) (is_exact_table devices places k reach limits fits few)))
