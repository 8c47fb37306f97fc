-- Where a late check hits nothing its fact holds everywhere, and the other way round.
use Rattle.std.proofs.Common.{◌≡◌, ◌∙◌, ℕ, ◌-◌, ◌*◌, ◌/◌, ◌<◌, ◌≤◌, Bool, true, false, not, eqb, eq-eqb, ltb, Option, Some, None, List, drop, refl, sym, ap, arith}
use Rattle.std.specs.List.{AllByRecursion}
use Rattle.std.proofs.lemmas.Bool.{eqb-true, ltb-false, le-ltb, not-false}
use Rattle.zc_num.specs.Limits.{total_of, data_places_of}
use Rattle.zc_num.specs.declared.numbers.PlaceAt.{PlaceAt}
use Rattle.zc_blkptr.specs.declared.ptr.Ptr.{Ptr}
use Rattle.zc_table.specs.declared.stored.StoredTable.{StoredTable}
use Rattle.zc_spacemap.specs.declared.stored.StoredMap.{StoredMap}
use Rattle.zc_tree.specs.declared.tree.Dataset.{Dataset}
use Rattle.zc_tree.specs.declared.tree.File.{File}
use Rattle.zc_tree.specs.declared.catalogue.Parts.{Parts}
use Rattle.zc_tree.specs.Reach.{pointers_of_tree}
use Rattle.zc_damage.specs.declared.damage.Hit.{Hit}
use Rattle.zc_damage.specs.Words.{or_else, when}
use Rattle.zc_damage.specs.Places.{extra_at, stored_count, stored_counter, is_allocated, is_owned}
use Rattle.zc_damage.specs.Checks.{last_block, last_pointer, if_not_zero, byte_after, tail_hit_with, tail_hit_in, tail_hit_of, tail_hit_among, tail_hit, count_hit, count_hit_at, region_extra, region_hit, region_hit_at, one_if, map_hit, map_hit_at, reached_places, charge_hit, late_hit}
use Rattle.zc_damage.specs.Passed.{HasZeroTail, PassesLate}
use Rattle.zc_damage.proofs.FirstLaws.{neither, none_of_both, none_of, of_none, none_from, from_none}
use Rattle.zc_damage.proofs.EarlyLaws.{when_none, none_when, each_weaker}

-- ---- tail

-- no byte after so many but zeros
pub zeros_after : (count : ℕ) (bytes : List ℕ) → byte_after count bytes ≡ None → AllByRecursion (λ byte. byte ≡ 0) (drop count bytes)
zeros_after count bytes none =
    each_weaker _ _ (λ byte passed. eqb-true byte 0 (not-false (eqb byte 0) (when_none (not (eqb byte 0)) byte passed))) (drop count bytes) (none_of if_not_zero (drop count bytes) none)

pub after_zeros : (count : ℕ) (bytes : List ℕ) → AllByRecursion (λ byte. byte ≡ 0) (drop count bytes) → byte_after count bytes ≡ None
after_zeros count bytes zeros =
    of_none if_not_zero (drop count bytes) (each_weaker _ _ (λ byte is. none_when (not (eqb byte 0)) byte (ap (λ (b : Bool). not b) (eq-eqb byte 0 is))) (drop count bytes) zeros)

-- of one file
pub file_tail : (bytes_at : ℕ → ℕ → List ℕ) (file : File) → tail_hit_of bytes_at file ≡ None → HasZeroTail bytes_at file
file_tail bytes_at file none ptr is =
    zeros_after (file.size - 4096 * last_block file.size) (bytes_at ptr.device ptr.place)
    (no_byte ptr (byte_after (file.size - 4096 * last_block file.size) (bytes_at ptr.device ptr.place)) (sym (ap (tail_hit_in bytes_at file.size) is) ∙ none))
  where
    no_byte : (ptr : Ptr) (byte : Option ℕ) → tail_hit_with ptr byte ≡ None → byte ≡ None
    no_byte ptr None none = refl
    no_byte ptr (Some byte) none = absurd cc

pub tail_file : (bytes_at : ℕ → ℕ → List ℕ) (file : File) → HasZeroTail bytes_at file → tail_hit_of bytes_at file ≡ None
tail_file bytes_at file zeros = at_last (last_pointer file) zeros
  where
    at_last : (last : Option Ptr) → ((ptr : Ptr) → last ≡ Some ptr → AllByRecursion (λ byte. byte ≡ 0) (drop (file.size - 4096 * last_block file.size) (bytes_at ptr.device ptr.place))) → tail_hit_in bytes_at file.size last ≡ None
    at_last None zeros = refl
    at_last (Some ptr) zeros = ap (tail_hit_with ptr) (after_zeros (file.size - 4096 * last_block file.size) (bytes_at ptr.device ptr.place) (zeros ptr refl))

pub tail_none : (bytes_at : ℕ → ℕ → List ℕ) (datasets : List Dataset) → tail_hit bytes_at datasets ≡ None → AllByRecursion (λ dataset. AllByRecursion (HasZeroTail bytes_at) dataset.files) datasets
tail_none bytes_at datasets none =
    each_weaker _ _ (λ dataset passed. each_weaker _ _ (λ file. file_tail bytes_at file) dataset.files (none_of (tail_hit_of bytes_at) dataset.files passed)) datasets
    (none_of (λ (dataset : Dataset). tail_hit_among bytes_at dataset.files) datasets none)

pub none_tail : (bytes_at : ℕ → ℕ → List ℕ) (datasets : List Dataset) → AllByRecursion (λ dataset. AllByRecursion (HasZeroTail bytes_at) dataset.files) datasets → tail_hit bytes_at datasets ≡ None
none_tail bytes_at datasets zeros =
    of_none (λ (dataset : Dataset). tail_hit_among bytes_at dataset.files) datasets
    (each_weaker _ _ (λ dataset all. of_none (tail_hit_of bytes_at) dataset.files (each_weaker _ _ (λ file. tail_file bytes_at file) dataset.files all)) datasets zeros)

-- ---- numbers that are compared

-- equal numbers are no hit, and where there is no hit they are equal
pub when_same : (kept found : ℕ) (hit : Hit) → when (not (eqb kept found)) hit ≡ None → kept ≡ found
when_same kept found hit none = eqb-true kept found (not-false (eqb kept found) (when_none (not (eqb kept found)) hit none))

pub same_when : (kept found : ℕ) (hit : Hit) → kept ≡ found → when (not (eqb kept found)) hit ≡ None
same_when kept found hit same = none_when (not (eqb kept found)) hit (ap (λ (b : Bool). not b) (eq-eqb kept found same))

-- ---- count

pub count_none : (devices places : ℕ) (tables : List StoredTable) (reach : List Ptr) → count_hit devices places tables reach ≡ None
    → (number : ℕ) → number < total_of devices places → stored_count places tables number ≡ extra_at places reach number
count_none devices places tables reach none number below =
    when_same (stored_count places tables number) (extra_at places reach number) _ (none_from (count_hit_at places tables reach) 0 (total_of devices places) none number (omega arith) (omega arith))

pub none_count : (devices places : ℕ) (tables : List StoredTable) (reach : List Ptr) → ((number : ℕ) → number < total_of devices places → stored_count places tables number ≡ extra_at places reach number)
    → count_hit devices places tables reach ≡ None
none_count devices places tables reach same =
    from_none (count_hit_at places tables reach) 0 (total_of devices places)
    (λ number from below. same_when (stored_count places tables number) (extra_at places reach number) _ (same number (omega arith)))

-- ---- region

pub region_none : (devices places : ℕ) (tables : List StoredTable) (reach : List Ptr) → region_hit devices places tables reach ≡ None
    → (region : ℕ) → region < total_of devices places / 64 → stored_counter places tables (64 * region) ≡ region_extra places reach region
region_none devices places tables reach none region below =
    when_same (stored_counter places tables (64 * region)) (region_extra places reach region) _
    (none_from (region_hit_at places tables reach) 0 (total_of devices places / 64) none region (omega arith) (omega arith))

pub none_region : (devices places : ℕ) (tables : List StoredTable) (reach : List Ptr) → ((region : ℕ) → region < total_of devices places / 64 → stored_counter places tables (64 * region) ≡ region_extra places reach region)
    → region_hit devices places tables reach ≡ None
none_region devices places tables reach same =
    from_none (region_hit_at places tables reach) 0 (total_of devices places / 64)
    (λ region from below. same_when (stored_counter places tables (64 * region)) (region_extra places reach region) _ (same region (omega arith)))

-- ---- map

-- tests that give one number are one
one_if_same : (a b : Bool) → one_if a ≡ one_if b → a ≡ b
one_if_same true true same = refl
one_if_same true false same = absurd (omega arith)
one_if_same false true same = absurd (omega arith)
one_if_same false false same = refl

pub map_none : (devices places : ℕ) (maps : List StoredMap) (chain : List PlaceAt) (reach : List Ptr) → map_hit devices places maps chain reach ≡ None
    → (number : ℕ) → number < total_of devices places → is_allocated places maps number ≡ is_owned devices places chain reach number
map_none devices places maps chain reach none number below =
    one_if_same (is_allocated places maps number) (is_owned devices places chain reach number)
    (when_same (one_if (is_allocated places maps number)) (one_if (is_owned devices places chain reach number)) _
    (none_from (map_hit_at devices places maps chain reach) 0 (total_of devices places) none number (omega arith) (omega arith)))

pub none_map : (devices places : ℕ) (maps : List StoredMap) (chain : List PlaceAt) (reach : List Ptr)
    → ((number : ℕ) → number < total_of devices places → is_allocated places maps number ≡ is_owned devices places chain reach number) → map_hit devices places maps chain reach ≡ None
none_map devices places maps chain reach same =
    from_none (map_hit_at devices places maps chain reach) 0 (total_of devices places)
    (λ number from below. same_when (one_if (is_allocated places maps number)) (one_if (is_owned devices places chain reach number)) _ (ap one_if (same number (omega arith))))

-- ---- charge

pub charge_none : (devices places group : ℕ) (reach : List Ptr) → charge_hit devices places group reach ≡ None → reached_places devices places reach ≤ data_places_of devices places
charge_none devices places group reach none =
    ltb-false (data_places_of devices places) (reached_places devices places reach) (when_none (ltb (data_places_of devices places) (reached_places devices places reach)) _ none)

pub none_charge : (devices places group : ℕ) (reach : List Ptr) → reached_places devices places reach ≤ data_places_of devices places → charge_hit devices places group reach ≡ None
none_charge devices places group reach few =
    none_when (ltb (data_places_of devices places) (reached_places devices places reach)) _ (le-ltb (data_places_of devices places) (reached_places devices places reach) few)

-- ---- all of them

pub late_none : (devices places : ℕ) (parts : Parts) (chain : List PlaceAt) (bytes_at : ℕ → ℕ → List ℕ) → late_hit devices places parts chain bytes_at ≡ None → PassesLate devices places parts chain bytes_at
late_none devices places parts chain bytes_at none =
    let reach = pointers_of_tree parts.tree in
    let charge : Option Hit = charge_hit devices places parts.tree.group reach in
    let map : Option Hit = map_hit devices places parts.maps chain reach in
    let region : Option Hit = region_hit devices places parts.tables reach in
    let count : Option Hit = count_hit devices places parts.tables reach in
    let first = neither (tail_hit bytes_at parts.tree.datasets) (or_else count (or_else region (or_else map charge))) none in
    let second = neither count (or_else region (or_else map charge)) first.1 in
    let third = neither region (or_else map charge) second.1 in
    let fourth = neither map charge third.1 in
    record {
      tails = tail_none bytes_at parts.tree.datasets first.0;
      counts = count_none devices places parts.tables reach second.0;
      regions = region_none devices places parts.tables reach third.0;
      maps = map_none devices places parts.maps chain reach fourth.0;
      charge = charge_none devices places parts.tree.group reach fourth.1;
    }

pub none_late : (devices places : ℕ) (parts : Parts) (chain : List PlaceAt) (bytes_at : ℕ → ℕ → List ℕ) → PassesLate devices places parts chain bytes_at → late_hit devices places parts chain bytes_at ≡ None
none_late devices places parts chain bytes_at passes =
    let reach = pointers_of_tree parts.tree in
    let charge : Option Hit = charge_hit devices places parts.tree.group reach in
    let map : Option Hit = map_hit devices places parts.maps chain reach in
    let region : Option Hit = region_hit devices places parts.tables reach in
    let count : Option Hit = count_hit devices places parts.tables reach in
    none_of_both (tail_hit bytes_at parts.tree.datasets) (or_else count (or_else region (or_else map charge))) (none_tail bytes_at parts.tree.datasets passes.tails)
    (none_of_both count (or_else region (or_else map charge)) (none_count devices places parts.tables reach passes.counts)
    (none_of_both region (or_else map charge) (none_region devices places parts.tables reach passes.regions)
    (none_of_both map charge (none_map devices places parts.maps chain reach passes.maps) (none_charge devices places parts.tree.group reach passes.charge))))
