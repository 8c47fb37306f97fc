-- The bytes of a table in a catalogue, which tables may stand there, and how one is read from the front of bytes.
use Rattle.std.specs.Prelude.{◌≡◌, ℕ, zero, suc, ◌+◌, ◌/◌, ◌^◌, ◌<◌, ◌≤◌, ◌&&◌, not, nat_lt, nat_le, Bool, List, [], ◌∷◌, ◌++◌, length, Ok}
use Rattle.std.specs.List.{flat_map, AllByRecursion}
use Rattle.zc_num.specs.Limits.{IsFixed, is_fixed}
use Rattle.zc_wire.specs.Numbers.{u32_bytes}
use Rattle.zc_wire.specs.Fields.{Read, ◌>>=◌, u32_field, rule}
use Rattle.zc_table.specs.declared.stored.StoredCount.{StoredCount}
use Rattle.zc_table.specs.declared.stored.StoredTable.{StoredTable}

-- the bytes of an entry: place, count
unfoldable pub entry_bytes : StoredCount → List ℕ
entry_bytes entry = u32_bytes entry.place ++ u32_bytes entry.count

-- the bytes of a table: the number of its entries, the entries, the counter of each region
unfoldable pub table_bytes : StoredTable → List ℕ
table_bytes table = u32_bytes (length table.entries) ++ (flat_map entry_bytes table.entries ++ flat_map u32_bytes table.regions)

-- an entry may stand where the places before `least` are done: its place is there on the device and is no fixed one, and its
-- count is a number of 32 bits that isn't 0
pub record IsEntry (devices places device least : ℕ) (entry : StoredCount) : Type 0 where
  pub above : least ≤ entry.place
  pub in_places : entry.place < places
  pub not_fixed : ¬ IsFixed devices places device entry.place
  pub counted : 1 ≤ entry.count
  pub fits : entry.count < 2 ^ 32

-- entries may stand there, ascending by place
abbrev pub AreEntries : (devices places device least : ℕ) → List StoredCount → Type 0
AreEntries devices places device least [] = Unit {0}
AreEntries devices places device least (entry ∷ entries) =
    IsEntry devices places device least entry × AreEntries devices places device (entry.place + 1) entries

-- a table of a device may stand in the catalogue of a pool of this size; its counters need not be the sums
pub record IsTable (devices places device : ℕ) (table : StoredTable) : Type 0 where
  pub entries : AreEntries devices places device 0 table.entries
  pub regions : length table.regions ≡ places / 64
  pub counters : AllByRecursion (λ counter. counter < 2 ^ 32) table.regions

-- an entry of this place may come where the places before `least` are done
abbrev pub is_next : (devices places device least place : ℕ) → Bool
is_next devices places device least place = nat_le least place && (nat_lt place places && not (is_fixed devices places device place))

-- the entry at the front
unfoldable pub entry_field : (devices places device least : ℕ) → List ℕ → Read StoredCount
entry_field devices places device least bytes = do
  place ← u32_field bytes
  _ ← rule (is_next devices places device least place.0) bytes
  count ← u32_field place.1
  _ ← rule (nat_lt 0 count.0) place.1
  Ok (record { place = place.0; count = count.0 }, count.1)

-- so many entries
unfoldable pub entries_field : (devices places device number least : ℕ) → List ℕ → Read (List StoredCount)
entries_field devices places device zero least bytes = Ok ([], bytes)
entries_field devices places device (suc number) least bytes = do
  first ← entry_field devices places device least bytes
  others ← entries_field devices places device number (first.0.place + 1) first.1
  Ok (first.0 ∷ others.0, others.1)

-- so many counters
unfoldable pub counters_field : ℕ → List ℕ → Read (List ℕ)
counters_field zero bytes = Ok ([], bytes)
counters_field (suc number) bytes = do
  first ← u32_field bytes
  others ← counters_field number first.1
  Ok (first.0 ∷ others.0, others.1)

-- the table of the device
unfoldable pub table_field : (devices places device : ℕ) → List ℕ → Read StoredTable
table_field devices places device bytes = do
  number ← u32_field bytes
  entries ← entries_field devices places device number.0 0 number.1
  regions ← counters_field (places / 64) entries.1
  Ok (record { entries = entries.0; regions = regions.0 }, regions.1)
