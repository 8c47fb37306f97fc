-- The counts of all places of a pool in a row, as the entries of its tables are put there.
use Rattle.std.specs.Prelude.{ℕ, zero, suc, List, [], ◌∷◌, Option, Some, None, nat_lt, slice_get, slice_set, if◌then◌else◌}
use Rattle.zc_table.specs.declared.stored.StoredCount.{StoredCount}
use Rattle.zc_table.specs.declared.stored.StoredTable.{StoredTable}
use Rattle.zc_damage.specs.Places.{number_of}

-- the counts with that of the entry at its place of the device, where the device has the place
abbrev pub with_entry : (places device : ℕ) → StoredCount → List ℕ → List ℕ
with_entry places device entry counts = if nat_lt entry.place places then slice_set counts (number_of places device entry.place) entry.count else counts

-- the counts with those of the entries; of two entries for one place the first counts
abbrev pub with_entries : (places device : ℕ) → List StoredCount → List ℕ → List ℕ
with_entries places device [] counts = counts
with_entries places device (entry ∷ entries) counts = with_entry places device entry (with_entries places device entries counts)

-- the counts with those of a table that is there or not
abbrev pub with_table : (places device : ℕ) → Option StoredTable → List ℕ → List ℕ
with_table places device None counts = counts
with_table places device (Some table) counts = with_entries places device table.entries counts

-- the counts with those of the tables of the first devices
unfoldable pub with_tables : (places : ℕ) → List StoredTable → (devices : ℕ) → List ℕ → List ℕ
with_tables places tables zero counts = counts
with_tables places tables (suc device) counts = with_table places device (slice_get tables device) (with_tables places tables device counts)
