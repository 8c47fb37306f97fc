-- The counts of a table, one for each place of its device, and what follows from them.
use Rattle.std.specs.Prelude.{ℕ, ◌+◌, ◌*◌, ◌/◌, ◌==◌, List, [], ◌∷◌, length, take, drop, sum, count_by, nat_lt, if◌then◌else◌}
use Rattle.zc_num.specs.Words.{each}
use Rattle.zc_table.specs.declared.stored.StoredCount.{StoredCount}
use Rattle.zc_table.specs.declared.stored.StoredTable.{StoredTable}

-- the sum of the counts of the region of this number, which has the 64 places from 64 times the number on
unfoldable pub region_at : List ℕ → ℕ → ℕ
region_at counts region = sum (take 64 (drop (64 * region) counts))

-- the sum of the counts of the region that a place lies in
abbrev pub region_sum : List ℕ → ℕ → ℕ
region_sum counts place = region_at counts (place / 64)

-- the number of regions, of which the last may have fewer places
abbrev pub region_count : ℕ → ℕ
region_count places = (places + 63) / 64

-- the sum of each region
unfoldable pub regions_of : List ℕ → List ℕ
regions_of counts = each (region_count (length counts)) (region_at counts)

-- how many places have an entry
abbrev pub used_of : List ℕ → ℕ
used_of counts = count_by (λ count. nat_lt 0 count) counts

-- all references that the counts stand for
abbrev pub saved_of : List ℕ → ℕ
saved_of counts = sum counts

-- the entries of counts of which the first is that of `place`: the places whose count isn't 0
unfoldable pub entries_from : ℕ → List ℕ → List StoredCount
entries_from place [] = []
entries_from place (count ∷ counts) =
    if count == 0 then entries_from (place + 1) counts else record { place = place; count = count } ∷ entries_from (place + 1) counts

-- the entries of the n places from `first` on
abbrev pub entries_in : List ℕ → ℕ → ℕ → List StoredCount
entries_in counts first n = entries_from first (take n (drop first counts))

-- the entries and the sums of the regions, as a catalogue has them
abbrev pub stored_of : List ℕ → StoredTable
stored_of counts = record { entries = entries_from 0 counts; regions = regions_of counts }
