-- The bytes of a map: one bit a place, the place p at bit p % 8 of the byte p / 8, the least bit first, 1 for allocated.
use Rattle.std.specs.Prelude.{◌≡◌, ℕ, ◌+◌, ◌*◌, ◌/◌, ◌%◌, Bool, List, [], ◌∷◌, length, take, drop, map, slice_index, Result, Ok, Err, ◌==◌, if◌then◌else◌}
use Rattle.std.specs.Int.{bit_at}
use Rattle.zc_num.specs.Words.{each}
use Rattle.zc_wire.specs.Fields.{Read, ◌>>=◌, bytes_field}
use Rattle.zc_wire.specs.declared.fault.CatalogFault.{CatalogFault}
use Rattle.zc_wire.specs.declared.fault.CatalogFault.TheVariants.{NoMemory, BadCatalog}
use Rattle.zc_spacemap.specs.declared.state.PlaceState.{PlaceState}
use Rattle.zc_spacemap.specs.declared.stored.StoredMap.{StoredMap}
use Rattle.zc_spacemap.specs.States.{is_kept}

-- the number with these bits, the least first
abbrev pub number_of : List Bool → ℕ
number_of [] = 0
number_of (bit ∷ bits) = (if bit then 1 else 0) + 2 * number_of bits

-- the byte k of a map
abbrev pub map_byte : List Bool → ℕ → ℕ
map_byte allocated k = number_of (take 8 (drop (8 * k) allocated))

-- the bytes of a map
unfoldable pub map_bytes : List Bool → List ℕ
map_bytes allocated = each (length allocated / 8) (map_byte allocated)

-- for each place whether it is allocated once the map is settled
abbrev pub kept_places : List PlaceState → List Bool
kept_places states = map is_kept states

-- whether the bytes say that the place is allocated
abbrev pub is_marked : List ℕ → ℕ → Bool
is_marked bytes place = bit_at (slice_index bytes (place / 8)) (place % 8) == 1

-- the map of so many places whose bytes these are
unfoldable pub map_of : ℕ → List ℕ → StoredMap
map_of places bytes = record { allocated = each places (is_marked bytes) }

-- the map of so many places, in one field
unfoldable pub map_field : ℕ → List ℕ → Read StoredMap
map_field places bytes = bytes_field (places / 8) bytes >>= λ front. Ok (map_of places front.0, front.1)

-- a reader answered this value, unless memory was wanting
abbrev pub IsRead : {X : Type 0} → X → Result X CatalogFault → Type 0
IsRead value (Ok read) = read ≡ value
IsRead value (Err NoMemory) = Unit {0}
IsRead value (Err (BadCatalog at)) = ⊥
