-- What points to a place, and who owns it. The places of a pool are counted device by device: place p of device d, where each has
-- `places` of them, is number d * places + p.
use Rattle.std.specs.Prelude.{ℕ, ◌+◌, ◌-◌, ◌*◌, ◌/◌, ◌%◌, ◌<◌, ◌==◌, ◌||◌, ◌&&◌, Bool, false, List, [], ◌∷◌, length, filter, map, Option, Some, None, slice_get, if◌then◌else◌}
use Rattle.std.specs.List.{All, list_any}
use Rattle.zc_num.specs.Limits.{is_fixed}
use Rattle.zc_num.specs.declared.numbers.PlaceAt.{PlaceAt}
use Rattle.zc_blkptr.specs.declared.ptr.Ptr.{Ptr}
use Rattle.zc_table.specs.declared.stored.StoredCount.{StoredCount}
use Rattle.zc_table.specs.declared.stored.StoredTable.{StoredTable}
use Rattle.zc_spacemap.specs.declared.stored.StoredMap.{StoredMap}
use Rattle.zc_damage.specs.declared.block.FoundBlock.{FoundBlock}

-- the number of a place
abbrev pub number_of : (places device place : ℕ) → ℕ
number_of places device place = device * places + place

-- the pointer is to the place with this number
abbrev pub is_to : (places number : ℕ) → Ptr → Bool
is_to places number ptr = number_of places ptr.device ptr.place == number

-- the pointers to the place, in the order of the reach
abbrev pub pointers_to : (places : ℕ) → List Ptr → ℕ → List Ptr
pointers_to places reach number = filter (is_to places number) reach

-- a block stands at the place: some pointer is to it
abbrev pub is_reached : (places : ℕ) → List Ptr → ℕ → Bool
is_reached places reach number = list_any (is_to places number) reach

-- how many pointers to the place there are besides the first
abbrev pub extra_at : (places : ℕ) → List Ptr → ℕ → ℕ
extra_at places reach number = length (pointers_to places reach number) - 1

-- the part of the catalogue is at the place with this number
abbrev pub is_at : (places number : ℕ) → PlaceAt → Bool
is_at places number at = number_of places at.device at.place == number

-- the catalogue has the place
abbrev pub chain_has : (places : ℕ) → List PlaceAt → ℕ → Bool
chain_has places chain number = list_any (is_at places number) chain

-- the place is owned: a block stands there, or a part of the catalogue, or it is a fixed place
abbrev pub is_owned : (devices places : ℕ) → List PlaceAt → List Ptr → ℕ → Bool
is_owned devices places chain reach number =
    is_reached places reach number || (chain_has places chain number || is_fixed devices places (number / places) (number % places))

-- a pool of this size has the place
abbrev pub IsPlace : (devices places device place : ℕ) → Type 0
IsPlace devices places device place = (device < devices) × (place < places)

-- it has the place of each pointer
abbrev pub ReachPlaces : (devices places : ℕ) → List Ptr → Type 0
ReachPlaces devices places reach = All (λ ptr. IsPlace devices places ptr.device ptr.place) reach

-- it has each place of the catalogue
abbrev pub ChainPlaces : (devices places : ℕ) → List PlaceAt → Type 0
ChainPlaces devices places chain = All (λ at. IsPlace devices places at.device at.place) chain

-- ---- what tables and maps say of a place

-- the count of the entry for the place, 0 where there is none
abbrev pub count_in : List StoredCount → ℕ → ℕ
count_in [] place = 0
count_in (entry ∷ entries) place = if entry.place == place then entry.count else count_in entries place

-- the count of a table that is there or not
abbrev pub count_of : Option StoredTable → ℕ → ℕ
count_of None place = 0
count_of (Some table) place = count_in table.entries place

-- the count that the tables have for the place with this number
abbrev pub stored_count : (places : ℕ) → List StoredTable → ℕ → ℕ
stored_count places tables number = count_of (slice_get tables (number / places)) (number % places)

-- a counter that is there, or 0
abbrev pub or_zero : Option ℕ → ℕ
or_zero None = 0
or_zero (Some counter) = counter

-- the counter of a region of a table that is there or not
abbrev pub counter_of : Option StoredTable → ℕ → ℕ
counter_of None region = 0
counter_of (Some table) region = or_zero (slice_get table.regions region)

-- the counter that the tables have for the region of 64 places that begins with this number
abbrev pub stored_counter : (places : ℕ) → List StoredTable → ℕ → ℕ
stored_counter places tables number = counter_of (slice_get tables (number / places)) (number % places / 64)

-- a bit that is there and set
abbrev pub is_set : Option Bool → Bool
is_set None = false
is_set (Some bit) = bit

-- a map that is there says that the place is allocated
abbrev pub is_allocated_in : Option StoredMap → ℕ → Bool
is_allocated_in None place = false
is_allocated_in (Some stored) place = is_set (slice_get stored.allocated place)

-- the maps say that the place with this number is allocated
abbrev pub is_allocated : (places : ℕ) → List StoredMap → ℕ → Bool
is_allocated places maps number = is_allocated_in (slice_get maps (number / places)) (number % places)

-- ---- blocks

-- the block is at the place
abbrev pub is_block_at : ℕ → ℕ → FoundBlock → Bool
is_block_at device place block = block.device == device && block.place == place

-- the bytes of a block that is there, and else none
abbrev pub bytes_of : Option FoundBlock → List ℕ
bytes_of None = []
bytes_of (Some block) = block.bytes

-- the bytes of the first of the blocks at the place
abbrev pub bytes_in : List FoundBlock → ℕ → ℕ → List ℕ
bytes_in [] device place = []
bytes_in (block ∷ blocks) device place = if is_block_at device place block then block.bytes else bytes_in blocks device place

-- the numbers of their places, in order
abbrev pub numbers_of : (places : ℕ) → List FoundBlock → List ℕ
numbers_of places blocks = map (λ block. number_of places block.device block.place) blocks
