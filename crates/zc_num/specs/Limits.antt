-- The limits of a pool, each by a formula over its number of devices and the number of places of each device.
use Rattle.std.specs.Prelude.{◌≡◌, ℕ, ◌+◌, ◌-◌, ◌*◌, ◌/◌, ◌%◌, ◌<◌, ◌≤◌, Bool, ◌==◌, ◌&&◌, nat_lt, nat_le}

-- a pool may have so many devices of so many places each
pub record AreLimits (devices places : ℕ) : Type 0 where
  pub some_device : 1 ≤ devices
  pub few_devices : devices ≤ 4
  pub whole_regions : places % 128 ≡ 0
  pub enough_places : 1024 ≤ devices * places
  pub few_places : devices * places ≤ 131072

-- the places of all devices
abbrev pub total_of : ℕ → ℕ → ℕ
total_of devices places = devices * places

-- the most files that a dataset holds
abbrev pub files_of : ℕ → ℕ → ℕ
files_of devices places = total_of devices places / 128

-- the most pointers that a dataset holds, holes not counted
abbrev pub pointers_of : ℕ → ℕ → ℕ
pointers_of devices places = total_of devices places / 2

-- the most bytes that a file has
abbrev pub file_bytes_of : ℕ → ℕ → ℕ
file_bytes_of devices places = pointers_of devices places * 4096

-- the places of one log area
abbrev pub log_places_of : ℕ → ℕ → ℕ
log_places_of devices places = total_of devices places / 128

-- the first place, on device 0, of the log area of a slot, one of 0 to 7: the areas stand in a row after the four places of the roots
abbrev pub log_start_of : ℕ → ℕ → (slot : ℕ) → ℕ
log_start_of devices places slot = 4 + slot * log_places_of devices places

-- the places that hold neither the catalogue, a quarter of all, nor the eight log areas, nor the roots in their four places
abbrev pub data_places_of : ℕ → ℕ → ℕ
data_places_of devices places = total_of devices places - total_of devices places / 4 - 8 * log_places_of devices places - 4

-- the place never changes its use: it is one of the four of the roots, or of the eight log areas after them
abbrev pub IsFixed : ℕ → ℕ → ℕ → ℕ → Type 0
IsFixed devices places device place = (device ≡ 0) × (place < 4 + 8 * log_places_of devices places)

-- the same as a test
abbrev pub is_fixed : ℕ → ℕ → ℕ → ℕ → Bool
is_fixed devices places device place = (device == 0) && nat_lt place (4 + 8 * log_places_of devices places)

-- the place is one of the eight log areas
abbrev pub is_log : ℕ → ℕ → (device place : ℕ) → Bool
is_log devices places device place = (device == 0) && (nat_le 4 place && nat_lt place (4 + 8 * log_places_of devices places))
