-- Which places of a pool were seen, by a flag for each.
use Rattle.std.specs.Prelude.{◌≡◌, ℕ, ◌<◌, Bool, false, List, length, slice_index_or}
use Rattle.zc_num.specs.Limits.{total_of}
use Rattle.zc_num.specs.declared.numbers.PlaceAt.{PlaceAt}
use Rattle.zc_damage.specs.Places.{chain_has}

-- the flags are set at just these places
pub record Knows (devices places : ℕ) (flags : List Bool) (seen : List PlaceAt) : Type 0 where
  pub whole : length flags ≡ total_of devices places
  pub exact : (number : ℕ) → number < total_of devices places → slice_index_or flags number false ≡ chain_has places seen number
