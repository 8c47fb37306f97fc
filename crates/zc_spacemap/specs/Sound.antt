-- What the parts of a map that keeps one state a place say of one another.
use Rattle.std.specs.Prelude.{◌≡◌, ℕ, ◌^◌, ◌<◌, Bool, true, List, length, map, count_by, slice_index_or, slice_set, fold}
use Rattle.std.specs.List.{list_all}
use Rattle.zc_spacemap.specs.declared.state.PlaceState.{PlaceState}
use Rattle.zc_spacemap.specs.declared.state.PlaceState.TheVariants.{Free}
use Rattle.zc_spacemap.specs.States.{is_free, is_given, settled}

-- the states once these places are free
abbrev pub freed : List ℕ → List PlaceState → List PlaceState
freed places states = fold (λ before place. slice_set before place Free) states places

-- the place is there, and given
abbrev pub is_given_at : List PlaceState → ℕ → Bool
is_given_at states place = is_given (slice_index_or states place Free)

-- the number is that of the free places, and the list that of the given ones, each once
pub record IsSound (states : List PlaceState) (free : ℕ) (given : List ℕ) : Type 0 where
  pub few : length states < 2 ^ 32
  pub free_counted : free ≡ count_by is_free states
  pub given_counted : length given ≡ count_by is_given states
  pub given_there : list_all (is_given_at states) given ≡ true
  pub given_listed : freed given states ≡ map settled states
