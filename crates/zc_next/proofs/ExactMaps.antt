-- Exact maps: they have just those places allocated that are owned.
use Rattle.std.proofs.Common.{◌≡◌, ◌∙◌, ℕ, ◌+◌, ◌*◌, ◌/◌, ◌%◌, ◌<◌, Bool, true, false, List, length, map, slice_get, None, refl, sym, ap, subst}
use Rattle.std.specs.List.{AllByRecursion}
use Rattle.std.proofs.Math.Nat.{mod-lt}
use Rattle.std.proofs.lemmas.List.{length-map}
use Rattle.std.proofs.lemmas.Nat.{div_below, div-add-mod'}
use Rattle.zc_num.specs.Words.{each}
use Rattle.zc_num.specs.Limits.{AreLimits, total_of}
use Rattle.zc_num.specs.declared.numbers.PlaceAt.{PlaceAt}
use Rattle.zc_num.proofs.Each.{length_each, get_of_each, map_each}
use Rattle.zc_blkptr.specs.declared.ptr.Ptr.{Ptr}
use Rattle.zc_spacemap.specs.declared.state.PlaceState.{PlaceState}
use Rattle.zc_spacemap.specs.declared.stored.StoredMap.{StoredMap}
use Rattle.zc_spacemap.specs.States.{state_of, is_kept}
use Rattle.zc_spacemap.specs.MapBytes.{kept_places}
use Rattle.zc_tree.specs.Catalogue.{stored_map}
use Rattle.zc_damage.specs.Places.{is_owned, is_set, is_allocated_in, is_allocated}
use Rattle.zc_damage.specs.Checks.{map_hit}
use Rattle.zc_damage.proofs.LateLaws.{none_map}
use Rattle.zc_damage.proofs.PlaceNumbers.{some_places}
use Rattle.zc_next.specs.Exact.{exact_states}
use Rattle.zc_next.proofs.EachItem.{all_of_each}

-- whether each place of one device is owned
abbrev pub owned_on : (devices places device : ℕ) → List PlaceAt → List Ptr → List Bool
owned_on devices places device chain reach = each places (λ place. is_owned devices places chain reach (device * places + place))

-- the states of the places of one device
abbrev pub states_on : (devices places device : ℕ) → List PlaceAt → List Ptr → List PlaceState
states_on devices places device chain reach = each places (λ place. state_of (is_owned devices places chain reach (device * places + place)))

-- the maps of the devices, one by one
abbrev pub exact_maps : (devices places : ℕ) → List PlaceAt → List Ptr → List StoredMap
exact_maps devices places chain reach = map stored_map (exact_states devices places chain reach)

-- a place is kept where it is allocated
kept_state : (allocated : Bool) → is_kept (state_of allocated) ≡ allocated
kept_state true = refl
kept_state false = refl

-- the states are those of a stored map
pub states_of_owned : (devices places device : ℕ) (chain : List PlaceAt) (reach : List Ptr) → map state_of (owned_on devices places device chain reach) ≡ states_on devices places device chain reach
states_of_owned devices places device chain reach = map_each state_of places (λ place. is_owned devices places chain reach (device * places + place))

pub maps_are : (devices places : ℕ) (chain : List PlaceAt) (reach : List Ptr) → exact_maps devices places chain reach ≡ each devices (λ device. stored_map (states_on devices places device chain reach))
maps_are devices places chain reach = map_each stored_map devices (λ device. states_on devices places device chain reach)

-- there is one for each device
pub maps_length : (devices places : ℕ) (chain : List PlaceAt) (reach : List Ptr) → length (exact_maps devices places chain reach) ≡ devices
maps_length devices places chain reach = ap length (maps_are devices places chain reach) ∙ length_each devices (λ device. stored_map (states_on devices places device chain reach))

-- what a map says of a place
kept_at : (devices places device : ℕ) (chain : List PlaceAt) (reach : List Ptr) (place : ℕ) → place < places
    → is_set (slice_get (kept_places (states_on devices places device chain reach)) place) ≡ is_owned devices places chain reach (device * places + place)
kept_at devices places device chain reach place within =
    let owned : ℕ → Bool = λ p. is_owned devices places chain reach (device * places + p) in
    ap (λ (bits : List Bool). is_set (slice_get bits place)) (map_each is_kept places (λ p. state_of (owned p)))
    ∙ ap is_set (get_of_each places (λ p. is_kept (state_of (owned p))) place within)
    ∙ kept_state (owned place)

-- the maps say of each place whether it is owned
pub allocated_is : (devices places : ℕ) (chain : List PlaceAt) (reach : List Ptr) (number : ℕ) → 0 < places → number < total_of devices places
    → is_allocated places (exact_maps devices places chain reach) number ≡ is_owned devices places chain reach number
allocated_is devices places chain reach number some within =
    let device : ℕ = number / places in
    let place : ℕ = number % places in
    let whole : device * places + place ≡ number = div-add-mod' number places in
    ap (λ (maps : List StoredMap). is_allocated_in (slice_get maps device) place) (maps_are devices places chain reach)
    ∙ ap (λ found. is_allocated_in found place) (get_of_each devices (λ d. stored_map (states_on devices places d chain reach)) device (div_below number places devices some within))
    ∙ kept_at devices places device chain reach place (mod-lt number some)
    ∙ ap (is_owned devices places chain reach) whole

-- so none is wrong
pub no_map_hit : (devices places : ℕ) (chain : List PlaceAt) (reach : List Ptr) → AreLimits devices places → map_hit devices places (exact_maps devices places chain reach) chain reach ≡ None
no_map_hit devices places chain reach limits =
    none_map devices places (exact_maps devices places chain reach) chain reach (λ number within. allocated_is devices places chain reach number (some_places devices places limits) within)

-- ---- a catalogue may have them

-- each has a bit for each place
pub maps_long : (devices places : ℕ) (chain : List PlaceAt) (reach : List Ptr) → AllByRecursion (λ (free : StoredMap). length free.allocated ≡ places) (exact_maps devices places chain reach)
maps_long devices places chain reach =
    subst (AllByRecursion (λ (free : StoredMap). length free.allocated ≡ places)) (sym (maps_are devices places chain reach))
    (all_of_each (λ (free : StoredMap). length free.allocated ≡ places) devices (λ device. stored_map (states_on devices places device chain reach)) (λ device within.
    length-map (states_on devices places device chain reach) is_kept ∙ length_each places (λ place. state_of (is_owned devices places chain reach (device * places + place)))))
