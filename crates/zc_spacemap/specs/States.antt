-- The states of the places of one device.
use Rattle.std.specs.Prelude.{Bool, true, false, if◌then◌else◌}
use Rattle.zc_spacemap.specs.declared.state.PlaceState.{PlaceState}
use Rattle.zc_spacemap.specs.declared.state.PlaceState.TheVariants.{Free, Allocated, Given}

-- the place is free
abbrev pub is_free : PlaceState → Bool
is_free Free = true
is_free Allocated = false
is_free Given = false

-- the place is given
abbrev pub is_given : PlaceState → Bool
is_given Free = false
is_given Allocated = false
is_given Given = true

-- the place is allocated and stays so when the map is settled
abbrev pub is_kept : PlaceState → Bool
is_kept Free = false
is_kept Allocated = true
is_kept Given = false

-- the state of the place once the map is settled
abbrev pub settled : PlaceState → PlaceState
settled Free = Free
settled Allocated = Allocated
settled Given = Free

-- the state of a place of which a stored map says whether it is allocated
abbrev pub state_of : Bool → PlaceState
state_of allocated = if allocated then Allocated else Free
