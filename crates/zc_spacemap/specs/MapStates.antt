-- What a `BitMap` stands for.
use Rattle.std.specs.Prelude.{ℕ, ◌-◌, List}
use Rattle.std.specs.Vec.{vec_len, vec_capacity}
use Rattle.zc_spacemap.specs.declared.state.PlaceState.{PlaceState}
use Rattle.zc_spacemap.specs.declared.bit_map.BitMap.{BitMap}

-- the state of each place
abbrev pub states_of : BitMap → List PlaceState
states_of map = map.states.items

-- how many more places have their room among the given ones
abbrev pub spare_of : BitMap → ℕ
spare_of map = vec_capacity map.given - vec_len map.given
