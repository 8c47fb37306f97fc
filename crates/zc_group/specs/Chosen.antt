-- Which places a group's catalogue takes: the first that are free.
use Rattle.std.specs.Prelude.{ℕ, Bool, List, map, filter, take, not}
use Rattle.std.specs.List.{range_with_len}
use Rattle.zc_num.specs.Limits.{total_of}
use Rattle.zc_num.specs.declared.numbers.PlaceAt.{PlaceAt}
use Rattle.zc_blkptr.specs.declared.ptr.Ptr.{Ptr}
use Rattle.zc_tape.specs.Tape.{Shape}
use Rattle.zc_tree.specs.declared.tree.Tree.{Tree}
use Rattle.zc_catalog.specs.Chain.{chain_length}
use Rattle.zc_damage.specs.Places.{is_owned}
use Rattle.zc_state.specs.State.{place_at}
use Rattle.zc_next.specs.Exact.{catalogue_size}

-- nobody owns the place with this number: no pointer is to it, it is none of the taken places, and it isn't fixed
abbrev pub is_free : (devices places : ℕ) → List PlaceAt → List Ptr → ℕ → Bool
is_free devices places taken reach number = not (is_owned devices places taken reach number)

-- the numbers of the first free places below this number, at most so many
abbrev pub free_below : (devices places : ℕ) → List PlaceAt → List Ptr → (count number : ℕ) → List ℕ
free_below devices places taken reach count number = take count (filter (is_free devices places taken reach) (range_with_len 0 number))

-- the first free places of a pool, at most so many
abbrev pub free_places : (devices places : ℕ) → List PlaceAt → List Ptr → (count : ℕ) → List PlaceAt
free_places devices places taken reach count = map (place_at places) (free_below devices places taken reach count (total_of devices places))

-- the places of the catalogue of a tree, where these places are taken and these pointers are kept
abbrev pub chain_for : Shape → List PlaceAt → List Ptr → Tree → List PlaceAt
chain_for shape taken reach tree =
    free_places shape.devices shape.places taken reach (chain_length (catalogue_size shape.devices shape.places tree))
