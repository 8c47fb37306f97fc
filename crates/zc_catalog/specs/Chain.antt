-- The blocks of a chain of places that holds a catalogue.
use Rattle.std.specs.Prelude.{ℕ, ◌+◌, ◌-◌, ◌/◌, ◌==◌, ◌&&◌, List, [], ◌∷◌, ◌++◌, length, take, drop, replicate, Option, Some, None, if◌then◌else◌}
use Rattle.zc_num.specs.declared.numbers.PlaceAt.{PlaceAt}
use Rattle.zc_wire.specs.Numbers.{u32_bytes, u32_of}

-- how many places so many bytes take
abbrev pub chain_length : ℕ → ℕ
chain_length bytes = (bytes + 4087) / 4088

-- the bytes of a place: device, place
abbrev pub place_bytes : PlaceAt → List ℕ
place_bytes at = u32_bytes at.device ++ u32_bytes at.place

-- what stands in place of a next place where there is none
unfoldable pub end_mark : List ℕ
end_mark = u32_bytes 4294967295 ++ u32_bytes 4294967295

-- the last block of a chain: the end mark, the bytes, and zeros
unfoldable pub last_link : List ℕ → List ℕ
last_link bytes = end_mark ++ (bytes ++ replicate (4088 - length bytes) 0)

-- a block before others: the next place, and 4,088 of the bytes
unfoldable pub inner_link : PlaceAt → List ℕ → List ℕ
inner_link next bytes = place_bytes next ++ take 4088 bytes

-- a block, with these places after its own
abbrev pub link_before : List PlaceAt → List ℕ → List ℕ
link_before [] bytes = last_link bytes
link_before (next ∷ places) bytes = inner_link next bytes

-- the place that a block names that has these places after its own
abbrev pub mark_before : List PlaceAt → PlaceAt
mark_before [] = record { device = 4294967295; place = 4294967295 }
mark_before (next ∷ places) = next

-- a block of zeros
unfoldable pub blank : List ℕ
blank = replicate 4096 0

-- the blocks of the chain over these places that holds the bytes, each at its place
abbrev pub links : List PlaceAt → List ℕ → List (List ℕ)
links [] bytes = []
links (at ∷ places) bytes = link_before places bytes ∷ links places (drop 4088 bytes)

-- the next place that a block of a chain names; None at the end mark
unfoldable pub next_in : List ℕ → Option PlaceAt
next_in block =
    if (u32_of block == 4294967295) && (u32_of (drop 4 block) == 4294967295) then None
    else Some (record { device = u32_of block; place = u32_of (drop 4 block) })
