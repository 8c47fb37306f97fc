-- The blocks that are gathered place by place.
use Rattle.std.specs.Prelude.{◌≡◌, ℕ, ◌<◌, ◌/◌, ◌%◌, List, [], ◌∷◌, ◌++◌, map, filter, Option, Some, None, Result, Ok, Err}
use Rattle.std.specs.List.{All, range_with_len}
use Rattle.std.specs.List.Sorted.{IsStrictlyIncreasing}
use Rattle.zc_blkptr.specs.declared.ptr.Ptr.{Ptr}
use Rattle.zc_tape.specs.Tape.{Image}
use Rattle.zc_damage.specs.declared.block.FoundBlock.{FoundBlock}
use Rattle.zc_damage.specs.declared.damage.Damage.{Damage}
use Rattle.zc_damage.specs.Places.{pointers_to, is_reached}
use Rattle.zc_damage.specs.Census.{first_in}
use Rattle.zc_state.specs.State.{place_at, place_of_block}
use Rattle.zc_state.specs.Reading.{block_damage, block_at}

-- the value, where there is no damage
abbrev pub unless_damaged : {X : Type 0} → Option Damage → X → Result X Damage
unless_damaged None x = Ok x
unless_damaged (Some damage) x = Err damage

-- the block at the place with this number, by the digest of a pointer to it
abbrev pub block_by : (places : ℕ) → Image → ℕ → Ptr → Result FoundBlock Damage
block_by places image number ptr = unless_damaged (block_damage (ptr ∷ []) (image (number / places) (number % places))) (block_at places image number)

-- the blocks with one more after them
abbrev pub and_block : List FoundBlock → Result FoundBlock Damage → Result (List FoundBlock) Damage
and_block blocks (Ok block) = Ok (blocks ++ block ∷ [])
and_block blocks (Err damage) = Err damage

-- the blocks with that of the place with this number after them, if a pointer is to it
abbrev pub and_block_by : (places : ℕ) → Image → ℕ → List FoundBlock → Option Ptr → Result (List FoundBlock) Damage
and_block_by places image number blocks None = Ok blocks
and_block_by places image number blocks (Some ptr) = and_block blocks (block_by places image number ptr)

-- the same of the first of the pointers to the place
abbrev pub gathered : (places : ℕ) → Image → List Ptr → ℕ → List FoundBlock → Result (List FoundBlock) Damage
gathered places image reach number blocks = and_block_by places image number blocks (first_in (pointers_to places reach number))

-- the blocks with the others after them
abbrev pub before : List FoundBlock → Result (List FoundBlock) Damage → Result (List FoundBlock) Damage
before blocks (Ok others) = Ok (blocks ++ others)
before blocks (Err damage) = Err damage

-- the numbers rise, and all are below this one
pub record IsRisingTo (number : ℕ) (numbers : List ℕ) : Type 0 where
  pub rising : IsStrictlyIncreasing numbers
  pub below : All (λ k. k < number) numbers

-- the blocks are those of the places below this number to which a pointer is, each once, ascending
pub record AreBlocksBelow (places : ℕ) (reach : List Ptr) (number : ℕ) (blocks : List FoundBlock) : Type 0 where
  pub there : map place_of_block blocks ≡ map (place_at places) (filter (is_reached places reach) (range_with_len 0 number))
