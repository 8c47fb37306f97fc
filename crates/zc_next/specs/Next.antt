-- What a group leads to: the state after another, by what the group adds.
use Rattle.std.specs.Prelude.{◌≡◌, ◌⊎◌, ℕ, ◌+◌, ◌*◌, ◌^◌, ◌<◌, ◌≤◌, false, List, [], ◌∷◌, ◌++◌, length, map, None}
use Rattle.std.specs.List.{AllByRecursion, Contains}
use Rattle.zc_num.specs.declared.numbers.PlaceAt.{PlaceAt}
use Rattle.zc_blkptr.specs.Digest.{digest_bytes}
use Rattle.zc_blkptr.specs.declared.ptr.Ptr.{Ptr}
use Rattle.zc_tape.specs.Tape.{Shape}
use Rattle.zc_tree.specs.Reach.{pointers_of_tree}
use Rattle.zc_tree.specs.Catalogue.{catalogue_bytes, AreDatasets}
use Rattle.zc_tree.specs.declared.tree.Tree.{Tree}
use Rattle.zc_catalog.specs.Chain.{chain_length, links}
use Rattle.zc_layout.specs.Layout.{Put, at_places}
use Rattle.zc_damage.specs.declared.block.FoundBlock.{FoundBlock}
use Rattle.zc_damage.specs.Places.{is_owned, chain_has, bytes_in}
use Rattle.zc_damage.specs.Checks.{log_hit, tail_hit, charge_hit}
use Rattle.zc_state.specs.State.{State, IsFree, AreChainPlaces, block_places, place_of_block, put_of}
use Rattle.zc_next.specs.Exact.{exact_parts, exact_state}

-- ---- blocks

-- the blocks at these places, each with the bytes that the blocks have there
abbrev pub blocks_at : List PlaceAt → List FoundBlock → List FoundBlock
blocks_at places blocks = map (λ at. record { device = at.device; place = at.place; bytes = bytes_in blocks at.device at.place }) places

-- the blocks of a tree, each a new one or else one that was there before
abbrev pub next_blocks : Shape → Tree → (new old : List FoundBlock) → List FoundBlock
next_blocks shape tree new old = blocks_at (block_places shape.devices shape.places (pointers_of_tree tree)) (new ++ old)

-- ---- the state, and what is written

-- the tree of the state, committed by the next group
abbrev pub later_tree : State → Tree
later_tree s = record s.parts.tree { group = s.body.group + 1 }

-- the state that a group leads to, which has this tree, this chain and these new blocks
abbrev pub next_state : Shape → State → List PlaceAt → Tree → List FoundBlock → State
next_state shape s chain tree new = exact_state s.body.pool shape chain tree (next_blocks shape tree new s.blocks)

-- the bytes of its catalogue
abbrev pub next_bytes : Shape → List PlaceAt → Tree → List ℕ
next_bytes shape chain tree = catalogue_bytes (exact_parts shape.devices shape.places chain tree)

-- what the group writes before its body: the new blocks and the chain of the catalogue
abbrev pub next_puts : Shape → List PlaceAt → Tree → List FoundBlock → List Put
next_puts shape chain tree new = map put_of new ++ at_places chain (links chain (next_bytes shape chain tree))

-- ---- conditions

-- the state owns no such place
abbrev pub IsUnowned : Shape → State → PlaceAt → Type 0
IsUnowned shape s at = is_owned shape.devices shape.places s.chain (pointers_of_tree s.parts.tree) (at.device * shape.places + at.place) ≡ false

-- the pointer names the block that an old one names, and came into its file no later than this group
pub record IsKept (group : ℕ) (old : List Ptr) (ptr : Ptr) : Type 0 where
  pub before : Ptr
  pub there : Contains old before
  pub device_same : ptr.device ≡ before.device
  pub place_same : ptr.place ≡ before.place
  pub physical_same : ptr.physical ≡ before.physical
  pub digest_same : ptr.digest ≡ before.digest
  pub no_later : ptr.logical ≤ group

-- the pointer names a new block, which this group writes
pub record IsWritten (group : ℕ) (new : List FoundBlock) (ptr : Ptr) : Type 0 where
  pub block : FoundBlock
  pub there : Contains new block
  pub device_is : ptr.device ≡ block.device
  pub place_is : ptr.place ≡ block.place
  pub physical_is : ptr.physical ≡ group
  pub logical_is : ptr.logical ≡ group
  pub digest_is : ptr.digest ≡ digest_bytes block.bytes

-- the new blocks are at places that are there, no two at one, that neither the state nor the chain has
abbrev pub AreNewBlocks : Shape → State → List PlaceAt → List FoundBlock → Type 0
AreNewBlocks shape s chain [] = Unit {0}
AreNewBlocks shape s chain (block ∷ new) =
    IsFree shape.devices shape.places (place_of_block block) × IsUnowned shape s (place_of_block block)
    × (chain_has shape.places chain (block.device * shape.places + block.place) ≡ false)
    × (chain_has shape.places (map place_of_block new) (block.device * shape.places + block.place) ≡ false)
    × AreNewBlocks shape s chain new

-- a group may lead from the state to one with this tree, this chain and these new blocks
pub record IsNext (shape : Shape) (s : State) (chain : List PlaceAt) (tree : Tree) (new : List FoundBlock) : Type 0 where
  pub group_is : tree.group ≡ s.body.group + 1
  pub group_width : tree.group < 2 ^ 64
  pub some_next_dataset : 1 ≤ tree.next_dataset
  pub next_dataset_width : tree.next_dataset < 2 ^ 64
  pub few_datasets : length tree.datasets ≤ 8
  pub datasets : AreDatasets shape.devices shape.places tree.group tree.next_dataset [] tree.datasets
  pub no_logs : log_hit shape.devices shape.places tree.datasets ≡ None
  pub long_enough : length chain ≡ chain_length (length (next_bytes shape chain tree))
  pub chain_places : AreChainPlaces shape.devices shape.places chain
  pub chain_unowned : AllByRecursion (IsUnowned shape s) chain
  pub new_blocks : AreNewBlocks shape s chain new
  pub pointers : AllByRecursion (λ ptr. IsKept tree.group (pointers_of_tree s.parts.tree) ptr ⊎ IsWritten tree.group new ptr) (pointers_of_tree tree)
  pub tails : tail_hit (bytes_in (new ++ s.blocks)) tree.datasets ≡ None
  pub charge : charge_hit shape.devices shape.places tree.group (pointers_of_tree tree) ≡ None
