-- The state of a pool that an image holds, by values alone.
use Rattle.std.specs.Prelude.{◌≡◌, ℕ, ◌+◌, ◌*◌, ◌/◌, ◌%◌, ◌<◌, false, List, [], ◌∷◌, ◌++◌, length, map, filter, Some, None, slice_get}
use Rattle.std.specs.List.{range_with_len, AllByRecursion}
use Rattle.sha2.specs.Sha256.{sha256}
use Rattle.zc_num.specs.Limits.{AreLimits, IsFixed, total_of}
use Rattle.zc_num.specs.declared.numbers.PlaceAt.{PlaceAt}
use Rattle.zc_blkptr.specs.Digest.{digest_bytes}
use Rattle.zc_blkptr.specs.declared.ptr.Ptr.{Ptr}
use Rattle.zc_tape.specs.Tape.{Image, Shape}
use Rattle.zc_root.specs.declared.body.Body.{Body}
use Rattle.zc_root.specs.Body.{IsBody}
use Rattle.zc_tree.specs.Reach.{pointers_of_tree}
use Rattle.zc_tree.specs.Catalogue.{catalogue_bytes, AreParts}
use Rattle.zc_tree.specs.declared.catalogue.Parts.{Parts}
use Rattle.zc_catalog.specs.Chain.{chain_length, links}
use Rattle.zc_layout.specs.Layout.{Put, at_places}
use Rattle.zc_layout.specs.Standing.{Standing, Stands}
use Rattle.zc_damage.specs.declared.block.FoundBlock.{FoundBlock}
use Rattle.zc_damage.specs.Places.{is_reached, chain_has, bytes_in}
use Rattle.zc_damage.specs.Checks.{worn_hit, birth_hit, log_hit, owner_hit, tail_hit, count_hit, region_hit, map_hit, charge_hit}

-- what an image holds of a pool: the body of its root, the places of the catalogue, what the catalogue says, and each block that a
-- pointer is to, once, ascending by place
pub record State : Type 0 where
  pub body : Body
  pub chain : List PlaceAt
  pub parts : Parts
  pub blocks : List FoundBlock

-- ---- layout

-- the block at its place
abbrev pub put_of : FoundBlock → Put
put_of block = record { at = record { device = block.device; place = block.place }; bytes = block.bytes }

-- the bytes at the places that the root owns: the chain of its catalogue, and its blocks
abbrev pub layout : State → List Put
layout s = at_places s.chain (links s.chain (catalogue_bytes s.parts)) ++ map put_of s.blocks

-- the body, and the bytes at its places
abbrev pub standing_of : State → Standing
standing_of s = record { body = s.body; puts = layout s }

-- ---- conditions

-- a place of a pool of this size that is neither of the roots nor of a log area
pub record IsFree (devices places : ℕ) (at : PlaceAt) : Type 0 where
  pub device : at.device < devices
  pub place : at.place < places
  pub not_fixed : IsFixed devices places at.device at.place → ⊥

-- the places are there, none is fixed, and none comes twice
abbrev pub AreChainPlaces : (devices places : ℕ) → List PlaceAt → Type 0
AreChainPlaces devices places [] = Unit {0}
AreChainPlaces devices places (at ∷ chain) =
    IsFree devices places at × (chain_has places chain (at.device * places + at.place) ≡ false) × AreChainPlaces devices places chain

-- the place with this number
abbrev pub place_at : (places number : ℕ) → PlaceAt
place_at places number = record { device = number / places; place = number % places }

-- where the block is
abbrev pub place_of_block : FoundBlock → PlaceAt
place_of_block block = record { device = block.device; place = block.place }

-- the places that the pointers are to, each once, ascending: where the blocks are
abbrev pub block_places : (devices places : ℕ) → List Ptr → List PlaceAt
block_places devices places reach = map (place_at places) (filter (is_reached places reach) (range_with_len 0 (total_of devices places)))

-- the block at a pointer's place has its digest
abbrev pub HasDigest : List FoundBlock → Ptr → Type 0
HasDigest blocks ptr = digest_bytes (bytes_in blocks ptr.device ptr.place) ≡ ptr.digest

-- the body of the root names the catalogue, whose bytes these are, over this chain
pub record IsCatalogueOf (body : Body) (chain : List PlaceAt) (bytes : List ℕ) : Type 0 where
  pub first : slice_get chain 0 ≡ Some (record { device = body.first_device; place = body.first_place })
  pub places : length chain ≡ body.chain
  pub long_enough : body.chain ≡ chain_length body.length
  pub length_is : length bytes ≡ body.length
  pub digest : sha256 bytes ≡ body.digest

-- the values are those of a pool of this size: they agree with one another, and no check of them hits
pub record IsState (shape : Shape) (s : State) : Type 0 where
  pub size : AreLimits shape.devices shape.places
  pub body : IsBody s.body
  pub devices : s.body.devices ≡ shape.devices
  pub places : s.body.places ≡ shape.places
  pub parts : AreParts shape.devices shape.places s.body.group s.body.next_dataset s.parts
  pub catalogue : IsCatalogueOf s.body s.chain (catalogue_bytes s.parts)
  pub chain_places : AreChainPlaces shape.devices shape.places s.chain
  pub births : birth_hit s.parts.tree.group (pointers_of_tree s.parts.tree) ≡ None
  pub logs : log_hit shape.devices shape.places s.parts.tree.datasets ≡ None
  pub owners : owner_hit shape.devices shape.places s.chain (pointers_of_tree s.parts.tree) ≡ None
  pub blocks : map place_of_block s.blocks ≡ block_places shape.devices shape.places (pointers_of_tree s.parts.tree)
  pub digests : AllByRecursion (HasDigest s.blocks) (pointers_of_tree s.parts.tree)
  pub tails : tail_hit (bytes_in s.blocks) s.parts.tree.datasets ≡ None
  pub counts : count_hit shape.devices shape.places s.parts.tables (pointers_of_tree s.parts.tree) ≡ None
  pub regions : region_hit shape.devices shape.places s.parts.tables (pointers_of_tree s.parts.tree) ≡ None
  pub maps : map_hit shape.devices shape.places s.parts.maps s.chain (pointers_of_tree s.parts.tree) ≡ None
  pub charge : charge_hit shape.devices shape.places s.parts.tree.group (pointers_of_tree s.parts.tree) ≡ None

-- its numbers are so low that an import takes it
abbrev pub IsFresh : State → Type 0
IsFresh s = worn_hit s.parts.tree ≡ None

-- the image of such a disk set holds the state
pub record StandsFor (shape : Shape) (image : Image) (s : State) : Type 0 where
  pub state : IsState shape s
  pub stands : Stands image (standing_of s)

-- the image holds a pool
abbrev pub IsSound : Shape → Image → Type 0
IsSound shape image = (s : State) × StandsFor shape image s
