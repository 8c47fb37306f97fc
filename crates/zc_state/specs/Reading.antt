-- How an image is read: the state that it holds after a root, or the first damage, in the order of the checks.
use Rattle.std.specs.Prelude.{ℕ, zero, suc, ◌+◌, ◌-◌, ◌*◌, ◌/◌, ◌%◌, ◌^◌, ◌==◌, ◌&&◌, ◌||◌, Bool, false, not, nat_lt, List, [], ◌∷◌, ◌++◌, length, take, drop, Option, Some, None, Result, Ok, Err, if◌then◌else◌}
use Rattle.std.specs.List.{list_all}
use Rattle.std.specs.Str.{bytes_eq}
use Rattle.sha2.specs.Sha256.{sha256}
use Rattle.zc_num.specs.Limits.{is_fixed, total_of}
use Rattle.zc_num.specs.declared.numbers.PlaceAt.{PlaceAt}
use Rattle.zc_blkptr.specs.Digest.{digest_bytes}
use Rattle.zc_blkptr.specs.declared.ptr.Ptr.{Ptr}
use Rattle.zc_tape.specs.Tape.{Image, Shape}
use Rattle.zc_root.specs.declared.body.Body.{Body}
use Rattle.zc_root.specs.Root.{slot_of, body_place}
use Rattle.zc_tree.specs.Reach.{pointers_of_tree}
use Rattle.zc_tree.specs.CatalogueReading.{catalogue_field}
use Rattle.zc_tree.specs.declared.catalogue.Parts.{Parts}
use Rattle.zc_catalog.specs.Chain.{chain_length, next_in}
use Rattle.zc_damage.specs.declared.block.FoundBlock.{FoundBlock}
use Rattle.zc_damage.specs.declared.damage.Hit.{Hit}
use Rattle.zc_damage.specs.declared.damage.Damage.{Damage}
use Rattle.zc_damage.specs.declared.damage.DamageKind.TheVariants.{Geometry, Chain, Digest, Catalogue, Block}
use Rattle.zc_damage.specs.Words.{when, first_of}
use Rattle.zc_damage.specs.Places.{pointers_to, chain_has, bytes_in}
use Rattle.zc_damage.specs.Checks.{damage_of, early_hit, late_hit}
use Rattle.zc_state.specs.State.{State}

-- the one step and then the other, which goes on with what the first answered
infixl 10 ◌>>=◌
abbrev pub ◌>>=◌ : {A B : Type 0} → Result A Damage → (A → Result B Damage) → Result B Damage
(Ok x) >>= f = f x
(Err damage) >>= f = Err damage

-- no damage, or this one
abbrev pub clear : Option Damage → Result (Unit {0}) Damage
clear None = Ok tt
clear (Some damage) = Err damage

-- no hit, or the damage that it is
abbrev pub clear_hit : Option Hit → Result (Unit {0}) Damage
clear_hit None = Ok tt
clear_hit (Some hit) = Err (damage_of hit)

-- ---- geometry: the body's size is another than the disk set's

-- a size in one number
abbrev pub size_number : ℕ → ℕ → ℕ
size_number devices places = devices * 2 ^ 32 + places

abbrev pub geometry_hit : Shape → Body → Option Hit
geometry_hit shape body =
    when (not (body.devices == shape.devices && body.places == shape.places))
    (record {
      kind = Geometry;
      device = 0;
      place = body_place (slot_of body.group);
      kept = size_number body.devices body.places;
      found = size_number shape.devices shape.places;
    })

-- ---- chain: the places of the catalogue are no chain

-- the first place of a catalogue
abbrev pub first_place : Body → PlaceAt
first_place body = record { device = body.first_device; place = body.first_place }

-- the damage of the chain at the place with this number in it
abbrev pub chain_damage : Body → PlaceAt → ℕ → Damage
chain_damage body at index = damage_of (record { kind = Chain; device = at.device; place = at.place; kept = body.chain; found = index })

-- a chain after these places may go on there: the place is there, isn't fixed, and isn't among them
abbrev pub may_follow : (devices places : ℕ) → List PlaceAt → PlaceAt → Bool
may_follow devices places seen at =
    (nat_lt at.device devices && nat_lt at.place places) && not (is_fixed devices places at.device at.place || chain_has places seen (at.device * places + at.place))

-- a block is the last of a chain: it has the end mark, and zeros after so many bytes
abbrev pub is_last : ℕ → List ℕ → Bool
is_last count block = elim (next_in block) [ None ↦ list_all (λ byte. byte == 0) (drop (8 + count) block) | Some next ↦ false ]

-- the place, and what follows it
abbrev pub joined : PlaceAt → List ℕ → List PlaceAt × List ℕ → List PlaceAt × List ℕ
joined at bytes rest = (at ∷ rest.0, bytes ++ rest.1)

-- the places of a chain from this one on, which has `left` places after it and holds so many bytes, and the bytes; or the place at
-- which it is none, with its number in the whole chain. `index` places stand before it, which are `seen`.
unfoldable pub follow : (devices places : ℕ) → Image → (left index : ℕ) → List PlaceAt → ℕ → PlaceAt → Result (List PlaceAt × List ℕ) (PlaceAt × ℕ)
follow devices places image zero index seen count at =
    if may_follow devices places seen at && is_last count (image at.device at.place)
    then Ok (at ∷ [], take count (drop 8 (image at.device at.place)))
    else Err (at, index)
follow devices places image (suc left) index seen count at =
    if may_follow devices places seen at
    then elim (next_in (image at.device at.place)) [
      | None ↦ Err (at, index)
      | Some next ↦ elim (follow devices places image left (index + 1) (at ∷ seen) (count - 4088) next) [
        | Ok rest ↦ Ok (joined at (drop 8 (image at.device at.place)) rest)
        | Err bad ↦ Err bad
      ]
    ]
    else Err (at, index)

-- the chain of a catalogue and its bytes
unfoldable pub chain_of : (devices places : ℕ) → Image → Body → Result (List PlaceAt × List ℕ) Damage
chain_of devices places image body =
    if body.chain == chain_length body.length
    then elim (follow devices places image (body.chain - 1) 0 [] body.length (first_place body)) [ Ok found ↦ Ok found | Err bad ↦ Err (chain_damage body bad.0 bad.1) ]
    else Err (chain_damage body (first_place body) 0)

-- ---- digest: the catalogue has another digest than the body says

abbrev pub digest_damage : Body → List ℕ → Option Damage
digest_damage body bytes =
    when (not (bytes_eq (sha256 bytes) body.digest))
    (record { kind = Digest; device = body.first_device; place = body.first_place; kept = body.digest; found = sha256 bytes })

-- ---- catalogue: the bytes spell none that the root may have

unfoldable pub parts_in : (devices places : ℕ) → Body → List ℕ → Result Parts Damage
parts_in devices places body bytes =
    elim (catalogue_field devices places body.group body.next_dataset bytes) [
      | Ok parts ↦ Ok parts.0
      | Err left ↦ Err (damage_of (record { kind = Catalogue; device = body.first_device; place = body.first_place; kept = body.length; found = length bytes - left }))
    ]

-- ---- block: a block has another digest than its pointer

-- of the pointers to one place, the damage of the first that has another digest than the bytes there
abbrev pub block_damage : List Ptr → List ℕ → Option Damage
block_damage ptrs bytes = first_of
    (λ ptr. when (not (bytes_eq ptr.digest (digest_bytes bytes)))
    (record { kind = Block; device = ptr.device; place = ptr.place; kept = ptr.digest; found = digest_bytes bytes }))
    ptrs

-- the block that the image has at the place with this number
abbrev pub block_at : (places : ℕ) → Image → ℕ → FoundBlock
block_at places image number = record { device = number / places; place = number % places; bytes = image (number / places) (number % places) }

-- the block in front of the others
abbrev pub with_block : FoundBlock → Result (List FoundBlock) Damage → Result (List FoundBlock) Damage
with_block block rest = rest >>= λ blocks. Ok (block ∷ blocks)

-- the blocks at the reached ones of so many places from this number on
unfoldable pub blocks_from : (places : ℕ) → Image → List Ptr → (left number : ℕ) → Result (List FoundBlock) Damage
blocks_from places image reach zero number = Ok []
blocks_from places image reach (suc left) number =
    elim (pointers_to places reach number) [
      | [] ↦ blocks_from places image reach left (number + 1)
      | ptr ∷ ptrs ↦ elim (block_damage (ptr ∷ ptrs) (image (number / places) (number % places))) [
        | None ↦ with_block (block_at places image number) (blocks_from places image reach left (number + 1))
        | Some damage ↦ Err damage
      ]
    ]

-- the blocks of all pointers
abbrev pub blocks_of : (devices places : ℕ) → Image → List Ptr → Result (List FoundBlock) Damage
blocks_of devices places image reach = blocks_from places image reach (total_of devices places) 0

-- ---- all of it

-- what stands after the root with this body
unfoldable pub read_state : Shape → Image → Body → Result State Damage
read_state shape image body = do
  _ ← clear_hit (geometry_hit shape body)
  found ← chain_of shape.devices shape.places image body
  _ ← clear (digest_damage body found.1)
  parts ← parts_in shape.devices shape.places body found.1
  _ ← clear_hit (early_hit shape.devices shape.places parts found.0)
  blocks ← blocks_of shape.devices shape.places image (pointers_of_tree parts.tree)
  _ ← clear_hit (late_hit shape.devices shape.places parts found.0 (bytes_in blocks))
  Ok (record { body = body; chain = found.0; parts = parts; blocks = blocks })
