-- The reading after a root in two steps: its catalogue, and the checks and blocks that follow from that.
use Rattle.std.specs.Prelude.{ℕ, List, Result, Ok}
use Rattle.zc_num.specs.declared.numbers.PlaceAt.{PlaceAt}
use Rattle.zc_tape.specs.Tape.{Image, Shape}
use Rattle.zc_root.specs.declared.body.Body.{Body}
use Rattle.zc_tree.specs.Reach.{pointers_of_tree}
use Rattle.zc_tree.specs.declared.catalogue.Parts.{Parts}
use Rattle.zc_damage.specs.declared.block.FoundBlock.{FoundBlock}
use Rattle.zc_damage.specs.declared.damage.Damage.{Damage}
use Rattle.zc_damage.specs.Places.{bytes_in}
use Rattle.zc_damage.specs.Checks.{early_hit, late_hit}
use Rattle.zc_state.specs.State.{State}
use Rattle.zc_state.specs.Reading.{◌>>=◌, clear, clear_hit, geometry_hit, chain_of, digest_damage, parts_in, blocks_of}

-- the places of a body's catalogue, and what its bytes say
unfoldable pub catalogue_in : (devices places : ℕ) → Image → Body → Result (List PlaceAt × Parts) Damage
catalogue_in devices places image body = do
  found ← chain_of devices places image body
  _ ← clear (digest_damage body found.1)
  parts ← parts_in devices places body found.1
  Ok (found.0, parts)

-- the blocks of such a catalogue over these places, where no check hits
unfoldable pub blocks_in : (devices places : ℕ) → Image → List PlaceAt → Parts → Result (List FoundBlock) Damage
blocks_in devices places image chain parts = do
  _ ← clear_hit (early_hit devices places parts chain)
  blocks ← blocks_of devices places image (pointers_of_tree parts.tree)
  _ ← clear_hit (late_hit devices places parts chain (bytes_in blocks))
  Ok blocks

-- both after a body of the disks' size
unfoldable pub state_in : Shape → Image → Body → Result State Damage
state_in shape image body = do
  _ ← clear_hit (geometry_hit shape body)
  catalogue ← catalogue_in shape.devices shape.places image body
  blocks ← blocks_in shape.devices shape.places image catalogue.0 catalogue.1
  Ok (record { body = body; chain = catalogue.0; parts = catalogue.1; blocks = blocks })
