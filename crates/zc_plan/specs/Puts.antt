-- The blocks of a plan as the bytes of places, and what of a disk set they need.
use Rattle.std.specs.Prelude.{◌≡◌, ◌<◌, ◌≤◌, ◌+◌, ℕ, true, List, ◌++◌, map}
use Rattle.zc_tape.specs.Tape.{Shape}
use Rattle.zc_layout.specs.Layout.{Put, owns}
use Rattle.zc_plan.specs.declared.input.PlacedBlock.{PlacedBlock}
use Rattle.zc_plan.specs.declared.input.GroupPlan.{GroupPlan}

-- a block as the bytes of its place
abbrev pub put_of : PlacedBlock → Put
put_of block = record { at = record { device = block.device; place = block.place }; bytes = block.bytes }

-- each of the blocks, in order
abbrev pub puts_of : List PlacedBlock → List Put
puts_of blocks = map put_of blocks

-- all that a group writes beside its root
abbrev pub puts_of_group : GroupPlan → List Put
puts_of_group input = puts_of input.blocks ++ puts_of input.chain

-- a disk set of this shape has the places of the roots, so many places of logs after them, and the places of the puts
pub record HasRoom (shape : Shape) (logs : ℕ) (puts : List Put) : Type 0 where
  pub devices : 1 ≤ shape.devices
  pub places : 4 + logs ≤ shape.places
  pub there : (d p : ℕ) → owns puts d p ≡ true → (d < shape.devices) × (p < shape.places)
