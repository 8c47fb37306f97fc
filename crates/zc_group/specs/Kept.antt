-- What is kept of the root that stands, beside its image.
use Rattle.std.specs.Prelude.{◌≡◌}
use Rattle.zc_tape.specs.Tape.{Image, Shape}
use Rattle.zc_root.specs.Root.{AreGates}
use Rattle.zc_tree.specs.Reach.{pointers_of_tree}
use Rattle.zc_damage.specs.Places.{ReachPlaces, ChainPlaces}
use Rattle.zc_state.specs.State.{State, StandsFor}
use Rattle.zc_group.specs.declared.root.Root.{Root}

-- the pool of the root has the size of such a disk set
pub record HasSize (shape : Shape) (root : Root) : Type 0 where
  pub devices : root.limits.devices ≡ shape.devices
  pub places : root.limits.places ≡ shape.places

-- the places that the root names are there
pub record HasPlaces (root : Root) : Type 0 where
  pub reach : ReachPlaces root.limits.devices root.limits.places (pointers_of_tree root.tree)
  pub chain : ChainPlaces root.limits.devices root.limits.places root.chain

-- the image stands for the state, of which the root has the body, the tree and the places of the catalogue; and it knows which
-- gates of the image are open
pub record Keeps (shape : Shape) (image : Image) (s : State) (root : Root) : Type 0 where
  pub stands : StandsFor shape image s
  pub size : HasSize shape root
  pub body_is : root.body ≡ s.body
  pub tree_is : root.tree ≡ s.parts.tree
  pub chain_is : root.chain ≡ s.chain
  pub gates : AreGates image root.gates
