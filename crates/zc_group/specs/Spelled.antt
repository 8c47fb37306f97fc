-- What a group writes of its tree.
use Rattle.std.specs.Prelude.{◌≡◌, ℕ, ◌^◌, ◌<◌, List, length}
use Rattle.zc_num.specs.declared.numbers.PlaceAt.{PlaceAt}
use Rattle.zc_blkptr.specs.declared.ptr.Ptr.{Ptr}
use Rattle.zc_tape.specs.Tape.{Shape}
use Rattle.zc_tree.specs.declared.tree.Tree.{Tree}
use Rattle.zc_catalog.specs.Chain.{chain_length, links}
use Rattle.zc_layout.specs.Layout.{at_places}
use Rattle.zc_plan.specs.Puts.{puts_of}
use Rattle.zc_damage.specs.Places.{ChainPlaces}
use Rattle.zc_next.specs.Exact.{body_for}
use Rattle.zc_next.specs.Next.{next_bytes}
use Rattle.zc_group.specs.Chosen.{chain_for}
use Rattle.zc_group.specs.declared.catalogue.Written.{Written}

-- the body and the blocks spell the tree with its exact tables and maps, over these places, and the places are as many as that takes
pub record Spells (shape : Shape) (pool : ℕ) (chain : List PlaceAt) (tree : Tree) (written : Written) : Type 0 where
  pub chain_is : written.chain ≡ chain
  pub long_enough : length chain ≡ chain_length (length (next_bytes shape chain tree))
  pub body_is : written.body ≡ body_for pool shape tree chain (next_bytes shape chain tree)
  pub blocks_are : puts_of written.blocks ≡ at_places chain (links chain (next_bytes shape chain tree))

-- the places are those of the tree's catalogue: the first that nobody owns, and as many as it takes
pub record IsChainFor (shape : Shape) (taken : List PlaceAt) (reach : List Ptr) (tree : Tree) (chain : List PlaceAt) : Type 0 where
  pub chain_is : chain ≡ chain_for shape taken reach tree
  pub there : ChainPlaces shape.devices shape.places chain
  pub few : length chain < 2 ^ 32
  pub long_enough : length chain ≡ chain_length (length (next_bytes shape chain tree))
