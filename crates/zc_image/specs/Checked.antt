-- What the checks of a reading let through, whatever the reads gave.
use Rattle.std.specs.Prelude.{◌≡◌, ℕ, List, map, None}
use Rattle.zc_num.specs.declared.numbers.PlaceAt.{PlaceAt}
use Rattle.zc_tree.specs.Reach.{pointers_of_tree}
use Rattle.zc_tree.specs.declared.catalogue.Parts.{Parts}
use Rattle.zc_damage.specs.declared.block.FoundBlock.{FoundBlock}
use Rattle.zc_damage.specs.Places.{bytes_in}
use Rattle.zc_damage.specs.Checks.{early_hit, late_hit}
use Rattle.zc_state.specs.State.{place_of_block, block_places}

-- what was found passed the checks of its values, and the blocks are those of the places to which a pointer is, each once, ascending
pub record IsChecked (devices places : ℕ) (parts : Parts) (chain : List PlaceAt) (blocks : List FoundBlock) : Type 0 where
  pub early : early_hit devices places parts chain ≡ None
  pub late : late_hit devices places parts chain (bytes_in blocks) ≡ None
  pub there : map place_of_block blocks ≡ block_places devices places (pointers_of_tree parts.tree)
