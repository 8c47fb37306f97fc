-- The bytes of a catalogue, and which values a root may have there.
use Rattle.std.specs.Prelude.{◌≡◌, ℕ, ◌+◌, ◌^◌, ◌<◌, ◌≤◌, List, [], ◌∷◌, ◌++◌, length, map}
use Rattle.std.specs.List.{flat_map, AllByRecursion}
use Rattle.zc_wire.specs.Numbers.{u32_bytes}
use Rattle.zc_table.specs.Counts.{stored_of}
use Rattle.zc_table.specs.TableBytes.{table_bytes, IsTable}
use Rattle.zc_table.specs.declared.stored.StoredTable.{StoredTable}
use Rattle.zc_spacemap.specs.MapBytes.{map_bytes, kept_places}
use Rattle.zc_spacemap.specs.declared.state.PlaceState.{PlaceState}
use Rattle.zc_spacemap.specs.declared.stored.StoredMap.{StoredMap}
use Rattle.zc_tree.specs.Spelling.{dataset_bytes, IsDataset, IsAfter, HasDatasetWidths}
use Rattle.zc_tree.specs.declared.catalogue.Parts.{Parts}
use Rattle.zc_tree.specs.declared.tree.Dataset.{Dataset}
use Rattle.zc_tree.specs.declared.tree.Tree.{Tree}

-- ---- spelling

-- for each device in order its table and its map
abbrev pub devices_bytes : List StoredTable → List StoredMap → List ℕ
devices_bytes [] maps = []
devices_bytes (table ∷ tables) [] = []
devices_bytes (table ∷ tables) (free ∷ maps) = table_bytes table ++ (map_bytes free.allocated ++ devices_bytes tables maps)

-- a catalogue: the number of datasets, each dataset, each device
unfoldable pub catalogue_bytes : Parts → List ℕ
catalogue_bytes parts = u32_bytes (length parts.tree.datasets) ++ (flat_map dataset_bytes parts.tree.datasets ++ devices_bytes parts.tables parts.maps)

-- the map as it will be once it is settled
abbrev pub stored_map : List PlaceState → StoredMap
stored_map states = record { allocated = kept_places states }

-- what a catalogue says of a tree, of tables with these counts, and of maps with these states
abbrev pub parts_of : Tree → List (List ℕ) → List (List PlaceState) → Parts
parts_of tree counts states = record { tree = tree; tables = map stored_of counts; maps = map stored_map states }

-- ---- which values are spelled

-- the root of this group and next dataset number may have the datasets after the others, each after those before it
abbrev pub AreDatasets : (devices places group next_dataset : ℕ) → (others datasets : List Dataset) → Type 0
AreDatasets devices places group next_dataset others [] = Unit {0}
AreDatasets devices places group next_dataset others (dataset ∷ datasets) =
    IsDataset devices places group next_dataset dataset × IsAfter others dataset × AreDatasets devices places group next_dataset (others ++ dataset ∷ []) datasets

-- tables of the devices from this one on
abbrev pub AreTables : (devices places device : ℕ) → List StoredTable → Type 0
AreTables devices places device [] = Unit {0}
AreTables devices places device (table ∷ tables) = IsTable devices places device table × AreTables devices places (device + 1) tables

-- the root of this group and next dataset number may have the catalogue, in a pool of this size
pub record AreParts (devices places group next_dataset : ℕ) (parts : Parts) : Type 0 where
  pub group_is : parts.tree.group ≡ group
  pub next_dataset_is : parts.tree.next_dataset ≡ next_dataset
  pub few_datasets : length parts.tree.datasets ≤ 8
  pub datasets : AreDatasets devices places group next_dataset [] parts.tree.datasets
  pub each_table : length parts.tables ≡ devices
  pub tables : AreTables devices places 0 parts.tables
  pub each_map : length parts.maps ≡ devices
  pub maps : AllByRecursion (λ free. length free.allocated ≡ places) parts.maps

-- the numbers of things of a tree fit their fields
pub record HasTreeWidths (tree : Tree) : Type 0 where
  pub datasets : length tree.datasets < 2 ^ 32
  pub each : AllByRecursion HasDatasetWidths tree.datasets
