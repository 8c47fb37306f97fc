-- Exact accounting: the tables and the maps that a tree and the places of its catalogue want, and the state that they make.
use Rattle.std.specs.Prelude.{◌≡◌, ℕ, ◌+◌, ◌*◌, ◌/◌, ◌^◌, ◌<◌, ◌≤◌, List, [], ◌∷◌, length, map, sum, None}
use Rattle.std.specs.List.{AllByRecursion}
use Rattle.sha2.specs.Sha256.{sha256}
use Rattle.zc_num.specs.Words.{each}
use Rattle.zc_num.specs.declared.numbers.PlaceAt.{PlaceAt}
use Rattle.zc_blkptr.specs.declared.ptr.Ptr.{Ptr}
use Rattle.zc_tape.specs.Tape.{Shape}
use Rattle.zc_root.specs.declared.body.Body.{Body}
use Rattle.zc_table.specs.Counts.{used_of}
use Rattle.zc_spacemap.specs.States.{state_of}
use Rattle.zc_spacemap.specs.declared.state.PlaceState.{PlaceState}
use Rattle.zc_tree.specs.Reach.{pointers_of_tree}
use Rattle.zc_tree.specs.Catalogue.{catalogue_bytes, parts_of, AreDatasets}
use Rattle.zc_tree.specs.declared.catalogue.Parts.{Parts}
use Rattle.zc_tree.specs.declared.tree.Tree.{Tree}
use Rattle.zc_tree.specs.declared.tree.Dataset.{Dataset}
use Rattle.zc_tree.specs.declared.tree.File.{File}
use Rattle.zc_tree.specs.declared.tree.LogState.{LogState}
use Rattle.zc_tree.specs.declared.tree.LogState.TheVariants.{Normal, Claimed}
use Rattle.zc_catalog.specs.Chain.{chain_length}
use Rattle.zc_damage.specs.declared.block.FoundBlock.{FoundBlock}
use Rattle.zc_damage.specs.Places.{extra_at, is_owned, bytes_in}
use Rattle.zc_damage.specs.Checks.{birth_hit, log_hit, owner_hit, tail_hit, charge_hit}
use Rattle.zc_state.specs.State.{State, AreChainPlaces, block_places, place_of_block, HasDigest}

-- ---- tables and maps

-- for each device the count of each place: the pointers to it less one
abbrev pub exact_counts : (devices places : ℕ) → List Ptr → List (List ℕ)
exact_counts devices places reach = each devices (λ device. each places (λ place. extra_at places reach (device * places + place)))

-- for each device the state of each place: allocated just where it is owned
abbrev pub exact_states : (devices places : ℕ) → List PlaceAt → List Ptr → List (List PlaceState)
exact_states devices places chain reach =
    each devices (λ device. each places (λ place. state_of (is_owned devices places chain reach (device * places + place))))

-- what a catalogue says of the tree, with exact tables and maps
abbrev pub exact_parts : (devices places : ℕ) → List PlaceAt → Tree → Parts
exact_parts devices places chain tree =
    parts_of tree (exact_counts devices places (pointers_of_tree tree)) (exact_states devices places chain (pointers_of_tree tree))

-- ---- the size of a catalogue, which doesn't depend on its places

-- the bytes of a file's part: its numbers, its name, and its entries of 44 bytes
abbrev pub file_size : File → ℕ
file_size file = 24 + length file.name + 44 * length file.slots

-- the bytes of the state of a log
abbrev pub log_size : LogState → ℕ
log_size Normal = 4
log_size (Claimed epoch blocks) = 16

-- the bytes of a dataset's part: its numbers, its name, the state of its log, its files
abbrev pub dataset_size : Dataset → ℕ
dataset_size dataset = 28 + length dataset.name + log_size dataset.log + sum (map file_size dataset.files)

-- the bytes of a device's part: its entries, a counter for each 64 places, a bit for each place
abbrev pub device_size : (places : ℕ) → List ℕ → ℕ
device_size places counts = 4 + 8 * used_of counts + 4 * (places / 64) + places / 8

-- the bytes of the catalogue of a tree with exact tables and maps
abbrev pub catalogue_size : (devices places : ℕ) → Tree → ℕ
catalogue_size devices places tree =
    4 + sum (map dataset_size tree.datasets) + sum (map (device_size places) (exact_counts devices places (pointers_of_tree tree)))

-- ---- the state

-- where there is a first place, its device and its place; else 0 and 0
abbrev pub first_of_chain : List PlaceAt → PlaceAt
first_of_chain [] = record { device = 0; place = 0 }
first_of_chain (at ∷ chain) = at

-- the body of the root of a tree, whose catalogue has these bytes over this chain
abbrev pub body_for : (pool : ℕ) → Shape → Tree → List PlaceAt → List ℕ → Body
body_for pool shape tree chain bytes = record {
  pool = pool;
  group = tree.group;
  devices = shape.devices;
  places = shape.places;
  next_dataset = tree.next_dataset;
  first_device = (first_of_chain chain).device;
  first_place = (first_of_chain chain).place;
  chain = length chain;
  length = length bytes;
  digest = sha256 bytes;
}

-- the state of a pool with this tree, this chain and these blocks
abbrev pub exact_state : (pool : ℕ) → Shape → List PlaceAt → Tree → List FoundBlock → State
exact_state pool shape chain tree blocks = record {
  body = body_for pool shape tree chain (catalogue_bytes (exact_parts shape.devices shape.places chain tree));
  chain = chain;
  parts = exact_parts shape.devices shape.places chain tree;
  blocks = blocks;
}

-- the tree, the chain and the blocks agree with one another in a pool of this size
pub record AreExact (shape : Shape) (chain : List PlaceAt) (tree : Tree) (blocks : List FoundBlock) : Type 0 where
  pub some_group : 1 ≤ tree.group
  pub group_width : tree.group < 2 ^ 64
  pub some_next_dataset : 1 ≤ tree.next_dataset
  pub next_dataset_width : tree.next_dataset < 2 ^ 64
  pub few_datasets : length tree.datasets ≤ 8
  pub datasets : AreDatasets shape.devices shape.places tree.group tree.next_dataset [] tree.datasets
  pub long_enough : length chain ≡ chain_length (length (catalogue_bytes (exact_parts shape.devices shape.places chain tree)))
  pub chain_places : AreChainPlaces shape.devices shape.places chain
  pub births : birth_hit tree.group (pointers_of_tree tree) ≡ None
  pub logs : log_hit shape.devices shape.places tree.datasets ≡ None
  pub owners : owner_hit shape.devices shape.places chain (pointers_of_tree tree) ≡ None
  pub blocks_there : map place_of_block blocks ≡ block_places shape.devices shape.places (pointers_of_tree tree)
  pub digests : AllByRecursion (HasDigest blocks) (pointers_of_tree tree)
  pub tails : tail_hit (bytes_in blocks) tree.datasets ≡ None
  pub charge : charge_hit shape.devices shape.places tree.group (pointers_of_tree tree) ≡ None
