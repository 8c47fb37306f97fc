-- What is exact is a state of a pool: a tree, places for its catalogue and blocks that agree, with the tables and the maps that they want.
use Rattle.std.proofs.Common.{◌≡◌, ℕ, zero, suc, ◌+◌, ◌*◌, ◌/◌, ◌^◌, ◌<◌, ◌≤◌, List, [], ◌∷◌, ◌++◌, length, slice_get, Some, refl, length-append, lit<, arith}
use Rattle.std.proofs.lemmas.Nat.{mul-le}
use Rattle.sha2.specs.Sha256.{sha256, digest_bytes, final_hash, initial_hash_256}
use Rattle.sha2.proofs.Facts256.{length-sha256}
use Rattle.zc_num.specs.Limits.{AreLimits, pointers_of}
use Rattle.zc_num.specs.declared.numbers.PlaceAt.{PlaceAt}
use Rattle.zc_wire.specs.Numbers.{u32_bytes, IsBytes}
use Rattle.zc_wire.proofs.Numbers.{u32_bytes_fit}
use Rattle.zc_wire.proofs.Bytes.{bytes_joined}
use Rattle.zc_blkptr.specs.declared.ptr.Ptr.{Ptr}
use Rattle.zc_tape.specs.Tape.{Shape}
use Rattle.zc_root.specs.Body.{IsBody}
use Rattle.zc_table.proofs.TableLaws.{places_few}
use Rattle.zc_tree.specs.declared.tree.Dataset.{Dataset}
use Rattle.zc_tree.specs.declared.tree.Tree.{Tree}
use Rattle.zc_tree.specs.declared.catalogue.Parts.{Parts}
use Rattle.zc_tree.specs.Reach.{pointers_of_files, pointers_of_datasets, pointers_of_tree}
use Rattle.zc_tree.specs.Catalogue.{catalogue_bytes, AreDatasets, AreParts}
use Rattle.zc_damage.specs.declared.block.FoundBlock.{FoundBlock}
use Rattle.zc_state.specs.State.{AreChainPlaces, IsCatalogueOf, IsState}
use Rattle.zc_state.proofs.Pointers.{ArePtrs, parts_have_ptrs}
use Rattle.zc_next.specs.Exact.{exact_parts, first_of_chain, exact_state, AreExact}
use Rattle.zc_next.proofs.ChainCount.{chain_few}
use Rattle.zc_next.proofs.CatalogueSize.{catalogue_some}
use Rattle.zc_next.proofs.ExactMaps.{exact_maps, maps_length, maps_long, no_map_hit}
use Rattle.zc_next.proofs.ExactTables.{exact_tables, tables_length, are_exact_tables, no_count_hit, no_region_hit}

-- ---- the pointers of a tree

-- each pointer of datasets that a root may have is one that a pool may have: so it is in a catalogue of them without a count
pub tree_has_ptrs : (devices places : ℕ) (tree : Tree) → AreLimits devices places → length tree.datasets ≤ 8 → AreDatasets devices places tree.group tree.next_dataset [] tree.datasets
    → ArePtrs devices places (pointers_of_tree tree)
tree_has_ptrs devices places tree limits few fits =
    let uncounted : Parts = record { tree = tree; tables = exact_tables devices places []; maps = exact_maps devices places [] [] } in
    let are : AreParts devices places tree.group tree.next_dataset uncounted =
    record {
      group_is = refl;
      next_dataset_is = refl;
      few_datasets = few;
      datasets = fits;
      each_table = tables_length devices places [];
      tables = are_exact_tables devices places [] limits tt (lit< tt);
      each_map = maps_length devices places [] [];
      maps = maps_long devices places [] [];
    } in
    parts_have_ptrs devices places tree.group tree.next_dataset uncounted are

-- so many for each dataset
datasets_few : (devices places group next_dataset : ℕ) (others datasets : List Dataset) → AreDatasets devices places group next_dataset others datasets
    → length (pointers_of_datasets datasets) ≤ length datasets * pointers_of devices places
datasets_few devices places group next_dataset others [] fits = omega arith
datasets_few devices places group next_dataset others (dataset ∷ datasets) fits =
    let rest = datasets_few devices places group next_dataset (others ++ dataset ∷ []) datasets fits.2 in
    let both = length-append (pointers_of_files dataset.files) (pointers_of_datasets datasets) in
    let more : suc (length datasets) * pointers_of devices places ≡ pointers_of devices places + length datasets * pointers_of devices places = omega arith in
    omega (arith, rest, both, more, fits.0.few_pointers)

-- a number of 32 bits counts them
pub few_pointers : (devices places : ℕ) (tree : Tree) → AreLimits devices places → length tree.datasets ≤ 8 → AreDatasets devices places tree.group tree.next_dataset [] tree.datasets
    → length (pointers_of_tree tree) < 2 ^ 32
few_pointers devices places tree limits few fits =
    let all = datasets_few devices places tree.group tree.next_dataset [] tree.datasets fits in
    let most : length tree.datasets * pointers_of devices places ≤ 8 * pointers_of devices places = mul-le (length tree.datasets) (pointers_of devices places) 8 (pointers_of devices places) few (omega arith) in
    omega (arith, all, most, limits.few_places)

-- ---- the parts of its catalogue

-- a root may have them
pub are_exact_parts : (devices places : ℕ) (chain : List PlaceAt) (tree : Tree) → AreLimits devices places → length tree.datasets ≤ 8 → AreDatasets devices places tree.group tree.next_dataset [] tree.datasets
    → AreParts devices places tree.group tree.next_dataset (exact_parts devices places chain tree)
are_exact_parts devices places chain tree limits few fits =
    let reach : List Ptr = pointers_of_tree tree in
    record {
      group_is = refl;
      next_dataset_is = refl;
      few_datasets = few;
      datasets = fits;
      each_table = tables_length devices places reach;
      tables = are_exact_tables devices places reach limits (tree_has_ptrs devices places tree limits few fits) (few_pointers devices places tree limits few fits);
      each_map = maps_length devices places chain reach;
      maps = maps_long devices places chain reach;
    }

-- ---- the body of its root

-- the bytes of words
words_fit : (hash : List ℕ) (n : ℕ) → IsBytes (digest_bytes hash n)
unfolding digest_bytes u32_bytes
words_fit hash zero index = lit< tt
words_fit hash (suc n) index = bytes_joined (digest_bytes hash n) _ (words_fit hash n) (u32_bytes_fit _) index

-- a digest has bytes
pub digest_fits : (bytes : List ℕ) → IsBytes (sha256 bytes)
unfolding sha256
digest_fits bytes = words_fit (final_hash initial_hash_256 bytes) 8

-- a chain that begins somewhere begins at its first place
first_is : (chain : List PlaceAt) → 1 ≤ length chain → slice_get chain 0 ≡ Some (record { device = (first_of_chain chain).device; place = (first_of_chain chain).place })
first_is [] some = absurd (omega arith)
first_is (at ∷ chain) some = refl

-- whose numbers fit their fields
first_fits : (devices places : ℕ) (chain : List PlaceAt) → AreLimits devices places → AreChainPlaces devices places chain → ((first_of_chain chain).device < 2 ^ 32) × ((first_of_chain chain).place < 2 ^ 32)
first_fits devices places [] limits are = (lit< tt, lit< tt)
first_fits devices places (at ∷ chain) limits are = (omega (arith, limits.few_devices, are.0.device), omega (arith, places_few devices places limits, are.0.place))

-- a root may have it
pub is_exact_body : (pool : ℕ) (shape : Shape) (chain : List PlaceAt) (tree : Tree) (blocks : List FoundBlock) → pool < 2 ^ 64 → AreLimits shape.devices shape.places → AreExact shape chain tree blocks
    → IsBody (exact_state pool shape chain tree blocks).body
is_exact_body pool shape chain tree blocks pool_width limits exact =
    let bytes : List ℕ = catalogue_bytes (exact_parts shape.devices shape.places chain tree) in
    let some : 4 ≤ length bytes = catalogue_some shape.devices shape.places chain tree in
    let long : length chain ≡ (length bytes + 4087) / 4088 = exact.long_enough in
    let few : length chain ≤ shape.devices * shape.places = chain_few shape.devices shape.places chain exact.chain_places in
    let first = first_fits shape.devices shape.places chain limits exact.chain_places in
    record {
      committed = exact.some_group;
      numbered = exact.some_next_dataset;
      some_place = omega arith;
      some_byte = omega arith;
      widths = record {
        pool = pool_width;
        group = exact.group_width;
        devices = omega (arith, limits.few_devices);
        places = places_few shape.devices shape.places limits;
        next_dataset = exact.next_dataset_width;
        first_device = first.0;
        first_place = first.1;
        chain = omega (arith, few, limits.few_places);
        catalogue = omega (arith, few, long, limits.few_places);
        digest = length-sha256 bytes;
        digest_fits = digest_fits bytes;
      };
    }

-- it names the catalogue
pub is_exact_catalogue : (pool : ℕ) (shape : Shape) (chain : List PlaceAt) (tree : Tree) (blocks : List FoundBlock) → AreExact shape chain tree blocks
    → IsCatalogueOf (exact_state pool shape chain tree blocks).body chain (catalogue_bytes (exact_parts shape.devices shape.places chain tree))
is_exact_catalogue pool shape chain tree blocks exact =
    let bytes : List ℕ = catalogue_bytes (exact_parts shape.devices shape.places chain tree) in
    let some : 4 ≤ length bytes = catalogue_some shape.devices shape.places chain tree in
    let long : length chain ≡ (length bytes + 4087) / 4088 = exact.long_enough in
    record { first = first_is chain (omega arith); places = refl; long_enough = exact.long_enough; length_is = refl; digest = refl }

-- ---- the state

-- what is exact is a state of the pool
pub exact_is_state : (pool : ℕ) (shape : Shape) (chain : List PlaceAt) (tree : Tree) (blocks : List FoundBlock) → pool < 2 ^ 64 → AreLimits shape.devices shape.places → AreExact shape chain tree blocks
    → IsState shape (exact_state pool shape chain tree blocks)
exact_is_state pool shape chain tree blocks pool_width limits exact =
    let reach : List Ptr = pointers_of_tree tree in
    record {
      size = limits;
      body = is_exact_body pool shape chain tree blocks pool_width limits exact;
      devices = refl;
      places = refl;
      parts = are_exact_parts shape.devices shape.places chain tree limits exact.few_datasets exact.datasets;
      catalogue = is_exact_catalogue pool shape chain tree blocks exact;
      chain_places = exact.chain_places;
      births = exact.births;
      logs = exact.logs;
      owners = exact.owners;
      blocks = exact.blocks_there;
      digests = exact.digests;
      tails = exact.tails;
      counts = no_count_hit shape.devices shape.places reach limits;
      regions = no_region_hit shape.devices shape.places reach limits;
      maps = no_map_hit shape.devices shape.places chain reach limits;
      charge = exact.charge;
    }
