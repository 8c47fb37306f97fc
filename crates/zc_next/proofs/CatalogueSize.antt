-- The size of a catalogue: it follows from the tree alone, and no byte has to be spelled to know it.
use Rattle.std.proofs.Common.{◌≡◌, ◌∙◌, ℕ, ◌+◌, ◌*◌, ◌/◌, ◌≤◌, List, [], ◌∷◌, ◌++◌, length, map, sum, refl, sym, ap, length-append, arith}
use Rattle.std.specs.List.{AllByRecursion, flat_map}
use Rattle.std.proofs.lemmas.List.{length-map}
use Rattle.std.proofs.lemmas.List.Concat.{flat_map-cons}
use Rattle.std.proofs.lemmas.List.Sums.{sum_by-cons}
use Rattle.zc_num.specs.Limits.{AreLimits}
use Rattle.zc_num.specs.declared.numbers.PlaceAt.{PlaceAt}
use Rattle.zc_wire.specs.Numbers.{u32_bytes}
use Rattle.zc_wire.proofs.Numbers.{u32_bytes_length, u64_bytes_length}
use Rattle.zc_blkptr.specs.declared.ptr.Ptr.{Ptr}
use Rattle.zc_blkptr.proofs.Spelling.{ptr_length}
use Rattle.zc_table.specs.declared.stored.StoredCount.{StoredCount}
use Rattle.zc_table.specs.Counts.{used_of, region_count, regions_of, entries_from, stored_of}
use Rattle.zc_table.specs.TableBytes.{table_bytes}
use Rattle.zc_table.specs.TableBytes as table
use Rattle.zc_table.proofs.EntryLaws.{entries_used}
use Rattle.zc_table.proofs.RegionLaws.{regions_length}
use Rattle.zc_spacemap.specs.declared.state.PlaceState.{PlaceState}
use Rattle.zc_spacemap.specs.States.{state_of, is_kept}
use Rattle.zc_spacemap.specs.MapBytes.{map_bytes, kept_places}
use Rattle.zc_spacemap.proofs.MapLaws.{bytes_length}
use Rattle.zc_tree.specs.declared.tree.LogState.{LogState}
use Rattle.zc_tree.specs.declared.tree.LogState.TheVariants.{Normal, Claimed}
use Rattle.zc_tree.specs.declared.tree.File.{File}
use Rattle.zc_tree.specs.declared.tree.Dataset.{Dataset}
use Rattle.zc_tree.specs.declared.tree.Tree.{Tree}
use Rattle.zc_tree.specs.Spelling.{name_bytes, log_bytes, entry_bytes, entries_bytes, file_bytes, files_bytes, dataset_bytes, IsEntry, IsFile, IsDataset}
use Rattle.zc_tree.specs.Reach.{pointers_of_tree}
use Rattle.zc_tree.specs.Catalogue.{catalogue_bytes, devices_bytes, stored_map, AreDatasets}
use Rattle.zc_damage.specs.Places.{extra_at, is_owned}
use Rattle.zc_next.specs.Exact.{exact_counts, exact_states, exact_parts, file_size, log_size, dataset_size, device_size, catalogue_size}
use Rattle.zc_next.proofs.EachItem.{all_of_each}
use Rattle.zc_next.proofs.ExactTables.{counts_on}
use Rattle.zc_next.proofs.ExactMaps.{states_on}
use Rattle.zc_num.proofs.Each.{length_each}

-- one item more of a sum
sum_map_more : {X : Type 0} (f : X → ℕ) (x : X) (xs : List X) → sum (map f (x ∷ xs)) ≡ f x + sum (map f xs)
sum_map_more f x xs = sum_by-cons (λ (n : ℕ). n) (f x) (map f xs)

-- ---- datasets

-- an entry has 44 bytes
entries_length : (devices places size : ℕ) (entries : List (ℕ × Ptr)) → AllByRecursion (IsEntry devices places size) entries → length (entries_bytes entries) ≡ 44 * length entries
unfolding entry_bytes
entries_length devices places size [] fits = refl
entries_length devices places size (entry ∷ entries) fits =
    let number = u32_bytes_length entry.0 in
    let pointer = ptr_length entry.1 fits.0.pointer.widths.digest in
    let others = entries_length devices places size entries fits.1 in
    simp length-append (omega arith)

pub file_length : (devices places next_file : ℕ) (file : File) → IsFile devices places next_file file → length (file_bytes file) ≡ file_size file
unfolding file_bytes name_bytes
file_length devices places next_file file fits =
    let id = u64_bytes_length file.id in
    let name = u32_bytes_length (length file.name) in
    let size = u64_bytes_length file.size in
    let slots = u32_bytes_length (length file.slots) in
    let entries = entries_length devices places file.size file.slots fits.entries in
    simp length-append (omega arith)

files_length : (devices places next_file : ℕ) (files : List File) → AllByRecursion (IsFile devices places next_file) files → length (files_bytes files) ≡ sum (map file_size files)
files_length devices places next_file [] fits = refl
files_length devices places next_file (file ∷ files) fits =
    length-append (file_bytes file) (files_bytes files)
    ∙ omega (arith, file_length devices places next_file file fits.0, files_length devices places next_file files fits.1, sum_map_more file_size file files)

log_length : (log : LogState) → length (log_bytes log) ≡ log_size log
unfolding log_bytes
log_length Normal = u32_bytes_length 0
log_length (Claimed epoch blocks) =
    let state = u32_bytes_length 1 in
    let number = u64_bytes_length epoch in
    let count = u32_bytes_length blocks in
    simp length-append (omega arith)

pub dataset_length : (devices places group next_dataset : ℕ) (dataset : Dataset) → IsDataset devices places group next_dataset dataset → length (dataset_bytes dataset) ≡ dataset_size dataset
unfolding dataset_bytes name_bytes
dataset_length devices places group next_dataset dataset fits =
    let id = u64_bytes_length dataset.id in
    let slot = u32_bytes_length dataset.slot in
    let name = u32_bytes_length (length dataset.name) in
    let next_file = u64_bytes_length dataset.next_file in
    let log = log_length dataset.log in
    let count = u32_bytes_length (length dataset.files) in
    let files = files_length devices places dataset.next_file dataset.files fits.files in
    simp length-append (omega arith)

pub datasets_length : (devices places group next_dataset : ℕ) (others datasets : List Dataset) → AreDatasets devices places group next_dataset others datasets → length (flat_map dataset_bytes datasets) ≡ sum (map dataset_size datasets)
datasets_length devices places group next_dataset others [] fits = refl
datasets_length devices places group next_dataset others (dataset ∷ datasets) fits =
    ap length (flat_map-cons dataset_bytes dataset datasets) ∙ length-append (dataset_bytes dataset) (flat_map dataset_bytes datasets)
    ∙ omega (
      arith,
      dataset_length devices places group next_dataset dataset fits.0,
      datasets_length devices places group next_dataset (others ++ dataset ∷ []) datasets fits.2,
      sum_map_more dataset_size dataset datasets,
    )

-- ---- devices

-- an entry of a table has 8 bytes
counts_length : (entries : List StoredCount) → length (flat_map table.entry_bytes entries) ≡ 8 * length entries
unfolding table.entry_bytes
counts_length [] = refl
counts_length (entry ∷ entries) =
    let place = u32_bytes_length entry.place in
    let count = u32_bytes_length entry.count in
    let others = counts_length entries in
    let here : length (u32_bytes entry.place ++ u32_bytes entry.count) ≡ 8 = simp length-append (omega arith) in
    ap length (flat_map-cons table.entry_bytes entry entries) ∙ length-append (table.entry_bytes entry) (flat_map table.entry_bytes entries) ∙ omega arith

-- a counter has 4
counters_length : (counters : List ℕ) → length (flat_map u32_bytes counters) ≡ 4 * length counters
counters_length [] = refl
counters_length (counter ∷ counters) =
    ap length (flat_map-cons u32_bytes counter counters) ∙ length-append (u32_bytes counter) (flat_map u32_bytes counters) ∙ omega (arith, u32_bytes_length counter, counters_length counters)

-- the table of counts
pub stored_length : (counts : List ℕ) → length (table_bytes (stored_of counts)) ≡ 4 + 8 * used_of counts + 4 * region_count (length counts)
unfolding table_bytes
stored_length counts =
    let number = u32_bytes_length (length (entries_from 0 counts)) in
    let entries = counts_length (entries_from 0 counts) in
    let counters = counters_length (regions_of counts) in
    let used = entries_used 0 counts in
    let regions = regions_length counts in
    simp length-append (omega arith)

-- the map of states
map_length : (states : List PlaceState) → length (map_bytes (kept_places states)) ≡ length states / 8
map_length states = bytes_length (kept_places states) ∙ ap (λ (n : ℕ). n / 8) (length-map states is_kept)

-- the bytes of the device's part, as they are spelled
abbrev spelled_size : ℕ → List ℕ → ℕ
spelled_size places counts = 4 + 8 * used_of counts + 4 * region_count places + places / 8

-- each device's table and map, where there are as many tables as maps
devices_length : (places : ℕ) (counts : List (List ℕ)) (states : List (List PlaceState)) → length counts ≡ length states
    → AllByRecursion (λ (each : List ℕ). length each ≡ places) counts → AllByRecursion (λ (each : List PlaceState). length each ≡ places) states
    → length (devices_bytes (map stored_of counts) (map stored_map states)) ≡ sum (map (spelled_size places) counts)
devices_length places [] [] as_many long_counts long_states = refl
devices_length places [] (states ∷ others) as_many long_counts long_states = absurd (omega arith)
devices_length places (counts ∷ others) [] as_many long_counts long_states = absurd (omega arith)
devices_length places (counts ∷ more_counts) (states ∷ more_states) as_many long_counts long_states =
    let front : List ℕ = table_bytes (stored_of counts) in
    let middle : List ℕ = map_bytes (kept_places states) in
    let back : List ℕ = devices_bytes (map stored_of more_counts) (map stored_map more_states) in
    let first : length front ≡ 4 + 8 * used_of counts + 4 * region_count places = stored_length counts ∙ ap (λ (n : ℕ). 4 + 8 * used_of counts + 4 * region_count n) long_counts.0 in
    let second : length middle ≡ places / 8 = map_length states ∙ ap (λ (n : ℕ). n / 8) long_states.0 in
    let third = devices_length places more_counts more_states (omega arith) long_counts.1 long_states.1 in
    length-append front (middle ++ back) ∙ ap (λ (n : ℕ). length front + n) (length-append middle back)
    ∙ omega (arith, first, second, third, sum_map_more (spelled_size places) counts more_counts)

-- those of exact tables and maps
exact_devices_length : (devices places : ℕ) (chain : List PlaceAt) (reach : List Ptr)
    → length (devices_bytes (map stored_of (exact_counts devices places reach)) (map stored_map (exact_states devices places chain reach))) ≡ sum (map (spelled_size places) (exact_counts devices places reach))
exact_devices_length devices places chain reach =
    let counts : ℕ → List ℕ = λ device. counts_on places device reach in
    let states : ℕ → List PlaceState = λ device. states_on devices places device chain reach in
    devices_length places (exact_counts devices places reach) (exact_states devices places chain reach)
    (length_each devices counts ∙ sym (length_each devices states))
    (all_of_each (λ (each : List ℕ). length each ≡ places) devices counts (λ device within. length_each places (λ place. extra_at places reach (device * places + place))))
    (all_of_each (λ (each : List PlaceState). length each ≡ places) devices states (λ device within. length_each places (λ place. state_of (is_owned devices places chain reach (device * places + place)))))

-- ---- the whole catalogue

-- its parts
exact_length : (devices places : ℕ) (chain : List PlaceAt) (tree : Tree)
    → length (catalogue_bytes (exact_parts devices places chain tree)) ≡ 4 + length (flat_map dataset_bytes tree.datasets) + sum (map (spelled_size places) (exact_counts devices places (pointers_of_tree tree)))
unfolding catalogue_bytes
exact_length devices places chain tree =
    let number : List ℕ = u32_bytes (length tree.datasets) in
    let datasets : List ℕ = flat_map dataset_bytes tree.datasets in
    let devices_part : List ℕ = devices_bytes (map stored_of (exact_counts devices places (pointers_of_tree tree))) (map stored_map (exact_states devices places chain (pointers_of_tree tree))) in
    length-append number (datasets ++ devices_part) ∙ ap (λ (n : ℕ). length number + n) (length-append datasets devices_part)
    ∙ omega (arith, u32_bytes_length (length tree.datasets), exact_devices_length devices places chain (pointers_of_tree tree))

-- it is as long whatever places the catalogue has
pub same_length : (devices places : ℕ) (chain other : List PlaceAt) (tree : Tree) → length (catalogue_bytes (exact_parts devices places chain tree)) ≡ length (catalogue_bytes (exact_parts devices places other tree))
same_length devices places chain other tree = exact_length devices places chain tree ∙ sym (exact_length devices places other tree)

-- it has the size that its tree gives
pub catalogue_length : (devices places : ℕ) (chain : List PlaceAt) (tree : Tree) → AreLimits devices places → AreDatasets devices places tree.group tree.next_dataset [] tree.datasets
    → length (catalogue_bytes (exact_parts devices places chain tree)) ≡ catalogue_size devices places tree
catalogue_length devices places chain tree limits fits =
    let regions : region_count places ≡ places / 64 = omega (arith, limits.whole_regions) in
    let each : sum (map (spelled_size places) (exact_counts devices places (pointers_of_tree tree))) ≡ sum (map (device_size places) (exact_counts devices places (pointers_of_tree tree))) =
    ap (λ (n : ℕ). sum (map (λ (counts : List ℕ). 4 + 8 * used_of counts + 4 * n + places / 8) (exact_counts devices places (pointers_of_tree tree)))) regions in
    exact_length devices places chain tree ∙ omega (arith, datasets_length devices places tree.group tree.next_dataset [] tree.datasets fits, each)

-- it has some byte
pub catalogue_some : (devices places : ℕ) (chain : List PlaceAt) (tree : Tree) → 4 ≤ length (catalogue_bytes (exact_parts devices places chain tree))
catalogue_some devices places chain tree = omega (arith, exact_length devices places chain tree)
