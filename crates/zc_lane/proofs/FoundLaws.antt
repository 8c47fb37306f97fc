-- A state that holds a plain pool holds the same files.
use Rattle.std.proofs.Common.{◌≡◌, ◌∙◌, ℕ, zero, suc, ◌+◌, ◌/◌, ◌%◌, ◌≤◌, List, [], ◌∷◌, map, length, Option, Some, None, cond, refl, sym, ap, ap₂}
use Rattle.std.specs.Prelude.{slice_get, slice_index, unwrap_or}
use Rattle.std.specs.Option.{option_map}
use Rattle.std.specs.Str.{bytes_eq}
use Rattle.zc_num.specs.Ordered.{value_at}
use Rattle.zc_num.specs.Words.{each, found_from}
use Rattle.zc_num.specs.declared.limits.Limits.{Limits}
use Rattle.zc_num.proofs.Each.{map_each, each_same}
use Rattle.zc_blkptr.specs.declared.ptr.Ptr.{Ptr}
use Rattle.zc_tree.specs.declared.tree.File.{File}
use Rattle.zc_tree.specs.declared.tree.Dataset.{Dataset}
use Rattle.zc_damage.specs.declared.block.FoundBlock.{FoundBlock}
use Rattle.zc_damage.specs.Places.{bytes_in}
use Rattle.zc_state.specs.State.{State}
use Rattle.zc_plain.specs.declared.plain_pool.PlainBlock.{PlainBlock}
use Rattle.zc_plain.specs.declared.plain_pool.PlainBlock.TheVariants.{Hole, Made}
use Rattle.zc_plain.specs.declared.plain_pool.PlainFile.{PlainFile}
use Rattle.zc_plain.specs.declared.plain_pool.PlainDataset.{PlainDataset}
use Rattle.zc_plain.specs.declared.plain_pool.PlainPool.{PlainPool}
use Rattle.zc_plain.specs.PlainPool.{blocks_of_size, bytes_of_block, block_at, byte_of, dataset_at, new_dataset}
use Rattle.zc_plain.specs.Answer.{dataset_place}
use Rattle.zc_plain.specs.IsPlain.{IsPlain}
use Rattle.zc_apply.specs.Alike.{Holds}
use Rattle.zc_apply.specs.Found.{bare_block, bare_file, bare_dataset, bare_pool, block_found, file_found, dataset_found, bare_found}
use Rattle.zc_apply.proofs.FoundLaws.{pool_of_held}
use Rattle.zc_lane.specs.Found.{plain_block, plain_file, plain_dataset, found_in, Contents, contents_of, files_under, HoldSame}

-- ---- what no stamp changes

-- the bytes of a block
bare_bytes : (block : PlainBlock) → bytes_of_block (bare_block block) ≡ bytes_of_block block
bare_bytes Hole = refl
bare_bytes (Made entry index bytes) = refl

bare_at : (blocks : List PlainBlock) (k : ℕ) → block_at k (map bare_block blocks) ≡ bare_block (block_at k blocks)
bare_at [] k = refl
bare_at (block ∷ blocks) zero = refl
bare_at (block ∷ blocks) (suc k) = bare_at blocks k

bare_byte : (file : PlainFile) (i : ℕ) → byte_of (bare_file file) i ≡ byte_of file i
unfolding byte_of
bare_byte file i =
    ap (λ (block : PlainBlock). slice_index (bytes_of_block block) (i % 4096)) (bare_at file.blocks (i / 4096))
    ∙ ap (λ (bytes : List ℕ). slice_index bytes (i % 4096)) (bare_bytes (block_at (i / 4096) file.blocks))

-- the contents of a file
bare_contents : (file : PlainFile) → contents_of (bare_file file) ≡ contents_of file
bare_contents file =
    let same : (λ i. byte_of (bare_file file) i) ≡ (λ i. byte_of file i) = λ j i. bare_byte file i j in
    ap (λ (f : ℕ → ℕ). record { name = file.name; bytes = each file.size f }) same

bare_files : (files : List PlainFile) → map contents_of (map bare_file files) ≡ map contents_of files
bare_files [] = refl
bare_files (file ∷ files) = ap₂ (λ (c : Contents) (cs : List Contents). c ∷ cs) (bare_contents file) (bare_files files)

-- where a dataset stands
bare_found_from : (name : List ℕ) (k : ℕ) (datasets : List PlainDataset)
    → found_from (λ (dataset : PlainDataset). bytes_eq dataset.name name) k (map bare_dataset datasets) ≡ found_from (λ (dataset : PlainDataset). bytes_eq dataset.name name) k datasets
bare_found_from name k [] = refl
bare_found_from name k (dataset ∷ datasets) = ap (cond (bytes_eq dataset.name name) (Some k)) (bare_found_from name (k + 1) datasets)

bare_place : (name : List ℕ) (pool : PlainPool) → dataset_place name (bare_pool pool) ≡ dataset_place name pool
unfolding dataset_place
bare_place name pool = bare_found_from name 0 pool.datasets

bare_there : (datasets : List PlainDataset) (place : ℕ) → unwrap_or (slice_get (map bare_dataset datasets) place) (new_dataset 0 []) ≡ bare_dataset (unwrap_or (slice_get datasets place) (new_dataset 0 []))
bare_there [] place = refl
bare_there (dataset ∷ datasets) zero = refl
bare_there (dataset ∷ datasets) (suc place) = bare_there datasets place

bare_dataset_at : (place : ℕ) (pool : PlainPool) → dataset_at place (bare_pool pool) ≡ bare_dataset (dataset_at place pool)
unfolding dataset_at
bare_dataset_at place pool = bare_there pool.datasets place

-- the files under a name
bare_under : (name : List ℕ) (pool : PlainPool) → files_under name (bare_pool pool) ≡ files_under name pool
bare_under name pool =
    let files : (λ place. map contents_of (dataset_at place (bare_pool pool)).files) ≡ (λ place. map contents_of (dataset_at place pool).files) =
    λ j place. files_at place j in
    ap₂ (λ (f : ℕ → List Contents) (o : Option ℕ). option_map f o) files (bare_place name pool)
  where
    files_at : (place : ℕ) → map contents_of (dataset_at place (bare_pool pool)).files ≡ map contents_of (dataset_at place pool).files
    files_at place =
        ap (λ (dataset : PlainDataset). map contents_of dataset.files) (bare_dataset_at place pool) ∙ bare_files (dataset_at place pool).files

-- pools that differ in stamps at most hold the same files
pub stamps_hold_same : (pool other : PlainPool) → bare_pool pool ≡ bare_pool other → HoldSame pool other
stamps_hold_same pool other differ name = sym (bare_under name pool) ∙ ap (files_under name) differ ∙ bare_under name other

-- ---- the pool of a state, without its stamps

module _ (blocks : List FoundBlock) where
  block_bare : (found : Option Ptr) → bare_block (plain_block blocks found) ≡ block_found (bytes_in blocks) found
  block_bare None = refl
  block_bare (Some ptr) = refl

  file_bare : (file : File) → bare_file (plain_file blocks file) ≡ file_found (bytes_in blocks) file
  file_bare file =
      let count : ℕ = blocks_of_size file.size in
      let same : map bare_block (each count (λ k. plain_block blocks (value_at k file.slots))) ≡ each count (λ k. block_found (bytes_in blocks) (value_at k file.slots)) =
      map_each bare_block count (λ k. plain_block blocks (value_at k file.slots))
      ∙ each_same count (λ k. bare_block (plain_block blocks (value_at k file.slots))) (λ k. block_found (bytes_in blocks) (value_at k file.slots)) (λ k within. block_bare (value_at k file.slots)) in
      λ i. record { id = file.id; name = file.name; size = file.size; blocks = same i }

  files_bare : (files : List File) → map bare_file (map (plain_file blocks) files) ≡ map (file_found (bytes_in blocks)) files
  files_bare [] = refl
  files_bare (file ∷ files) = ap₂ (λ (first : PlainFile) (rest : List PlainFile). first ∷ rest) (file_bare file) (files_bare files)

  dataset_bare : (dataset : Dataset) → bare_dataset (plain_dataset blocks dataset) ≡ dataset_found (bytes_in blocks) dataset
  dataset_bare dataset =
      let same : map bare_file (map (plain_file blocks) dataset.files) ≡ map (file_found (bytes_in blocks)) dataset.files = files_bare dataset.files in
      λ i. record { id = dataset.id; name = dataset.name; next_file = dataset.next_file; files = same i }

  datasets_bare : (datasets : List Dataset) → map bare_dataset (map (plain_dataset blocks) datasets) ≡ map (dataset_found (bytes_in blocks)) datasets
  datasets_bare [] = refl
  datasets_bare (dataset ∷ datasets) = ap₂ (λ (first : PlainDataset) (rest : List PlainDataset). first ∷ rest) (dataset_bare dataset) (datasets_bare datasets)

pool_bare : (limits : Limits) (s : State) → bare_pool (found_in limits s) ≡ bare_found (bytes_in s.blocks) limits s.parts.tree
pool_bare limits s =
    let same : map bare_dataset (map (plain_dataset s.blocks) s.parts.tree.datasets) ≡ map (dataset_found (bytes_in s.blocks)) s.parts.tree.datasets = datasets_bare s.blocks s.parts.tree.datasets in
    λ i. record { limits = limits; next_dataset = s.parts.tree.next_dataset; datasets = same i }

-- a state that holds a plain pool has its files under every name
pub found_same : (s : State) (areas : List ℕ) (pool : PlainPool) → IsPlain pool → length pool.datasets ≤ length areas → Holds (bytes_in s.blocks) areas pool s.parts.tree → HoldSame (found_in pool.limits s) pool
found_same s areas pool plain enough holds =
    stamps_hold_same (found_in pool.limits s) pool (pool_bare pool.limits s ∙ pool_of_held (bytes_in s.blocks) areas pool s.parts.tree plain enough holds)
