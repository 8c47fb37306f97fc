-- The plain pool that is found in a tree: no byte is left after a file's size, and the tree holds the pool.
use Rattle.std.proofs.Common.{◌≡◌, ◌≢◌, ◌∙◌, ℕ, zero, suc, ◌+◌, ◌-◌, ◌*◌, ◌/◌, ◌%◌, ◌<◌, ◌≤◌, Bool, cond, ◌&&◌, ◌||◌, ◌==◌, List, [], ◌∷◌, ◌++◌, map, length, drop, get_or, Option, Some, None, refl, sym, ap, subst, ⊎_elim, arith}
use Rattle.std.specs.Prelude.{flat_map, sum_by}
use Rattle.std.specs.List.{AllByRecursion, list_any, range_with_len}
use Rattle.std.specs.Map.{keys_of}
use Rattle.std.proofs.lemmas.Bool.{cases_lt, ne_eqb}
use Rattle.std.proofs.lemmas.List.{get_or-drop, get_or_past, length-append}
use Rattle.std.proofs.lemmas.List.Sums.{sum_by-cons}
use Rattle.zc_num.specs.Ordered.{value_at}
use Rattle.zc_num.specs.Words.{each}
use Rattle.zc_num.specs.declared.limits.Limits.{Limits}
use Rattle.zc_num.proofs.Each.{length_each, item_of_each}
use Rattle.zc_blkptr.specs.declared.ptr.Ptr.{Ptr}
use Rattle.zc_tree.specs.declared.tree.LogState.TheVariants.{Normal}
use Rattle.zc_tree.specs.declared.tree.File.{File}
use Rattle.zc_tree.specs.declared.tree.Dataset.{Dataset}
use Rattle.zc_tree.specs.declared.tree.Tree.{Tree}
use Rattle.zc_tree.specs.Reach.{pointers_of_file, pointers_of_files}
use Rattle.zc_tree.specs.Spelling.{AscendFrom, IsEntry, IsFile, IsDataset}
use Rattle.zc_damage.specs.declared.block.FoundBlock.{FoundBlock}
use Rattle.zc_damage.specs.Places.{is_block_at, bytes_in}
use Rattle.zc_damage.specs.Checks.{last_block, last_pointer}
use Rattle.zc_damage.specs.Passed.{HasZeroTail}
use Rattle.zc_damage.proofs.EarlyLaws.{each_weaker, image_each}
use Rattle.zc_plain.specs.declared.plain_pool.PlainBlock.{PlainBlock}
use Rattle.zc_plain.specs.declared.plain_pool.PlainBlock.TheVariants.{Hole}
use Rattle.zc_plain.specs.declared.plain_pool.PlainFile.{PlainFile}
use Rattle.zc_plain.specs.declared.plain_pool.PlainDataset.{PlainDataset}
use Rattle.zc_plain.specs.PlainPool.{blocks_of_size, bytes_of_block, block_at, byte_of, made_count, pointers_in}
use Rattle.zc_plain.specs.Charge.{stamp_of}
use Rattle.zc_plain.proofs.Bytes.{zero_of_zeros}
use Rattle.zc_plain.proofs.Together.{block_by_place}
use Rattle.zc_heart.specs.declared.opening.HeartBlock.{HeartBlock}
use Rattle.zc_heart.specs.Changes.{slot_entry, slots_from, file_of, dataset_of, datasets_of}
use Rattle.zc_heart.specs.Meaning.{bytes_at, found_block, found_file, found_dataset, found_pool, IsZeroPast}
use Rattle.zc_heart.proofs.RowLaws.{above_least, row_of_each, made_by_stamps}
use Rattle.zc_heart.proofs.SlotLaws.{value_here, value_past, none_below}
use Rattle.zc_apply.specs.Alike.{AreSlotsAlike, IsFileAlike, AreFilesAlike, IsDatasetAlike, AreDatasetsAlike, by_bytes, HasBytes, Holds}
use Rattle.zc_pool.specs.Importing.{heart_block}

-- ---- blocks

-- the bytes at a place, as they were read
bytes_same : (blocks : List FoundBlock) (device place : ℕ) → bytes_at (map heart_block blocks) device place ≡ bytes_in blocks device place
bytes_same [] device place = refl
bytes_same (block ∷ blocks) device place = ap (cond (is_block_at device place block) block.bytes) (bytes_same blocks device place)

pub bytes_are : (blocks : List FoundBlock) → bytes_at (map heart_block blocks) ≡ bytes_in blocks
bytes_are blocks = λ i device place. bytes_same blocks device place i

-- some block is at a place
pub any_same : (blocks : List FoundBlock) (device place : ℕ) → list_any (λ (block : HeartBlock). (block.device == device) && (block.place == place)) (map heart_block blocks)
    ≡ list_any (λ (block : FoundBlock). (block.device == device) && (block.place == place)) blocks
any_same [] device place = refl
any_same (block ∷ blocks) device place = ap (λ (rest : Bool). is_block_at device place block || rest) (any_same blocks device place)

-- ---- no byte after a size

zero_at : (bytes : List ℕ) (k : ℕ) → AllByRecursion (λ (byte : ℕ). byte ≡ 0) bytes → get_or bytes k 0 ≡ 0
zero_at [] k zeros = refl
zero_at (byte ∷ bytes) zero zeros = zeros.0
zero_at (byte ∷ bytes) (suc k) zeros = zero_at bytes k zeros.1

zero_after : (bytes : List ℕ) (count k : ℕ) → count ≤ k → AllByRecursion (λ (byte : ℕ). byte ≡ 0) (drop count bytes) → get_or bytes k 0 ≡ 0
zero_after bytes count k past zeros =
    let at : k ≡ count + (k - count) = omega arith in
    ap (λ (n : ℕ). get_or bytes n 0) at ∙ sym (get_or-drop count bytes (k - count) 0) ∙ zero_at (drop count bytes) (k - count) zeros

-- the last block of a file is the one in which a byte after its size may lie
last_is : (size k r : ℕ) → k < blocks_of_size size → size ≤ k * 4096 + r → r < 4096 → last_block size ≡ k
last_is size k r within past low = omega (arith, within, past, low)

some_bytes : (size k : ℕ) → k < blocks_of_size size → size ≢ 0
some_bytes size k within none = absurd (omega (arith, within, none))

module _ (blocks : List HeartBlock) (file : File) (zeros : HasZeroTail (bytes_at blocks) file) where
  slot_zero : (k r : ℕ) (slot : Option Ptr) → k < blocks_of_size file.size → file.size ≤ k * 4096 + r → r < 4096 → value_at k file.slots ≡ slot
      → get_or (bytes_of_block (found_block blocks slot)) r 0 ≡ 0
  slot_zero k r None within past low there = zero_of_zeros r
  slot_zero k r (Some ptr) within past low there =
      let last : last_block file.size ≡ k = last_is file.size k r within past low in
      let pointer : last_pointer file ≡ Some ptr =
      ap (λ (b : Bool). cond b None (value_at (last_block file.size) file.slots)) (ne_eqb file.size 0 (some_bytes file.size k within)) ∙ ap (λ (n : ℕ). value_at n file.slots) last ∙ there in
      zero_after (bytes_at blocks ptr.device ptr.place) (file.size - 4096 * last_block file.size) r (omega (arith, last, past)) (zeros ptr pointer)

  block_zero : (k r : ℕ) → file.size ≤ k * 4096 + r → r < 4096 → get_or (bytes_of_block (block_at k (found_file blocks file).blocks)) r 0 ≡ 0
  block_zero k r past low =
      let n : ℕ = blocks_of_size file.size in
      let f : ℕ → PlainBlock = λ j. found_block blocks (value_at j file.slots) in
      let byte_in : PlainBlock → ℕ = λ block. get_or (bytes_of_block block) r 0 in
      ap byte_in (block_by_place (each n f) k)
      ∙ ⊎_elim
      (λ (within : k < n). ap byte_in (item_of_each n f k Hole within) ∙ slot_zero k r (value_at k file.slots) within past low refl)
      (λ (beyond : n ≤ k). ap byte_in (get_or_past (each n f) k Hole (let long = length_each n f in omega (arith, long, beyond))) ∙ zero_of_zeros r)
      (cases_lt k n)

  pub file_zero_past : IsZeroPast (found_file blocks file)
  unfolding byte_of
  file_zero_past i past = block_zero (i / 4096) (i % 4096) (omega (arith, past)) (omega arith)

files_zero_past : (blocks : List HeartBlock) (files : List File) → AllByRecursion (HasZeroTail (bytes_at blocks)) files → AllByRecursion IsZeroPast (map (found_file blocks) files)
files_zero_past blocks files zeros = image_each IsZeroPast (found_file blocks) files (each_weaker (HasZeroTail (bytes_at blocks)) (λ (file : File). IsZeroPast (found_file blocks file)) (file_zero_past blocks) files zeros)

pub pool_zero_past : (limits : Limits) (tree : Tree) (blocks : List HeartBlock) → AllByRecursion (λ (dataset : Dataset). AllByRecursion (HasZeroTail (bytes_at blocks)) dataset.files) tree.datasets
    → AllByRecursion (λ (dataset : PlainDataset). AllByRecursion IsZeroPast dataset.files) (found_pool limits tree blocks).datasets
pool_zero_past limits tree blocks zeros =
    image_each (λ (dataset : PlainDataset). AllByRecursion IsZeroPast dataset.files) (found_dataset blocks) tree.datasets
    (each_weaker (λ (dataset : Dataset). AllByRecursion (HasZeroTail (bytes_at blocks)) dataset.files) (λ (dataset : Dataset). AllByRecursion IsZeroPast (map (found_file blocks) dataset.files))
    (λ dataset all. files_zero_past blocks dataset.files all) tree.datasets zeros)

-- ---- the slots of a file that may be in a tree

abbrev keys : List (ℕ × Ptr) → List ℕ
keys es = map (λ entry. entry.0) es

entries_low : (devices places next : ℕ) (file : File) → IsFile devices places next file → AllByRecursion (λ (e : ℕ × Ptr). e.0 < blocks_of_size file.size) file.slots
entries_low devices places next file is =
    each_weaker (IsEntry devices places file.size) (λ (e : ℕ × Ptr). e.0 < blocks_of_size file.size) (λ e entry. let before = entry.before_size in omega (arith, before)) file.slots is.entries

-- ---- how many pointers

single : (blocks : List HeartBlock) (slots : List (ℕ × Ptr)) → length (flat_map (λ (e : ℕ × Ptr). stamp_of (found_block blocks (Some e.1))) slots) ≡ length (map (λ (e : ℕ × Ptr). e.1) slots)
single blocks [] = refl
single blocks (e ∷ slots) = ap suc (single blocks slots)

file_made : (devices places next : ℕ) (blocks : List HeartBlock) (file : File) → IsFile devices places next file → made_count (found_file blocks file).blocks ≡ length (pointers_of_file file)
file_made devices places next blocks file is =
    made_by_stamps (found_file blocks file).blocks
    ∙ ap length (row_of_each stamp_of (found_block blocks) refl (blocks_of_size file.size) file.slots is.blocks_ascend (entries_low devices places next file is))
    ∙ single blocks file.slots

files_made : (devices places next : ℕ) (blocks : List HeartBlock) (files : List File) → AllByRecursion (IsFile devices places next) files
    → sum_by (λ (file : PlainFile). made_count file.blocks) (map (found_file blocks) files) ≡ length (pointers_of_files files)
files_made devices places next blocks [] are = refl
files_made devices places next blocks (file ∷ files) are =
    let first = file_made devices places next blocks file are.0 in
    let rest = files_made devices places next blocks files are.1 in
    omega (arith, first, rest, sum_by-cons (λ (one : PlainFile). made_count one.blocks) (found_file blocks file) (map (found_file blocks) files), length-append (pointers_of_file file) (pointers_of_files files))

pub pointers_found : (devices places group next : ℕ) (blocks : List HeartBlock) (dataset : Dataset) → IsDataset devices places group next dataset
    → pointers_in (found_dataset blocks dataset) ≡ length (pointers_of_files dataset.files)
unfolding pointers_in
pointers_found devices places group next blocks dataset is = files_made devices places dataset.next_file blocks dataset.files is.files

-- ---- the tree holds what is found in it

range_same : {X : Type 0} (f g : ℕ → X) (n from : ℕ) → ((k : ℕ) → from ≤ k → f k ≡ g k) → map f (range_with_len from n) ≡ map g (range_with_len from n)
range_same f g zero from agree = refl
range_same f g (suc n) from agree = λ i. agree from (omega arith) i ∷ range_same f g n (from + 1) (λ k above. agree k (omega arith)) i

module _ (blocks : List HeartBlock) where
  abbrev Same : Ptr → Ptr → Type 0
  Same = HasBytes (bytes_at blocks)

  -- what is found at the blocks from one on, so many
  abbrev row : (n from : ℕ) → List (ℕ × Ptr) → List PlainBlock
  row n from es = map (λ k. found_block blocks (value_at k es)) (range_with_len from n)

  none_found : (n from : ℕ) → slots_from by_bytes from (row n from []) ≡ []
  none_found zero from = refl
  none_found (suc n) from = none_found n (from + 1)

  slots_alike : (n from : ℕ) (es : List (ℕ × Ptr)) → AscendFrom from (keys es) → AllByRecursion (λ (e : ℕ × Ptr). e.0 < from + n) es → AreSlotsAlike Same es (slots_from by_bytes from (row n from es))
  slots_alike zero from [] ascend low = tt
  slots_alike zero from (e ∷ es) ascend low = let least = ascend.0 in let most = low.0 in absurd (omega (arith, least, most))
  slots_alike (suc n) from [] ascend low = subst (AreSlotsAlike Same []) (sym (none_found (suc n) from)) tt
  slots_alike (suc n) from (e ∷ es) ascend low =
      let least = ascend.0 in
      ⊎_elim
      (λ (before : from < e.0).
      let later : AscendFrom (from + 1) (keys (e ∷ es)) = (omega arith, ascend.1) in
      let above : AllByRecursion (λ k. from < k) (keys_of (e ∷ es)) = each_weaker (λ k. from + 1 ≤ k) (λ k. from < k) (λ k le. omega arith) (keys (e ∷ es)) (above_least (from + 1) (keys (e ∷ es)) later) in
      subst (λ (block : PlainBlock). AreSlotsAlike Same (e ∷ es) (slot_entry by_bytes from block ++ slots_from by_bytes (from + 1) (row n (from + 1) (e ∷ es))))
      (sym (ap (found_block blocks) (none_below from (e ∷ es) above)))
      (slots_alike n (from + 1) (e ∷ es) later (each_weaker (λ (x : ℕ × Ptr). x.0 < from + suc n) (λ (x : ℕ × Ptr). x.0 < (from + 1) + n) (λ x below. omega arith) (e ∷ es) low)))
      (λ (at : e.0 ≤ from).
      let same : from ≡ e.0 = omega (arith, least) in
      let here : found_block blocks (value_at from (e ∷ es)) ≡ found_block blocks (Some e.1) = ap (found_block blocks) (value_here from e.0 e.1 es same) in
      let rest : row n (from + 1) (e ∷ es) ≡ row n (from + 1) es =
      range_same (λ k. found_block blocks (value_at k (e ∷ es))) (λ k. found_block blocks (value_at k es)) n (from + 1)
      (λ k above. ap (found_block blocks) (value_past k e.0 e.1 es (λ equal. absurd (omega (arith, at, above, equal))))) in
      let onward : AscendFrom (from + 1) (keys es) = subst (λ (m : ℕ). AscendFrom (m + 1) (keys es)) (sym same) ascend.1 in
      let alike : AreSlotsAlike Same es (slots_from by_bytes (from + 1) (row n (from + 1) es)) =
      slots_alike n (from + 1) es onward (each_weaker (λ (x : ℕ × Ptr). x.0 < from + suc n) (λ (x : ℕ × Ptr). x.0 < (from + 1) + n) (λ x below. omega arith) es low.1) in
      subst (λ (block : PlainBlock). AreSlotsAlike Same (e ∷ es) (slot_entry by_bytes from block ++ slots_from by_bytes (from + 1) (row n (from + 1) (e ∷ es)))) (sym here)
      (sym same, refl, subst (λ (more : List PlainBlock). AreSlotsAlike Same es (slots_from by_bytes (from + 1) more)) (sym rest) alike))
      (cases_lt from e.0)

  file_alike : (devices places next : ℕ) (file : File) → IsFile devices places next file → IsFileAlike Same file (file_of by_bytes (found_file blocks file))
  unfolding each
  file_alike devices places next file is = record {
    id = refl;
    name = refl;
    size = refl;
    slots = slots_alike (blocks_of_size file.size) 0 file.slots is.blocks_ascend
        (each_weaker (λ (e : ℕ × Ptr). e.0 < blocks_of_size file.size) (λ (e : ℕ × Ptr). e.0 < 0 + blocks_of_size file.size) (λ e low. omega arith) file.slots (entries_low devices places next file is));
  }

  files_alike : (devices places next : ℕ) (files : List File) → AllByRecursion (IsFile devices places next) files → AreFilesAlike Same files (map (file_of by_bytes) (map (found_file blocks) files))
  files_alike devices places next [] are = tt
  files_alike devices places next (file ∷ files) are = (file_alike devices places next file are.0, files_alike devices places next files are.1)

  dataset_alike : (devices places group next : ℕ) (dataset : Dataset) → IsDataset devices places group next dataset → dataset.log ≡ Normal
      → IsDatasetAlike Same dataset (dataset_of by_bytes dataset.slot (found_dataset blocks dataset))
  dataset_alike devices places group next dataset is normal = record {
    id = refl;
    slot = refl;
    name = refl;
    next_file = refl;
    log = normal;
    files = files_alike devices places dataset.next_file dataset.files is.files;
  }

  datasets_alike : (devices places group next : ℕ) (datasets : List Dataset) → AllByRecursion (IsDataset devices places group next) datasets → AllByRecursion (λ (dataset : Dataset). dataset.log ≡ Normal) datasets
      → AreDatasetsAlike Same datasets (datasets_of by_bytes (map (λ (dataset : Dataset). dataset.slot) datasets) (map (found_dataset blocks) datasets))
  datasets_alike devices places group next [] are normal = tt
  datasets_alike devices places group next (dataset ∷ datasets) are normal = (dataset_alike devices places group next dataset are.0 normal.0, datasets_alike devices places group next datasets are.1 normal.1)

  -- with no log that is claimed
  pub found_holds : (devices places group next : ℕ) (limits : Limits) (tree : Tree) → AllByRecursion (IsDataset devices places group next) tree.datasets
      → AllByRecursion (λ (dataset : Dataset). dataset.log ≡ Normal) tree.datasets → Holds (bytes_at blocks) (map (λ (dataset : Dataset). dataset.slot) tree.datasets) (found_pool limits tree blocks) tree
  found_holds devices places group next limits tree are normal = record { next_dataset = refl; datasets = datasets_alike devices places group next tree.datasets are normal }
