-- The plain pool that is found in a tree which holds one is that one, but for the stamps of its blocks.
use Rattle.std.proofs.Common.{◌≡◌, ◌≢◌, ◌∙◌, ◌⊎◌, ℕ, zero, suc, ◌+◌, ◌<◌, ◌≤◌, Bool, true, false, cond, List, [], ◌∷◌, map, length, get_or, Option, Some, None, refl, sym, ap, ⊎_elim, arith}
use Rattle.std.specs.Ordering.{nat_cmp}
use Rattle.std.specs.BTreeMap.{is_at}
use Rattle.std.proofs.lemmas.Bool.{cases_order, lt-ltb, le-ltb, eq-eqb, ne_eqb}
use Rattle.std.proofs.lemmas.List.{length-map}
use Rattle.zc_num.specs.Words.{each}
use Rattle.zc_num.specs.Ordered.{value_at}
use Rattle.zc_num.proofs.Each.{each_from_items}
use Rattle.zc_blkptr.specs.declared.ptr.Ptr.{Ptr}
use Rattle.zc_tree.specs.declared.tree.File.{File}
use Rattle.zc_tree.specs.declared.tree.Dataset.{Dataset}
use Rattle.zc_tree.specs.declared.tree.Tree.{Tree}
use Rattle.zc_plain.specs.declared.plain_pool.PlainBlock.{PlainBlock}
use Rattle.zc_plain.specs.declared.plain_pool.PlainBlock.TheVariants.{Hole, Made}
use Rattle.zc_plain.specs.declared.plain_pool.PlainFile.{PlainFile}
use Rattle.zc_plain.specs.declared.plain_pool.PlainDataset.{PlainDataset}
use Rattle.zc_plain.specs.declared.plain_pool.PlainPool.{PlainPool}
use Rattle.zc_plain.specs.PlainPool.{blocks_of_size, block_at}
use Rattle.zc_plain.specs.IsPlain.{StandsAt, IsPlainFile, IsPlain}
use Rattle.zc_heart.specs.Changes.{slots_from, file_of, dataset_of, datasets_of}
use Rattle.zc_apply.specs.Alike.{AreSlotsAlike, IsFileAlike, AreFilesAlike, IsDatasetAlike, AreDatasetsAlike, by_bytes, HasBytes, Holds}
use Rattle.zc_apply.specs.Found.{bare_block, bare_file, bare_dataset, bare_pool, block_found, blocks_found, file_found, dataset_found, bare_found}

-- ---- look-ups

-- a key is found at itself alone
at_true : (a b : ℕ) → a ≡ b → is_at (nat_cmp a) b ≡ true
at_true a b equal = rw (le-ltb a b (omega arith), eq-eqb a b equal)

at_false : (a b : ℕ) → a ≢ b → is_at (nat_cmp a) b ≡ false
at_false a b apart =
    ⊎_elim
    (λ (equal : a ≡ b). absurd (apart equal))
    (λ (other : (a < b) ⊎ (b < a)). ⊎_elim (λ (less : a < b). rw (lt-ltb a b less)) (λ (more : b < a). rw (le-ltb a b (omega arith), ne_eqb a b apart)) other)
    (cases_order a b)

-- the block whose bytes stand in the place of a pointer
abbrev block_of : Option Ptr → PlainBlock
block_of None = Hole
block_of (Some ptr) = Made 0 0 ptr.digest

-- a block below the first has no slot
none_below : (key n : ℕ) (blocks : List PlainBlock) → key < n → value_at key (slots_from by_bytes n blocks) ≡ None
none_below key n [] below = refl
none_below key n (Hole ∷ blocks) below = none_below key (n + 1) blocks (omega arith)
none_below key n (Made entry index bytes ∷ blocks) below = rw (at_false key n (λ equal. absurd (omega arith))) (none_below key (n + 1) blocks (omega arith))

-- at each block there is what stands there
slot_there : (key n k : ℕ) (blocks : List PlainBlock) → key ≡ n + k → block_of (value_at key (slots_from by_bytes n blocks)) ≡ bare_block (block_at k blocks)
slot_there key n k [] at = refl
slot_there key n zero (Hole ∷ blocks) at = ap block_of (none_below key (n + 1) blocks (omega arith))
slot_there key n zero (Made entry index bytes ∷ blocks) at = rw (at_true key n (omega arith))
slot_there key n (suc k) (Hole ∷ blocks) at = slot_there key (n + 1) k blocks (omega arith)
slot_there key n (suc k) (Made entry index bytes ∷ blocks) at = rw (at_false key n (λ equal. absurd (omega arith))) (slot_there key (n + 1) k blocks (omega arith))

-- slots that go together by their bytes have the same bytes at each block
chosen : (bytes_at : ℕ → ℕ → List ℕ) (b c : Bool) (ptr other : Ptr) (rest rest' : Option Ptr) → b ≡ c → HasBytes bytes_at ptr other → block_found bytes_at rest ≡ block_of rest'
    → block_found bytes_at (cond b (Some ptr) rest) ≡ block_of (cond c (Some other) rest')
chosen bytes_at true true ptr other rest rest' same has alike = ap (λ (bytes : List ℕ). Made 0 0 bytes) has
chosen bytes_at true false ptr other rest rest' same has alike = cc
chosen bytes_at false true ptr other rest rest' same has alike = cc
chosen bytes_at false false ptr other rest rest' same has alike = alike

value_alike : (bytes_at : ℕ → ℕ → List ℕ) (key : ℕ) (es fs : List (ℕ × Ptr)) → AreSlotsAlike (HasBytes bytes_at) es fs → block_found bytes_at (value_at key es) ≡ block_of (value_at key fs)
value_alike bytes_at key [] [] alike = refl
value_alike bytes_at key [] (f ∷ fs) alike = absurd alike
value_alike bytes_at key (e ∷ es) [] alike = absurd alike
value_alike bytes_at key (e ∷ es) (f ∷ fs) alike =
    chosen bytes_at (is_at (nat_cmp key) e.0) (is_at (nat_cmp key) f.0) e.1 f.1 (value_at key es) (value_at key fs) (ap (is_at (nat_cmp key)) alike.0) alike.1 (value_alike bytes_at key es fs alike.2)

-- ---- files

bare_at : (blocks : List PlainBlock) (k : ℕ) → get_or (map bare_block blocks) k Hole ≡ bare_block (block_at k blocks)
bare_at [] k = refl
bare_at (block ∷ blocks) zero = refl
bare_at (block ∷ blocks) (suc k) = bare_at blocks k

-- the file that is found is the plain one
file_is : (bytes_at : ℕ → ℕ → List ℕ) (file : File) (plain : PlainFile) → IsPlainFile plain → IsFileAlike (HasBytes bytes_at) file (file_of by_bytes plain) → file_found bytes_at file ≡ bare_file plain
file_is bytes_at file plain is alike =
    let f : ℕ → PlainBlock = λ k. block_found bytes_at (value_at k file.slots) in
    let blocks : map bare_block plain.blocks ≡ each (blocks_of_size plain.size) f =
    each_from_items f (map bare_block plain.blocks) (blocks_of_size plain.size) Hole (length-map plain.blocks bare_block ∙ is.blocks)
    (λ k within. bare_at plain.blocks k ∙ sym (value_alike bytes_at k file.slots (slots_from by_bytes 0 plain.blocks) alike.slots ∙ slot_there k 0 k plain.blocks (omega arith))) in
    let found : blocks_found bytes_at file ≡ map bare_block plain.blocks = ap (λ (size : ℕ). each (blocks_of_size size) f) alike.size ∙ sym blocks in
    λ i. record { id = alike.id i; name = alike.name i; size = alike.size i; blocks = found i }

files_are : (bytes_at : ℕ → ℕ → List ℕ) (files : List File) (plains : List PlainFile) → ((place : ℕ) (plain : PlainFile) → StandsAt plains place plain → IsPlainFile plain)
    → AreFilesAlike (HasBytes bytes_at) files (map (file_of by_bytes) plains) → map (file_found bytes_at) files ≡ map bare_file plains
files_are bytes_at [] [] are alike = refl
files_are bytes_at [] (plain ∷ plains) are alike = absurd alike
files_are bytes_at (file ∷ files) [] are alike = absurd alike
files_are bytes_at (file ∷ files) (plain ∷ plains) are alike =
    let first : file_found bytes_at file ≡ bare_file plain = file_is bytes_at file plain (are 0 plain refl) alike.0 in
    let others : map (file_found bytes_at) files ≡ map bare_file plains = files_are bytes_at files plains (λ place other stands. are (suc place) other stands) alike.1 in
    λ i. first i ∷ others i

dataset_is : (bytes_at : ℕ → ℕ → List ℕ) (area : ℕ) (dataset : Dataset) (plain : PlainDataset) → ((place : ℕ) (file : PlainFile) → StandsAt plain.files place file → IsPlainFile file)
    → IsDatasetAlike (HasBytes bytes_at) dataset (dataset_of by_bytes area plain) → dataset_found bytes_at dataset ≡ bare_dataset plain
dataset_is bytes_at area dataset plain are alike =
    let files : map (file_found bytes_at) dataset.files ≡ map bare_file plain.files = files_are bytes_at dataset.files plain.files are alike.files in
    λ i. record { id = alike.id i; name = alike.name i; next_file = alike.next_file i; files = files i }

datasets_are : (bytes_at : ℕ → ℕ → List ℕ) (areas : List ℕ) (datasets : List Dataset) (plains : List PlainDataset)
    → ((place : ℕ) (plain : PlainDataset) → StandsAt plains place plain → (at : ℕ) (file : PlainFile) → StandsAt plain.files at file → IsPlainFile file)
    → length plains ≤ length areas → AreDatasetsAlike (HasBytes bytes_at) datasets (datasets_of by_bytes areas plains) → map (dataset_found bytes_at) datasets ≡ map bare_dataset plains
datasets_are bytes_at areas [] [] are enough alike = refl
datasets_are bytes_at areas (dataset ∷ datasets) [] are enough alike = absurd alike
datasets_are bytes_at [] datasets (plain ∷ plains) are enough alike = absurd (omega arith)
datasets_are bytes_at (area ∷ areas) [] (plain ∷ plains) are enough alike = absurd alike
datasets_are bytes_at (area ∷ areas) (dataset ∷ datasets) (plain ∷ plains) are enough alike =
    let first : dataset_found bytes_at dataset ≡ bare_dataset plain = dataset_is bytes_at area dataset plain (are 0 plain refl) alike.0 in
    let others : map (dataset_found bytes_at) datasets ≡ map bare_dataset plains =
    datasets_are bytes_at areas datasets plains (λ place other stands. are (suc place) other stands) (omega arith) alike.1 in
    λ i. first i ∷ others i

-- the pool that is found in a tree which holds a plain pool, each of whose datasets has a log area, is that pool without its stamps
pub pool_of_held : (bytes_at : ℕ → ℕ → List ℕ) (areas : List ℕ) (pool : PlainPool) (tree : Tree) → IsPlain pool → length pool.datasets ≤ length areas → Holds bytes_at areas pool tree
    → bare_found bytes_at pool.limits tree ≡ bare_pool pool
pool_of_held bytes_at areas pool tree plain enough holds =
    let datasets : map (dataset_found bytes_at) tree.datasets ≡ map bare_dataset pool.datasets =
    datasets_are bytes_at areas tree.datasets pool.datasets (λ place dataset stands. (plain.datasets place dataset stands).files) enough holds.datasets in
    λ i. record { limits = pool.limits; next_dataset = holds.next_dataset i; datasets = datasets i }
