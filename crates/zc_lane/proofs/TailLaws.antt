-- A tree that holds a plain pool has zeros after the size of each file, and no log that is claimed.
use Rattle.std.proofs.Common.{◌≡◌, ◌∙◌, ℕ, zero, suc, ◌+◌, ◌*◌, ◌-◌, ◌<◌, ◌≤◌, Bool, true, false, cond, eqb, List, [], ◌∷◌, length, map, drop, get_or, Option, Some, None, refl, sym, ap, ap₂, subst, arith}
use Rattle.std.specs.List.{AllByRecursion}
use Rattle.std.proofs.lemmas.Bool.{eqb-false}
use Rattle.std.proofs.lemmas.List.{get_or-drop, length-drop}
use Rattle.std.proofs.lemmas.List.Elements.{All-from_get_or, recursion_from_All}
use Rattle.std.proofs.lemmas.Nat.{div-mul-add, mod-mul-add}
use Rattle.zc_num.specs.Ordered.{value_at}
use Rattle.zc_num.specs.Words.{each}
use Rattle.zc_num.proofs.Each.{item_of_each}
use Rattle.zc_blkptr.specs.declared.ptr.Ptr.{Ptr}
use Rattle.zc_tree.specs.declared.tree.File.{File}
use Rattle.zc_tree.specs.declared.tree.Dataset.{Dataset}
use Rattle.zc_tree.specs.declared.tree.Tree.{Tree}
use Rattle.zc_damage.specs.Checks.{last_block, log_hit, tail_hit}
use Rattle.zc_damage.specs.Passed.{HasZeroTail}
use Rattle.zc_damage.proofs.EarlyLaws.{none_log}
use Rattle.zc_damage.proofs.LateLaws.{none_tail}
use Rattle.zc_plain.specs.declared.plain_pool.PlainBlock.{PlainBlock}
use Rattle.zc_plain.specs.declared.plain_pool.PlainBlock.TheVariants.{Hole, Made}
use Rattle.zc_plain.specs.declared.plain_pool.PlainFile.{PlainFile}
use Rattle.zc_plain.specs.declared.plain_pool.PlainDataset.{PlainDataset}
use Rattle.zc_plain.specs.declared.plain_pool.PlainPool.{PlainPool}
use Rattle.zc_plain.specs.PlainPool.{blocks_of_size, bytes_of_block, block_at, byte_of}
use Rattle.zc_plain.specs.IsPlain.{StandsAt, IsPlain, IsPlainFile}
use Rattle.zc_apply.specs.Alike.{by_bytes, HasBytes, Holds}
use Rattle.zc_apply.specs.Found.{bare_block, bare_file, bare_dataset, block_found, file_found, dataset_found}
use Rattle.zc_apply.proofs.DatasetLaws as apply
use Rattle.zc_apply.proofs.FoundLaws.{pool_of_held}
use Rattle.zc_lane.proofs.PlacedLaws.{first_same, rest_same, none_first}

-- ---- the bytes of a plain file

-- a byte of one of its blocks
byte_in : (plain : PlainFile) (k r : ℕ) → r < 4096 → byte_of plain (k * 4096 + r) ≡ get_or (bytes_of_block (block_at k plain.blocks)) r 0
unfolding byte_of
byte_in plain k r low = ap₂ (λ (a b : ℕ). get_or (bytes_of_block (block_at a plain.blocks)) b 0) (div-mul-add k 4096 r low) (mod-mul-add k 4096 r low)

-- where the size ends in a block, zeros are after it there
zero_after : (plain : PlainFile) (k count : ℕ) → IsPlainFile plain → plain.size ≤ k * 4096 + count → AllByRecursion (λ (byte : ℕ). byte ≡ 0) (drop count (bytes_of_block (block_at k plain.blocks)))
zero_after plain k count is ends =
    let bytes : List ℕ = bytes_of_block (block_at k plain.blocks) in
    let whole : length bytes ≡ 4096 = is.whole k in
    recursion_from_All (λ (byte : ℕ). byte ≡ 0) (drop count bytes)
    (All-from_get_or (λ (byte : ℕ). byte ≡ 0) (drop count bytes) 0 (λ i within.
    let low : count + i < 4096 = omega (arith, within, whole, length-drop count bytes) in
    get_or-drop count bytes i 0 ∙ sym (byte_in plain k (count + i) low) ∙ is.zero_past (k * 4096 + (count + i)) (omega (arith, ends))))

-- ---- files that hold plain ones

-- the bytes of a block, without its stamp
bare_bytes : (block : PlainBlock) → bytes_of_block (bare_block block) ≡ bytes_of_block block
bare_bytes Hole = refl
bare_bytes (Made entry index bytes) = refl

bare_at : (blocks : List PlainBlock) (k : ℕ) → get_or (map bare_block blocks) k Hole ≡ bare_block (block_at k blocks)
bare_at [] k = refl
bare_at (block ∷ blocks) zero = refl
bare_at (block ∷ blocks) (suc k) = bare_at blocks k

-- where a file has a pointer to its last block, it has some bytes
last_there : (size : ℕ) (found : Option Ptr) (ptr : Ptr) → cond (eqb size 0) None found ≡ Some ptr → (1 ≤ size) × (found ≡ Some ptr)
last_there size found ptr there = at (eqb size 0) refl there where
  from_one : (n : ℕ) → (n ≡ 0 → ⊥) → 1 ≤ n
  from_one zero some = absurd (some refl)
  from_one (suc n) some = omega arith

  at : (empty : Bool) → eqb size 0 ≡ empty → cond empty None found ≡ Some ptr → (1 ≤ size) × (found ≡ Some ptr)
  at true same is = absurd cc
  at false same is = (from_one size (eqb-false size 0 same), is)

-- its last block is one of its blocks, and its size ends there
last_within : (size : ℕ) → 1 ≤ size → last_block size < blocks_of_size size
last_within size some = omega (arith, some)

last_ends : (size : ℕ) → size ≤ last_block size * 4096 + (size - 4096 * last_block size)
last_ends size = omega arith

file_zero : (bytes_at : ℕ → ℕ → List ℕ) (plain : PlainFile) (file : File) → IsPlainFile plain → file_found bytes_at file ≡ bare_file plain → HasZeroTail bytes_at file
file_zero bytes_at plain file is found ptr last =
    let k : ℕ = last_block file.size in
    let at_last : ℕ → PlainBlock = λ j. block_found bytes_at (value_at j file.slots) in
    let there = last_there file.size (value_at k file.slots) ptr last in
    let size : file.size ≡ plain.size = ap (λ (f : PlainFile). f.size) found in
    let blocks : each (blocks_of_size file.size) at_last ≡ map bare_block plain.blocks = ap (λ (f : PlainFile). f.blocks) found in
    let item : get_or (each (blocks_of_size file.size) at_last) k Hole ≡ at_last k = item_of_each (blocks_of_size file.size) at_last k Hole (last_within file.size there.0) in
    let block : at_last k ≡ bare_block (block_at k plain.blocks) = sym item ∙ ap (λ (bs : List PlainBlock). get_or bs k Hole) blocks ∙ bare_at plain.blocks k in
    let made : Made 0 0 (bytes_at ptr.device ptr.place) ≡ at_last k = ap (block_found bytes_at) (sym there.1) in
    let bytes : bytes_at ptr.device ptr.place ≡ bytes_of_block (block_at k plain.blocks) = ap bytes_of_block (made ∙ block) ∙ bare_bytes (block_at k plain.blocks) in
    let ends : plain.size ≤ k * 4096 + (file.size - 4096 * k) = subst (λ (n : ℕ). n ≤ k * 4096 + (file.size - 4096 * k)) size (last_ends file.size) in
    subst (λ (bs : List ℕ). AllByRecursion (λ (byte : ℕ). byte ≡ 0) (drop (file.size - 4096 * k) bs)) (sym bytes) (zero_after plain k (file.size - 4096 * k) is ends)

files_zero : (bytes_at : ℕ → ℕ → List ℕ) (plains : List PlainFile) (files : List File) → ((place : ℕ) (plain : PlainFile) → StandsAt plains place plain → IsPlainFile plain)
    → map (file_found bytes_at) files ≡ map bare_file plains → AllByRecursion (HasZeroTail bytes_at) files
files_zero bytes_at plains [] are same = tt
files_zero bytes_at [] (file ∷ files) are same = none_first (file_found bytes_at file) (map (file_found bytes_at) files) same
files_zero bytes_at (plain ∷ plains) (file ∷ files) are same = (
  file_zero bytes_at plain file (are 0 plain refl) (first_same (file_found bytes_at file) (bare_file plain) (map (file_found bytes_at) files) (map bare_file plains) same),
  files_zero bytes_at plains files (λ place other stands. are (suc place) other stands)
      (rest_same (file_found bytes_at file) (bare_file plain) (map (file_found bytes_at) files) (map bare_file plains) same),
)

datasets_zero : (bytes_at : ℕ → ℕ → List ℕ) (plains : List PlainDataset) (held : List Dataset)
    → ((place : ℕ) (plain : PlainDataset) → StandsAt plains place plain → (at : ℕ) (file : PlainFile) → StandsAt plain.files at file → IsPlainFile file)
    → map (dataset_found bytes_at) held ≡ map bare_dataset plains → AllByRecursion (λ (dataset : Dataset). AllByRecursion (HasZeroTail bytes_at) dataset.files) held
datasets_zero bytes_at plains [] are same = tt
datasets_zero bytes_at [] (dataset ∷ held) are same = none_first (dataset_found bytes_at dataset) (map (dataset_found bytes_at) held) same
datasets_zero bytes_at (plain ∷ plains) (dataset ∷ held) are same =
    let first : dataset_found bytes_at dataset ≡ bare_dataset plain =
    first_same (dataset_found bytes_at dataset) (bare_dataset plain) (map (dataset_found bytes_at) held) (map bare_dataset plains) same in (
      files_zero bytes_at plain.files dataset.files (are 0 plain refl) (ap (λ (d : PlainDataset). d.files) first),
      datasets_zero bytes_at plains held (λ place other stands. are (suc place) other stands)
          (rest_same (dataset_found bytes_at dataset) (bare_dataset plain) (map (dataset_found bytes_at) held) (map bare_dataset plains) same),
    )

-- ---- trees that hold plain pools

-- no byte past the size of a file is other than 0
pub tails_none : (bytes_at : ℕ → ℕ → List ℕ) (areas : List ℕ) (pool : PlainPool) (tree : Tree) → IsPlain pool → length pool.datasets ≤ length areas → Holds bytes_at areas pool tree
    → tail_hit bytes_at tree.datasets ≡ None
tails_none bytes_at areas pool tree plain enough holds =
    none_tail bytes_at tree.datasets
    (datasets_zero bytes_at pool.datasets tree.datasets (λ place dataset stands. (plain.datasets place dataset stands).files)
    (ap (λ (p : PlainPool). p.datasets) (pool_of_held bytes_at areas pool tree plain enough holds)))

-- no log is claimed
pub logs_none : (devices places : ℕ) (bytes_at : ℕ → ℕ → List ℕ) (areas : List ℕ) (pool : PlainPool) (tree : Tree) → Holds bytes_at areas pool tree → log_hit devices places tree.datasets ≡ None
logs_none devices places bytes_at areas pool tree holds =
    none_log devices places tree.datasets (apply.logs_none tree.group (HasBytes bytes_at) by_bytes areas pool tree holds)
