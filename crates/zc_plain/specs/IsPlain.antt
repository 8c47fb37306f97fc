-- What is true of each plain pool that a history leads to.
use Rattle.std.specs.Prelude.{◌≡◌, ◌≢◌, ℕ, ◌+◌, ◌^◌, ◌<◌, ◌≤◌, List, length, slice_get, Some}
use Rattle.zc_plain.specs.declared.plain_pool.PlainFile.{PlainFile}
use Rattle.zc_plain.specs.declared.plain_pool.PlainDataset.{PlainDataset}
use Rattle.zc_plain.specs.declared.plain_pool.PlainPool.{PlainPool}
use Rattle.zc_plain.specs.declared.tally.Tally.{Tally}
use Rattle.zc_plain.specs.PlainPool.{blocks_of_size, bytes_of_block, block_at, byte_of}
use Rattle.zc_plain.specs.Answer.{most_datasets, most_files, most_bytes}
use Rattle.zc_plain.specs.History.{PlainState}

-- the item stands at the place of the list
abbrev pub StandsAt : {X : Type 0} → List X → ℕ → X → Type 0
StandsAt items place item = slice_get items place ≡ Some item

-- the items' numbers are at least 1, ascend, and lie below the next one, so none is there twice; and neither is a name
pub record AreNumbered {X : Type 0} (number_of : X → ℕ) (name_of : X → List ℕ) (next : ℕ) (items : List X) : Type 0 where
  pub next_from_one : 1 ≤ next
  pub from_one : (a : ℕ) (x : X) → StandsAt items a x → 1 ≤ number_of x
  pub below_next : (a : ℕ) (x : X) → StandsAt items a x → number_of x < next
  pub ascending : (a b : ℕ) (x y : X) → a < b → StandsAt items a x → StandsAt items b y → number_of x < number_of y
  pub one_name : (a b : ℕ) (x y : X) → a < b → StandsAt items a x → StandsAt items b y → name_of x ≢ name_of y

-- a file has the blocks that its size takes, each of 4,096 bytes, and every byte past its size is 0
pub record IsPlainFile (file : PlainFile) : Type 0 where
  pub blocks : length file.blocks ≡ blocks_of_size file.size
  pub whole : (k : ℕ) → length (bytes_of_block (block_at k file.blocks)) ≡ 4096
  pub zero_past : (i : ℕ) → file.size ≤ i → byte_of file i ≡ 0

-- a dataset of a pool in which it may have so many files, and each of them so many bytes
pub record IsPlainDataset (most most_size : ℕ) (dataset : PlainDataset) : Type 0 where
  pub numbered : AreNumbered (λ (file : PlainFile). file.id) (λ (file : PlainFile). file.name) dataset.next_file dataset.files
  pub few : length dataset.files ≤ most
  pub files : (place : ℕ) (file : PlainFile) → StandsAt dataset.files place file → IsPlainFile file
  pub sizes : (place : ℕ) (file : PlainFile) → StandsAt dataset.files place file → file.size ≤ most_size

-- a pool
pub record IsPlain (pool : PlainPool) : Type 0 where
  pub numbered : AreNumbered (λ (dataset : PlainDataset). dataset.id) (λ (dataset : PlainDataset). dataset.name) pool.next_dataset pool.datasets
  pub few : length pool.datasets ≤ most_datasets
  pub datasets : (place : ℕ) (dataset : PlainDataset) → StandsAt pool.datasets place dataset → IsPlainDataset (most_files pool) (most_bytes pool) dataset

-- the next numbers are at most so much
pub record AreNextUpTo (most : ℕ) (pool : PlainPool) : Type 0 where
  pub dataset : pool.next_dataset ≤ most
  pub file : (place : ℕ) (dataset : PlainDataset) → StandsAt pool.datasets place dataset → dataset.next_file ≤ most

-- each entry gives one number at most, and a pool begins with numbers of at most 2^62
abbrev pub most_number : ℕ → ℕ
most_number entries = 2 ^ 62 + entries

-- what a charge is counted from stays small: no command makes a block where the charge would exceed the data places
pub record IsTally (tally : Tally) : Type 0 where
  pub held : tally.held ≤ 2 ^ 62
  pub few : length tally.made ≤ 131072

-- a state that a history leads to
pub record IsState (state : PlainState) : Type 0 where
  pub plain : IsPlain state.pool
  pub tally : IsTally state.tally
  pub counted : AreNextUpTo (most_number state.entries) state.pool
