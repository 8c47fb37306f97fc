-- What holds where no check hits anything.
use Rattle.std.specs.Prelude.{◌≡◌, ℕ, ◌-◌, ◌*◌, ◌/◌, ◌<◌, ◌≤◌, List, drop, Some, Contains, false}
use Rattle.std.specs.List.{AllByRecursion}
use Rattle.zc_num.specs.Limits.{total_of, data_places_of}
use Rattle.zc_num.specs.declared.numbers.PlaceAt.{PlaceAt}
use Rattle.zc_blkptr.specs.declared.ptr.Ptr.{Ptr}
use Rattle.zc_tree.specs.declared.tree.Tree.{Tree}
use Rattle.zc_tree.specs.declared.tree.File.{File}
use Rattle.zc_tree.specs.declared.tree.LogState.TheVariants.{Normal}
use Rattle.zc_tree.specs.declared.catalogue.Parts.{Parts}
use Rattle.zc_tree.specs.Reach.{pointers_of_tree}
use Rattle.zc_damage.specs.Places.{number_of, chain_has, extra_at, stored_count, stored_counter, is_allocated, is_owned}
use Rattle.zc_damage.specs.Checks.{highest_number, last_block, last_pointer, region_extra, reached_places}

-- no number of the tree that goes on rising is above the highest that an import takes
pub record AreLow (tree : Tree) : Type 0 where
  pub group : tree.group ≤ highest_number
  pub next_dataset : tree.next_dataset ≤ highest_number
  pub next_files : AllByRecursion (λ dataset. dataset.next_file ≤ highest_number) tree.datasets

-- two pointers name one block
abbrev pub AreOfOneBlock : Ptr → Ptr → Type 0
AreOfOneBlock first other = (first.physical ≡ other.physical) × (first.digest ≡ other.digest)

-- the pointers to each place are of one block, and the catalogue has none of their places
pub record HaveOneOwner (places : ℕ) (chain : List PlaceAt) (reach : List Ptr) : Type 0 where
  pub one_block : (first other : Ptr) → Contains reach first → Contains reach other → number_of places first.device first.place ≡ number_of places other.device other.place → AreOfOneBlock first other
  pub not_in_catalogue : (ptr : Ptr) → Contains reach ptr → chain_has places chain (number_of places ptr.device ptr.place) ≡ false

-- what holds where the early checks hit nothing
pub record PassesEarly (devices places : ℕ) (parts : Parts) (chain : List PlaceAt) : Type 0 where
  pub numbers : AreLow parts.tree
  pub births : AllByRecursion (λ ptr. ptr.logical ≤ parts.tree.group) (pointers_of_tree parts.tree)
  pub logs : AllByRecursion (λ dataset. dataset.log ≡ Normal) parts.tree.datasets
  pub owners : HaveOneOwner places chain (pointers_of_tree parts.tree)

-- of the bytes at each place: the last block of the file has zeros after the file's size
abbrev pub HasZeroTail : (ℕ → ℕ → List ℕ) → File → Type 0
HasZeroTail bytes_at file =
    (ptr : Ptr) → last_pointer file ≡ Some ptr → AllByRecursion (λ byte. byte ≡ 0) (drop (file.size - 4096 * last_block file.size) (bytes_at ptr.device ptr.place))

-- what holds where the late checks hit nothing
pub record PassesLate (devices places : ℕ) (parts : Parts) (chain : List PlaceAt) (bytes_at : ℕ → ℕ → List ℕ) : Type 0 where
  pub tails : AllByRecursion (λ dataset. AllByRecursion (HasZeroTail bytes_at) dataset.files) parts.tree.datasets
  pub counts : (number : ℕ) → number < total_of devices places → stored_count places parts.tables number ≡ extra_at places (pointers_of_tree parts.tree) number
  pub regions : (region : ℕ) → region < total_of devices places / 64 → stored_counter places parts.tables (64 * region) ≡ region_extra places (pointers_of_tree parts.tree) region
  pub maps : (number : ℕ) → number < total_of devices places → is_allocated places parts.maps number ≡ is_owned devices places chain (pointers_of_tree parts.tree) number
  pub charge : reached_places devices places (pointers_of_tree parts.tree) ≤ data_places_of devices places
