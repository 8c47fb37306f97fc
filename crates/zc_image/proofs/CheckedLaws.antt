-- What the checks that a catalogue and its blocks passed say of the tree, whatever the reads gave.
use Rattle.std.proofs.Common.{◌≡◌, ◌∙◌, ℕ, ◌==◌, ◌||◌, ◌&&◌, Bool, true, false, true≢false, cond, eqb, List, [], ◌∷◌, map, filter, Contains, Option, Some, None, refl, sym, ap}
use Rattle.std.specs.List.{All, AllByRecursion, list_any}
use Rattle.std.specs.Str.{bytes_eq}
use Rattle.std.proofs.lemmas.Bool.{and_parts, not-false, eqb-true, eq-eqb}
use Rattle.std.proofs.lemmas.List.Elements.{All-from_recursion, All-contains}
use Rattle.std.proofs.lemmas.Slice.Eq.{bytes_eq-Decides}
use Rattle.zc_num.specs.declared.numbers.PlaceAt.{PlaceAt}
use Rattle.zc_blkptr.specs.declared.ptr.Ptr.{Ptr}
use Rattle.zc_tree.specs.Reach.{pointers_of_tree}
use Rattle.zc_tree.specs.Catalogue.{AreParts}
use Rattle.zc_tree.specs.declared.catalogue.Parts.{Parts}
use Rattle.zc_layout.specs.Layout.{owns}
use Rattle.zc_damage.specs.declared.block.FoundBlock.{FoundBlock}
use Rattle.zc_damage.specs.Words.{when}
use Rattle.zc_damage.specs.Places.{number_of, is_to, pointers_to, chain_has, bytes_in, IsPlace}
use Rattle.zc_damage.specs.Census.{first_in}
use Rattle.zc_damage.specs.Checks.{differ, owners_of, worn_hit, birth_hit, log_hit, tail_hit}
use Rattle.zc_damage.proofs.FirstLaws.{neither, none_of}
use Rattle.zc_damage.proofs.PlaceNumbers.{number_below}
use Rattle.zc_state.specs.State.{put_of}
use Rattle.zc_state.proofs.BlockLaws.{all_mapped, pointers_owned}
use Rattle.zc_state.proofs.Pointers.{parts_have_ptrs}
use Rattle.zc_image.specs.Checked.{IsChecked}
use Rattle.zc_image.proofs.BlockSteps.{test_fails, no_other_block, owners_apart}
use Rattle.zc_image.proofs.StepLaws.{parts_have_places, no_owner_hit}

-- ---- logs and tails

-- no dataset has a claimed log
pub checked_no_logs : (devices places : ℕ) (parts : Parts) (chain : List PlaceAt) (blocks : List FoundBlock) → IsChecked devices places parts chain blocks
    → log_hit devices places parts.tree.datasets ≡ None
checked_no_logs devices places parts chain blocks checked =
    (neither (log_hit devices places parts.tree.datasets) _
    (neither (birth_hit parts.tree.group (pointers_of_tree parts.tree)) _
    (neither (worn_hit parts.tree) _ checked.early).1).1).0

-- no file has a byte after its size that isn't 0
pub checked_tails : (devices places : ℕ) (parts : Parts) (chain : List PlaceAt) (blocks : List FoundBlock) → IsChecked devices places parts chain blocks
    → tail_hit (bytes_in blocks) parts.tree.datasets ≡ None
checked_tails devices places parts chain blocks checked = (neither (tail_hit (bytes_in blocks) parts.tree.datasets) _ checked.late).0

-- ---- one block a place

-- two pointers are of one block
abbrev AreOfOne : Ptr → Ptr → Type 0
AreOfOne first ptr = (first.physical ≡ ptr.physical) × (first.digest ≡ ptr.digest)

-- the pointer is of the block of the first, which is there
abbrev IsOfFirst : Option Ptr → Ptr → Type 0
IsOfFirst None ptr = ⊥
IsOfFirst (Some first) ptr = AreOfOne first ptr

-- pointers that don't differ are of one block
same_block : (first ptr : Ptr) → differ first ptr ≡ false → AreOfOne first ptr
same_block first ptr alike =
    let parts = and_parts (eqb first.physical ptr.physical) (bytes_eq first.digest ptr.digest) (not-false (eqb first.physical ptr.physical && bytes_eq first.digest ptr.digest) alike) in
    (eqb-true first.physical ptr.physical parts.0, (bytes_eq-Decides first.digest ptr.digest).0 parts.1)

-- the pointers to a place whose owners agree are of the block of the first
all_of_first : (in_catalogue : Bool) (ptrs : List Ptr) → owners_of in_catalogue ptrs ≡ None → AllByRecursion (IsOfFirst (first_in ptrs)) ptrs
all_of_first in_catalogue [] none = tt
all_of_first in_catalogue (first ∷ ptrs) none = (
  (refl, refl),
  all_mapped (λ (ptr : Ptr). when (differ first ptr) ptr.physical ≡ None) (AreOfOne first) ptrs (λ ptr alike. same_block first ptr (test_fails (differ first ptr) ptr.physical alike))
      (none_of (λ (ptr : Ptr). when (differ first ptr) ptr.physical) ptrs (no_other_block in_catalogue first ptrs none)),
)

-- what holds of the items that pass a test
all_passed : {X : Type 0} (P : X → Type 0) (test : X → Bool) (xs : List X) → AllByRecursion P (filter test xs) → AllByRecursion (λ (x : X). test x ≡ true → P x) xs
all_passed P test [] all = tt
all_passed {X} P test (x ∷ xs) all = at (test x) refl all (all_passed P test xs) where
  at : (passes : Bool) → test x ≡ passes → AllByRecursion P (cond passes (x ∷ filter test xs) (filter test xs)) → (AllByRecursion P (filter test xs) → AllByRecursion (λ (y : X). test y ≡ true → P y) xs)
      → AllByRecursion (λ (y : X). test y ≡ true → P y) (x ∷ xs)
  at true is here behind = (λ _. here.0, behind here.1)
  at false is here behind = (λ passes. absurd (true≢false (sym passes ∙ is)), behind here)

-- two pointers of the block of the first are of one block
one_of_first : (first : Option Ptr) (a b : Ptr) → IsOfFirst first a → IsOfFirst first b → AreOfOne a b
one_of_first None a b of_a of_b = absurd of_a
one_of_first (Some first) a b of_a of_b = (sym of_a.0 ∙ of_b.0, sym of_a.1 ∙ of_b.1)

-- pointers to one place are of one block
pub checked_one_block : (devices places group next_dataset : ℕ) (parts : Parts) (chain : List PlaceAt) (blocks : List FoundBlock) → AreParts devices places group next_dataset parts → IsChecked devices places parts chain blocks
    → (a b : Ptr) → Contains (pointers_of_tree parts.tree) a → Contains (pointers_of_tree parts.tree) b → a.device ≡ b.device → a.place ≡ b.place → (a.physical ≡ b.physical) × (a.digest ≡ b.digest)
checked_one_block devices places group next_dataset parts chain blocks are checked a b among_a among_b device place =
    let reach : List Ptr = pointers_of_tree parts.tree in
    let number : ℕ = number_of places a.device a.place in
    let first : Option Ptr = first_in (pointers_to places reach number) in
    let there : IsPlace devices places a.device a.place =
    All-contains (λ (ptr : Ptr). IsPlace devices places ptr.device ptr.place) reach a (parts_have_places devices places group next_dataset parts are) among_a in
    let agree : owners_of (chain_has places chain number) (pointers_to places reach number) ≡ None =
    owners_apart devices places chain reach number (no_owner_hit devices places parts chain checked.early) (number_below devices places a.device a.place there.0 there.1) in
    let all : All (λ (ptr : Ptr). is_to places number ptr ≡ true → IsOfFirst first ptr) reach =
    All-from_recursion (λ (ptr : Ptr). is_to places number ptr ≡ true → IsOfFirst first ptr) reach
    (all_passed (IsOfFirst first) (is_to places number) reach (all_of_first (chain_has places chain number) (pointers_to places reach number) agree)) in
    let same_number : number_of places b.device b.place ≡ number = λ i. number_of places (sym device i) (sym place i) in
    one_of_first first a b
    (All-contains (λ (ptr : Ptr). is_to places number ptr ≡ true → IsOfFirst first ptr) reach a all among_a (eq-eqb number number refl))
    (All-contains (λ (ptr : Ptr). is_to places number ptr ≡ true → IsOfFirst first ptr) reach b all among_b (eq-eqb (number_of places b.device b.place) number same_number))

-- ---- a block for each pointer

-- the blocks own a place just where one of them is at it
owned_as : (blocks : List FoundBlock) (device place : ℕ) → owns (map put_of blocks) device place ≡ list_any (λ (block : FoundBlock). (block.device == device) && (block.place == place)) blocks
owned_as [] device place = refl
owned_as (block ∷ blocks) device place = ap (λ (rest : Bool). ((block.device == device) && (block.place == place)) || rest) (owned_as blocks device place)

-- there is a block at the place of each pointer
pub checked_there : (devices places group next_dataset : ℕ) (parts : Parts) (chain : List PlaceAt) (blocks : List FoundBlock) → AreParts devices places group next_dataset parts → IsChecked devices places parts chain blocks
    → AllByRecursion (λ (ptr : Ptr). list_any (λ (block : FoundBlock). (block.device == ptr.device) && (block.place == ptr.place)) blocks ≡ true) (pointers_of_tree parts.tree)
checked_there devices places group next_dataset parts chain blocks are checked =
    all_mapped (λ (ptr : Ptr). owns (map put_of blocks) ptr.device ptr.place ≡ true)
    (λ (ptr : Ptr). list_any (λ (block : FoundBlock). (block.device == ptr.device) && (block.place == ptr.place)) blocks ≡ true) (pointers_of_tree parts.tree)
    (λ ptr owned. sym (owned_as blocks ptr.device ptr.place) ∙ owned)
    (pointers_owned devices places (pointers_of_tree parts.tree) blocks (parts_have_ptrs devices places group next_dataset parts are) checked.there)
