-- Lists of blocks: which places they have, and which bytes stand there.
use Rattle.std.proofs.Common.{◌≡◌, ◌∙◌, ℕ, Bool, true, false, true≢false, cond, ◌||◌, List, [], ◌∷◌, ◌++◌, map, refl, sym, ap, ap₂}
use Rattle.std.specs.List.{AllByRecursion, Contains}
use Rattle.std.proofs.lemmas.List.Elements.{All-contains, All-from_recursion}
use Rattle.zc_num.specs.declared.numbers.PlaceAt.{PlaceAt}
use Rattle.zc_tape.specs.Tape.{is_at}
use Rattle.zc_tape.proofs.Places.{is_at_here, is_at_means}
use Rattle.zc_damage.specs.declared.block.FoundBlock.{FoundBlock}
use Rattle.zc_damage.specs.Places.{bytes_in}
use Rattle.zc_layout.specs.Layout.{owns, AreDistinct}
use Rattle.zc_layout.proofs.LayoutLaws.{owns_first, owns_after, owns_other}
use Rattle.zc_state.specs.State.{place_of_block, put_of}
use Rattle.zc_state.proofs.BlockLaws.{all_mapped, all_of_two}
use Rattle.zc_next.specs.Next.{blocks_at}

-- ---- items

-- what holds of each item holds of one that is there
pub holds_there : {X : Type 0} (P : X → Type 0) (xs : List X) (x : X) → AllByRecursion P xs → Contains xs x → P x
holds_there P xs x all there = All-contains P xs x (All-from_recursion P xs all) there

-- ---- places of blocks

-- a place of blocks in two lists is one of either
pub owns_both : (new old : List FoundBlock) (d p : ℕ) → owns (map put_of (new ++ old)) d p ≡ (owns (map put_of new) d p || owns (map put_of old) d p)
owns_both [] old d p = refl
owns_both (block ∷ new) old d p = at (is_at block.device block.place d p) (owns_both new old d p) where
  at : (here : Bool) → owns (map put_of (new ++ old)) d p ≡ (owns (map put_of new) d p || owns (map put_of old) d p)
      → (here || owns (map put_of (new ++ old)) d p) ≡ ((here || owns (map put_of new) d p) || owns (map put_of old) d p)
  at true behind = refl
  at false behind = behind

-- each block is at a place of the blocks
pub each_there : (blocks : List FoundBlock) → AllByRecursion (λ (block : FoundBlock). owns (map put_of blocks) block.device block.place ≡ true) blocks
each_there [] = tt
each_there (first ∷ blocks) = (
  owns_first (put_of first) (map put_of blocks),
  all_mapped (λ (block : FoundBlock). owns (map put_of blocks) block.device block.place ≡ true) (λ (block : FoundBlock). owns (map put_of (first ∷ blocks)) block.device block.place ≡ true) blocks
      (λ block there. owns_after (put_of first) (map put_of blocks) block.device block.place there) (each_there blocks),
)

-- where no two are at one place, the bytes at the place of each are its own
pub each_has_its_bytes : (blocks : List FoundBlock) → AreDistinct (map put_of blocks) → AllByRecursion (λ (block : FoundBlock). bytes_in blocks block.device block.place ≡ block.bytes) blocks
each_has_its_bytes [] distinct = tt
each_has_its_bytes (first ∷ blocks) distinct = (
  ap (λ (here : Bool). cond here first.bytes (bytes_in blocks first.device first.place)) (is_at_here first.device first.place),
  all_of_two (λ (block : FoundBlock). owns (map put_of blocks) block.device block.place ≡ true) (λ (block : FoundBlock). bytes_in blocks block.device block.place ≡ block.bytes)
      (λ (block : FoundBlock). bytes_in (first ∷ blocks) block.device block.place ≡ block.bytes) blocks
      (λ block there is.
      ap (λ (here : Bool). cond here first.bytes (bytes_in blocks block.device block.place)) (owns_other (map put_of blocks) first.device first.place block.device block.place distinct.0 there) ∙ is)
      (each_there blocks) (each_has_its_bytes blocks distinct.1),
)

-- at a place of the front the bytes are the front's
pub bytes_in_front : (new old : List FoundBlock) (d p : ℕ) → owns (map put_of new) d p ≡ true → bytes_in (new ++ old) d p ≡ bytes_in new d p
bytes_in_front [] old d p there = absurd (true≢false (sym there))
bytes_in_front (block ∷ new) old d p there = at (is_at block.device block.place d p) there (bytes_in_front new old d p) where
  at : (here : Bool) → (here || owns (map put_of new) d p) ≡ true → (owns (map put_of new) d p ≡ true → bytes_in (new ++ old) d p ≡ bytes_in new d p)
      → cond here block.bytes (bytes_in (new ++ old) d p) ≡ cond here block.bytes (bytes_in new d p)
  at true there behind = refl
  at false there behind = behind there

-- and at one that the front hasn't they are those after it
pub bytes_in_back : (new old : List FoundBlock) (d p : ℕ) → owns (map put_of new) d p ≡ false → bytes_in (new ++ old) d p ≡ bytes_in old d p
bytes_in_back [] old d p none = refl
bytes_in_back (block ∷ new) old d p none = at (is_at block.device block.place d p) none (bytes_in_back new old d p) where
  at : (here : Bool) → (here || owns (map put_of new) d p) ≡ false → (owns (map put_of new) d p ≡ false → bytes_in (new ++ old) d p ≡ bytes_in old d p)
      → cond here block.bytes (bytes_in (new ++ old) d p) ≡ bytes_in old d p
  at true none behind = absurd (true≢false none)
  at false none behind = behind none

-- ---- blocks_at blocks

-- they are at their places
pub places_of_gathered : (places : List PlaceAt) (blocks : List FoundBlock) → map place_of_block (blocks_at places blocks) ≡ places
places_of_gathered [] blocks = refl
places_of_gathered (at ∷ places) blocks = ap (λ (rest : List PlaceAt). at ∷ rest) (places_of_gathered places blocks)

-- at each of them the bytes are those of the blocks
pub bytes_of_gathered : (places : List PlaceAt) (blocks : List FoundBlock) (d p : ℕ) → owns (map put_of (blocks_at places blocks)) d p ≡ true → bytes_in (blocks_at places blocks) d p ≡ bytes_in blocks d p
bytes_of_gathered [] blocks d p there = absurd (true≢false (sym there))
bytes_of_gathered (at ∷ places) blocks d p there = here (is_at at.device at.place d p) refl there (bytes_of_gathered places blocks d p) where
  here : (is : Bool) → is_at at.device at.place d p ≡ is → (is || owns (map put_of (blocks_at places blocks)) d p) ≡ true
      → (owns (map put_of (blocks_at places blocks)) d p ≡ true → bytes_in (blocks_at places blocks) d p ≡ bytes_in blocks d p)
      → cond is (bytes_in blocks at.device at.place) (bytes_in (blocks_at places blocks) d p) ≡ bytes_in blocks d p
  here true is there behind = let same = is_at_means at.device at.place d p is in ap₂ (bytes_in blocks) same.0 same.1
  here false is there behind = behind there
