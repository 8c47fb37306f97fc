-- New blocks at free places, the pointers to them, and the bytes that stand there.
use Rattle.std.proofs.Common.{◌≡◌, ◌∙◌, ℕ, zero, suc, ◌+◌, ◌*◌, ◌/◌, ◌%◌, ◌^◌, ◌<◌, ◌≤◌, true, ◌||◌, List, [], ◌∷◌, ◌++◌, length, map, filter, take, refl, sym, ap, subst, arith}
use Rattle.std.specs.Prelude.{slice_index, count_by}
use Rattle.std.specs.List.{AllByRecursion, Contains}
use Rattle.std.proofs.lemmas.Bool.{or_left}
use Rattle.std.proofs.lemmas.List.{length-map, length-take-le}
use Rattle.std.proofs.lemmas.List.Sums.{length-filter}
use Rattle.std.proofs.lemmas.List.Elements.{All-contains_itself, recursion_from_All}
use Rattle.sha2.specs.Sha256.{sha256}
use Rattle.sha2.proofs.Facts256.{length-sha256}
use Rattle.zc_num.specs.Limits.{AreLimits, is_fixed, total_of}
use Rattle.zc_num.specs.declared.numbers.PlaceAt.{PlaceAt}
use Rattle.zc_blkptr.specs.Digest.{digest_bytes}
use Rattle.zc_blkptr.specs.Ptr.{IsPtr}
use Rattle.zc_blkptr.specs.declared.ptr.Ptr.{Ptr}
use Rattle.zc_tape.specs.Tape.{Shape}
use Rattle.zc_tree.specs.Reach.{pointers_of_tree}
use Rattle.zc_damage.specs.declared.block.FoundBlock.{FoundBlock}
use Rattle.zc_damage.specs.Places.{number_of, is_reached, chain_has, is_owned, bytes_in}
use Rattle.zc_damage.proofs.EarlyLaws.{each_weaker, image_each}
use Rattle.zc_layout.specs.Layout.{owns}
use Rattle.zc_state.specs.State.{State, IsFree, AreChainPlaces, place_of_block, put_of}
use Rattle.zc_state.proofs.BlockLaws.{all_of_two, each_reached, number_low}
use Rattle.zc_next.specs.Next.{IsUnowned, IsWritten, AreNewBlocks}
use Rattle.zc_next.proofs.BlockLists.{holds_there, each_there, each_has_its_bytes, bytes_in_front, bytes_in_back}
use Rattle.zc_next.proofs.ExactLaws.{digest_fits}
use Rattle.zc_next.proofs.NewPlaces.{new_beside_owned, new_distinct}
use Rattle.zc_group.specs.Chosen.{free_places}
use Rattle.zc_group.proofs.ChosenLaws.{chosen_places, chosen_unowned}
use Rattle.zc_heart.specs.declared.changes.Now.TheVariants as now
use Rattle.zc_heart.specs.declared.changes.Change.{Change}
use Rattle.zc_heart.specs.declared.changes.Change.TheVariants.{MakeDataset, DropDataset, MakeFile, DropFile, Size, Put}
use Rattle.zc_heart.specs.Changes.{is_made}
use Rattle.zc_apply.specs.Alike.{ArePlaced}
use Rattle.zc_lane.specs.Placed.{bytes_made, bytes_of, ptr_to}

-- ---- lists

-- the items of equal lists are equal
pub first_same : {X : Type 0} (x y : X) (xs ys : List X) → x ∷ xs ≡ y ∷ ys → x ≡ y
first_same x y xs ys same = cc

pub rest_same : {X : Type 0} (x y : X) (xs ys : List X) → x ∷ xs ≡ y ∷ ys → xs ≡ ys
rest_same x y xs ys same = cc

pub none_first : {X A : Type 0} (x : X) (xs : List X) → x ∷ xs ≡ [] → A
none_first x xs same = absurd cc

-- ---- places

-- blocks at places that a chain may have and that the state doesn't own are new ones
pub new_blocks_are : (shape : Shape) (s : State) (new : List FoundBlock) → AreChainPlaces shape.devices shape.places (map place_of_block new) → AllByRecursion (IsUnowned shape s) (map place_of_block new) → AreNewBlocks shape s [] new
new_blocks_are shape s [] are unowned = tt
new_blocks_are shape s (block ∷ new) are unowned = (are.0, unowned.0, refl, are.1, new_blocks_are shape s new are.2 unowned.1)

-- and the places of new blocks are such places
pub new_places_are : (shape : Shape) (s : State) (new : List FoundBlock) → AreNewBlocks shape s [] new → AreChainPlaces shape.devices shape.places (map place_of_block new)
new_places_are shape s [] fresh = tt
new_places_are shape s (block ∷ new) fresh = (fresh.0, fresh.3, new_places_are shape s new fresh.4)

-- blocks at the first places that the state leaves free are new ones
pub chosen_are_new : (shape : Shape) (s : State) (count : ℕ) (new : List FoundBlock) → AreLimits shape.devices shape.places
    → map place_of_block new ≡ free_places shape.devices shape.places s.chain (pointers_of_tree s.parts.tree) count → AreNewBlocks shape s [] new
chosen_are_new shape s count new limits chosen =
    let reach : List Ptr = pointers_of_tree s.parts.tree in
    new_blocks_are shape s new
    (subst (AreChainPlaces shape.devices shape.places) (sym chosen) (chosen_places shape.devices shape.places s.chain reach limits count))
    (subst (AllByRecursion (IsUnowned shape s)) (sym chosen) (chosen_unowned shape.devices shape.places s.chain reach limits count))

-- a reached place is owned
reached_is_owned : (devices places : ℕ) (chain : List PlaceAt) (reach : List Ptr) (number : ℕ) → is_reached places reach number ≡ true → is_owned devices places chain reach number ≡ true
reached_is_owned devices places chain reach number there =
    or_left (is_reached places reach number) (chain_has places chain number || is_fixed devices places (number / places) (number % places)) there

-- ---- bytes

-- at a pointer of the state no new block stands
pub old_bytes : (shape : Shape) (s : State) (new : List FoundBlock) (ptr : Ptr) → AreNewBlocks shape s [] new → Contains (pointers_of_tree s.parts.tree) ptr
    → bytes_in (new ++ s.blocks) ptr.device ptr.place ≡ bytes_in s.blocks ptr.device ptr.place
old_bytes shape s new ptr fresh among =
    let reach : List Ptr = pointers_of_tree s.parts.tree in
    let number : ℕ = number_of shape.places ptr.device ptr.place in
    let reached : is_reached shape.places reach number ≡ true =
    holds_there (λ (p : Ptr). is_reached shape.places reach (number_of shape.places p.device p.place) ≡ true) reach ptr (each_reached shape.places reach) among in
    bytes_in_back new s.blocks ptr.device ptr.place
    (new_beside_owned shape s [] new ptr.device ptr.place fresh (reached_is_owned shape.devices shape.places s.chain reach number reached))

-- at the place of each new block stand its bytes
pub new_bytes : (shape : Shape) (s : State) (new : List FoundBlock) → AreNewBlocks shape s [] new → AllByRecursion (λ (block : FoundBlock). bytes_in (new ++ s.blocks) block.device block.place ≡ block.bytes) new
new_bytes shape s new fresh =
    all_of_two (λ (block : FoundBlock). owns (map put_of new) block.device block.place ≡ true) (λ (block : FoundBlock). bytes_in new block.device block.place ≡ block.bytes)
    (λ (block : FoundBlock). bytes_in (new ++ s.blocks) block.device block.place ≡ block.bytes) new
    (λ block there own. bytes_in_front new s.blocks block.device block.place there ∙ own) (each_there new) (each_has_its_bytes new (new_distinct shape s [] new fresh))

-- and so those that the changes make stand at the pointers to the blocks
pub bytes_placed : (bytes_at : ℕ → ℕ → List ℕ) (group : ℕ) (changes : List Change) (new : List FoundBlock) → bytes_of new ≡ bytes_made changes
    → AllByRecursion (λ (block : FoundBlock). bytes_at block.device block.place ≡ block.bytes) new → ArePlaced bytes_at changes (map (ptr_to group) new)
bytes_placed bytes_at group [] [] same stand = tt
bytes_placed bytes_at group [] (one ∷ new) same stand = none_first one.bytes (map (λ (block : FoundBlock). block.bytes) new) same
bytes_placed bytes_at group (MakeDataset id slot name ∷ changes) new same stand = bytes_placed bytes_at group changes new same stand
bytes_placed bytes_at group (DropDataset id ∷ changes) new same stand = bytes_placed bytes_at group changes new same stand
bytes_placed bytes_at group (MakeFile dataset file name ∷ changes) new same stand = bytes_placed bytes_at group changes new same stand
bytes_placed bytes_at group (DropFile dataset file ∷ changes) new same stand = bytes_placed bytes_at group changes new same stand
bytes_placed bytes_at group (Size dataset file size ∷ changes) new same stand = bytes_placed bytes_at group changes new same stand
bytes_placed bytes_at group (Put dataset file block now.Hole ∷ changes) new same stand = bytes_placed bytes_at group changes new same stand
bytes_placed bytes_at group (Put dataset file block (now.Made bytes) ∷ changes) [] same stand = none_first bytes (bytes_made changes) (sym same)
bytes_placed bytes_at group (Put dataset file block (now.Made bytes) ∷ changes) (one ∷ new) same stand =
    let behind : List (List ℕ) = map (λ (other : FoundBlock). other.bytes) new in
    let own : one.bytes ≡ bytes = first_same one.bytes bytes behind (bytes_made changes) same in
    let others : behind ≡ bytes_made changes = rest_same one.bytes bytes behind (bytes_made changes) same in
    (stand.0 ∙ own, bytes_placed bytes_at group changes new others stand.1)

-- ---- pointers

-- changes make as many blocks as they take pointers
made_long : (changes : List Change) → length (bytes_made changes) ≡ length (filter is_made changes)
made_long [] = refl
made_long (MakeDataset id slot name ∷ changes) = made_long changes
made_long (DropDataset id ∷ changes) = made_long changes
made_long (MakeFile dataset file name ∷ changes) = made_long changes
made_long (DropFile dataset file ∷ changes) = made_long changes
made_long (Size dataset file size ∷ changes) = made_long changes
made_long (Put dataset file block now.Hole ∷ changes) = made_long changes
made_long (Put dataset file block (now.Made bytes) ∷ changes) = ap (λ (n : ℕ). suc n) (made_long changes)

pub pointers_long : (group : ℕ) (changes : List Change) (new : List FoundBlock) → bytes_of new ≡ bytes_made changes → length (map (ptr_to group) new) ≡ length (filter is_made changes)
pointers_long group changes new same =
    length-map new (ptr_to group) ∙ sym (length-map new (λ (block : FoundBlock). block.bytes)) ∙ ap (λ (all : List (List ℕ)). length all) same ∙ made_long changes

pub made_counted : (group : ℕ) (changes : List Change) (new : List FoundBlock) → bytes_of new ≡ bytes_made changes → length (map (ptr_to group) new) ≡ count_by is_made changes
made_counted group changes new same = pointers_long group changes new same ∙ length-filter is_made changes

-- the pointers name the new blocks
pub all_written : (group : ℕ) (new : List FoundBlock) → AllByRecursion (IsWritten group new) (map (ptr_to group) new)
all_written group new =
    image_each (IsWritten group new) (ptr_to group) new
    (each_weaker (Contains new) (λ (block : FoundBlock). IsWritten group new (ptr_to group block))
    (λ block there. record { block = block; there = there; device_is = refl; place_is = refl; physical_is = refl; logical_is = refl; digest_is = refl })
    new (recursion_from_All (Contains new) new (All-contains_itself new)))

-- the first bytes of some are bytes
front_fits : (count : ℕ) (bytes : List ℕ) → ((i : ℕ) → slice_index bytes i < 256) → (i : ℕ) → slice_index (take count bytes) i < 256
front_fits zero bytes fit i = let none : slice_index (take zero bytes) i ≡ 0 = refl in omega (arith, none)
front_fits (suc count) [] fit i = let none : slice_index (take (suc count) []) i ≡ 0 = refl in omega (arith, none)
front_fits (suc count) (byte ∷ bytes) fit zero = fit 0
front_fits (suc count) (byte ∷ bytes) fit (suc i) = front_fits count bytes (λ j. fit (suc j)) i

digest_long : (bytes : List ℕ) → length (digest_bytes bytes) ≡ 16
digest_long bytes =
    let whole : length (sha256 bytes) ≡ 32 = length-sha256 bytes in
    length-take-le 16 (sha256 bytes) (omega (arith, whole))

-- places of a pool have low numbers
place_low : (devices places device place : ℕ) → AreLimits devices places → device < devices → place < places → place < 2 ^ 32
place_low devices places device place limits on within =
    let low : number_of places device place < total_of devices places = number_low devices places device place on within in
    let most : devices * places ≤ 131072 = limits.few_places in
    let parts : number_of places device place ≡ device * places + place = refl in
    let total : total_of devices places ≡ devices * places = refl in
    omega (arith, low, most, parts, total)

-- a pool may have the pointer to a new block
ptr_fits : (devices places group : ℕ) (block : FoundBlock) → AreLimits devices places → 1 ≤ group → group < 2 ^ 64 → IsFree devices places (place_of_block block) → IsPtr devices places (ptr_to group block)
ptr_fits devices places group block limits some width free =
    let on_device : block.device < devices = free.device in
    let low : block.device < 2 ^ 32 = omega (arith, on_device, limits.few_devices) in
    let order : group ≤ group = omega arith in
    record {
      on_device = free.device;
      in_places = free.place;
      not_fixed = free.not_fixed;
      written = some;
      in_order = order;
      widths = record {
        device = low;
        place = place_low devices places block.device block.place limits free.device free.place;
        logical = width;
        physical = width;
        digest = digest_long block.bytes;
        digest_fits = front_fits 16 (sha256 block.bytes) (digest_fits block.bytes);
      };
    }

pub pointers_fit : (devices places group : ℕ) (new : List FoundBlock) → AreLimits devices places → 1 ≤ group → group < 2 ^ 64 → AreChainPlaces devices places (map place_of_block new)
    → AllByRecursion (IsPtr devices places) (map (ptr_to group) new)
pointers_fit devices places group [] limits some width are = tt
pointers_fit devices places group (block ∷ new) limits some width are = (ptr_fits devices places group block limits some width are.0, pointers_fit devices places group new limits some width are.2)
