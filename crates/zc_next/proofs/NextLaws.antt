-- What a group leads to: what it makes agrees with itself, and its writes lead from the state to the next one.
use Rattle.std.proofs.Common.{◌≡◌, ◌∙◌, ℕ, ◌+◌, ◌/◌, ◌%◌, ◌^◌, ◌<◌, ◌≤◌, ◌⊎◌, Bool, true, false, true≢false, cond, ◌||◌, List, [], ◌∷◌, ◌++◌, length, map, filter, None, refl, sym, ap, ap₂, subst, inl, inr, ⊎_elim, arith}
use Rattle.std.specs.List.{AllByRecursion, Contains, range_with_len}
use Rattle.std.proofs.lemmas.Bool.{or_left, or_right, or_cases, eqb-true}
use Rattle.std.proofs.lemmas.List.Elements.{All-from_get_or, recursion_from_All, Contains-get_or}
use Rattle.std.proofs.lemmas.Nat.{div-mul-add, mod-mul-add}
use Rattle.zc_num.specs.Limits.{IsFixed, is_fixed, total_of}
use Rattle.zc_num.specs.declared.numbers.PlaceAt.{PlaceAt}
use Rattle.zc_blkptr.specs.Digest.{digest_bytes}
use Rattle.zc_blkptr.specs.Ptr.{IsPtr}
use Rattle.zc_blkptr.specs.declared.ptr.Ptr.{Ptr}
use Rattle.zc_tape.specs.Tape.{Shape}
use Rattle.zc_root.specs.Body.{IsBody}
use Rattle.zc_tree.specs.Reach.{pointers_of_tree}
use Rattle.zc_tree.specs.Catalogue.{catalogue_bytes, AreDatasets}
use Rattle.zc_tree.specs.declared.tree.Tree.{Tree}
use Rattle.zc_catalog.specs.Chain.{chain_length, links}
use Rattle.zc_damage.specs.declared.block.FoundBlock.{FoundBlock}
use Rattle.zc_damage.specs.Places.{number_of, is_to, is_reached, chain_has, is_owned, bytes_in}
use Rattle.zc_damage.specs.Checks.{owner_hit}
use Rattle.zc_damage.specs.Passed.{AreOfOneBlock, HaveOneOwner}
use Rattle.zc_damage.proofs.PartsLaws.{reach_places}
use Rattle.zc_damage.proofs.EarlyLaws.{each_weaker, birth_none, none_birth, owner_none, none_owner, image_each}
use Rattle.zc_damage.proofs.LateLaws.{charge_none, none_charge}
use Rattle.zc_layout.specs.Layout.{Put, owns, IsAmong, AreDistinct, at_places}
use Rattle.zc_layout.specs.Standing.{Covers, LeadsTo, Begins}
use Rattle.zc_layout.proofs.LayoutLaws.{owns_not_both, distinct_append, distinct_at_places, owns_at_places_within, covers_from_among, covers_append, among_front, among_back}
use Rattle.zc_state.specs.State.{State, IsState, AreChainPlaces, block_places, place_at, place_of_block, put_of, layout as layout_of, standing_of, HasDigest}
use Rattle.zc_state.proofs.Pointers.{ArePtrs, parts_have_ptrs}
use Rattle.zc_state.proofs.BlockLaws.{all_mapped, all_of_two, each_reached, pointers_owned}
use Rattle.zc_state.proofs.OwnedPlaces.{owned_means, beside_roots, block_is_among}
use Rattle.zc_next.specs.Exact.{AreExact, exact_state}
use Rattle.zc_next.specs.Next.{later_tree, blocks_at, next_blocks, next_state, next_bytes, next_puts, IsUnowned, IsKept, IsWritten, IsNext}
use Rattle.zc_next.proofs.TreePointers.{datasets_have_ptrs, later_datasets, tail_same, IsSameAt}
use Rattle.zc_next.proofs.BlockLists.{holds_there, owns_both, each_there, each_has_its_bytes, bytes_in_front, bytes_in_back, places_of_gathered, bytes_of_gathered}
use Rattle.zc_next.proofs.NewPlaces.{same_place, chain_apart, chain_beside_fixed, is_owned_in, chain_beside_owned, chain_place_beside_owned, IsNewPlace, new_place, new_beside_owned, new_beside_fixed, new_beside_chain, new_distinct}

-- a reached place is owned
reached_is_owned : (devices places : ℕ) (chain : List PlaceAt) (reach : List Ptr) (number : ℕ) → is_reached places reach number ≡ true → is_owned devices places chain reach number ≡ true
reached_is_owned devices places chain reach number there =
    or_left (is_reached places reach number) (chain_has places chain number || is_fixed devices places (number / places) (number % places)) there

-- what holds at the place of each pointer holds at the place of each number that is reached
at_reached : (P : ℕ → ℕ → Type 0) (devices places : ℕ) (reach : List Ptr) (number : ℕ) → ArePtrs devices places reach → AllByRecursion (λ (ptr : Ptr). P ptr.device ptr.place) reach
    → is_reached places reach number ≡ true → P (number / places) (number % places)
at_reached P devices places [] number fits all there = absurd (true≢false (sym there))
at_reached P devices places (ptr ∷ reach) number fits all there =
    ⊎_elim
    (λ (here : is_to places number ptr ≡ true).
    let is : number_of places ptr.device ptr.place ≡ number = eqb-true (number_of places ptr.device ptr.place) number here in
    let device : ptr.device ≡ number / places = sym (div-mul-add ptr.device places ptr.place fits.0.in_places) ∙ ap (λ (n : ℕ). n / places) is in
    let place : ptr.place ≡ number % places = sym (mod-mul-add ptr.device places ptr.place fits.0.in_places) ∙ ap (λ (n : ℕ). n % places) is in
    subst (P (number / places)) place (subst (λ (d : ℕ). P d ptr.place) device all.0))
    (λ (behind : is_reached places reach number ≡ true). at_reached P devices places reach number fits.1 all.1 behind)
    (or_cases (is_to places number ptr) (is_reached places reach number) there)

-- each item that passes a test passes it
all_pass : {X : Type 0} (test : X → Bool) (xs : List X) → AllByRecursion (λ (x : X). test x ≡ true) (filter test xs)
all_pass test [] = tt
all_pass {X} test (x ∷ xs) = at (test x) refl (all_pass test xs) where
  at : (passes : Bool) → test x ≡ passes → AllByRecursion (λ (y : X). test y ≡ true) (filter test xs) → AllByRecursion (λ (y : X). test y ≡ true) (cond passes (x ∷ filter test xs) (filter test xs))
  at true is behind = (is, behind)
  at false is behind = behind

-- so it holds at each place that has a block
at_block_places : (P : ℕ → ℕ → Type 0) (devices places : ℕ) (reach : List Ptr) → ArePtrs devices places reach → AllByRecursion (λ (ptr : Ptr). P ptr.device ptr.place) reach
    → AllByRecursion (λ (at : PlaceAt). P at.device at.place) (block_places devices places reach)
at_block_places P devices places reach fits all =
    let numbers : List ℕ = filter (is_reached places reach) (range_with_len 0 (total_of devices places)) in
    image_each (λ (at : PlaceAt). P at.device at.place) (place_at places) numbers
    (each_weaker (λ (number : ℕ). is_reached places reach number ≡ true) (λ (number : ℕ). P (number / places) (number % places))
    (λ number there. at_reached P devices places reach number fits all there) numbers (all_pass (is_reached places reach) (range_with_len 0 (total_of devices places))))

-- ---- puts

-- what the blocks have at a place
abbrev put_there : List FoundBlock → PlaceAt → Put
put_there blocks at = record { at = at; bytes = bytes_in blocks at.device at.place }

-- it is one of the puts of either list
abbrev IsPutThere : List FoundBlock → (puts old : List Put) → PlaceAt → Type 0
IsPutThere blocks puts old at = IsAmong (put_there blocks at) puts ⊎ IsAmong (put_there blocks at) old

-- a put of blocks in two lists is one of either
among_either : (put : Put) (new old : List FoundBlock) → IsAmong put (map put_of (new ++ old)) → IsAmong put (map put_of new) ⊎ IsAmong put (map put_of old)
among_either put [] old among = inr among
among_either put (block ∷ new) old (inl here) = inl (inl here)
among_either put (block ∷ new) old (inr behind) = ⊎_elim (λ (fresh : IsAmong put (map put_of new)). inl (inr fresh)) (λ (before : IsAmong put (map put_of old)). inr before) (among_either put new old behind)

-- blocks_at blocks are covered where each is
gathered_covered : (places : List PlaceAt) (blocks : List FoundBlock) (puts old : List Put) → AllByRecursion (IsPutThere blocks puts old) places → Covers (map put_of (blocks_at places blocks)) puts old
gathered_covered [] blocks puts old all = tt
gathered_covered (at ∷ places) blocks puts old all = (all.0, gathered_covered places blocks puts old all.1)

-- ---- the pointers of the next tree

module _ (shape : Shape) (s : State) (chain : List PlaceAt) (tree : Tree) (new : List FoundBlock) (is : IsState shape s) (next : IsNext shape s chain tree new) where
  old_fit : ArePtrs shape.devices shape.places (pointers_of_tree s.parts.tree)
  old_fit = parts_have_ptrs shape.devices shape.places s.body.group s.body.next_dataset s.parts is.parts

  fit : ArePtrs shape.devices shape.places (pointers_of_tree tree)
  fit = datasets_have_ptrs shape.devices shape.places tree.group tree.next_dataset [] tree.datasets next.datasets

  distinct : AreDistinct (map put_of new)
  distinct = new_distinct shape s chain new next.new_blocks

  -- the pointer names a block of the state
  record HasOldBlock (ptr : Ptr) : Type 0 where
    before : Ptr
    there : Contains (pointers_of_tree s.parts.tree) before
    number_same : number_of shape.places before.device before.place ≡ number_of shape.places ptr.device ptr.place
    same : AreOfOneBlock before ptr
    owned : is_owned_in shape s (number_of shape.places ptr.device ptr.place) ≡ true
    block_there : owns (map put_of s.blocks) ptr.device ptr.place ≡ true
    digest : digest_bytes (bytes_in s.blocks ptr.device ptr.place) ≡ ptr.digest

  -- or a new one
  record HasNewBlock (ptr : Ptr) : Type 0 where
    block_there : owns (map put_of new) ptr.device ptr.place ≡ true
    physical_is : ptr.physical ≡ tree.group
    logical_is : ptr.logical ≡ tree.group
    digest : digest_bytes (bytes_in new ptr.device ptr.place) ≡ ptr.digest

  old_block : (ptr : Ptr) → IsKept tree.group (pointers_of_tree s.parts.tree) ptr → HasOldBlock ptr
  old_block ptr kept =
      let before : Ptr = kept.before in
      let reach : List Ptr = pointers_of_tree s.parts.tree in
      let number_same : number_of shape.places before.device before.place ≡ number_of shape.places ptr.device ptr.place = ap₂ (number_of shape.places) (sym kept.device_same) (sym kept.place_same) in
      let reached : is_reached shape.places reach (number_of shape.places before.device before.place) ≡ true =
      holds_there (λ (p : Ptr). is_reached shape.places reach (number_of shape.places p.device p.place) ≡ true) reach before (each_reached shape.places reach) kept.there in
      let owned : owns (map put_of s.blocks) before.device before.place ≡ true =
      holds_there (λ (p : Ptr). owns (map put_of s.blocks) p.device p.place ≡ true) reach before (pointers_owned shape.devices shape.places reach s.blocks old_fit is.blocks) kept.there in
      let digest : digest_bytes (bytes_in s.blocks before.device before.place) ≡ before.digest = holds_there (HasDigest s.blocks) reach before is.digests kept.there in
      record {
        before = before;
        there = kept.there;
        number_same = number_same;
        same = (sym kept.physical_same, sym kept.digest_same);
        owned = ap (is_owned_in shape s) (sym number_same) ∙ reached_is_owned shape.devices shape.places s.chain reach (number_of shape.places before.device before.place) reached;
        block_there = ap₂ (owns (map put_of s.blocks)) kept.device_same kept.place_same ∙ owned;
        digest = ap digest_bytes (ap₂ (bytes_in s.blocks) kept.device_same kept.place_same) ∙ digest ∙ sym kept.digest_same;
      }

  new_block : (ptr : Ptr) → IsWritten tree.group new ptr → HasNewBlock ptr
  new_block ptr written =
      let block : FoundBlock = written.block in
      let there : owns (map put_of new) block.device block.place ≡ true =
      holds_there (λ (b : FoundBlock). owns (map put_of new) b.device b.place ≡ true) new block (each_there new) written.there in
      let bytes : bytes_in new block.device block.place ≡ block.bytes =
      holds_there (λ (b : FoundBlock). bytes_in new b.device b.place ≡ b.bytes) new block (each_has_its_bytes new distinct) written.there in
      record {
        block_there = ap₂ (owns (map put_of new)) written.device_is written.place_is ∙ there;
        physical_is = written.physical_is;
        logical_is = written.logical_is;
        digest = ap digest_bytes (ap₂ (bytes_in new) written.device_is written.place_is ∙ bytes) ∙ sym written.digest_is;
      }

  -- each of them names the one or the other, and is no later than the group
  record HasBlock (ptr : Ptr) : Type 0 where
    fits : IsPtr shape.devices shape.places ptr
    no_later : ptr.logical ≤ tree.group
    block : HasOldBlock ptr ⊎ HasNewBlock ptr

  each_has : AllByRecursion HasBlock (pointers_of_tree tree)
  each_has =
      all_of_two (IsPtr shape.devices shape.places) (λ (ptr : Ptr). IsKept tree.group (pointers_of_tree s.parts.tree) ptr ⊎ IsWritten tree.group new ptr) HasBlock (pointers_of_tree tree)
      (λ ptr fits names.
      ⊎_elim
      (λ (kept : IsKept tree.group (pointers_of_tree s.parts.tree) ptr). record { fits = fits; no_later = kept.no_later; block = inl (old_block ptr kept) })
      (λ (written : IsWritten tree.group new ptr). record { fits = fits; no_later = omega (arith, written.logical_is); block = inr (new_block ptr written) }) names)
      fit next.pointers

  -- ---- its owners

  old_owner : HaveOneOwner shape.places s.chain (pointers_of_tree s.parts.tree)
  old_owner =
      owner_none shape.devices shape.places s.chain (pointers_of_tree s.parts.tree) (reach_places shape.devices shape.places s.body.group s.body.next_dataset s.parts is.parts) is.owners

  -- a place is not both owned and a new block's
  not_both : (one other : Ptr) → HasOldBlock one → HasNewBlock other → number_of shape.places one.device one.place ≡ number_of shape.places other.device other.place → ⊥
  not_both one other old fresh same =
      true≢false (sym old.owned ∙ ap (is_owned_in shape s) same ∙ IsNewPlace.unowned (new_place shape s chain new other.device other.place next.new_blocks fresh.block_there))

  old_agree : (one other : Ptr) → HasOldBlock one → HasOldBlock other → number_of shape.places one.device one.place ≡ number_of shape.places other.device other.place → AreOfOneBlock one other
  old_agree one other here there same =
      let before = old_owner.one_block here.before there.before here.there there.there (here.number_same ∙ same ∙ sym there.number_same) in
      (sym here.same.0 ∙ before.0 ∙ there.same.0, sym here.same.1 ∙ before.1 ∙ there.same.1)

  new_agree : (one other : Ptr) → IsPtr shape.devices shape.places one → IsPtr shape.devices shape.places other → HasNewBlock one → HasNewBlock other
      → number_of shape.places one.device one.place ≡ number_of shape.places other.device other.place → AreOfOneBlock one other
  new_agree one other one_fits other_fits here there same =
      let place = same_place shape.places one.device one.place other.device other.place one_fits.in_places other_fits.in_places same in
      (here.physical_is ∙ sym there.physical_is, sym here.digest ∙ ap digest_bytes (ap₂ (bytes_in new) place.0 place.1) ∙ there.digest)

  agree : (one other : Ptr) → HasBlock one → HasBlock other → number_of shape.places one.device one.place ≡ number_of shape.places other.device other.place → AreOfOneBlock one other
  agree one other here there same =
      ⊎_elim
      (λ (old : HasOldBlock one).
      ⊎_elim (λ (old_too : HasOldBlock other). old_agree one other old old_too same) (λ (fresh : HasNewBlock other). absurd (not_both one other old fresh same)) there.block)
      (λ (fresh : HasNewBlock one).
      ⊎_elim (λ (old : HasOldBlock other). absurd (not_both other one old fresh (sym same))) (λ (fresh_too : HasNewBlock other). new_agree one other here.fits there.fits fresh fresh_too same) there.block)
      here.block

  beside_chain : (ptr : Ptr) → HasBlock ptr → chain_has shape.places chain (number_of shape.places ptr.device ptr.place) ≡ false
  beside_chain ptr has =
      ⊎_elim
      (λ (old : HasOldBlock ptr). chain_beside_owned shape s chain (number_of shape.places ptr.device ptr.place) next.chain_unowned old.owned)
      (λ (fresh : HasNewBlock ptr). IsNewPlace.beside (new_place shape s chain new ptr.device ptr.place next.new_blocks fresh.block_there))
      has.block

  owners_are : owner_hit shape.devices shape.places chain (pointers_of_tree tree) ≡ None
  owners_are =
      none_owner shape.devices shape.places chain (pointers_of_tree tree) (record {
        one_block = λ one other one_there other_there same.
            agree one other (holds_there HasBlock (pointers_of_tree tree) one each_has one_there) (holds_there HasBlock (pointers_of_tree tree) other each_has other_there) same;
        not_in_catalogue = λ ptr there. beside_chain ptr (holds_there HasBlock (pointers_of_tree tree) ptr each_has there);
      })

  -- ---- its blocks

  blocks_are : map place_of_block (next_blocks shape tree new s.blocks) ≡ block_places shape.devices shape.places (pointers_of_tree tree)
  blocks_are = places_of_gathered (block_places shape.devices shape.places (pointers_of_tree tree)) (new ++ s.blocks)

  -- the bytes at the place of each pointer
  bytes_are : AllByRecursion (IsSameAt (bytes_in (next_blocks shape tree new s.blocks)) (bytes_in (new ++ s.blocks))) (pointers_of_tree tree)
  bytes_are =
      all_mapped (λ (ptr : Ptr). owns (map put_of (next_blocks shape tree new s.blocks)) ptr.device ptr.place ≡ true) (IsSameAt (bytes_in (next_blocks shape tree new s.blocks)) (bytes_in (new ++ s.blocks))) (pointers_of_tree tree)
      (λ ptr there. bytes_of_gathered (block_places shape.devices shape.places (pointers_of_tree tree)) (new ++ s.blocks) ptr.device ptr.place there)
      (pointers_owned shape.devices shape.places (pointers_of_tree tree) (next_blocks shape tree new s.blocks) fit blocks_are)

  -- have its digest
  digest_is : (ptr : Ptr) → HasBlock ptr → digest_bytes (bytes_in (new ++ s.blocks) ptr.device ptr.place) ≡ ptr.digest
  digest_is ptr has =
      ⊎_elim
      (λ (old : HasOldBlock ptr). ap digest_bytes (bytes_in_back new s.blocks ptr.device ptr.place (new_beside_owned shape s chain new ptr.device ptr.place next.new_blocks old.owned)) ∙ old.digest)
      (λ (fresh : HasNewBlock ptr). ap digest_bytes (bytes_in_front new s.blocks ptr.device ptr.place fresh.block_there) ∙ fresh.digest)
      has.block

  digests_are : AllByRecursion (HasDigest (next_blocks shape tree new s.blocks)) (pointers_of_tree tree)
  digests_are =
      all_of_two (IsSameAt (bytes_in (next_blocks shape tree new s.blocks)) (bytes_in (new ++ s.blocks))) HasBlock (HasDigest (next_blocks shape tree new s.blocks)) (pointers_of_tree tree)
      (λ ptr same has. ap digest_bytes same ∙ digest_is ptr has) bytes_are each_has

  -- what a group leads to agrees with itself
  pub next_is_exact : AreExact shape chain tree (next_blocks shape tree new s.blocks)
  next_is_exact = record {
    some_group = omega (arith, next.group_is);
    group_width = next.group_width;
    some_next_dataset = next.some_next_dataset;
    next_dataset_width = next.next_dataset_width;
    few_datasets = next.few_datasets;
    datasets = next.datasets;
    long_enough = next.long_enough;
    chain_places = next.chain_places;
    births = none_birth tree.group (pointers_of_tree tree) (each_weaker HasBlock (λ (ptr : Ptr). ptr.logical ≤ tree.group) (λ ptr has. has.no_later) (pointers_of_tree tree) each_has);
    logs = next.no_logs;
    owners = owners_are;
    blocks_there = blocks_are;
    digests = digests_are;
    tails = tail_same (bytes_in (next_blocks shape tree new s.blocks)) (bytes_in (new ++ s.blocks)) tree.datasets bytes_are ∙ next.tails;
    charge = next.charge;
  }

  -- ---- its writes

  -- one of the new blocks or of the old ones is at the place of each pointer
  block_there : (ptr : Ptr) → HasBlock ptr → owns (map put_of (new ++ s.blocks)) ptr.device ptr.place ≡ true
  block_there ptr has =
      owns_both new s.blocks ptr.device ptr.place
      ∙ ⊎_elim
      (λ (old : HasOldBlock ptr). or_right (owns (map put_of new) ptr.device ptr.place) (owns (map put_of s.blocks) ptr.device ptr.place) old.block_there)
      (λ (fresh : HasNewBlock ptr). or_left (owns (map put_of new) ptr.device ptr.place) (owns (map put_of s.blocks) ptr.device ptr.place) fresh.block_there)
      has.block

  -- no write is at a place of the roots or of a log area,
  pub next_beside_fixed : (d p : ℕ) → IsFixed shape.devices shape.places d p → owns (next_puts shape chain tree new) d p ≡ false
  next_beside_fixed d p fixed =
      owns_not_both (map put_of new) (at_places chain (links chain (next_bytes shape chain tree))) d p
      (new_beside_fixed shape s chain new d p next.new_blocks fixed)
      (owns_at_places_within chain (links chain (next_bytes shape chain tree)) d p (chain_beside_fixed shape.devices shape.places chain d p next.chain_places fixed))

  -- or at one that the state owns,
  puts_beside_old : (d p : ℕ) → owns (layout_of s) d p ≡ true → owns (next_puts shape chain tree new) d p ≡ false
  puts_beside_old d p there =
      let owned = (owned_means shape s d p is there).1 in
      owns_not_both (map put_of new) (at_places chain (links chain (next_bytes shape chain tree))) d p
      (new_beside_owned shape s chain new d p next.new_blocks owned)
      (owns_at_places_within chain (links chain (next_bytes shape chain tree)) d p (chain_place_beside_owned shape s chain d p next.chain_unowned owned))

  -- and no two are at one
  puts_distinct : AreDistinct (next_puts shape chain tree new)
  puts_distinct =
      distinct_append (map put_of new) (at_places chain (links chain (next_bytes shape chain tree))) distinct
      (distinct_at_places chain (links chain (next_bytes shape chain tree)) (chain_apart shape.devices shape.places chain next.chain_places))
      (λ d p there. owns_at_places_within chain (links chain (next_bytes shape chain tree)) d p (new_beside_chain shape s chain new d p next.new_blocks there))

  -- each block of the next state is written, or stood there before
  blocks_covered : Covers (map put_of (next_blocks shape tree new s.blocks)) (next_puts shape chain tree new) (layout_of s)
  blocks_covered =
      gathered_covered (block_places shape.devices shape.places (pointers_of_tree tree)) (new ++ s.blocks) (next_puts shape chain tree new) (layout_of s)
      (all_mapped (λ (at : PlaceAt). owns (map put_of (new ++ s.blocks)) at.device at.place ≡ true) (IsPutThere (new ++ s.blocks) (next_puts shape chain tree new) (layout_of s)) (block_places shape.devices shape.places (pointers_of_tree tree))
      (λ at there.
      ⊎_elim
      (λ (fresh : IsAmong (put_there (new ++ s.blocks) at) (map put_of new)). inl (among_front (put_there (new ++ s.blocks) at) (map put_of new) (at_places chain (links chain (next_bytes shape chain tree))) fresh))
      (λ (old : IsAmong (put_there (new ++ s.blocks) at) (map put_of s.blocks)). inr (among_back (put_there (new ++ s.blocks) at) (at_places s.chain (links s.chain (catalogue_bytes s.parts))) (map put_of s.blocks) old))
      (among_either (put_there (new ++ s.blocks) at) new s.blocks (block_is_among (new ++ s.blocks) at.device at.place there)))
      (at_block_places (λ d p. owns (map put_of (new ++ s.blocks)) d p ≡ true) shape.devices shape.places (pointers_of_tree tree) fit
      (each_weaker HasBlock (λ (ptr : Ptr). owns (map put_of (new ++ s.blocks)) ptr.device ptr.place ≡ true) block_there (pointers_of_tree tree) each_has)))

  -- its writes lead from the state to the next
  pub next_leads : IsBody (next_state shape s chain tree new).body → LeadsTo (standing_of s) (standing_of (next_state shape s chain tree new)) (next_puts shape chain tree new)
  next_leads body = record {
    next = next.group_is;
    fits = body;
    old_beside_roots = beside_roots shape s is;
    beside_roots = λ place low. next_beside_fixed 0 place (refl, omega arith);
    beside_old = puts_beside_old;
    distinct = puts_distinct;
    covers = covers_append (at_places chain (links chain (next_bytes shape chain tree))) (map put_of (next_blocks shape tree new s.blocks)) (next_puts shape chain tree new) (layout_of s)
        (covers_from_among (at_places chain (links chain (next_bytes shape chain tree))) (next_puts shape chain tree new) (layout_of s)
        (λ put among. inl (among_back put (map put_of new) (at_places chain (links chain (next_bytes shape chain tree))) among)))
        blocks_covered;
  }

-- ---- the first state of a pool

-- its chain is at no fixed place
pub begins_beside_fixed : (shape : Shape) (chain : List PlaceAt) (tree : Tree) (d p : ℕ) → AreExact shape chain tree [] → IsFixed shape.devices shape.places d p
    → owns (at_places chain (links chain (next_bytes shape chain tree))) d p ≡ false
begins_beside_fixed shape chain tree d p exact fixed =
    owns_at_places_within chain (links chain (next_bytes shape chain tree)) d p (chain_beside_fixed shape.devices shape.places chain d p exact.chain_places fixed)

-- the chain is all that it owns, so writing it begins the pool
pub next_begins : (pool : ℕ) (shape : Shape) (chain : List PlaceAt) (tree : Tree) → AreExact shape chain tree [] → IsBody (exact_state pool shape chain tree []).body
    → Begins (standing_of (exact_state pool shape chain tree [])) (at_places chain (links chain (next_bytes shape chain tree)))
next_begins pool shape chain tree exact body =
    let puts : List Put = at_places chain (links chain (next_bytes shape chain tree)) in
    record {
      fits = body;
      beside_roots = λ place low. begins_beside_fixed shape chain tree 0 place exact (refl, omega arith);
      distinct = distinct_at_places chain (links chain (next_bytes shape chain tree)) (chain_apart shape.devices shape.places chain exact.chain_places);
      covers = covers_append puts [] puts [] (covers_from_among puts puts [] (λ put among. inl among)) tt;
    }

-- ---- a group that changes nothing but its number

-- each item of a list is there
each_contained : {X : Type 0} (xs : List X) → AllByRecursion (Contains xs) xs
each_contained [] = tt
each_contained (x ∷ xs) = recursion_from_All (Contains (x ∷ xs)) (x ∷ xs) (All-from_get_or (Contains (x ∷ xs)) (x ∷ xs) x (λ i within. Contains-get_or (x ∷ xs) i x within))

-- it leads on from the state over a chain that nobody owns
pub keeps_tree : (shape : Shape) (s : State) (chain : List PlaceAt) → IsState shape s → s.body.group + 1 < 2 ^ 64
    → length chain ≡ chain_length (length (next_bytes shape chain (later_tree s))) → AreChainPlaces shape.devices shape.places chain → AllByRecursion (IsUnowned shape s) chain
    → IsNext shape s chain (later_tree s) []
keeps_tree shape s chain is width long_enough places unowned =
    let reach : List Ptr = pointers_of_tree s.parts.tree in
    record {
      group_is = refl;
      group_width = width;
      some_next_dataset = omega (arith, is.body.numbered, is.parts.next_dataset_is);
      next_dataset_width = subst (λ (number : ℕ). number < 2 ^ 64) (sym is.parts.next_dataset_is) is.body.widths.next_dataset;
      few_datasets = is.parts.few_datasets;
      datasets = later_datasets shape.devices shape.places s.body.group (s.body.group + 1) s.parts.tree.next_dataset [] s.parts.tree.datasets (omega arith)
          (subst (λ (number : ℕ). AreDatasets shape.devices shape.places s.body.group number [] s.parts.tree.datasets) (sym is.parts.next_dataset_is) is.parts.datasets);
      no_logs = is.logs;
      long_enough = long_enough;
      chain_places = places;
      chain_unowned = unowned;
      new_blocks = tt;
      pointers = all_of_two (Contains reach) (λ (ptr : Ptr). ptr.logical ≤ s.parts.tree.group) (λ (ptr : Ptr). IsKept (s.body.group + 1) reach ptr ⊎ IsWritten (s.body.group + 1) [] ptr) reach
          (λ ptr there low.
          inl (record {
            before = ptr;
            there = there;
            device_same = refl;
            place_same = refl;
            physical_same = refl;
            digest_same = refl;
            no_later = omega (arith, low, is.parts.group_is);
          }))
          (each_contained reach) (birth_none s.parts.tree.group reach is.births);
      tails = is.tails;
      charge = none_charge shape.devices shape.places (s.body.group + 1) reach (charge_none shape.devices shape.places s.parts.tree.group reach is.charge);
    }
