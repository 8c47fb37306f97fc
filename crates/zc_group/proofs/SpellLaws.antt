-- The catalogue of a group, and its blocks at their places.
use Rattle.std.proofs.Common.{◌≡◌, ◌∙◌, ℕ, suc, ◌+◌, ◌<◌, List, [], ◌∷◌, ◌++◌, length, take, drop, get_or, Option, None, Result, Ok, Err, IfOk, OnOk, refl, sym, ap, subst, arith}
use Rattle.std.specs.declared.alloc.AllocError.{AllocError}
use Rattle.std.proofs.lemmas.List.Elements.{All-from_recursion}
use Rattle.zc_num.specs.Limits.{AreLimits}
use Rattle.zc_blkptr.specs.Ptr.{IsPtr}
use Rattle.zc_blkptr.specs.declared.ptr.Ptr.{Ptr}
use Rattle.zc_tape.specs.Tape.{Shape}
use Rattle.zc_tree.specs.Reach.{pointers_of_tree}
use Rattle.zc_tree.specs.Catalogue.{AreDatasets}
use Rattle.zc_tree.specs.declared.tree.Tree.{Tree}
use Rattle.zc_damage.specs.declared.damage.Hit.{Hit}
use Rattle.zc_damage.specs.Census.{Counted, IsCensus}
use Rattle.zc_damage.specs.Checks.{charge_hit}
use Rattle.zc_damage.specs.Places.{IsPlace, ReachPlaces}
use Rattle.zc_state.specs.State.{AreChainPlaces}
use Rattle.zc_state.proofs.BlockLaws.{all_mapped}
use Rattle.zc_next.specs.Exact.{catalogue_size, body_for}
use Rattle.zc_next.specs.Next.{next_bytes}
use Rattle.zc_next.proofs.CatalogueSize.{catalogue_length}
use Rattle.zc_next.proofs.ChainCount.{chain_few}
use Rattle.zc_next.proofs.TreePointers.{datasets_have_ptrs}
use Rattle.zc_group.specs.Chosen.{free_places, chain_for}
use Rattle.zc_group.specs.Spelled.{IsChainFor, Spells}
use Rattle.zc_group.specs.declared.catalogue.Written.{Written}
use Rattle.zc_group.proofs.ChosenLaws.{chosen_places, chain_there}
use Rattle.std.proofs.lemmas.Grind.{take_at_read}
use Rattle.std.proofs.lemmas.List.{map-append, length-take}
use Rattle.zc_num.specs.Words.{each}
use Rattle.zc_num.specs.declared.numbers.PlaceAt.{PlaceAt}
use Rattle.zc_num.proofs.Each.{length_each}
use Rattle.zc_catalog.specs.Chain.{chain_length, links}
use Rattle.zc_layout.specs.Layout.{Put, at_places}
use Rattle.zc_layout.proofs.LayoutLaws.{at_places_append}
use Rattle.zc_plan.specs.declared.input.PlacedBlock.{PlacedBlock}
use Rattle.zc_plan.specs.Puts.{put_of, puts_of}

-- what has an item for each device has as many as another
pub same_count : {A B : Type 0} (devices : ℕ) (f : ℕ → A) (g : ℕ → B) (xs : List A) (ys : List B) → xs ≡ each devices f → ys ≡ each devices g → length xs ≡ length ys
same_count devices f g xs ys ex ey = ap length ex ∙ length_each devices f ∙ sym (length_each devices g) ∙ sym (ap length ey)

-- one block for each place
pub length_links : (chain : List PlaceAt) (bytes : List ℕ) → length (links chain bytes) ≡ length chain
length_links [] bytes = refl
length_links (at ∷ chain) bytes = ap suc (length_links chain (drop 4088 bytes))

-- one block more, at the next place
block_placed : (chain : List PlaceAt) (done : List (List ℕ)) (blocks : List PlacedBlock) (default : PlaceAt) (bytes : List ℕ) (index : ℕ) → index ≡ length done → index < length chain
    → puts_of blocks ≡ at_places (take index chain) done
    → puts_of (blocks ++ record { device = (get_or chain index default).device; place = (get_or chain index default).place; bytes = bytes } ∷ []) ≡ at_places (take (index + 1) chain) (done ++ bytes ∷ [])
block_placed chain done blocks default bytes index is within so_far =
    let at : PlaceAt = get_or chain index default in
    let more : take (index + 1) chain ≡ take index chain ++ at ∷ [] = (take_at_read chain index default within).1 in
    let front : length (take index chain) ≡ length done = omega (arith, is, within, length-take index chain) in
    map-append put_of blocks (record { device = at.device; place = at.place; bytes = bytes } ∷ [])
    ∙ ap (λ (puts : List Put). puts ++ record { at = at; bytes = bytes } ∷ []) so_far
    ∙ sym (at_places_append (take index chain) (at ∷ []) done (bytes ∷ []) front)
    ∙ ap (λ (places : List PlaceAt). at_places places (done ++ bytes ∷ [])) (sym more)

-- the same of what a push answered
pub block_put : (chain : List PlaceAt) (index : ℕ) (blocks more : List PlacedBlock) (default : PlaceAt) (bytes : List ℕ) (r : Result (Unit {0}) AllocError) → index < length chain
    → OnOk r (more ≡ blocks ++ record { device = (get_or chain index default).device; place = (get_or chain index default).place; bytes = bytes } ∷ [])
    → OnOk r ((done : List (List ℕ)) → index ≡ length done → puts_of blocks ≡ at_places (take index chain) done → puts_of more ≡ at_places (take (index + 1) chain) (done ++ bytes ∷ []))
block_put chain index blocks more default bytes (Err fault) within pushed = tt
block_put chain index blocks more default bytes (Ok _) within pushed = λ done is so_far. ap puts_of pushed ∙ block_placed chain done blocks default bytes index is within so_far

-- ---- the places of a catalogue

-- each pointer of a tree is to a place of the pool
pub reach_there : (devices places : ℕ) (tree : Tree) (reach : List Ptr) → AreDatasets devices places tree.group tree.next_dataset [] tree.datasets → reach ≡ pointers_of_tree tree → ReachPlaces devices places reach
reach_there devices places tree reach fits is =
    let P : Ptr → Type 0 = λ ptr. IsPlace devices places ptr.device ptr.place in
    subst (ReachPlaces devices places) (sym is)
    (All-from_recursion P (pointers_of_tree tree)
    (all_mapped (IsPtr devices places) P (pointers_of_tree tree) (λ ptr fits. (fits.on_device, fits.in_places)) (datasets_have_ptrs devices places tree.group tree.next_dataset [] tree.datasets fits)))

-- the first places that the census says nobody owns are those of the catalogue, if they are as many as its size takes
pub chosen_chain : (shape : Shape) (taken : Counted) (tree : Tree) (size : ℕ) (r : Result (List PlaceAt) AllocError) → AreLimits shape.devices shape.places
    → AreDatasets shape.devices shape.places tree.group tree.next_dataset [] tree.datasets → taken.devices ≡ shape.devices → taken.places ≡ shape.places → size ≡ catalogue_size shape.devices shape.places tree
    → IfOk r (λ chain. chain ≡ free_places taken.devices taken.places taken.chain taken.reach (chain_length size)) → IfOk r (λ chain. length chain ≡ chain_length size)
    → IfOk r (λ chain. IsChainFor shape taken.chain taken.reach tree chain)
chosen_chain shape taken tree size (Err fault) limits fits on_devices in_places size_is first all = tt
chosen_chain shape taken tree size (Ok chain) limits fits on_devices in_places size_is first all =
    let chain_is : chain ≡ chain_for shape taken.chain taken.reach tree =
    first ∙ ap (λ (d : ℕ). free_places d taken.places taken.chain taken.reach (chain_length size)) on_devices
    ∙ ap (λ (p : ℕ). free_places shape.devices p taken.chain taken.reach (chain_length size)) in_places
    ∙ ap (λ (n : ℕ). free_places shape.devices shape.places taken.chain taken.reach (chain_length n)) size_is in
    let are : AreChainPlaces shape.devices shape.places chain = subst (AreChainPlaces shape.devices shape.places) (sym chain_is) (chosen_places shape.devices shape.places taken.chain taken.reach limits (chain_length (catalogue_size shape.devices shape.places tree))) in
    let few = chain_few shape.devices shape.places chain are in
    record {
      chain_is = chain_is;
      there = chain_there shape.devices shape.places chain are;
      few = omega (arith, few, limits.few_places);
      long_enough = all ∙ ap (λ (n : ℕ). chain_length n) (size_is ∙ sym (catalogue_length shape.devices shape.places chain tree limits fits));
    }

-- what is known whatever was answered, is known where it is Ok
pub on_ok_known : {A E P : Type 0} (r : Result A E) → P → OnOk r P
on_ok_known (Ok a) known = known
on_ok_known (Err fault) known = tt

-- the pool has places for the blocks of a census without a hit
pub fits_counted : {A E : Type 0} (devices places group : ℕ) (reach : List Ptr) (chain : List PlaceAt) (census : Counted) (found : Option Hit) (r : Result A E)
    → IsCensus devices places reach chain census → found ≡ charge_hit census.devices census.places group census.reach → found ≡ None
    → OnOk r (charge_hit devices places group reach ≡ None)
fits_counted devices places group reach chain census found r is found_is none =
    on_ok_known r (subst (λ (counted : Counted). charge_hit counted.devices counted.places group counted.reach ≡ None) is (sym found_is ∙ none))

-- and so for those of a tree whose pointers they are
pub fits_of_tree : {A E : Type 0} (devices places : ℕ) (tree : Tree) (walked reach : List Ptr) (r : Result A E) → reach ≡ walked → walked ≡ pointers_of_tree tree
    → charge_hit devices places tree.group reach ≡ None → OnOk r (charge_hit devices places tree.group (pointers_of_tree tree) ≡ None)
fits_of_tree devices places tree walked reach r same is none =
    on_ok_known r (subst (λ (ptrs : List Ptr). charge_hit devices places tree.group ptrs ≡ None) (same ∙ is) none)

-- what is spelled over these places is spelled over the places for the tree
pub spelled : (shape : Shape) (pool : ℕ) (tree : Tree) (taken : List PlaceAt) (reach : List Ptr) (chain : List PlaceAt) (bytes : List ℕ) (r : Result Written AllocError)
    → IsChainFor shape taken reach tree chain → bytes ≡ next_bytes shape chain tree → IfOk r (λ written. written.chain ≡ chain) → IfOk r (λ written. written.body ≡ body_for pool shape tree chain bytes)
    → IfOk r (λ written. puts_of written.blocks ≡ at_places chain (links chain bytes)) → IfOk r (λ written. Spells shape pool (chain_for shape taken reach tree) tree written)
spelled shape pool tree taken reach chain bytes (Err fault) is bytes_are chain_same body blocks = tt
spelled shape pool tree taken reach chain bytes (Ok written) is bytes_are chain_same body blocks =
    let P : List PlaceAt → Type 0 = λ places. Spells shape pool places tree written in
    subst P is.chain_is (record {
      chain_is = chain_same;
      long_enough = is.long_enough;
      body_is = body ∙ ap (body_for pool shape tree chain) bytes_are;
      blocks_are = blocks ∙ ap (λ (b : List ℕ). at_places chain (links chain b)) bytes_are;
    })
