-- The two steps of a reading are the whole of it, and what a catalogue is known to have.
use Rattle.std.proofs.Common.{◌≡◌, ◌∙◌, ℕ, zero, suc, ◌<◌, List, [], ◌∷◌, ◌++◌, None, Result, Ok, Err, refl, arith}
use Rattle.std.specs.List.{All, AllByRecursion}
use Rattle.zc_num.specs.declared.numbers.PlaceAt.{PlaceAt}
use Rattle.zc_blkptr.specs.Ptr.{IsPtr}
use Rattle.zc_blkptr.specs.declared.ptr.Ptr.{Ptr}
use Rattle.zc_tape.specs.Tape.{Image, Shape}
use Rattle.zc_root.specs.declared.body.Body.{Body}
use Rattle.zc_tree.specs.Reach.{pointers_of_tree}
use Rattle.zc_tree.specs.Catalogue.{AreDatasets, AreParts}
use Rattle.zc_tree.specs.declared.catalogue.Parts.{Parts}
use Rattle.zc_tree.specs.declared.tree.Dataset.{Dataset}
use Rattle.zc_damage.specs.declared.block.FoundBlock.{FoundBlock}
use Rattle.zc_damage.specs.declared.damage.Damage.{Damage}
use Rattle.zc_damage.specs.Places.{IsPlace, ReachPlaces, bytes_in}
use Rattle.zc_damage.specs.Checks.{HaveAreas, worn_hit, birth_hit, log_hit, owner_hit, early_hit, late_hit}
use Rattle.zc_damage.proofs.FirstLaws.{neither}
use Rattle.zc_state.specs.Reading.{◌>>=◌, clear, clear_hit, geometry_hit, chain_of, digest_damage, parts_in, blocks_of, read_state}
use Rattle.zc_state.proofs.Pointers.{parts_have_ptrs}
use Rattle.zc_image.specs.Steps.{catalogue_in, blocks_in, state_in}

-- ---- steps

-- a step of steps is its steps one after the other
bind_assoc : {A B C : Type 0} (r : Result A Damage) (f : A → Result B Damage) (g : B → Result C Damage) → ((r >>= f) >>= g) ≡ (r >>= λ x. f x >>= g)
bind_assoc (Ok x) f g = refl
bind_assoc (Err damage) f g = refl

-- steps that go on alike are alike
bind_alike : {A B : Type 0} (r : Result A Damage) (f g : A → Result B Damage) → ((x : A) → f x ≡ g x) → (r >>= f) ≡ (r >>= g)
bind_alike (Ok x) f g same = same x
bind_alike (Err damage) f g same = refl

-- the catalogue's steps and what follows them
catalogue_steps : {B : Type 0} (devices places : ℕ) (image : Image) (body : Body) (f : List PlaceAt × Parts → Result B Damage)
    → (catalogue_in devices places image body >>= f)
    ≡ (chain_of devices places image body >>= λ found. clear (digest_damage body found.1) >>= λ _. parts_in devices places body found.1 >>= λ parts. f (found.0, parts))
unfolding catalogue_in
catalogue_steps devices places image body f =
    bind_assoc (chain_of devices places image body) _ f ∙ bind_alike (chain_of devices places image body) _ _ (λ found.
    bind_assoc (clear (digest_damage body found.1)) _ f ∙ bind_alike (clear (digest_damage body found.1)) _ _ (λ _.
    bind_assoc (parts_in devices places body found.1) _ f))

-- the blocks' steps and what follows them
blocks_steps : {B : Type 0} (devices places : ℕ) (image : Image) (chain : List PlaceAt) (parts : Parts) (f : List FoundBlock → Result B Damage)
    → (blocks_in devices places image chain parts >>= f)
    ≡ (clear_hit (early_hit devices places parts chain) >>= λ _. blocks_of devices places image (pointers_of_tree parts.tree) >>= λ blocks.
    clear_hit (late_hit devices places parts chain (bytes_in blocks)) >>= λ _. f blocks)
unfolding blocks_in
blocks_steps devices places image chain parts f =
    bind_assoc (clear_hit (early_hit devices places parts chain)) _ f ∙ bind_alike (clear_hit (early_hit devices places parts chain)) _ _ (λ _.
    bind_assoc (blocks_of devices places image (pointers_of_tree parts.tree)) _ f ∙ bind_alike (blocks_of devices places image (pointers_of_tree parts.tree)) _ _ (λ blocks.
    bind_assoc (clear_hit (late_hit devices places parts chain (bytes_in blocks))) _ f))

-- both steps are the whole
pub state_by_steps : (shape : Shape) (image : Image) (body : Body) → state_in shape image body ≡ read_state shape image body
unfolding state_in read_state
state_by_steps shape image body =
    bind_alike (clear_hit (geometry_hit shape body)) _ _ (λ _.
    catalogue_steps shape.devices shape.places image body _ ∙ bind_alike (chain_of shape.devices shape.places image body) _ _ (λ found.
    bind_alike (clear (digest_damage body found.1)) _ _ (λ _. bind_alike (parts_in shape.devices shape.places body found.1) _ _ (λ parts.
    blocks_steps shape.devices shape.places image found.0 parts _))))

-- ---- what a catalogue is known to have

-- what holds of each item of a list, one after the other, holds of each by its index
all_by_index : {X : Type 0} (P Q : X → Type 0) (xs : List X) → ((x : X) → P x → Q x) → AllByRecursion P xs → All Q xs
all_by_index P Q [] gives all k d lt = absurd (omega arith)
all_by_index P Q (x ∷ xs) gives all zero d lt = gives x all.0
all_by_index P Q (x ∷ xs) gives all (suc k) d lt = all_by_index P Q xs gives all.1 k d (omega arith)

-- its pointers are to places of the pool
pub parts_have_places : (devices places group next_dataset : ℕ) (parts : Parts) → AreParts devices places group next_dataset parts → ReachPlaces devices places (pointers_of_tree parts.tree)
parts_have_places devices places group next_dataset parts are =
    all_by_index (IsPtr devices places) (λ (ptr : Ptr). IsPlace devices places ptr.device ptr.place) (pointers_of_tree parts.tree) (λ ptr is. (is.on_device, is.in_places))
    (parts_have_ptrs devices places group next_dataset parts are)

datasets_have_slots : (devices places group next_dataset : ℕ) (others datasets : List Dataset) → AreDatasets devices places group next_dataset others datasets → AllByRecursion (λ (dataset : Dataset). dataset.slot < 8) datasets
datasets_have_slots devices places group next_dataset others [] are = tt
datasets_have_slots devices places group next_dataset others (dataset ∷ datasets) are =
    (are.0.in_slot, datasets_have_slots devices places group next_dataset (others ++ dataset ∷ []) datasets are.2)

-- each dataset has a log area
pub parts_have_areas : (devices places group next_dataset : ℕ) (parts : Parts) → AreParts devices places group next_dataset parts → HaveAreas parts.tree.datasets
parts_have_areas devices places group next_dataset parts are =
    all_by_index (λ (dataset : Dataset). dataset.slot < 8) (λ (dataset : Dataset). dataset.slot < 8) parts.tree.datasets (λ dataset slot. slot)
    (datasets_have_slots devices places group next_dataset [] parts.tree.datasets are.datasets)

-- where no early check hits, no place has two owners that don't agree
pub no_owner_hit : (devices places : ℕ) (parts : Parts) (chain : List PlaceAt) → early_hit devices places parts chain ≡ None → owner_hit devices places chain (pointers_of_tree parts.tree) ≡ None
no_owner_hit devices places parts chain none =
    (neither (log_hit devices places parts.tree.datasets) _
    (neither (birth_hit parts.tree.group (pointers_of_tree parts.tree)) _
    (neither (worn_hit parts.tree) _ none).1).1).1

-- and no number is too high
pub no_worn_hit : (devices places : ℕ) (parts : Parts) (chain : List PlaceAt) → early_hit devices places parts chain ≡ None → worn_hit parts.tree ≡ None
no_worn_hit devices places parts chain none = (neither (worn_hit parts.tree) _ none).0
