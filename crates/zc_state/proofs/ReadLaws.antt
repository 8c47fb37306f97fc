-- The state of a pool: what is read after a root is a state that the image holds, and a state that it holds is read.
use Rattle.std.proofs.Common.{◌≡◌, ◌∙◌, ℕ, ◌&&◌, not, eqb, List, [], map, length, None, Result, Ok, Err, refl, sym, ap, subst}
use Rattle.std.proofs.lemmas.Bool.{and_parts, and_from, eqb-true, eq-eqb}
use Rattle.std.proofs.lemmas.Slice.Eq.{bytes_eq-Decides}
use Rattle.sha2.specs.Sha256.{sha256}
use Rattle.zc_num.specs.Limits.{AreLimits}
use Rattle.zc_num.specs.declared.numbers.PlaceAt.{PlaceAt}
use Rattle.zc_wire.specs.Numbers.{IsBytes}
use Rattle.zc_wire.specs.Fields.{Read}
use Rattle.zc_tape.specs.Tape.{Image, Shape}
use Rattle.zc_root.specs.declared.body.Body.{Body}
use Rattle.zc_root.specs.Body.{IsBody}
use Rattle.zc_root.specs.Root.{IsRoot}
use Rattle.zc_tree.specs.Reach.{pointers_of_tree}
use Rattle.zc_tree.specs.Catalogue.{catalogue_bytes, AreParts}
use Rattle.zc_tree.specs.CatalogueReading.{catalogue_field}
use Rattle.zc_tree.specs.declared.catalogue.Parts.{Parts}
use Rattle.zc_tree.proofs.CatalogueLaws.{CatalogueFound, catalogue_takes, catalogue_again}
use Rattle.zc_catalog.specs.Chain.{links}
use Rattle.zc_damage.specs.declared.block.FoundBlock.{FoundBlock}
use Rattle.zc_damage.specs.declared.damage.Damage.{Damage}
use Rattle.zc_damage.specs.Places.{bytes_in}
use Rattle.zc_damage.specs.Checks.{early_hit, late_hit, worn_hit, birth_hit, log_hit, owner_hit, tail_hit, count_hit, region_hit, map_hit, charge_hit}
use Rattle.zc_layout.specs.Layout.{Holds, at_places}
use Rattle.zc_layout.proofs.LayoutLaws.{holds_append, holds_parts}
use Rattle.zc_state.specs.State.{State, IsState, IsFresh, StandsFor, layout, put_of}
use Rattle.zc_state.specs.Reading.{geometry_hit, digest_damage, chain_of, parts_in, blocks_of, read_state}
use Rattle.zc_state.proofs.Steps.{ok_is, bind_ok, bind_again, clear_ok, clear_again, clear_hit_ok, clear_hit_again, none_of_choice, no_choice, when_none, when_not, not_false}
use Rattle.zc_state.proofs.FollowLaws.{AreBlocksAt}
use Rattle.zc_state.proofs.ChainLaws.{chain_found, chain_only}
use Rattle.zc_state.proofs.Pointers.{parts_have_ptrs}
use Rattle.zc_state.proofs.BlockLaws.{all_blocks_found, all_blocks_only}

-- ---- the checks of the body

-- the size is that of the disk set
geometry_means : (shape : Shape) (body : Body) → geometry_hit shape body ≡ None → (body.devices ≡ shape.devices) × (body.places ≡ shape.places)
geometry_means shape body none =
    let same = not_false (eqb body.devices shape.devices && eqb body.places shape.places) (when_none _ _ none) in
    let both = and_parts (eqb body.devices shape.devices) (eqb body.places shape.places) same in
    (eqb-true body.devices shape.devices both.0, eqb-true body.places shape.places both.1)

geometry_again : (shape : Shape) (body : Body) → body.devices ≡ shape.devices → body.places ≡ shape.places → geometry_hit shape body ≡ None
geometry_again shape body devices places = when_not _ _ (ap not (and_from _ _ (eq-eqb body.devices shape.devices devices) (eq-eqb body.places shape.places places)))

-- the digest is that of the bytes
digest_means : (body : Body) (bytes : List ℕ) → digest_damage body bytes ≡ None → sha256 bytes ≡ body.digest
digest_means body bytes none = (bytes_eq-Decides (sha256 bytes) body.digest).0 (not_false _ (when_none _ _ none))

digest_again : (body : Body) (bytes : List ℕ) → sha256 bytes ≡ body.digest → digest_damage body bytes ≡ None
digest_again body bytes same = when_not _ _ (ap not ((bytes_eq-Decides (sha256 bytes) body.digest).1 same))

-- ---- the catalogue

-- what a whole catalogue was read as, or the damage
abbrev spelled : (Read Parts) → (ℕ → Damage) → Result Parts Damage
spelled read bad = elim read [ Ok parts ↦ Ok parts.0 | Err left ↦ Err (bad left) ]

spelled_ok : (read : Read Parts) (bad : ℕ → Damage) (parts : Parts) → spelled read bad ≡ Ok parts → (x : Parts × List ℕ) × (read ≡ Ok x) × (x.0 ≡ parts)
spelled_ok (Ok x) bad parts e = (x, refl, ok_is x.0 parts e)
spelled_ok (Err left) bad parts e = absurd cc

spelled_again : (read : Read Parts) (bad : ℕ → Damage) (x : Parts × List ℕ) → read ≡ Ok x → spelled read bad ≡ Ok x.0
spelled_again read bad x is = ap (λ (r : Read Parts). spelled r bad) is

-- what is read is spelled so
pub parts_found : (devices places : ℕ) (body : Body) (bytes : List ℕ) (parts : Parts) → AreLimits devices places → IsBytes bytes → parts_in devices places body bytes ≡ Ok parts
    → CatalogueFound devices places body.group body.next_dataset bytes parts
unfolding parts_in
parts_found devices places body bytes parts limits are_bytes e =
    let step = spelled_ok (catalogue_field devices places body.group body.next_dataset bytes) _ parts e in
    subst (CatalogueFound devices places body.group body.next_dataset bytes) step.2
    (catalogue_takes devices places body.group body.next_dataset bytes step.0 limits are_bytes step.1).0

-- and what is spelled so is read
pub parts_only : (devices places : ℕ) (body : Body) (parts : Parts) → AreLimits devices places → IsBody body → AreParts devices places body.group body.next_dataset parts
    → parts_in devices places body (catalogue_bytes parts) ≡ Ok parts
unfolding parts_in
parts_only devices places body parts limits is_body are_parts =
    spelled_again (catalogue_field devices places body.group body.next_dataset (catalogue_bytes parts)) _ (parts, []) (catalogue_again devices places body.group body.next_dataset parts limits is_body.widths.group is_body.widths.next_dataset are_parts)

-- ---- the checks of the parts

-- none of the checks hits that come before any block is read
pub record AreClearEarly (devices places : ℕ) (parts : Parts) (chain : List PlaceAt) : Type 0 where
  pub worn : worn_hit parts.tree ≡ None
  pub births : birth_hit parts.tree.group (pointers_of_tree parts.tree) ≡ None
  pub logs : log_hit devices places parts.tree.datasets ≡ None
  pub owners : owner_hit devices places chain (pointers_of_tree parts.tree) ≡ None

-- where none of these is hit, each of them is clear
pub early_means : (devices places : ℕ) (parts : Parts) (chain : List PlaceAt) → early_hit devices places parts chain ≡ None → AreClearEarly devices places parts chain
early_means devices places parts chain none =
    let worn = none_of_choice (worn_hit parts.tree) _ none in
    let births = none_of_choice (birth_hit parts.tree.group (pointers_of_tree parts.tree)) _ worn.1 in
    let logs = none_of_choice (log_hit devices places parts.tree.datasets) _ births.1 in
    record { worn = worn.0; births = births.0; logs = logs.0; owners = logs.1 }

-- where each is clear, none is hit
pub early_again : (devices places : ℕ) (parts : Parts) (chain : List PlaceAt) → AreClearEarly devices places parts chain → early_hit devices places parts chain ≡ None
early_again devices places parts chain are = no_choice _ _ are.worn (no_choice _ _ are.births (no_choice _ _ are.logs are.owners))

-- none of the checks hits that come once all blocks are read
pub record AreClearLate (devices places : ℕ) (parts : Parts) (chain : List PlaceAt) (bytes_at : ℕ → ℕ → List ℕ) : Type 0 where
  pub tails : tail_hit bytes_at parts.tree.datasets ≡ None
  pub counts : count_hit devices places parts.tables (pointers_of_tree parts.tree) ≡ None
  pub regions : region_hit devices places parts.tables (pointers_of_tree parts.tree) ≡ None
  pub maps : map_hit devices places parts.maps chain (pointers_of_tree parts.tree) ≡ None
  pub charge : charge_hit devices places parts.tree.group (pointers_of_tree parts.tree) ≡ None

-- where none of these is hit, each of them is clear
pub late_means : (devices places : ℕ) (parts : Parts) (chain : List PlaceAt) (bytes_at : ℕ → ℕ → List ℕ) → late_hit devices places parts chain bytes_at ≡ None → AreClearLate devices places parts chain bytes_at
late_means devices places parts chain bytes_at none =
    let tails = none_of_choice (tail_hit bytes_at parts.tree.datasets) _ none in
    let counts = none_of_choice (count_hit devices places parts.tables (pointers_of_tree parts.tree)) _ tails.1 in
    let regions = none_of_choice (region_hit devices places parts.tables (pointers_of_tree parts.tree)) _ counts.1 in
    let maps = none_of_choice (map_hit devices places parts.maps chain (pointers_of_tree parts.tree)) _ regions.1 in
    record { tails = tails.0; counts = counts.0; regions = regions.0; maps = maps.0; charge = maps.1 }

-- where each is clear, none is hit
pub late_again : (devices places : ℕ) (parts : Parts) (chain : List PlaceAt) (bytes_at : ℕ → ℕ → List ℕ) → AreClearLate devices places parts chain bytes_at → late_hit devices places parts chain bytes_at ≡ None
late_again devices places parts chain bytes_at are = no_choice _ _ are.tails (no_choice _ _ are.counts (no_choice _ _ are.regions (no_choice _ _ are.maps are.charge)))

-- ---- what is read

-- the image has the blocks of the chain, each of 4,096 bytes: the one thing that the bytes alone don't tell
abbrev pub HasChainBlocks : Image → State → Type 0
HasChainBlocks image s = AreBlocksAt image s.chain

-- after the body stands the state: its values agree, an import takes it, and the image holds it
pub record StandsAfter (shape : Shape) (image : Image) (body : Body) (s : State) : Type 0 where
  pub state : IsState shape s
  pub fresh : IsFresh s
  pub body_is : s.body ≡ body
  pub holds : Holds image (layout s)

-- the steps of a read that answered
record StateParts (shape : Shape) (image : Image) (body : Body) (s : State) : Type 0 where
  found : List PlaceAt × List ℕ
  parts : Parts
  blocks : List FoundBlock
  geometry : geometry_hit shape body ≡ None
  found_is : chain_of shape.devices shape.places image body ≡ Ok found
  digest : digest_damage body found.1 ≡ None
  parts_is : parts_in shape.devices shape.places body found.1 ≡ Ok parts
  early : early_hit shape.devices shape.places parts found.0 ≡ None
  blocks_is : blocks_of shape.devices shape.places image (pointers_of_tree parts.tree) ≡ Ok blocks
  late : late_hit shape.devices shape.places parts found.0 (bytes_in blocks) ≡ None
  made : record { body = body; chain = found.0; parts = parts; blocks = blocks } ≡ s

state_parts : (shape : Shape) (image : Image) (body : Body) (s : State) → read_state shape image body ≡ Ok s → StateParts shape image body s
unfolding read_state
state_parts shape image body s e =
    let geometry = clear_hit_ok (geometry_hit shape body) _ s e in
    let found = bind_ok (chain_of shape.devices shape.places image body) _ s geometry.1 in
    let digest = clear_ok (digest_damage body found.0.1) _ s found.2 in
    let parts = bind_ok (parts_in shape.devices shape.places body found.0.1) _ s digest.1 in
    let early = clear_hit_ok (early_hit shape.devices shape.places parts.0 found.0.0) _ s parts.2 in
    let blocks = bind_ok (blocks_of shape.devices shape.places image (pointers_of_tree parts.0.tree)) _ s early.1 in
    let late = clear_hit_ok (late_hit shape.devices shape.places parts.0 found.0.0 (bytes_in blocks.0)) _ s blocks.2 in
    record {
      found = found.0;
      parts = parts.0;
      blocks = blocks.0;
      geometry = geometry.0;
      found_is = found.1;
      digest = digest.0;
      parts_is = parts.1;
      early = early.0;
      blocks_is = blocks.1;
      late = late.0;
      made = ok_is (record { body = body; chain = found.0.0; parts = parts.0; blocks = blocks.0 }) s late.1;
    }

-- what is read after a body is a fresh state that the image holds
pub read_found : (shape : Shape) (image : Image) (body : Body) (s : State) → AreLimits shape.devices shape.places → IsBody body
    → read_state shape image body ≡ Ok s → HasChainBlocks image s → StandsAfter shape image body s
read_found shape image body s limits is_body e whole =
    let p = state_parts shape image body s e in
    let chain_blocks : AreBlocksAt image p.found.0 = subst (HasChainBlocks image) (sym p.made) whole in
    let size = geometry_means shape body p.geometry in
    let chain = chain_found shape.devices shape.places image body p.found is_body.some_place p.found_is chain_blocks in
    let parts = parts_found shape.devices shape.places body p.found.1 p.parts limits chain.1 p.parts_is in
    let early = early_means shape.devices shape.places p.parts p.found.0 p.early in
    let fits = parts_have_ptrs shape.devices shape.places body.group body.next_dataset p.parts parts.fits in
    let blocks = all_blocks_found shape.devices shape.places image (pointers_of_tree p.parts.tree) p.blocks fits p.blocks_is in
    let late = late_means shape.devices shape.places p.parts p.found.0 (bytes_in p.blocks) p.late in
    let chain_holds : Holds image (at_places p.found.0 (links p.found.0 (catalogue_bytes p.parts))) =
    subst (λ (bytes : List ℕ). Holds image (at_places p.found.0 (links p.found.0 bytes))) parts.spelled chain.0.holds in
    let made : State = record { body = body; chain = p.found.0; parts = p.parts; blocks = p.blocks } in
    let is_state : IsState shape made = record {
      size = limits;
      body = is_body;
      devices = size.0;
      places = size.1;
      parts = parts.fits;
      catalogue = record {
        first = chain.0.first;
        places = chain.0.as_long;
        long_enough = chain.0.long_enough;
        length_is = ap length (sym parts.spelled) ∙ chain.0.all_bytes;
        digest = ap sha256 (sym parts.spelled) ∙ digest_means body p.found.1 p.digest;
      };
      chain_places = chain.0.chain_places;
      births = early.births;
      logs = early.logs;
      owners = early.owners;
      blocks = blocks.places_are;
      digests = blocks.digests;
      tails = late.tails;
      counts = late.counts;
      regions = late.regions;
      maps = late.maps;
      charge = late.charge;
    } in
    subst (StandsAfter shape image body) p.made (record {
      state = is_state;
      fresh = early.worn;
      body_is = refl;
      holds = holds_append image (at_places p.found.0 (links p.found.0 (catalogue_bytes p.parts))) (map put_of p.blocks) chain_holds blocks.holds;
    })

-- with the root, the image stands for it
pub read_stands : (shape : Shape) (image : Image) (body : Body) (s : State) → AreLimits shape.devices shape.places → IsRoot image body
    → read_state shape image body ≡ Ok s → HasChainBlocks image s → StandsFor shape image s × IsFresh s × (s.body ≡ body)
read_stands shape image body s limits root e whole =
    let found = read_found shape image body s limits root.here.fits e whole in (
      record {
        state = found.state;
        stands = record { root = subst (IsRoot image) (sym found.body_is) root; holds = found.holds };
      },
      found.fresh,
      found.body_is,
    )

-- ---- what stands there is read

-- the chain, the catalogue and the blocks of a state that the image holds are read, be it fresh or not
pub record AreRead (shape : Shape) (image : Image) (s : State) : Type 0 where
  pub chain : chain_of shape.devices shape.places image s.body ≡ Ok (s.chain, catalogue_bytes s.parts)
  pub parts : parts_in shape.devices shape.places s.body (catalogue_bytes s.parts) ≡ Ok s.parts
  pub blocks : blocks_of shape.devices shape.places image (pointers_of_tree s.parts.tree) ≡ Ok s.blocks

-- they are, where its values agree and the image holds it
pub parts_are_read : (shape : Shape) (image : Image) (s : State) → IsState shape s → Holds image (layout s) → AreRead shape image s
parts_are_read shape image s is holds =
    let bytes : List ℕ = catalogue_bytes s.parts in
    let both = holds_parts image (at_places s.chain (links s.chain bytes)) (map put_of s.blocks) holds in
    record {
      chain = chain_only shape.devices shape.places image s.body s.chain bytes is.size is.body.some_place (record {
        first = is.catalogue.first;
        as_long = is.catalogue.places;
        long_enough = is.catalogue.long_enough;
        chain_places = is.chain_places;
        all_bytes = is.catalogue.length_is;
        holds = both.0;
      });
      parts = parts_only shape.devices shape.places s.body s.parts is.size is.body is.parts;
      blocks = all_blocks_only shape.devices shape.places image (pointers_of_tree s.parts.tree) s.blocks
          (parts_have_ptrs shape.devices shape.places s.body.group s.body.next_dataset s.parts is.parts)
          (record { places_are = is.blocks; digests = is.digests; holds = both.1 });
    }

-- a fresh state that the image holds is read after its body
pub read_only : (shape : Shape) (image : Image) (s : State) → IsState shape s → IsFresh s → Holds image (layout s) → read_state shape image s.body ≡ Ok s
unfolding read_state
read_only shape image s is fresh holds =
    let are = parts_are_read shape image s is holds in
    let bytes : List ℕ = catalogue_bytes s.parts in
    clear_hit_again (geometry_hit shape s.body) _ (Ok s) (geometry_again shape s.body is.devices is.places)
    (bind_again (chain_of shape.devices shape.places image s.body) _ (s.chain, bytes) (Ok s) are.chain
    (clear_again (digest_damage s.body bytes) _ (Ok s) (digest_again s.body bytes is.catalogue.digest)
    (bind_again (parts_in shape.devices shape.places s.body bytes) _ s.parts (Ok s) are.parts
    (clear_hit_again (early_hit shape.devices shape.places s.parts s.chain) _ (Ok s)
    (early_again shape.devices shape.places s.parts s.chain (record { worn = fresh; births = is.births; logs = is.logs; owners = is.owners }))
    (bind_again (blocks_of shape.devices shape.places image (pointers_of_tree s.parts.tree)) _ s.blocks (Ok s) are.blocks
    (clear_hit_again (late_hit shape.devices shape.places s.parts s.chain (bytes_in s.blocks)) _ (Ok s)
    (late_again shape.devices shape.places s.parts s.chain (bytes_in s.blocks) (record { tails = is.tails; counts = is.counts; regions = is.regions; maps = is.maps; charge = is.charge }))
    refl))))))

-- so where a damage is read, no fresh state stands after that root
pub read_damaged : (shape : Shape) (image : Image) (body : Body) (damage : Damage) → read_state shape image body ≡ Err damage → (s : State) → StandsAfter shape image body s → ⊥
read_damaged shape image body damage e s stands =
    let read : read_state shape image body ≡ Ok s = ap (read_state shape image) (sym stands.body_is) ∙ read_only shape image s stands.state stands.fresh stands.holds in
    absurd cc

-- and where none stands there, a damage is read, if each block of the chain that is read has 4,096 bytes
pub damaged_is_read : (shape : Shape) (image : Image) (body : Body) → AreLimits shape.devices shape.places → IsBody body
    → ((s : State) → read_state shape image body ≡ Ok s → HasChainBlocks image s) → ((s : State) → StandsAfter shape image body s → ⊥)
    → (damage : Damage) × (read_state shape image body ≡ Err damage)
damaged_is_read shape image body limits is_body whole none = at (read_state shape image body) refl where
  at : (r : Result State Damage) → read_state shape image body ≡ r → (damage : Damage) × (read_state shape image body ≡ Err damage)
  at (Ok s) is = absurd (none s (read_found shape image body s limits is_body is (whole s is)))
  at (Err damage) is = (damage, is)

-- the chain of a state that is read is the one that is followed
pub chain_is_read : (shape : Shape) (image : Image) (body : Body) (s : State) (found : List PlaceAt × List ℕ) → read_state shape image body ≡ Ok s
    → chain_of shape.devices shape.places image body ≡ Ok found → s.chain ≡ found.0
chain_is_read shape image body s found e is =
    let p = state_parts shape image body s e in
    sym (ap (λ (t : State). t.chain) p.made) ∙ ap (λ (x : List PlaceAt × List ℕ). x.0) (ok_is p.found found (sym p.found_is ∙ is))
