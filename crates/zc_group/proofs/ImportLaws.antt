-- What an import reads and what its claim group leads to.
use Rattle.std.proofs.Common.{◌≡◌, ◌∙◌, ℕ, ◌+◌, ◌^◌, ◌<◌, ◌≤◌, ◌⊎◌, true, List, [], ◌∷◌, map, Ok, Err, IsTrue, refl, sym, ap, ap₂, subst, inl, inr, arith}
use Rattle.std.specs.List.{AllByRecursion, Contains}
use Rattle.std.proofs.lemmas.List.Elements.{All-from_get_or, recursion_from_All, Contains-get_or}
use Rattle.zc_num.specs.Limits.{AreLimits}
use Rattle.zc_num.specs.declared.numbers.PlaceAt.{PlaceAt}
use Rattle.zc_num.specs.declared.limits.Limits.{Limits}
use Rattle.zc_blkptr.specs.declared.ptr.Ptr.{Ptr}
use Rattle.zc_tape.specs.Tape.{Image, Shape, Tape}
use Rattle.zc_tape.specs.Crash.{May, AtRest, reads}
use Rattle.zc_tape.proofs.CrashKinds.{may_is_kind}
use Rattle.zc_root.specs.declared.body.Body.{Body}
use Rattle.zc_root.specs.Root.{AreGates}
use Rattle.zc_tree.specs.Reach.{pointers_of_tree}
use Rattle.zc_tree.specs.Catalogue.{AreDatasets}
use Rattle.zc_tree.specs.declared.tree.Tree.{Tree}
use Rattle.zc_layout.specs.Standing.{HasNoRoot}
use Rattle.zc_layout.proofs.StandingLaws.{stands_where_same}
use Rattle.zc_layout.proofs.GroupCrash.{each_crash_as_read}
use Rattle.zc_plan.specs.declared.input.PlacedBlock.{PlacedBlock}
use Rattle.zc_damage.specs.Places.{ReachPlaces}
use Rattle.zc_damage.specs.Checks.{log_hit}
use Rattle.zc_damage.proofs.EarlyLaws.{worn_none, birth_none}
use Rattle.zc_damage.proofs.PartsLaws.{reach_places}
use Rattle.zc_state.specs.State.{State, IsState, StandsFor, IsFresh, standing_of}
use Rattle.zc_state.proofs.BlockLaws.{all_of_two}
use Rattle.zc_state.proofs.StateLaws.{one_state}
use Rattle.zc_next.specs.Next.{later_tree, IsKept, IsWritten}
use Rattle.zc_next.proofs.TreePointers.{later_datasets}
use Rattle.zc_image.specs.ReadAnswers.{IsWhole, IsDamage as IsReadDamage}
use Rattle.zc_image.specs.Found.{state_of, IsFault, IsOutside}
use Rattle.zc_image.proofs.CheckedLaws.{checked_no_logs, checked_tails, checked_one_block, checked_there}
use Rattle.zc_image.specs.declared.found.Found.{Found}
use Rattle.zc_image.specs.declared.fault.ImageFault.{ImageFault}
use Rattle.zc_image.specs.declared.fault.ImageFault.TheVariants.{NoMemory as ReadNoMemory, NoPool as ReadNoPool, DiskFault as ReadFault, Damaged as ReadDamaged}
use Rattle.zc_group.specs.Kept.{HasSize}
use Rattle.zc_group.specs.Committed.{found_of, state_after, MayFollow, MayLead, LeavesEither, IsLed, IsGroupBegun}
use Rattle.zc_group.specs.Imported.{IsTaken, claimed_state, fault_of, IsTakenUp, IsNoAnswer, IsDamageOf, IsDamage, WritesClaim, StopsAtFailure, IsFoundOn, IsImport}
use Rattle.zc_group.specs.declared.import.Imported.{Imported}
use Rattle.zc_group.specs.declared.import.ImportFault.{ImportFault}
use Rattle.zc_group.specs.declared.import.ImportFault.TheVariants.{NoMemory, NoPool, DiskFault, Damaged}

-- ---- a tape at rest

-- no write to it has failed
whole_at_rest : (t : Tape) → IsTrue t.told → AtRest t → IsWhole t
whole_at_rest t told rests = record { told = told; unspoilt = rests.whole }

-- before any call, each crash leaves the state that stands
pub leaves_at_rest : (shape : Shape) (t : Tape) (s next : State) → AtRest t → StandsFor shape (reads t) s → LeavesEither shape s next t t
leaves_at_rest shape t s next rests stands =
    each_crash_as_read May t (λ (image : Image). StandsFor shape image s ⊎ StandsFor shape image next) may_is_kind rests
    (λ image same. inl (record { state = stands.state; stands = stands_where_same (reads t) image (standing_of s) same stands.stands }))

-- ---- what was not found

-- a fault that may be told of a pool says nothing of the image
no_answer : (fault : ImageFault) → IsOutside fault → IsNoAnswer (fault_of fault)
no_answer ReadNoMemory outside = tt
no_answer ReadNoPool outside = outside
no_answer ReadFault outside = tt
no_answer (ReadDamaged damage) outside = outside

-- a damage is the one that is read
same_damage : (shape : Shape) (image : Image) (fault : ImageFault) → IsFault shape image fault → IsDamageOf shape image (fault_of fault)
same_damage shape image ReadNoMemory is = tt
same_damage shape image ReadNoPool is = tt
same_damage shape image ReadFault is = tt
same_damage shape image (ReadDamaged damage) is = is

-- no pool is told where the reader told it
no_pool : (fault : ImageFault) → fault_of fault ≡ NoPool → fault ≡ ReadNoPool
no_pool ReadNoMemory is = absurd cc
no_pool ReadNoPool is = refl
no_pool ReadFault is = absurd cc
no_pool (ReadDamaged damage) is = absurd cc

-- a damage is told where the reader told one
read_damage : (fault : ImageFault) → IsDamage (fault_of fault) → IsReadDamage fault
read_damage ReadNoMemory is = absurd is
read_damage ReadNoPool is = absurd is
read_damage ReadFault is = absurd is
read_damage (ReadDamaged damage) is = tt

-- what is answered where a reader told a fault
pub not_found : (shape : Shape) (t u : Tape) (fault : ImageFault) (told : ImportFault) → u ≡ t → told ≡ fault_of fault → (IsWhole t → IsFault shape (reads t) fault)
    → (IsWhole t → (s : State) → StandsFor shape (reads t) s → IsFresh s → IsOutside fault)
    → (fault ≡ ReadNoPool → IsWhole t → AreLimits shape.devices shape.places → HasNoRoot (reads t))
    → (IsReadDamage fault → AreLimits shape.devices shape.places)
    → IsImport shape t u (Err told)
not_found shape t u fault told same told_is exact only none sized =
    let here : IsImport shape t t (Err (fault_of fault)) = record {
      any_moment = λ s is_told rests stands. leaves_at_rest shape t s (claimed_state shape s) rests stands;
      made = tt;
      stood = tt;
      only = λ s whole stands fresh. no_answer fault (only whole s stands fresh);
      damaged = λ whole. same_damage shape (reads t) fault (exact whole);
      sized = λ is. sized (read_damage fault is);
      none = λ is. none (no_pool fault is);
      writes = λ is_told rests. inl refl;
      stops = λ is is_told. inl refl;
    } in
    subst (λ (v : Tape). IsImport shape t v (Err told)) (sym same) (subst (λ (f : ImportFault). IsImport shape t t (Err f)) (sym told_is) here)

-- ---- the claim group

-- each item of a list is there
each_contained : {X : Type 0} (xs : List X) → AllByRecursion (Contains xs) xs
each_contained [] = tt
each_contained (x ∷ xs) = recursion_from_All (Contains (x ∷ xs)) (x ∷ xs) (All-from_get_or (Contains (x ∷ xs)) (x ∷ xs) x (λ i within. Contains-get_or (x ∷ xs) i x within))

-- the same tree under the next number may follow
claim_follows : (shape : Shape) (s : State) → IsState shape s → IsFresh s → MayFollow shape s (later_tree s) []
claim_follows shape s is fresh =
    let low = worn_none s.parts.tree fresh in
    let reach : List Ptr = pointers_of_tree s.parts.tree in
    record {
      group_is = refl;
      group_width = omega (arith, low.group, is.parts.group_is);
      some_next_dataset = omega (arith, is.body.numbered, is.parts.next_dataset_is);
      next_dataset_width = subst (λ (number : ℕ). number < 2 ^ 64) (sym is.parts.next_dataset_is) is.body.widths.next_dataset;
      few_datasets = is.parts.few_datasets;
      datasets = later_datasets shape.devices shape.places s.body.group (s.body.group + 1) s.parts.tree.next_dataset [] s.parts.tree.datasets (omega arith)
          (subst (λ (number : ℕ). AreDatasets shape.devices shape.places s.body.group number [] s.parts.tree.datasets) (sym is.parts.next_dataset_is) is.parts.datasets);
      no_logs = is.logs;
      new_blocks = tt;
      pointers = all_of_two (Contains reach) (λ (ptr : Ptr). ptr.logical ≤ s.parts.tree.group) (λ (ptr : Ptr). IsKept (s.body.group + 1) reach ptr ⊎ IsWritten (s.body.group + 1) [] ptr) reach
          (λ ptr there low.
          inl (record {
            before = ptr;
            there = there;
            device_same = refl;
            place_same = refl;
            physical_same = refl;
            digest_same = refl;
            no_later = omega (arith, low, is.parts.group_is);
          }))
          (each_contained reach) (birth_none s.parts.tree.group reach is.births);
      tails = is.tails;
    }

module _ (shape : Shape) (t : Tape) (found : Found) (on : IsFoundOn shape t found) where
  -- what is answered where memory was wanting before any call
  pub nothing_claimed : IsImport shape t t (Err NoMemory)
  nothing_claimed = record {
    any_moment = λ s told rests stands. leaves_at_rest shape t s (claimed_state shape s) rests stands;
    made = tt;
    stood = tt;
    only = λ s whole stands fresh. tt;
    damaged = λ whole. tt;
    sized = λ is. absurd is;
    none = λ is. absurd cc;
    writes = λ told rests. inl refl;
    stops = λ is told. inl refl;
  }

  -- the places and the datasets of the claim group
  pub claim_reach : (devices places : ℕ) (reach : List Ptr) → devices ≡ shape.devices → places ≡ shape.places → reach ≡ pointers_of_tree found.parts.tree → ReachPlaces devices places reach
  claim_reach devices places reach devices_are places_are is =
      let there = reach_places shape.devices shape.places found.body.group found.body.next_dataset found.parts on.parts_fit in
      subst (λ (d : ℕ). ReachPlaces d places reach) (sym devices_are) (subst (λ (p : ℕ). ReachPlaces shape.devices p reach) (sym places_are) (subst (ReachPlaces shape.devices shape.places) (sym is) there))

  pub claim_datasets : (devices places : ℕ) → devices ≡ shape.devices → places ≡ shape.places → AreDatasets devices places (found.body.group + 1) found.parts.tree.next_dataset [] found.parts.tree.datasets
  claim_datasets devices places devices_are places_are =
      let later =
      later_datasets shape.devices shape.places found.body.group (found.body.group + 1) found.parts.tree.next_dataset [] found.parts.tree.datasets (omega arith)
      (subst (λ (number : ℕ). AreDatasets shape.devices shape.places found.body.group number [] found.parts.tree.datasets) (sym on.parts_fit.next_dataset_is) on.parts_fit.datasets) in
      subst (λ (d : ℕ). AreDatasets d places (found.body.group + 1) found.parts.tree.next_dataset [] found.parts.tree.datasets) (sym devices_are)
      (subst (λ (p : ℕ). AreDatasets shape.devices p (found.body.group + 1) found.parts.tree.next_dataset [] found.parts.tree.datasets) (sym places_are) later)

  -- the tree of the claim group, and the blocks
  pub claim_taken : (limits : Limits) → limits.devices ≡ shape.devices → limits.places ≡ shape.places → IsTaken limits (later_tree (state_of found)) found.blocks
  claim_taken limits devices_are places_are =
      let low = worn_none found.parts.tree on.fresh in
      record {
        few_datasets = on.parts_fit.few_datasets;
        datasets = claim_datasets limits.devices limits.places devices_are places_are;
        some_group = omega arith;
        group = omega (arith, low.group, on.parts_fit.group_is);
        some_next_dataset = omega (arith, on.body_fits.numbered, on.parts_fit.next_dataset_is);
        next_dataset = low.next_dataset;
        next_files = low.next_files;
        no_logs = ap₂ (λ (d : ℕ) (p : ℕ). log_hit d p found.parts.tree.datasets) devices_are places_are ∙ checked_no_logs shape.devices shape.places found.parts found.catalogue found.blocks on.checked;
        one_block = checked_one_block shape.devices shape.places found.body.group found.body.next_dataset found.parts found.catalogue found.blocks on.parts_fit on.checked;
        there = checked_there shape.devices shape.places found.body.group found.body.next_dataset found.parts found.catalogue found.blocks on.parts_fit on.checked;
        tails = checked_tails shape.devices shape.places found.parts found.catalogue found.blocks on.checked;
      }

  -- the state that stands there is the one that was found
  found_is : (s : State) → IsTrue t.told → AtRest t → StandsFor shape (reads t) s → state_of found ≡ s
  found_is s told rests stands = one_state shape (reads t) (state_of found) s (on.there (whole_at_rest t told rests)).stands stands

  module _ (chain : List PlaceAt) (reach : List Ptr) (new : List PlacedBlock)
      (chain_is : chain ≡ found.catalogue) (reach_is : reach ≡ pointers_of_tree found.parts.tree) (new_is : new ≡ []) where
    -- the group may lead on from it
    may_lead : (s : State) → IsTrue t.told → AtRest t → StandsFor shape (reads t) s
        → MayLead shape t s found.body found.gates chain reach (later_tree (state_of found)) (map found_of new)
    may_lead s told rests stands =
        let there = on.there (whole_at_rest t told rests) in
        let tree : Tree = later_tree (state_of found) in
        let here : MayLead shape t (state_of found) found.body found.gates found.catalogue (pointers_of_tree found.parts.tree) tree [] = record {
          told = told;
          at_rest = rests;
          stands = there.stands;
          body_is = refl;
          chain_is = refl;
          reach_is = refl;
          gates_are = there.gates_are;
          follows = claim_follows shape (state_of found) there.stands.state on.fresh;
        } in
        subst (λ (x : State). MayLead shape t x found.body found.gates chain reach tree (map found_of new)) (found_is s told rests stands)
        (subst (λ (n : List PlacedBlock). MayLead shape t (state_of found) found.body found.gates chain reach tree (map found_of n)) (sym new_is)
        (subst (λ (r : List Ptr). MayLead shape t (state_of found) found.body found.gates chain r tree []) (sym reach_is)
        (subst (λ (c : List PlaceAt). MayLead shape t (state_of found) found.body found.gates c (pointers_of_tree found.parts.tree) tree []) (sym chain_is) here)))

    -- to the state that the claim group leads to
    after_is : (s : State) → state_of found ≡ s → state_after shape s (later_tree (state_of found)) (map found_of new) ≡ claimed_state shape s
    after_is s same = ap₂ (λ (x : State) (n : List PlacedBlock). state_after shape s (later_tree x) (map found_of n)) same new_is

    module _ (u : Tape)
        (any : (s : State) → MayLead shape t s found.body found.gates chain reach (later_tree (state_of found)) (map found_of new)
        → LeavesEither shape s (state_after shape s (later_tree (state_of found)) (map found_of new)) t u)
        (begun : (s : State) → MayLead shape t s found.body found.gates chain reach (later_tree (state_of found)) (map found_of new)
        → IsGroupBegun shape t u s (later_tree (state_of found)) (map found_of new)) where
      claim_leaves : (s : State) → IsTrue t.told → AtRest t → StandsFor shape (reads t) s → LeavesEither shape s (claimed_state shape s) t u
      claim_leaves s told rests stands =
          subst (λ (next : State). LeavesEither shape s next t u) (after_is s (found_is s told rests stands)) (any s (may_lead s told rests stands))

      -- a front of its calls was made
      claim_writes : IsTrue t.told → AtRest t → WritesClaim shape t u
      claim_writes told rests =
          let s : State = state_of found in
          let stands = (on.there (whole_at_rest t told rests)).stands in
          let here : IsGroupBegun shape t u s (later_tree s) (map found_of new) = begun s (may_lead s told rests stands) in
          inr (s, stands, subst (λ (n : List PlacedBlock). IsGroupBegun shape t u s (later_tree s) (map found_of n)) new_is here)

      -- what is answered where the group was not committed
      pub claim_failed : (fault : ImportFault) → IsNoAnswer fault → (fault ≡ DiskFault → IsTrue t.told → StopsAtFailure t u) → IsImport shape t u (Err fault)
      claim_failed fault silent stops = record {
        any_moment = claim_leaves;
        made = tt;
        stood = tt;
        only = λ s whole stands fresh. silent;
        damaged = λ whole. unjudged fault silent;
        sized = λ is. undamaged fault silent is;
        none = λ is. absurd (subst IsNoAnswer is silent);
        writes = claim_writes;
        stops = stops;
      } where
        undamaged : (other : ImportFault) → IsNoAnswer other → IsDamage other → AreLimits shape.devices shape.places
        undamaged NoMemory other_silent is = absurd is
        undamaged NoPool other_silent is = absurd is
        undamaged DiskFault other_silent is = absurd is
        undamaged (Damaged damage) other_silent is = absurd other_silent

        unjudged : (other : ImportFault) → IsNoAnswer other → IsDamageOf shape (reads t) other
        unjudged NoMemory other_silent = tt
        unjudged NoPool other_silent = tt
        unjudged DiskFault other_silent = tt
        unjudged (Damaged damage) other_silent = absurd other_silent

      -- what is answered where it was
      pub claim_made : (imported : Imported) (body : Body) (next_chain : List PlaceAt)
          → ((s : State) → MayLead shape t s found.body found.gates chain reach (later_tree (state_of found)) (map found_of new)
          → IsLed shape u (state_after shape s (later_tree (state_of found)) (map found_of new)) body next_chain)
          → HasSize shape imported.root → imported.root.body ≡ body → imported.root.gates ≡ true ∷ true ∷ [] → imported.root.tree ≡ later_tree (state_of found) → imported.root.chain ≡ next_chain
          → imported.blocks ≡ found.blocks → IsImport shape t u (Ok imported)
      claim_made imported body next_chain made size body_is gates_are tree_is next_is blocks_are = record {
        any_moment = claim_leaves;
        made = taken;
        stood = λ told rests. (state_of found, (on.there (whole_at_rest t told rests)).stands);
        only = λ s whole stands fresh. tt;
        damaged = tt;
        sized = tt;
        none = tt;
        writes = claim_writes;
        stops = tt;
      } where
        taken : (s : State) → IsTrue t.told → AtRest t → StandsFor shape (reads t) s → IsTakenUp shape u s imported
        taken s told rests stands =
            let same : state_of found ≡ s = found_is s told rests stands in
            let led : IsLed shape u (claimed_state shape s) body next_chain = subst (λ (next : State). IsLed shape u next body next_chain) (after_is s same) (made s (may_lead s told rests stands)) in
            record {
              fresh = subst IsFresh same on.fresh;
              blocks_are = blocks_are ∙ ap (λ (x : State). x.blocks) same;
              committed = record {
                at_rest = led.at_rest;
                only_next = led.only_next;
                keeps = record {
                  stands = led.stands;
                  size = size;
                  body_is = body_is ∙ led.body_is;
                  tree_is = tree_is ∙ ap later_tree same;
                  chain_is = next_is ∙ led.chain_is;
                  gates = subst (AreGates (reads u)) (sym gates_are) led.gates_are;
                };
              };
            }
