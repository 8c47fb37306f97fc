-- A group over the first free places leads from the state to the next: what it begins on, what its calls leave, what stands then.
use Rattle.std.proofs.Common.{◌≡◌, ◌∙◌, ℕ, zero, suc, ◌+◌, ◌*◌, ◌/◌, ◌%◌, ◌<◌, ◌≤◌, ◌⊎◌, ◌||◌, Bool, true, false, true≢false, List, [], ◌∷◌, ◌++◌, length, map, slice_index_or, IsTrue, Result, Ok, Err, None, IfOk, refl, sym, ap, ap₂, subst, inl, inr, ⊎_elim, arith}
use Rattle.std.specs.Prelude.{◌↔◌, OnOk}
use Rattle.std.specs.List.{AllByRecursion}
use Rattle.std.proofs.lemmas.Bool.{or_parts, or_left, or_right, or_cases, eq-eqb, ne_eqb}
use Rattle.std.proofs.lemmas.List.Elements.{All-append, recursion_from_All}
use Rattle.std.proofs.lemmas.List.Folds.{list_any-append}
use Rattle.std.proofs.lemmas.Nat.{mul-le}
use Rattle.zc_num.specs.Limits.{AreLimits, is_fixed}
use Rattle.zc_num.specs.declared.numbers.PlaceAt.{PlaceAt}
use Rattle.zc_blkptr.specs.declared.ptr.Ptr.{Ptr}
use Rattle.zc_tape.specs.Tape.{Image, Shape, Tape, Call, is_at}
use Rattle.zc_tape.specs.Crash.{May, AtRest, reads}
use Rattle.zc_tape.specs.Plays.{Begun}
use Rattle.zc_tape.proofs.CrashKinds.{may_is_kind}
use Rattle.zc_tape.proofs.Places.{both_false, is_at_means}
use Rattle.zc_root.specs.Root.{slot_of, IsOpenGate, AreGates}
use Rattle.zc_root.specs.declared.body.Body.{Body}
use Rattle.zc_root.proofs.RootLaws.{slot_below, slots}
use Rattle.zc_tree.specs.Reach.{pointers_of_tree}
use Rattle.zc_tree.specs.declared.tree.Tree.{Tree}
use Rattle.zc_catalog.specs.Chain.{chain_length, links}
use Rattle.zc_layout.specs.Layout.{Put, owns, at_places}
use Rattle.zc_layout.specs.Standing.{Standing, group_calls}
use Rattle.zc_layout.specs.Outcomes.{before_gate, GroupLeaves, GroupIsMade}
use Rattle.zc_layout.proofs.GroupCrash.{each_crash_as_read}
use Rattle.zc_layout.proofs.LayoutLaws.{owns_either}
use Rattle.zc_layout.proofs.StandingLaws.{stands_where_same}
use Rattle.zc_plan.specs.Puts.{puts_of, HasRoom}
use Rattle.zc_plan.specs.Start.{StartsGroup}
use Rattle.zc_plan.specs.declared.input.PlacedBlock.{PlacedBlock}
use Rattle.zc_plan.proofs.CrashClauses.{group_leaves}
use Rattle.zc_damage.specs.declared.block.FoundBlock.{FoundBlock}
use Rattle.zc_damage.specs.Checks.{charge_hit}
use Rattle.zc_damage.specs.Places.{is_owned, is_reached, chain_has, is_at as is_part_at, number_of, IsPlace, ReachPlaces, ChainPlaces}
use Rattle.zc_state.specs.State.{State, IsState, StandsFor, standing_of, place_of_block, put_of}
use Rattle.zc_state.proofs.BlockLaws.{all_mapped}
use Rattle.zc_next.specs.Exact.{catalogue_size}
use Rattle.zc_next.specs.Next.{next_bytes, next_puts, IsNext, IsUnowned, AreNewBlocks}
use Rattle.zc_next.proofs.NextState.{next_is_state, next_state_leads}
use Rattle.zc_group.specs.Chosen.{chain_for, free_places}
use Rattle.zc_group.specs.Kept.{HasSize, HasPlaces}
use Rattle.zc_group.specs.Spelled.{Spells}
use Rattle.zc_group.specs.Committed.{found_of, taken_by, state_after, calls_after, MayFollow, MayCommit, MayLead, LeavesEither, IsCommitted, IsLed, IsGroupBegun, LeavesGroup, MakesGroup}
use Rattle.zc_group.specs.declared.catalogue.Written.{Written}
use Rattle.zc_group.specs.declared.committing.CommitFault.{CommitFault}
use Rattle.zc_group.specs.declared.committing.NextRoot.{NextRoot}
use Rattle.zc_group.specs.declared.root.Root.{Root}
use Rattle.zc_group.proofs.ChosenLaws.{chosen_places, chosen_unowned, chain_there}

-- the places of the next catalogue
abbrev next_chain : Shape → State → Tree → List FoundBlock → List PlaceAt
next_chain shape s tree new = chain_for shape (taken_by s.chain new) (pointers_of_tree s.parts.tree) tree

-- what nobody owns where more places are taken, nobody owns where fewer are; and it is none of the others
unowned_before : (devices places : ℕ) (chain others : List PlaceAt) (reach : List Ptr) (number : ℕ) → is_owned devices places (chain ++ others) reach number ≡ false
    → (is_owned devices places chain reach number ≡ false) × (chain_has places others number ≡ false)
unowned_before devices places chain others reach number none =
    let fixed : Bool = is_fixed devices places (number / places) (number % places) in
    let one = or_parts (is_reached places reach number) (chain_has places (chain ++ others) number || fixed) none in
    let two = or_parts (chain_has places (chain ++ others) number) fixed one.1 in
    let both = or_parts (chain_has places chain number) (chain_has places others number) (sym (list_any-append (is_part_at places number) chain others) ∙ two.0) in
    (both_false _ _ one.0 (both_false _ _ both.0 two.1), both.1)

-- a number that the others have is none of the chosen
chosen_beside : (places : ℕ) (others chosen : List PlaceAt) (number : ℕ) → AllByRecursion (λ (at : PlaceAt). chain_has places others (number_of places at.device at.place) ≡ false) chosen
    → chain_has places others number ≡ true → chain_has places chosen number ≡ false
chosen_beside places others [] number none there = refl
chosen_beside places others (at ∷ chosen) number none there =
    both_false _ _
    (ne_eqb (number_of places at.device at.place) number (λ same. true≢false (sym there ∙ ap (chain_has places others) (sym same) ∙ none.0)))
    (chosen_beside places others chosen number none.1 there)

module _ (shape : Shape) (s : State) where
  -- new blocks beside no place are beside places that none of them has
  beside_chosen : (all chosen : List PlaceAt) (new : List FoundBlock)
      → ((number : ℕ) → chain_has shape.places (map place_of_block new) number ≡ true → chain_has shape.places all number ≡ true)
      → AllByRecursion (λ (at : PlaceAt). chain_has shape.places all (number_of shape.places at.device at.place) ≡ false) chosen
      → AreNewBlocks shape s [] new → AreNewBlocks shape s chosen new
  beside_chosen all chosen [] within none are = tt
  beside_chosen all chosen (block ∷ new) within none are =
      let number : ℕ = number_of shape.places block.device block.place in (
        are.0,
        are.1,
        chosen_beside shape.places all chosen number none (within number (or_left (is_part_at shape.places number (place_of_block block)) (chain_has shape.places (map place_of_block new) number) (eq-eqb number number refl))),
        are.3,
        beside_chosen all chosen new (λ k there. within k (or_right (is_part_at shape.places k (place_of_block block)) (chain_has shape.places (map place_of_block new) k) there)) none are.4,
      )

  module _ (tree : Tree) (new : List FoundBlock) (is : IsState shape s) (follows : MayFollow shape s tree new)
      (fits : charge_hit shape.devices shape.places tree.group (pointers_of_tree tree) ≡ None) where
    -- the places of the next catalogue
    abbrev next_places : List PlaceAt
    next_places = next_chain shape s tree new

    module _ (long : length next_places ≡ chain_length (length (next_bytes shape next_places tree))) where
      -- the group leads on from the state
      pub is_next : IsNext shape s next_places tree new
      is_next =
          let count : ℕ = chain_length (catalogue_size shape.devices shape.places tree) in
          let reach : List Ptr = pointers_of_tree s.parts.tree in
          let nobody = chosen_unowned shape.devices shape.places (taken_by s.chain new) reach is.size count in
          let others : List PlaceAt = map place_of_block new in
          record {
            group_is = follows.group_is;
            group_width = follows.group_width;
            some_next_dataset = follows.some_next_dataset;
            next_dataset_width = follows.next_dataset_width;
            few_datasets = follows.few_datasets;
            datasets = follows.datasets;
            no_logs = follows.no_logs;
            long_enough = long;
            chain_places = chosen_places shape.devices shape.places (taken_by s.chain new) reach is.size count;
            chain_unowned = all_mapped (λ (at : PlaceAt). is_owned shape.devices shape.places (taken_by s.chain new) reach (number_of shape.places at.device at.place) ≡ false) (IsUnowned shape s) next_places
                (λ at none. (unowned_before shape.devices shape.places s.chain others reach (number_of shape.places at.device at.place) none).0) nobody;
            new_blocks = beside_chosen others next_places new (λ number there. there)
                (all_mapped (λ (at : PlaceAt). is_owned shape.devices shape.places (taken_by s.chain new) reach (number_of shape.places at.device at.place) ≡ false)
                (λ (at : PlaceAt). chain_has shape.places others (number_of shape.places at.device at.place) ≡ false) next_places
                (λ at none. (unowned_before shape.devices shape.places s.chain others reach (number_of shape.places at.device at.place) none).1) nobody)
                follows.new_blocks;
            pointers = follows.pointers;
            tails = follows.tails;
            charge = fits;
          }

      pub after_is_state : IsState shape (state_after shape s tree new)
      after_is_state = next_is_state shape s next_places tree new is is_next

      -- its calls begin on a tape at rest that stands for the state
      pub group_starts : (t : Tape) (calls : List Call) (gate_open : Bool) → IsTrue t.told → AtRest t → StandsFor shape (reads t) s
          → (IsTrue gate_open ↔ IsOpenGate (reads t) (slot_of tree.group)) → calls ≡ group_calls (next_puts shape next_places tree new) (state_after shape s tree new).body gate_open
          → StartsGroup t calls (standing_of s) (standing_of (state_after shape s tree new)) (next_puts shape next_places tree new) gate_open
      group_starts t calls gate_open told at_rest stands gate planned = record {
        told = told;
        at_rest = at_rest;
        stands = stands.stands;
        leads = next_state_leads shape s next_places tree new is is_next;
        gate = gate;
        planned = planned;
      }

      -- what its calls leave
      pub group_leaves_either : (t u : Tape) (gate : ℕ) → GroupLeaves May t u (standing_of s) (standing_of (state_after shape s tree new)) gate → LeavesEither shape s (state_after shape s tree new) t u
      group_leaves_either t u gate leaves i image from upto left =
          ⊎_elim (λ old. inl (record { state = is; stands = old })) (λ next. inr (record { state = after_is_state; stands = next })) (leaves.each i image from upto left)

-- ---- once all calls were Ok

-- both gates are open: that of the group's slot, and that of the other
open_both : (image : Image) (group : ℕ) → IsOpenGate image (slot_of group) → IsOpenGate image (slot_of (group + 1)) → AreGates image (true ∷ true ∷ [])
open_both image group here other = record { both = refl; exact = at } where
  gate_at : (slot : ℕ) → slot < 2 → IsOpenGate image slot
  gate_at slot low =
      ⊎_elim (λ (same : slot_of group ≡ slot). subst (IsOpenGate image) same here) (λ (same : slot_of (group + 1) ≡ slot). subst (IsOpenGate image) same other) (either slot low)
    where
      either : (slot : ℕ) → slot < 2 → (slot_of group ≡ slot) ⊎ (slot_of (group + 1) ≡ slot)
      either slot low =
          let same : slot_of slot ≡ slot = omega (arith, low) in
          ⊎_elim (λ (here : slot_of slot ≡ slot_of group). inl (sym here ∙ same)) (λ (other : slot_of slot ≡ slot_of (group + 1)). inr (sym other ∙ same)) (slots group slot)

  at : (slot : ℕ) → slot < 2 → IsTrue (slice_index_or (true ∷ true ∷ []) slot false) ↔ IsOpenGate image slot
  at zero low = (λ _. gate_at 0 low, λ _. refl)
  at (suc zero) low = (λ _. gate_at 1 low, λ _. refl)
  at (suc (suc slot)) low = absurd (omega arith)

-- the next state alone stands
pub group_led : (shape : Shape) (u : Tape) (next : State) → IsState shape next → GroupIsMade May u (standing_of next) → IsLed shape u next next.body next.chain
group_led shape u next is made = record {
  at_rest = made.at_rest;
  stands = record { state = is; stands = made.stands };
  only_next = λ i image from upto left. record { state = is; stands = made.only_new i image from upto left };
  body_is = refl;
  chain_is = refl;
  gates_are = open_both (reads u) next.body.group made.stands.root.here.gate made.next_gate;
}

-- ---- the calls of a plan

-- of a list of calls none is begun
none_begun : (t : Tape) (calls : List Call) → Begun t calls t
none_begun t [] = refl
none_begun t (call ∷ calls) = inl refl

-- where none of its calls is made, the old root stands
pub leaves_unbegun : (t : Tape) (puts : List Put) (body : Body) (gate_open : Bool) → LeavesGroup puts body gate_open t t
leaves_unbegun t puts body gate_open old new starts =
    let calls : List Call = group_calls puts body gate_open in
    group_leaves t t calls old new puts gate_open (λ _. none_begun t calls) starts

-- the calls of a plan leave what those of its group leave
pub leaves_planned : (t u : Tape) (calls : List Call) (puts : List Put) (body : Body) (gate_open : Bool) → calls ≡ group_calls puts body gate_open
    → ((old new : Standing) (writes : List Put) (is_open : Bool) → StartsGroup t calls old new writes is_open → GroupLeaves May t u old new (length t.calls + before_gate writes new.body is_open))
    → LeavesGroup puts body gate_open t u
leaves_planned t u calls puts body gate_open planned leaves old new starts =
    leaves old new puts gate_open (subst (λ (plan : List Call). StartsGroup t plan old new puts gate_open) (sym planned) starts)

pub makes_planned : (t u : Tape) (calls : List Call) (puts : List Put) (body : Body) (gate_open : Bool) → calls ≡ group_calls puts body gate_open
    → ((old new : Standing) (writes : List Put) (is_open : Bool) → StartsGroup t calls old new writes is_open → GroupIsMade May u new)
    → MakesGroup puts body gate_open t u
makes_planned t u calls puts body gate_open planned makes old new starts =
    makes old new puts gate_open (subst (λ (plan : List Call). StartsGroup t plan old new puts gate_open) (sym planned) starts)

-- ---- places

-- the places that are taken are there
pub taken_there : (devices places : ℕ) (chain taken : List PlaceAt) (new : List FoundBlock) → ChainPlaces devices places chain → ChainPlaces devices places (map place_of_block new)
    → taken ≡ taken_by chain new → ChainPlaces devices places taken
taken_there devices places chain taken new chain_there new_there is =
    let P : PlaceAt → Type 0 = λ at. IsPlace devices places at.device at.place in
    subst (ChainPlaces devices places) (sym is) (All-append P chain (map place_of_block new) chain_there new_there)

-- a place of a list that is there
put_at_place : (devices places : ℕ) (chain : List PlaceAt) (blocks : List (List ℕ)) (d p : ℕ) → AllByRecursion (λ (at : PlaceAt). IsPlace devices places at.device at.place) chain
    → owns (at_places chain blocks) d p ≡ true → IsPlace devices places d p
put_at_place devices places [] blocks d p are there = absurd (true≢false (sym there))
put_at_place devices places (at ∷ chain) [] d p are there = absurd (true≢false (sym there))
put_at_place devices places (at ∷ chain) (block ∷ blocks) d p are there =
    ⊎_elim
    (λ (here : is_at at.device at.place d p ≡ true). let same = is_at_means at.device at.place d p here in
    (subst (λ (k : ℕ). k < devices) same.0 are.0.0, subst (λ (k : ℕ). k < places) same.1 are.0.1))
    (λ (behind : owns (at_places chain blocks) d p ≡ true). put_at_place devices places chain blocks d p are.1 behind)
    (or_cases (is_at at.device at.place d p) (owns (at_places chain blocks) d p) there)

put_of_block : (devices places : ℕ) (new : List PlacedBlock) (d p : ℕ) → AllByRecursion (λ (at : PlaceAt). IsPlace devices places at.device at.place) (map place_of_block (map found_of new))
    → owns (puts_of new) d p ≡ true → IsPlace devices places d p
put_of_block devices places [] d p are there = absurd (true≢false (sym there))
put_of_block devices places (block ∷ new) d p are there =
    ⊎_elim
    (λ (here : is_at block.device block.place d p ≡ true). let same = is_at_means block.device block.place d p here in
    (subst (λ (k : ℕ). k < devices) same.0 are.0.0, subst (λ (k : ℕ). k < places) same.1 are.0.1))
    (λ (behind : owns (puts_of new) d p ≡ true). put_of_block devices places new d p are.1 behind)
    (or_cases (is_at block.device block.place d p) (owns (puts_of new) d p) there)

-- each device has more places than those of the roots
roots_there : (devices places : ℕ) → AreLimits devices places → 4 + 0 ≤ places
roots_there devices places limits =
    let most : devices * places ≤ 4 * places = mul-le devices places 4 places limits.few_devices (omega arith) in
    omega (arith, most, limits.enough_places)

-- the first free places are there
chosen_there : (devices places : ℕ) (taken : List PlaceAt) (reach : List Ptr) (tree : Tree) → AreLimits devices places
    → ChainPlaces devices places (chain_for (record { devices = devices; places = places }) taken reach tree)
chosen_there devices places taken reach tree limits =
    let count : ℕ = chain_length (catalogue_size devices places tree) in
    chain_there devices places (free_places devices places taken reach count) (chosen_places devices places taken reach limits count)

-- the disk set has the places of all that the group writes
pub room_there : (shape : Shape) (devices places pool : ℕ) (taken : List PlaceAt) (reach : List Ptr) (tree : Tree) (new : List PlacedBlock) (written : Written)
    → AreLimits devices places → devices ≡ shape.devices → places ≡ shape.places → ChainPlaces devices places (map place_of_block (map found_of new))
    → Spells (record { devices = devices; places = places }) pool (chain_for (record { devices = devices; places = places }) taken reach tree) tree written
    → HasRoom shape 0 (puts_of new ++ puts_of written.blocks)
room_there shape devices places pool taken reach tree new written limits on_devices in_places there spells =
    let size : Shape = record { devices = devices; places = places } in
    let chain : List PlaceAt = chain_for size taken reach tree in
    let P : PlaceAt → Type 0 = λ at. IsPlace devices places at.device at.place in
    let chosen = recursion_from_All P chain (chosen_there devices places taken reach tree limits) in
    let given = recursion_from_All P (map place_of_block (map found_of new)) there in
    let one : (d p : ℕ) → owns (puts_of new ++ puts_of written.blocks) d p ≡ true → IsPlace devices places d p =
    λ d p owned.
    ⊎_elim
    (λ (front : owns (puts_of new) d p ≡ true). put_of_block devices places new d p given front)
    (λ (back : owns (puts_of written.blocks) d p ≡ true). put_at_place devices places chain (links chain (next_bytes size chain tree)) d p chosen (sym (ap (λ (puts : List Put). owns puts d p) spells.blocks_are) ∙ back))
    (owns_either (puts_of new) (puts_of written.blocks) d p owned) in
    record {
      devices = subst (λ (k : ℕ). 1 ≤ k) on_devices limits.some_device;
      places = subst (λ (k : ℕ). 4 + 0 ≤ k) in_places (roots_there devices places limits);
      there = λ d p owned. (subst (λ (k : ℕ). d < k) on_devices (one d p owned).0, subst (λ (k : ℕ). p < k) in_places (one d p owned).1);
    }

-- ---- what a group leaves

-- a block that is written is the block that is found
puts_found : (new : List PlacedBlock) → puts_of new ≡ map put_of (map found_of new)
puts_found [] = refl
puts_found (block ∷ new) = ap (λ (puts : List Put). record { at = record { device = block.device; place = block.place }; bytes = block.bytes } ∷ puts) (puts_found new)

-- where nothing was written, the state stands
pub leaves_unwritten : (shape : Shape) (t : Tape) (s : State) (body : Body) (gates : List Bool) (chain : List PlaceAt) (reach : List Ptr) (tree : Tree) (new : List FoundBlock)
    → MayLead shape t s body gates chain reach tree new → LeavesEither shape s (state_after shape s tree new) t t
leaves_unwritten shape t s body gates chain reach tree new may =
    each_crash_as_read May t (λ image. StandsFor shape image s ⊎ StandsFor shape image (state_after shape s tree new)) may_is_kind may.at_rest
    (λ image same. inl (record { state = may.stands.state; stands = stands_where_same (reads t) image (standing_of s) same may.stands.stands }))

-- the flag of the gate of a group's slot says whether it is open
gate_known : (t : Tape) (gates : List Bool) (group : ℕ) (gate_open : Bool) → AreGates (reads t) gates → gate_open ≡ slice_index_or gates (slot_of group) false → IsTrue gate_open ↔ IsOpenGate (reads t) (slot_of group)
gate_known t gates group gate_open are flag = subst (λ (is_open : Bool). IsTrue is_open ↔ IsOpenGate (reads t) (slot_of group)) (sym flag) (are.exact (slot_of group) (slot_below group))

-- where nothing was written, no call of the group was made
pub begun_unwritten : (shape : Shape) (t : Tape) (s : State) (body : Body) (gates : List Bool) (chain : List PlaceAt) (reach : List Ptr) (tree : Tree) (new : List FoundBlock)
    → MayLead shape t s body gates chain reach tree new → IsGroupBegun shape t t s tree new
begun_unwritten shape t s body gates chain reach tree new may =
    let gate_open : Bool = slice_index_or gates (slot_of tree.group) false in
    record {
      gate_open = gate_open;
      gate = gate_known t gates tree.group gate_open may.gates_are refl;
      begun = none_begun t (calls_after shape s tree new gate_open);
    }

module _ (shape : Shape) (devices places : ℕ) (t u : Tape) (body : Body) (gates : List Bool) (chain : List PlaceAt) (reach : List Ptr) (tree : Tree) (new : List PlacedBlock) (written : Written)
    (gate_open : Bool) (on_devices : devices ≡ shape.devices) (in_places : places ≡ shape.places)
    (spells : Spells (record { devices = devices; places = places }) body.pool (chain_for (record { devices = devices; places = places }) (taken_by chain (map found_of new)) reach tree) tree written)
    (flag : gate_open ≡ slice_index_or gates (slot_of tree.group) false) (fits : charge_hit devices places tree.group (pointers_of_tree tree) ≡ None) where
  module _ (s : State) (may : MayLead shape t s body gates chain reach tree (map found_of new)) where
    -- the blocks as they are found, the places of the next catalogue, and the state
    abbrev new_found : List FoundBlock
    new_found = map found_of new

    abbrev places_next : List PlaceAt
    places_next = next_chain shape s tree new_found

    abbrev after : State
    after = state_after shape s tree new_found

    -- what was spelled is what the next state says
    spells_next : Spells shape s.body.pool places_next tree written
    spells_next =
        let same : record { devices = devices; places = places } ≡ shape = λ i. record { devices = on_devices i; places = in_places i } in
        let sized : Spells shape body.pool (chain_for shape (taken_by chain new_found) reach tree) tree written =
        subst (λ (size : Shape). Spells size body.pool (chain_for size (taken_by chain new_found) reach tree) tree written) same spells in
        let bodied : Spells shape s.body.pool (chain_for shape (taken_by chain new_found) reach tree) tree written =
        subst (λ (b : Body). Spells shape b.pool (chain_for shape (taken_by chain new_found) reach tree) tree written) may.body_is sized in
        let chained : Spells shape s.body.pool (chain_for shape (taken_by s.chain new_found) reach tree) tree written =
        subst (λ (c : List PlaceAt). Spells shape s.body.pool (chain_for shape (taken_by c new_found) reach tree) tree written) may.chain_is bodied in
        subst (λ (r : List Ptr). Spells shape s.body.pool (chain_for shape (taken_by s.chain new_found) r tree) tree written) may.reach_is chained

    -- the pool has places for the blocks of the tree
    fits_next : charge_hit shape.devices shape.places tree.group (pointers_of_tree tree) ≡ None
    fits_next =
        subst (λ (d : ℕ). charge_hit d shape.places tree.group (pointers_of_tree tree) ≡ None) on_devices
        (subst (λ (p : ℕ). charge_hit devices p tree.group (pointers_of_tree tree) ≡ None) in_places fits)

    -- what is written is what leads to the next state
    puts_next : puts_of new ++ puts_of written.blocks ≡ next_puts shape places_next tree new_found
    puts_next = ap₂ (λ (xs ys : List Put). xs ++ ys) (puts_found new) spells_next.blocks_are

    known : IsTrue gate_open ↔ IsOpenGate (reads t) (slot_of tree.group)
    known = gate_known t gates tree.group gate_open may.gates_are flag

    starts_next : StartsGroup t (group_calls (next_puts shape places_next tree new_found) after.body gate_open) (standing_of s) (standing_of after) (next_puts shape places_next tree new_found) gate_open
    starts_next =
        group_starts shape s tree new_found may.stands.state may.follows fits_next spells_next.long_enough t
        (group_calls (next_puts shape places_next tree new_found) after.body gate_open) gate_open may.told may.at_rest may.stands known refl

    -- so its calls leave the one state or the other
    either_stands : LeavesGroup (puts_of new ++ puts_of written.blocks) written.body gate_open t u → LeavesEither shape s after t u
    either_stands leaves =
        let next : LeavesGroup (next_puts shape places_next tree new_found) after.body gate_open t u =
        subst (λ (b : Body). LeavesGroup (next_puts shape places_next tree new_found) b gate_open t u) spells_next.body_is
        (subst (λ (puts : List Put). LeavesGroup puts written.body gate_open t u) puts_next leaves) in
        group_leaves_either shape s tree new_found may.stands.state may.follows fits_next spells_next.long_enough t u
        (length t.calls + before_gate (next_puts shape places_next tree new_found) after.body gate_open) (next (standing_of s) (standing_of after) starts_next)

    -- and a front of the calls was made that lead to the next
    begun_next : (IsTrue t.told → Begun t (group_calls (puts_of new ++ puts_of written.blocks) written.body gate_open) u) → IsGroupBegun shape t u s tree new_found
    begun_next begun = record {
      gate_open = gate_open;
      gate = known;
      begun = subst (λ (b : Body). Begun t (group_calls (next_puts shape places_next tree new_found) b gate_open) u) spells_next.body_is
          (subst (λ (puts : List Put). Begun t (group_calls puts written.body gate_open) u) puts_next (begun may.told));
    }

    -- and all of them the next
    next_stands : MakesGroup (puts_of new ++ puts_of written.blocks) written.body gate_open t u → IsLed shape u after after.body after.chain
    next_stands makes =
        let next : MakesGroup (next_puts shape places_next tree new_found) after.body gate_open t u =
        subst (λ (b : Body). MakesGroup (next_puts shape places_next tree new_found) b gate_open t u) spells_next.body_is
        (subst (λ (puts : List Put). MakesGroup puts written.body gate_open t u) puts_next makes) in
        group_led shape u after (after_is_state shape s tree new_found may.stands.state may.follows fits_next spells_next.long_enough) (next (standing_of s) (standing_of after) starts_next)

  pub leaves_led : LeavesGroup (puts_of new ++ puts_of written.blocks) written.body gate_open t u → (s : State) → MayLead shape t s body gates chain reach tree (map found_of new)
      → LeavesEither shape s (state_after shape s tree (map found_of new)) t u
  leaves_led leaves s may = either_stands s may leaves

  pub begun_led : (IsTrue t.told → Begun t (group_calls (puts_of new ++ puts_of written.blocks) written.body gate_open) u) → (s : State)
      → MayLead shape t s body gates chain reach tree (map found_of new) → IsGroupBegun shape t u s tree (map found_of new)
  begun_led begun s may = begun_next s may begun

  -- where the body and the places that are handed on are those that were spelled
  pub led : (r : Result NextRoot CommitFault) → OnOk r (MakesGroup (puts_of new ++ puts_of written.blocks) written.body gate_open t u)
      → IfOk r (λ next. next.body ≡ written.body) → IfOk r (λ next. next.chain ≡ written.chain)
      → IfOk r (λ next. (s : State) → MayLead shape t s body gates chain reach tree (map found_of new) → IsLed shape u (state_after shape s tree (map found_of new)) next.body next.chain)
  led (Err fault) makes body_same chain_same = tt
  led (Ok next) makes body_same chain_same = λ s may.
      let P : Body → List PlaceAt → Type 0 = λ b c. IsLed shape u (state_after shape s tree (map found_of new)) b c in
      subst (λ (b : Body). P b next.chain) (sym (body_same ∙ (spells_next s may).body_is))
      (subst (λ (c : List PlaceAt). P (state_after shape s tree (map found_of new)).body c) (sym (chain_same ∙ (spells_next s may).chain_is)) (next_stands s may makes))

-- what was spelled has the group of the tree, the number of the pool and places that are there
pub led_group : (size : Shape) (pool : ℕ) (chain : List PlaceAt) (tree : Tree) (written : Written) (r : Result NextRoot CommitFault) → Spells size pool chain tree written
    → IfOk r (λ next. next.body ≡ written.body) → IfOk r (λ next. next.body.group ≡ tree.group)
led_group size pool chain tree written (Err fault) spells body_same = tt
led_group size pool chain tree written (Ok next) spells body_same = ap (λ (b : Body). b.group) (body_same ∙ spells.body_is)

pub led_pool : (size : Shape) (pool : ℕ) (chain : List PlaceAt) (tree : Tree) (written : Written) (r : Result NextRoot CommitFault) → Spells size pool chain tree written
    → IfOk r (λ next. next.body ≡ written.body) → IfOk r (λ next. next.body.pool ≡ pool)
led_pool size pool chain tree written (Err fault) spells body_same = tt
led_pool size pool chain tree written (Ok next) spells body_same = ap (λ (b : Body). b.pool) (body_same ∙ spells.body_is)

pub led_chain : (devices places pool : ℕ) (taken : List PlaceAt) (reach : List Ptr) (tree : Tree) (written : Written) (r : Result NextRoot CommitFault) → AreLimits devices places
    → Spells (record { devices = devices; places = places }) pool (chain_for (record { devices = devices; places = places }) taken reach tree) tree written
    → IfOk r (λ next. next.chain ≡ written.chain) → IfOk r (λ next. ChainPlaces devices places next.chain)
led_chain devices places pool taken reach tree written (Err fault) limits spells chain_same = tt
led_chain devices places pool taken reach tree written (Ok next) limits spells chain_same =
    subst (ChainPlaces devices places) (sym (chain_same ∙ spells.chain_is)) (chosen_there devices places taken reach tree limits)

-- ---- of a root

-- the pointers of its tree are there
pub reach_of_root : (root : Root) (reach : List Ptr) → HasPlaces root → reach ≡ pointers_of_tree root.tree → ReachPlaces root.limits.devices root.limits.places reach
reach_of_root root reach there is = subst (ReachPlaces root.limits.devices root.limits.places) (sym is) there.reach

-- what may be committed may be led to
pub may_lead : (shape : Shape) (t : Tape) (s : State) (root : Root) (reach : List Ptr) (tree : Tree) (new : List FoundBlock) → reach ≡ pointers_of_tree root.tree
    → MayCommit shape t s root tree new → MayLead shape t s root.body root.gates root.chain reach tree new
may_lead shape t s root reach tree new is may = record {
  told = may.told;
  at_rest = may.at_rest;
  stands = may.keeps.stands;
  body_is = may.keeps.body_is;
  chain_is = may.keeps.chain_is;
  reach_is = is ∙ ap pointers_of_tree may.keeps.tree_is;
  gates_are = may.keeps.gates;
  follows = may.follows;
}

pub leaves_from : (shape : Shape) (t u : Tape) (root : Root) (chain : List PlaceAt) (reach found : List Ptr) (tree : Tree) (new : List FoundBlock) → chain ≡ root.chain → reach ≡ found → found ≡ pointers_of_tree root.tree
    → ((s : State) → MayLead shape t s root.body root.gates chain reach tree new → LeavesEither shape s (state_after shape s tree new) t u)
    → (s : State) → MayCommit shape t s root tree new → LeavesEither shape s (state_after shape s tree new) t u
leaves_from shape t u root chain reach found tree new chain_is reach_is found_is leaves s may =
    leaves s (subst (λ (c : List PlaceAt). MayLead shape t s root.body root.gates c reach tree new) (sym chain_is) (may_lead shape t s root reach tree new (reach_is ∙ found_is) may))

pub led_from : (shape : Shape) (t u : Tape) (root : Root) (chain : List PlaceAt) (reach found : List Ptr) (tree : Tree) (new : List FoundBlock) (r : Result NextRoot CommitFault)
    → chain ≡ root.chain → reach ≡ found → found ≡ pointers_of_tree root.tree
    → IfOk r (λ next. (s : State) → MayLead shape t s root.body root.gates chain reach tree new → IsLed shape u (state_after shape s tree new) next.body next.chain)
    → IfOk r (λ next. (s : State) → MayCommit shape t s root tree new → IsLed shape u (state_after shape s tree new) next.body next.chain)
led_from shape t u root chain reach found tree new (Err fault) chain_is reach_is found_is led_to = tt
led_from shape t u root chain reach found tree new (Ok next) chain_is reach_is found_is led_to = λ s may.
    led_to s (subst (λ (c : List PlaceAt). MayLead shape t s root.body root.gates c reach tree new) (sym chain_is) (may_lead shape t s root reach tree new (reach_is ∙ found_is) may))

-- where the disks are as they were, the state stands
pub commit_unwritten : (shape : Shape) (t : Tape) (s : State) (root : Root) (tree : Tree) (new : List FoundBlock)
    → MayCommit shape t s root tree new → LeavesEither shape s (state_after shape s tree new) t t
commit_unwritten shape t s root tree new may =
    leaves_unwritten shape t s root.body root.gates root.chain (pointers_of_tree root.tree) tree new (may_lead shape t s root (pointers_of_tree root.tree) tree new refl may)

-- a root with what was handed on keeps the next state
pub committed : (shape : Shape) (t u : Tape) (old : Root) (body : Body) (chain : List PlaceAt) (tree : Tree) (new : List FoundBlock) → HasSize shape old
    → ((s : State) → MayCommit shape t s old tree new → IsLed shape u (state_after shape s tree new) body chain)
    → (s : State) → MayCommit shape t s old tree new
    → IsCommitted shape u (state_after shape s tree new) (record { limits = old.limits; body = body; gates = true ∷ true ∷ []; tree = tree; chain = chain })
committed shape t u old body chain tree new size led_to s may =
    let is = led_to s may in
    record {
      at_rest = is.at_rest;
      only_next = is.only_next;
      keeps = record {
        stands = is.stands;
        size = record { devices = size.devices; places = size.places };
        body_is = is.body_is;
        tree_is = refl;
        chain_is = is.chain_is;
        gates = is.gates_are;
      };
    }
