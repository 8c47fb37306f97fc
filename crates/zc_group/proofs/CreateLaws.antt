-- The first state of a pool: that its values agree, and that the calls of a creation leave it.
use Rattle.std.proofs.Common.{◌≡◌, ◌∙◌, ℕ, ◌+◌, ◌*◌, ◌<◌, ◌≤◌, ◌^◌, ◌⊎◌, Bool, false, List, [], ◌∷◌, length, map, filter, count_by, slice_index_or, IsTrue, refl, sym, ap, subst, inl, inr, ⊎_elim, arith, lit<, true, true≢false, Result, Ok, Err, IfOk}
use Rattle.std.specs.declared.alloc.AllocError.{AllocError}
use Rattle.std.proofs.lemmas.Bool.{or_cases}
use Rattle.std.proofs.lemmas.Nat.{mul-le}
use Rattle.sha2.specs.Sha256.{sha256}
use Rattle.std.specs.List.{range_with_len}
use Rattle.zc_num.specs.Limits.{AreLimits, total_of, log_places_of}
use Rattle.zc_num.specs.declared.numbers.PlaceAt.{PlaceAt}
use Rattle.zc_blkptr.specs.declared.ptr.Ptr.{Ptr}
use Rattle.zc_tape.specs.Tape.{Shape, Image, Tape, Call}
use Rattle.zc_tape.specs.Crash.{May, reads}
use Rattle.zc_tape.specs.Plays.{Plays, Begun, Played}
use Rattle.zc_tape.specs.Tape.{is_at}
use Rattle.zc_tape.specs.DiskCall.{call_of, AreThere}
use Rattle.zc_tape.specs.declared.call.Plan.{Plan}
use Rattle.zc_tape.proofs.Places.{is_at_means}
use Rattle.zc_wire.proofs.Numbers.{u64_below}
use Rattle.zc_tape.proofs.CrashKinds.{may_is_kind}
use Rattle.zc_root.specs.Root.{AreGates, HasWholeRoots, slot_of, gate_place, body_place}
use Rattle.zc_catalog.specs.Chain.{chain_length, links}
use Rattle.zc_layout.specs.Layout.{Put, at_places, owns}
use Rattle.zc_layout.specs.Creation.{creation_calls}
use Rattle.zc_layout.specs.Outcomes.{before_first_gate, HasZeroLogs, CreationLeaves, CreationIsMade}
use Rattle.zc_layout.specs.Standing.{Standing, HasNoRoot}
use Rattle.zc_layout.proofs.GroupCrash.{each_crash_as_read}
use Rattle.zc_plan.specs.Puts.{puts_of, HasRoom}
use Rattle.zc_plan.specs.Start.{StartsCreation}
use Rattle.zc_damage.specs.Places.{is_reached}
use Rattle.zc_damage.proofs.EarlyLaws.{none_birth, none_owner}
use Rattle.zc_damage.proofs.LateLaws.{none_charge}
use Rattle.zc_state.specs.State.{StandsFor, IsState, AreChainPlaces, standing_of, place_at}
use Rattle.zc_next.specs.Exact.{AreExact, catalogue_size}
use Rattle.zc_next.specs.Next.{next_bytes}
use Rattle.zc_next.proofs.BlockLists.{holds_there}
use Rattle.zc_next.proofs.ExactLaws.{exact_is_state, digest_fits}
use Rattle.zc_next.proofs.NextLaws.{begins_beside_fixed}
use Rattle.zc_next.proofs.NextState.{first_state_begins}
use Rattle.zc_group.specs.Created.{first_tree, first_chain, first_state, pool_number, all_log_places, first_puts, first_calls, HoldsNothing, LeavesFirst, IsFirst, IsPlanned, IsCreationWhole, WritesCreation}
use Rattle.zc_group.specs.Imported.{StopsAtFailure}
use Rattle.zc_group.specs.Spelled.{Spells}
use Rattle.zc_group.specs.declared.catalogue.Written.{Written}
use Rattle.zc_group.proofs.ChosenLaws.{chosen_places}

-- no number is reached by no pointer
none_reached : (places : ℕ) (numbers : List ℕ) → filter (is_reached places []) numbers ≡ []
none_reached places [] = refl
none_reached places (number ∷ numbers) = none_reached places numbers

none_counted : (places : ℕ) (numbers : List ℕ) → count_by (is_reached places []) numbers ≡ 0
none_counted places [] = refl
none_counted places (number ∷ numbers) = none_counted places numbers

module _ (shape : Shape) (limits : AreLimits shape.devices shape.places) (long : length (first_chain shape) ≡ chain_length (length (next_bytes shape (first_chain shape) first_tree))) where
  -- the values of the first state agree
  pub first_is_exact : AreExact shape (first_chain shape) first_tree []
  first_is_exact = record {
    some_group = omega arith;
    group_width = lit< tt;
    some_next_dataset = omega arith;
    next_dataset_width = lit< tt;
    few_datasets = omega arith;
    datasets = tt;
    long_enough = long;
    chain_places = chosen_places shape.devices shape.places [] [] limits (chain_length (catalogue_size shape.devices shape.places first_tree));
    births = none_birth 1 [] tt;
    logs = refl;
    owners = none_owner shape.devices shape.places (first_chain shape) [] (record {
      one_block = λ first other there other_there same. absurd (holds_there (λ (ptr : Ptr). ⊥) [] first tt there);
      not_in_catalogue = λ ptr there. absurd (holds_there (λ (one : Ptr). ⊥) [] ptr tt there);
    });
    blocks_there = sym (ap (map (place_at shape.places)) (none_reached shape.places (range_with_len 0 (total_of shape.devices shape.places))));
    digests = tt;
    tails = refl;
    charge = none_charge shape.devices shape.places 1 [] (omega (arith, none_counted shape.places (range_with_len 0 (total_of shape.devices shape.places))));
  }

  module _ (name : List ℕ) (width : pool_number name < 2 ^ 64) where
    -- it is a state of a pool
    pub first_is_state : IsState shape (first_state shape name)
    first_is_state = exact_is_state (pool_number name) shape (first_chain shape) first_tree [] width limits first_is_exact

    -- the calls of the creation begin on a tape that holds nothing
    pub first_starts : (t : Tape) (calls : List Call) (gates : List Bool) → HoldsNothing t → AreGates (reads t) gates
        → calls ≡ first_calls shape name gates
        → StartsCreation t calls (standing_of (first_state shape name))
        (first_puts shape) (slice_index_or gates 0 false) (slice_index_or gates 1 false) (all_log_places shape)
    first_starts t calls gates nothing are planned = record {
      told = nothing.told;
      at_rest = nothing.at_rest;
      none = nothing.none;
      first_gate = are.exact 0 (omega arith);
      second_gate = are.exact 1 (omega arith);
      begins = first_state_begins (pool_number name) shape (first_chain shape) first_tree width limits first_is_exact;
      beside_logs = λ place low. begins_beside_fixed shape (first_chain shape) first_tree 0 place first_is_exact (refl, low);
      planned = planned;
    }

    -- what its calls leave
    pub first_leaves : (t u : Tape) (gate : ℕ) → CreationLeaves May t u (all_log_places shape) (standing_of (first_state shape name)) gate → LeavesFirst shape name t u
    first_leaves t u gate leaves = record {
      each = λ i image from upto left.
          ⊎_elim (λ none. inl none) (λ (stands, logs). inr (record { state = first_is_state; stands = stands }, logs)) (leaves.each i image from upto left);
    }

    -- and what stands once all of them were Ok
    pub first_made : (u : Tape) → CreationIsMade May u (all_log_places shape) (standing_of (first_state shape name)) → IsFirst shape name u
    first_made u made = record {
      at_rest = made.at_rest;
      stands = record { state = first_is_state; stands = made.stands };
      logs_are = made.logs_are;
      only_first = λ i image from upto left. let both = made.only_new i image from upto left in (record { state = first_is_state; stands = both.0 }, both.1);
      next_gate = made.next_gate;
    }

-- ---- the calls

-- a place of the catalogue is there
put_there : (devices places : ℕ) (chain : List PlaceAt) (blocks : List (List ℕ)) (d p : ℕ) → AreChainPlaces devices places chain → owns (at_places chain blocks) d p ≡ true → (d < devices) × (p < places)
put_there devices places [] blocks d p are there = absurd (true≢false (sym there))
put_there devices places (at ∷ chain) [] d p are there = absurd (true≢false (sym there))
put_there devices places (at ∷ chain) (block ∷ blocks) d p are there =
    ⊎_elim
    (λ (here : is_at at.device at.place d p ≡ true). let same = is_at_means at.device at.place d p here in
    (subst (λ (k : ℕ). k < devices) same.0 are.0.device, subst (λ (k : ℕ). k < places) same.1 are.0.place))
    (λ (behind : owns (at_places chain blocks) d p ≡ true). put_there devices places chain blocks d p are.2 behind)
    (or_cases (is_at at.device at.place d p) (owns (at_places chain blocks) d p) there)

-- and the logs are
logs_there : (devices places : ℕ) → AreLimits devices places → 4 + 8 * log_places_of devices places ≤ places
logs_there devices places limits =
    let most : devices * places ≤ 4 * places = mul-le devices places 4 places limits.few_devices (omega arith) in
    omega (arith, most, limits.enough_places)

-- the width of the number of a pool
pub number_width : (name : List ℕ) → pool_number name < 2 ^ 64
number_width name = u64_below (sha256 name) (digest_fits name)

-- a plan of the catalogue that was spelled is that of the creation
pub creation_is_planned : (shape : Shape) (name : List ℕ) (gates : List Bool) (written : Written) (area : ℕ) (r : Result Plan AllocError) → AreLimits shape.devices shape.places
    → area ≡ log_places_of shape.devices shape.places → Spells shape (pool_number name) (first_chain shape) first_tree written
    → IfOk r (λ plan. map call_of plan.calls.items ≡ creation_calls (slice_index_or gates 0 false) (slice_index_or gates 1 false) (8 * area) (puts_of written.blocks) written.body)
    → IfOk r (λ plan. (size : Shape) → HasRoom size (8 * area) (puts_of written.blocks) → AreThere size (map call_of plan.calls.items))
    → IfOk r (λ plan. IsPlanned shape name gates (map call_of plan.calls.items))
creation_is_planned shape name gates written area (Err fault) limits same spells calls there = tt
creation_is_planned shape name gates written area (Ok plan) limits same spells calls there =
    let exact = first_is_exact shape limits spells.long_enough in
    record {
      long_enough = spells.long_enough;
      calls_are = calls
          ∙ ap (λ (n : ℕ). creation_calls (slice_index_or gates 0 false) (slice_index_or gates 1 false) (8 * n) (puts_of written.blocks) written.body) same
          ∙ ap (λ (puts : List Put). creation_calls (slice_index_or gates 0 false) (slice_index_or gates 1 false) (all_log_places shape) puts written.body) spells.blocks_are
          ∙ ap (creation_calls (slice_index_or gates 0 false) (slice_index_or gates 1 false) (all_log_places shape) (first_puts shape)) spells.body_is;
      there = there shape (record {
        devices = limits.some_device;
        places = omega (arith, logs_there shape.devices shape.places limits, same);
        there = λ d p owned. put_there shape.devices shape.places (first_chain shape) (links (first_chain shape) (next_bytes shape (first_chain shape) first_tree)) d p exact.chain_places
            (sym (ap (λ (puts : List Put). owns puts d p) spells.blocks_are) ∙ owned);
      });
    }

-- the same of the shape that the disks have
pub planned_at : (shape : Shape) (devices places : ℕ) (name : List ℕ) (gates : List Bool) (r : Result Plan AllocError) → devices ≡ shape.devices → places ≡ shape.places
    → IfOk r (λ plan. IsPlanned (record { devices = devices; places = places }) name gates (map call_of plan.calls.items)) → IfOk r (λ plan. IsPlanned shape name gates (map call_of plan.calls.items))
planned_at shape devices places name gates r on_devices in_places planned =
    let same : record { devices = devices; places = places } ≡ shape = λ i. record { devices = on_devices i; places = in_places i } in
    subst (λ (size : Shape). IfOk r (λ plan. IsPlanned size name gates (map call_of plan.calls.items))) same planned

-- ---- where no call was made

-- an image that is the same everywhere has no root either
none_where_same : (before image : Image) → ((d p : ℕ) → image d p ≡ before d p) → HasNoRoot before → HasNoRoot image
none_where_same before image same none body root = none body (record {
  gate = sym (same 0 (gate_place (slot_of body.group))) ∙ root.gate;
  spelled = sym (same 0 (body_place (slot_of body.group))) ∙ root.spelled;
  fits = root.fits;
})

-- there is no root still
pub nothing_left : (shape : Shape) (name : List ℕ) (t u : Tape) → u ≡ t → HoldsNothing t → LeavesFirst shape name t u
nothing_left shape name t u same nothing =
    let P : Image → Type 0 = λ image. HasNoRoot image ⊎ (StandsFor shape image (first_state shape name) × HasZeroLogs (all_log_places shape) image) in
    subst (LeavesFirst shape name t) (sym same)
    (record { each = each_crash_as_read May t P may_is_kind nothing.at_rest (λ image agrees. inl (none_where_same (reads t) image agrees nothing.none)) })

-- what the planned calls leave, wherever they are cut short
pub leaves_first : (shape : Shape) (name : List ℕ) (gates : List Bool) (t u : Tape) (calls : List Call) → AreLimits shape.devices shape.places → IsPlanned shape name gates calls
    → ((new : Standing) (puts : List Put) (first_open second_open : Bool) (logs : ℕ) → StartsCreation t calls new puts first_open second_open logs
    → CreationLeaves May t u logs new (length t.calls + before_first_gate first_open second_open logs puts new.body))
    → HoldsNothing t → AreGates (reads t) gates → LeavesFirst shape name t u
leaves_first shape name gates t u calls limits planned leaves nothing are =
    let first : Bool = slice_index_or gates 0 false in
    let second : Bool = slice_index_or gates 1 false in
    first_leaves shape limits planned.long_enough name (number_width name) t u (length t.calls + before_first_gate first second (all_log_places shape) (first_puts shape) (first_state shape name).body)
    (leaves (standing_of (first_state shape name)) (first_puts shape) first second (all_log_places shape)
    (first_starts shape limits planned.long_enough name (number_width name) t calls gates nothing are planned.calls_are))

-- and what stands once all were Ok
pub made_first : (shape : Shape) (name : List ℕ) (gates : List Bool) (t u : Tape) (calls : List Call) → AreLimits shape.devices shape.places → IsPlanned shape name gates calls
    → ((new : Standing) (puts : List Put) (first_open second_open : Bool) (logs : ℕ) → StartsCreation t calls new puts first_open second_open logs → CreationIsMade May u logs new)
    → HoldsNothing t → AreGates (reads t) gates → IsFirst shape name u
made_first shape name gates t u calls limits planned made nothing are =
    let first : Bool = slice_index_or gates 0 false in
    let second : Bool = slice_index_or gates 1 false in
    first_made shape limits planned.long_enough name (number_width name) u
    (made (standing_of (first_state shape name)) (first_puts shape) first second (all_log_places shape)
    (first_starts shape limits planned.long_enough name (number_width name) t calls gates nothing are planned.calls_are))

-- a front of the planned calls was made
pub begun_first : (shape : Shape) (name : List ℕ) (gates : List Bool) (t u : Tape) (calls : List Call) → IsPlanned shape name gates calls → (IsTrue t.told → Begun t calls u)
    → HoldsNothing t → AreGates (reads t) gates → WritesCreation shape name t u
begun_first shape name gates t u calls planned begun nothing are =
    inr (record { gates = gates; gates_are = are; begun = subst (λ (plan : List Call). Begun t plan u) planned.calls_are (begun nothing.told) })

-- or all of them
pub whole_first : (shape : Shape) (name : List ℕ) (gates : List Bool) (t u : Tape) (calls : List Call) → IsPlanned shape name gates calls → Played t calls u true
    → HoldsNothing t → AreGates (reads t) gates → IsCreationWhole shape name t u
whole_first shape name gates t u calls planned played nothing are =
    record { gates = gates; gates_are = are; made = subst (λ (plan : List Call). Plays t plan u true) planned.calls_are (played nothing.told) }

-- ---- tapes that are the same

-- what holds with the flags of the gates, holds once they were read
over_gates : (P : Shape → (t u : Tape) → Type 0) (shape size : Shape) (gates : List Bool) (t read u : Tape) → read ≡ t → size ≡ shape → (IsTrue t.told → HasWholeRoots t → AreGates (reads t) gates)
    → (HoldsNothing read → AreGates (reads read) gates → P size read u) → HoldsNothing t → P shape t u
over_gates P shape size gates t read u same_tape same_size flags holds nothing =
    let here : HoldsNothing t → AreGates (reads t) gates → P shape t u =
    subst (λ (v : Tape). HoldsNothing v → AreGates (reads v) gates → P shape v u) same_tape
    (subst (λ (z : Shape). HoldsNothing read → AreGates (reads read) gates → P z read u) same_size holds) in
    here nothing (flags nothing.told (record { whole = λ place low. nothing.at_rest.whole 0 place }))

-- so with what its calls leave
pub leaves_over_gates : (shape size : Shape) (name : List ℕ) (gates : List Bool) (t read u : Tape) → read ≡ t → size ≡ shape
    → (IsTrue t.told → HasWholeRoots t → AreGates (reads t) gates) → (HoldsNothing read → AreGates (reads read) gates → LeavesFirst size name read u)
    → HoldsNothing t → LeavesFirst shape name t u
leaves_over_gates shape size name gates t read u = over_gates (λ z v w. LeavesFirst z name v w) shape size gates t read u

-- with what stands once all were Ok
pub made_over_gates : (shape size : Shape) (name : List ℕ) (gates : List Bool) (t read u : Tape) → read ≡ t → size ≡ shape
    → (IsTrue t.told → HasWholeRoots t → AreGates (reads t) gates) → (HoldsNothing read → AreGates (reads read) gates → IsFirst size name u)
    → HoldsNothing t → IsFirst shape name u
made_over_gates shape size name gates t read u = over_gates (λ z _ w. IsFirst z name w) shape size gates t read u

-- and with which calls were made
pub whole_over_gates : (shape size : Shape) (name : List ℕ) (gates : List Bool) (t read u : Tape) → read ≡ t → size ≡ shape
    → (IsTrue t.told → HasWholeRoots t → AreGates (reads t) gates) → (HoldsNothing read → AreGates (reads read) gates → IsCreationWhole size name read u)
    → HoldsNothing t → IsCreationWhole shape name t u
whole_over_gates shape size name gates t read u = over_gates (λ z v w. IsCreationWhole z name v w) shape size gates t read u

pub begun_over_gates : (shape size : Shape) (name : List ℕ) (gates : List Bool) (t read u : Tape) → read ≡ t → size ≡ shape
    → (IsTrue t.told → HasWholeRoots t → AreGates (reads t) gates) → (HoldsNothing read → AreGates (reads read) gates → WritesCreation size name read u)
    → HoldsNothing t → WritesCreation shape name t u
begun_over_gates shape size name gates t read u = over_gates (λ z v w. WritesCreation z name v w) shape size gates t read u

-- where a call failed, only the last
pub stops_over_gates : (t read u : Tape) → read ≡ t → (IsTrue read.told → StopsAtFailure read u) → IsTrue t.told → StopsAtFailure t u
stops_over_gates t read u same stops told = subst (λ (v : Tape). StopsAtFailure v u) same (stops (ap (λ (v : Tape). v.told) same ∙ told))
