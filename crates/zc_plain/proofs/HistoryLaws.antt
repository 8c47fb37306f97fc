-- The states that a history leads to.
use Rattle.std.proofs.Common.{◌≡◌, ℕ, ◌+◌, ◌≤◌, true, false, nat_lt, List, [], ◌∷◌, ◌++◌, length, fold, lit≤, Some, Result, Err, refl, ap, ◌∙◌, ⊎_elim, arith}
use Rattle.std.specs.Prelude.{is_some, replicate}
use Rattle.std.proofs.lemmas.List.Sums.{fold_push}
use Rattle.zc_num.specs.declared.limits.Limits.{Limits}
use Rattle.zc_command.specs.declared.command.Command.{Command}
use Rattle.zc_command.specs.declared.command.Command.TheVariants.{Mkds, Rmds, Mount, Create, Remove, Write, Fill, Truncate, Read, Stat, Commit}
use Rattle.zc_command.specs.declared.refusal.Refusal.{Refusal}
use Rattle.zc_command.specs.declared.refusal.Refusal.TheVariants.{Eexist}
use Rattle.zc_command.specs.declared.reply.Reply.TheVariants.{No}
use Rattle.zc_plain.specs.declared.entry.Entry.{Entry}
use Rattle.zc_plain.specs.declared.entry.Entry.TheVariants as entry
use Rattle.zc_plain.specs.declared.plain_pool.PlainDataset.{PlainDataset}
use Rattle.zc_plain.specs.declared.plain_pool.PlainPool.{PlainPool}
use Rattle.zc_plain.specs.PlainPool.{new_dataset, new_pool, dataset_at, with_new_dataset, with_new_file, without_dataset, without_file, in_dataset, in_files}
use Rattle.zc_plain.specs.declared.tally.Tally.{Tally}
use Rattle.zc_plain.specs.Written.{written}
use Rattle.zc_plain.specs.Truncated.{truncated}
use Rattle.zc_plain.specs.IsPlain.{StandsAt, AreNextUpTo, IsState, most_number}
use Rattle.zc_plain.specs.Answer.{refuse_long, refuse_end, refuse_charge, blocks_trimmed, most_datasets, most_files, most_read, dataset_place, file_place, dataset_of, path_of, mkds, rmds, mount, create, remove, write, fill, truncate, read, stat, blocks_of_command, named_answer, answer}
use Rattle.zc_command.specs.Names.{Each}
use Rattle.zc_plain.specs.Charge.{with_each, stamps_of, held_by}
use Rattle.zc_plain.specs.History.{PlainState, MeetsConditions, is_waiting, reply_of, step, pool_after_command, tally_after, next_number, begun, state_after}
use Rattle.zc_plain.proofs.NumberedLaws.{no_item, stood_or_new, stood_or_changed, stood_before_removal, skipped}
use Rattle.zc_plain.proofs.ChargeLaws.{few_after, few_after_finish}
use Rattle.zc_plain.proofs.PlainLaws.{after_test, after_found, after_put, next_of, plain_new_pool, plain_after}

-- the next numbers may be said to be at most a greater number
more_up_to : (most more : ℕ) (pool : PlainPool) → most ≤ more → AreNextUpTo most pool → AreNextUpTo more pool
more_up_to most more pool le upto = record {
  dataset = omega (arith, upto.dataset);
  file = λ place dataset stands. omega (arith, upto.file place dataset stands);
}

-- a new dataset takes one number
up_to_with_dataset : (most : ℕ) (name : List ℕ) (pool : PlainPool) → AreNextUpTo most pool → AreNextUpTo (most + 1) (with_new_dataset name pool)
up_to_with_dataset most name pool upto = record {
  dataset = omega (arith, upto.dataset);
  file = λ place dataset stands.
      ⊎_elim (λ (before : StandsAt pool.datasets place dataset). omega (arith, upto.file place dataset before))
      (λ (new : (place ≡ length pool.datasets) × (dataset ≡ new_dataset pool.next_dataset name)). let is = ap (λ (d : PlainDataset). d.next_file) new.1 in omega arith)
      (stood_or_new pool.datasets (new_dataset pool.next_dataset name) place dataset stands);
}

-- so does a change of a dataset that takes one
up_to_in_dataset : (most place : ℕ) (change : PlainDataset → PlainDataset) (pool : PlainPool) → ((dataset : PlainDataset) → (change dataset).next_file ≤ dataset.next_file + 1) → AreNextUpTo most pool → AreNextUpTo (most + 1) (in_dataset place change pool)
up_to_in_dataset most place change pool takes upto = record {
  dataset = omega (arith, upto.dataset);
  file = λ at dataset stands.
      let was = stood_or_changed change place pool.datasets at dataset stands in
      let before = upto.file at was.0 was.1 in
      ⊎_elim (λ (same : dataset ≡ was.0). let is = ap (λ (d : PlainDataset). d.next_file) same in omega arith)
      (λ (changed : (at ≡ place) × (dataset ≡ change was.0)). let is = ap (λ (d : PlainDataset). d.next_file) changed.1 in omega (arith, takes was.0))
      was.2;
}

-- a removal takes none
up_to_without_dataset : (most place : ℕ) (pool : PlainPool) → AreNextUpTo most pool → AreNextUpTo most (without_dataset place pool)
up_to_without_dataset most place pool upto = record {
  dataset = upto.dataset;
  file = λ at dataset stands. upto.file (skipped place at) dataset (stood_before_removal place pool.datasets at dataset stands);
}

-- a command takes one number at most
up_to_after_named : (most number : ℕ) (tally : Tally) (pool : PlainPool) (command : Command) → AreNextUpTo most pool → AreNextUpTo (most + 1) (next_of pool (named_answer number tally pool command))
unfolding mkds rmds mount create remove write fill truncate read stat
up_to_after_named most number tally pool (Mkds dataset) upto =
    let P = λ (r : Result _ Refusal). AreNextUpTo (most + 1) (next_of pool r) in
    let same = more_up_to most (most + 1) pool (omega arith) upto in
    after_test P (is_some (dataset_place dataset pool)) Eexist _ same
    (λ missing. after_test P (nat_lt most_datasets (length pool.datasets + 1)) _ _ same
    (λ few. up_to_with_dataset most dataset pool upto))
up_to_after_named most number tally pool (Create dataset file) upto =
    let P = λ (r : Result _ Refusal). AreNextUpTo (most + 1) (next_of pool r) in
    let same = more_up_to most (most + 1) pool (omega arith) upto in
    after_found P (dataset_of dataset pool) _ (λ refusal. same)
    (λ place found. after_test P (is_some (file_place file (dataset_at place pool))) Eexist _ same
    (λ missing. after_test P (nat_lt (most_files pool) (length (dataset_at place pool).files + 1)) _ _ same
    (λ few. up_to_in_dataset most place (with_new_file file) pool (λ d. omega arith) upto)))
up_to_after_named most number tally pool (Rmds dataset) upto =
    let P = λ (r : Result _ Refusal). AreNextUpTo (most + 1) (next_of pool r) in
    let more = more_up_to most (most + 1) pool (omega arith) upto in
    after_found P (dataset_of dataset pool) _ (λ refusal. more) (λ place found. up_to_without_dataset (most + 1) place pool more)
up_to_after_named most number tally pool (Mount dataset) upto =
    let P = λ (r : Result _ Refusal). AreNextUpTo (most + 1) (next_of pool r) in
    let same = more_up_to most (most + 1) pool (omega arith) upto in
    after_found P (dataset_of dataset pool) _ (λ refusal. same) (λ place found. same)
up_to_after_named most number tally pool (Remove dataset file) upto =
    let P = λ (r : Result _ Refusal). AreNextUpTo (most + 1) (next_of pool r) in
    let same = more_up_to most (most + 1) pool (omega arith) upto in
    after_found P (path_of dataset file pool) _ (λ refusal. same) (λ path found. up_to_in_dataset most path.dataset (without_file path.file) pool (λ d. omega arith) upto)
up_to_after_named most number tally pool (Write dataset file offset bytes) upto =
    let P = λ (r : Result _ Refusal). AreNextUpTo (most + 1) (next_of pool r) in
    let same = more_up_to most (most + 1) pool (omega arith) upto in
    after_found P (path_of dataset file pool) _ (λ refusal. same)
    (λ path found. after_put P number path offset bytes tally pool (λ refusal. same) same (up_to_in_dataset most path.dataset (in_files path.file (written number offset bytes)) pool (λ d. omega arith) upto))
up_to_after_named most number tally pool (Fill dataset file offset len byte) upto =
    let P = λ (r : Result _ Refusal). AreNextUpTo (most + 1) (next_of pool r) in
    let same = more_up_to most (most + 1) pool (omega arith) upto in
    let bytes = replicate len byte in
    after_found P (path_of dataset file pool) _ (λ refusal. same)
    (λ path found. after_put P number path offset bytes tally pool (λ refusal. same) same (up_to_in_dataset most path.dataset (in_files path.file (written number offset bytes)) pool (λ d. omega arith) upto))
up_to_after_named most number tally pool (Truncate dataset file size) upto =
    let P = λ (r : Result _ Refusal). AreNextUpTo (most + 1) (next_of pool r) in
    let same = more_up_to most (most + 1) pool (omega arith) upto in
    after_found P (path_of dataset file pool) _ (λ refusal. same)
    (λ path found. after_found P (refuse_end size pool) _ (λ refusal. same)
    (λ _ short. after_found P (refuse_charge (blocks_trimmed tally size path pool) tally pool) _ (λ refusal. same)
    (λ _ free. up_to_in_dataset most path.dataset (in_files path.file (truncated number size)) pool (λ d. omega arith) upto)))
up_to_after_named most number tally pool (Read dataset file offset len) upto =
    let P = λ (r : Result _ Refusal). AreNextUpTo (most + 1) (next_of pool r) in
    let same = more_up_to most (most + 1) pool (omega arith) upto in
    after_found P (path_of dataset file pool) _ (λ refusal. same) (λ path found. after_test P (nat_lt most_read len) _ _ same (λ short. same))
up_to_after_named most number tally pool (Stat dataset file) upto =
    let P = λ (r : Result _ Refusal). AreNextUpTo (most + 1) (next_of pool r) in
    let same = more_up_to most (most + 1) pool (omega arith) upto in
    after_found P (path_of dataset file pool) _ (λ refusal. same) (λ path found. same)
up_to_after_named most number tally pool Commit upto = more_up_to most (most + 1) pool (omega arith) upto

up_to_after : (most number : ℕ) (tally : Tally) (pool : PlainPool) (command : Command) → AreNextUpTo most pool → AreNextUpTo (most + 1) (next_of pool (answer number tally pool command))
unfolding answer
up_to_after most number tally pool command upto =
    after_found (λ r. AreNextUpTo (most + 1) (next_of pool r)) (refuse_long command) _ (λ refusal. more_up_to most (most + 1) pool (omega arith) upto)
    (λ _ short. up_to_after_named most number tally pool command upto)

-- each entry leads from a state to a state
pub state_after_step : (state : PlainState) (one : Entry) → MeetsConditions one → IsState state → IsState (step state one)
unfolding step
state_after_step state (entry.Ask session command) meets is = record {
  plain = plain_after (next_number state) state.tally state.pool command is.plain;
  tally = few_after (next_number state) state.tally state.pool command is.tally;
  counted =
      let after = next_of state.pool (answer (next_number state) state.tally state.pool command) in
      more_up_to (most_number state.entries + 1) (most_number (state.entries + 1)) after (omega arith) (up_to_after (most_number state.entries) (next_number state) state.tally state.pool command is.counted);
}
state_after_step state (entry.Answer session reply) meets is = record { plain = is.plain; tally = is.tally; counted = more_up_to (most_number state.entries) (most_number (state.entries + 1)) state.pool (omega arith) is.counted }
state_after_step state (entry.Seal group) meets is =
    record { plain = is.plain; tally = record { held = is.tally.held; few = is.tally.few }; counted = more_up_to (most_number state.entries) (most_number (state.entries + 1)) state.pool (omega arith) is.counted }
state_after_step state (entry.Finish group held) meets is =
    record { plain = is.plain; tally = few_after_finish group held state.tally meets is.tally; counted = more_up_to (most_number state.entries) (most_number (state.entries + 1)) state.pool (omega arith) is.counted }

-- the empty pool before any entry is a state, and holds no block
pub held_at_start : (limits : Limits) → held_by (new_pool limits) ≡ 0
unfolding held_by stamps_of with_each
held_at_start limits = refl

pub state_at_start : (limits : Limits) → IsState (begun (new_pool limits))
state_at_start limits = record {
  plain = plain_new_pool limits;
  tally = record { held = rw held_at_start (omega arith); few = omega arith };
  counted = record { dataset = lit≤ tt; file = λ place dataset stands. no_item dataset stands };
}

-- one more entry is one more step
pub state_one_more : (start : PlainPool) (history : List Entry) (one : Entry) → state_after start (history ++ one ∷ []) ≡ step (state_after start history) one
state_one_more start history one = fold_push step (begun start) history one

-- the states that follow a state
states_from : (state : PlainState) (history : List Entry) → Each MeetsConditions history → IsState state → IsState (fold step state history)
states_from state [] meet is = is
states_from state (one ∷ history) meet is = states_from (step state one) history meet.1 (state_after_step state one meet.0 is)

-- so each history that begins from a state leads to states
pub state_is_state : (start : PlainPool) (history : List Entry) → Each MeetsConditions history → IsState (begun start) → IsState (state_after start history)
state_is_state start history meet is = states_from (begun start) history meet is

-- and as many entries are counted as there were
counted_from : (state : PlainState) (history : List Entry) → (fold step state history).entries ≡ state.entries + length history
unfolding step
counted_from state [] = omega arith
counted_from state (one ∷ history) = counted_from (step state one) history ∙ omega arith

pub entries_are_counted : (start : PlainPool) (history : List Entry) → (state_after start history).entries ≡ length history
entries_are_counted start history = counted_from (begun start) history ∙ omega arith

-- a refusal is the reply, and changes nothing
pub refusal_changes_nothing : (state : PlainState) (session : ℕ) (command : Command) (refusal : Refusal) → is_waiting command ≡ false → answer (next_number state) state.tally state.pool command ≡ Err refusal
    → (reply_of state (entry.Ask session command) ≡ Some (No refusal)) × ((step state (entry.Ask session command)).pool ≡ state.pool)
unfolding step reply_of
refusal_changes_nothing state session command refusal at_once refused = (rw (at_once, refused) refl, rw refused refl)

-- a command that waits changes no plain pool
pub waiting_changes_nothing : (number : ℕ) (tally : Tally) (pool : PlainPool) (command : Command) → is_waiting command ≡ true → pool_after_command number tally pool command ≡ pool
unfolding answer
waiting_changes_nothing number tally pool (Mkds dataset) waits = cc
waiting_changes_nothing number tally pool (Rmds dataset) waits = cc
waiting_changes_nothing number tally pool (Mount dataset) waits = cc
waiting_changes_nothing number tally pool (Create dataset file) waits = cc
waiting_changes_nothing number tally pool (Remove dataset file) waits = cc
waiting_changes_nothing number tally pool (Write dataset file offset bytes) waits = cc
waiting_changes_nothing number tally pool (Fill dataset file offset len byte) waits = cc
waiting_changes_nothing number tally pool (Truncate dataset file size) waits = cc
waiting_changes_nothing number tally pool (Read dataset file offset len) waits = cc
waiting_changes_nothing number tally pool (Stat dataset file) waits = cc
waiting_changes_nothing number tally pool Commit waits = refl

-- and nothing that is counted
pub waiting_counts_nothing : (number : ℕ) (tally : Tally) (pool : PlainPool) (command : Command) → is_waiting command ≡ true → tally_after number tally pool command ≡ tally
unfolding answer blocks_of_command with_each
waiting_counts_nothing number tally pool (Mkds dataset) waits = cc
waiting_counts_nothing number tally pool (Rmds dataset) waits = cc
waiting_counts_nothing number tally pool (Mount dataset) waits = cc
waiting_counts_nothing number tally pool (Create dataset file) waits = cc
waiting_counts_nothing number tally pool (Remove dataset file) waits = cc
waiting_counts_nothing number tally pool (Write dataset file offset bytes) waits = cc
waiting_counts_nothing number tally pool (Fill dataset file offset len byte) waits = cc
waiting_counts_nothing number tally pool (Truncate dataset file size) waits = cc
waiting_counts_nothing number tally pool (Read dataset file offset len) waits = cc
waiting_counts_nothing number tally pool (Stat dataset file) waits = cc
waiting_counts_nothing number tally pool Commit waits = refl
