-- The pools of a history are such as a root may have.
use Rattle.std.proofs.Common.{◌≡◌, ℕ, zero, suc, ◌-◌, ◌^◌, ◌<◌, ◌≤◌, Bool, true, false, nat_lt, List, [], ◌∷◌, length, map, fold, Some, None, Result, Ok, Err, refl, sym, ap, subst, ◌∙◌, arith}
use Rattle.std.specs.Prelude.{if◌then◌else◌, replicate}
use Rattle.std.specs.List.{AllByRecursion}
use Rattle.std.proofs.lemmas.Bool.{ltb-false}
use Rattle.std.proofs.lemmas.List.{length-map}
use Rattle.zc_num.specs.declared.limits.Limits.{Limits}
use Rattle.zc_num.specs.Words.{change_at}
use Rattle.zc_command.specs.declared.command.Command.{Command}
use Rattle.zc_command.specs.declared.command.Command.TheVariants.{Mkds, Rmds, Mount, Create, Remove, Write, Fill, Truncate, Read, Stat, Commit}
use Rattle.zc_command.specs.declared.refusal.Refusal.{Refusal}
use Rattle.zc_command.specs.Names.{HasNameBytes, IsName, most_name, long_length, first_some, names_of, Each, AreConditions}
use Rattle.zc_plain.specs.declared.entry.Entry.{Entry}
use Rattle.zc_plain.specs.declared.entry.Entry.TheVariants as entry
use Rattle.zc_plain.specs.declared.plain_pool.PlainFile.{PlainFile}
use Rattle.zc_plain.specs.declared.plain_pool.PlainDataset.{PlainDataset}
use Rattle.zc_plain.specs.declared.plain_pool.PlainPool.{PlainPool}
use Rattle.zc_plain.specs.declared.tally.Tally.{Tally}
use Rattle.zc_plain.specs.PlainPool.{with_new_file, without_file, in_files}
use Rattle.zc_plain.specs.Written.{written}
use Rattle.zc_plain.specs.Truncated.{truncated}
use Rattle.zc_plain.specs.Charge.{held_by}
use Rattle.zc_plain.specs.Answer.{◌>>=◌, refuse_length, refuse_long, named_answer, answer}
use Rattle.zc_plain.specs.History.{PlainState, MeetsConditions, reply_of, next_number, step, begun, state_after}
use Rattle.zc_plain.specs.IsPlain.{AreNextUpTo, IsState}
use Rattle.zc_plain.specs.Legal.{Progress, progress}
use Rattle.zc_plain.specs.Promises.{HaveFewPointers}
use Rattle.zc_plain.proofs.PlainLaws.{next_of}
use Rattle.zc_plain.proofs.WrittenLaws.{name_of_written}
use Rattle.zc_plain.proofs.TruncatedLaws.{name_of_truncated}
use Rattle.zc_plain.proofs.Stamps.{few_stamps}
use Rattle.zc_plain.proofs.ByCommand.{Goal, by_command}
use Rattle.zc_plain.proofs.HistoryLaws.{state_after_step, state_is_state, entries_are_counted}
use Rattle.zc_plain.proofs.PromiseLaws.{promises_hold}
use Rattle.zc_heart.specs.declared.pool_core.HeartDataset.{HeartDataset}
use Rattle.zc_heart.specs.declared.pool_core.Core.{Core}
use Rattle.zc_heart.specs.Core.{pool_of, areas_of, plain_dataset, Base, base_of, IsDatasetOfCore, IsCore}
use Rattle.zc_heart.proofs.ListLaws.{each_of, all_mapped}
use Rattle.zc_heart.proofs.Listing.{all_more_items, all_removed}
use Rattle.zc_apply.specs.Named.{IsNamed, AreNamed, AreAreas}
use Rattle.zc_apply.specs.Jobs.{IsBase}
use Rattle.zc_open.specs.declared.open_pool.OpenPool.{OpenPool}
use Rattle.zc_open.specs.Heard.{IsStart, IsHeard}

-- ---- names

-- a command that isn't refused for a long name has short ones
short_names : (names : List (List ℕ)) → refuse_length (first_some (map long_length names)) ≡ Ok tt → Each (λ (name : List ℕ). length name ≤ most_name) names
short_names [] short = tt
short_names (name ∷ names) short = by (λ rest. short_names names rest) (nat_lt most_name (length name)) refl short
  where
    by : (refuse_length (first_some (map long_length names)) ≡ Ok tt → Each (λ (one : List ℕ). length one ≤ most_name) names)
        → (long : Bool) → nat_lt most_name (length name) ≡ long → refuse_length (first_some ((if long then Some (length name) else None) ∷ map long_length names)) ≡ Ok tt
        → Each (λ (one : List ℕ). length one ≤ most_name) (name ∷ names)
    by others true is refused = cc
    by others false is rest = (ltb-false most_name (length name) is, others rest)

good_names : (names : List (List ℕ)) → Each HasNameBytes names → Each (λ (name : List ℕ). length name ≤ most_name) names → Each IsName names
good_names [] bytes short = tt
good_names (name ∷ names) bytes short =
    (record { some_byte = bytes.0.some_byte; few_bytes = short.0; name_bytes = bytes.0.name_bytes }, good_names names bytes.1 short.1)

-- what holds of each item still holds once one of them is changed to what it holds of
all_with_changed : {X : Type 0} (P : X → Type 0) (f : X → X) (place : ℕ) (xs : List X) → ((x : X) → P x → P (f x)) → AllByRecursion P xs → AllByRecursion P (change_at f place xs)
all_with_changed P f place [] keeps all = tt
all_with_changed P f zero (x ∷ xs) keeps all = (keeps x all.0, all.1)
all_with_changed P f (suc place) (x ∷ xs) keeps all = (all.0, all_with_changed P f place xs keeps all.1)

-- a file more, a file less, and a file changed that keeps its name
named_with_file : (name : List ℕ) (dataset : PlainDataset) → IsName name → IsNamed dataset → IsNamed (with_new_file name dataset)
named_with_file name dataset good is = record { own = is.own; files = all_more_items (λ (file : PlainFile). IsName file.name) dataset.files _ is.files good }

named_without_file : (place : ℕ) (dataset : PlainDataset) → IsNamed dataset → IsNamed (without_file place dataset)
named_without_file place dataset is = record { own = is.own; files = all_removed (λ (file : PlainFile). IsName file.name) dataset.files place is.files }

named_in_files : (place : ℕ) (change : PlainFile → PlainFile) (dataset : PlainDataset) → ((file : PlainFile) → (change file).name ≡ file.name) → IsNamed dataset → IsNamed (in_files place change dataset)
named_in_files place change dataset keeps is = record {
  own = is.own;
  files = all_with_changed (λ (file : PlainFile). IsName file.name) change place dataset.files (λ file good. subst IsName (sym (keeps file)) good) is.files;
}

-- each command that isn't refused leaves good names, where it has good names itself
named_goal : (number : ℕ) (tally : Tally) (pool : PlainPool) (command : Command) → Each IsName (names_of command) → AreNamed pool → Goal (λ given. AreNamed (next_of pool given)) number tally pool command
named_goal number tally pool (Mkds dataset) good named = λ missing. all_more_items IsNamed pool.datasets _ named (record { own = good.0; files = tt })
named_goal number tally pool (Rmds dataset) good named = λ place found. all_removed IsNamed pool.datasets place named
named_goal number tally pool (Mount dataset) good named = tt
named_goal number tally pool (Create dataset file) good named = λ place found missing.
    all_with_changed IsNamed (with_new_file file) place pool.datasets (λ d is. named_with_file file d good.1.0 is) named
named_goal number tally pool (Remove dataset file) good named = λ path found.
    all_with_changed IsNamed (without_file path.file) path.dataset pool.datasets (λ d is. named_without_file path.file d is) named
named_goal number tally pool (Write dataset file offset bytes) good named = λ path found. (
  λ empty. named,
  λ full room free. all_with_changed IsNamed (in_files path.file (written number offset bytes)) path.dataset pool.datasets
      (λ d is. named_in_files path.file (written number offset bytes) d (λ f. name_of_written number offset bytes f) is) named,
)
named_goal number tally pool (Fill dataset file offset len byte) good named = λ path found. (
  λ empty. named,
  λ full room free. all_with_changed IsNamed (in_files path.file (written number offset (replicate len byte))) path.dataset pool.datasets
      (λ d is. named_in_files path.file (written number offset (replicate len byte)) d (λ f. name_of_written number offset (replicate len byte) f) is) named,
)
named_goal number tally pool (Truncate dataset file size) good named = λ path found free.
    all_with_changed IsNamed (in_files path.file (truncated number size)) path.dataset pool.datasets
    (λ d is. named_in_files path.file (truncated number size) d (λ f. name_of_truncated number size f) is) named
named_goal number tally pool (Read dataset file offset len) good named = λ path found. named
named_goal number tally pool (Stat dataset file) good named = λ path found. named
named_goal number tally pool Commit good named = named

-- so does each command, since long names are refused first
named_after : (number : ℕ) (tally : Tally) (pool : PlainPool) (command : Command) → AreConditions command → AreNamed pool → AreNamed (next_of pool (answer number tally pool command))
unfolding answer
named_after number tally pool command conditions named = by (refuse_long command) refl
  where
    by : (long : Result (Unit {0}) Refusal) → refuse_long command ≡ long → AreNamed (next_of pool (refuse_long command >>= (λ _. named_answer number tally pool command)))
    by (Err refusal) is = subst (λ (r : Result (Unit {0}) Refusal). AreNamed (next_of pool (r >>= (λ _. named_answer number tally pool command)))) (sym is) named
    by (Ok done) is =
        by_command (λ given. AreNamed (next_of pool given)) number tally pool (λ refusal. named) command
        (named_goal number tally pool command (good_names (names_of command) conditions.names (short_names (names_of command) is)) named)

named_step : (state : PlainState) (one : Entry) → MeetsConditions one → AreNamed state.pool → AreNamed (step state one).pool
unfolding step
named_step state (entry.Ask session command) meets named = named_after (next_number state) state.tally state.pool command meets named
named_step state (entry.Answer session reply) meets named = named
named_step state (entry.Seal group) meets named = named
named_step state (entry.Finish group held) meets named = named

named_from : (state : PlainState) (history : List Entry) → Each MeetsConditions history → AreNamed state.pool → AreNamed (fold step state history).pool
named_from state [] meet named = named
named_from state (one ∷ history) meet named = named_from (step state one) history meet.1 (named_step state one meet.0 named)

-- the pools of a history have good names
pub named_stays : (start : PlainPool) (history : List Entry) → Each MeetsConditions history → AreNamed start → AreNamed (state_after start history).pool
named_stays start history meet named = named_from (begun start) history meet named

-- ---- pointers and limits

few_from : (state : PlainState) (history : List Entry) → Each MeetsConditions history → IsState state → HaveFewPointers state.pool → HaveFewPointers (fold step state history).pool
few_from state [] meet is few = few
few_from state (one ∷ history) meet is few =
    few_from (step state one) history meet.1 (state_after_step state one meet.0 is) ((promises_hold state (step state one) (reply_of state one) one is refl refl).pointers few)

-- no dataset of a pool of a history has more pointers than it may
pub few_pointers_stay : (start : PlainPool) (history : List Entry) → Each MeetsConditions history → IsState (begun start) → HaveFewPointers start → HaveFewPointers (state_after start history).pool
few_pointers_stay start history meet is few = few_from (begun start) history meet is few

limits_from : (state : PlainState) (history : List Entry) → Each MeetsConditions history → IsState state → (fold step state history).pool.limits ≡ state.pool.limits
limits_from state [] meet is = refl
limits_from state (one ∷ history) meet is =
    limits_from (step state one) history meet.1 (state_after_step state one meet.0 is) ∙ (promises_hold state (step state one) (reply_of state one) one is refl refl).limits

-- the pools of a history have the limits that the first has
pub limits_stay : (start : PlainPool) (history : List Entry) → Each MeetsConditions history → IsState (begun start) → (state_after start history).pool.limits ≡ start.limits
limits_stay start history meet is = limits_from (begun start) history meet is

-- ---- the pool that is kept in memory

-- what is due changes no state
state_of_progress : (p : Progress) (history : List Entry) → (fold progress p history).state ≡ fold step p.state history
unfolding progress
state_of_progress p [] = refl
state_of_progress p (one ∷ history) = state_of_progress (progress p one) history

-- the files are those after the history
pub heard_pool : (start : PlainPool) (claim : ℕ) (pool : OpenPool) → IsHeard start claim pool → pool_of pool.heart ≡ (state_after start pool.history).pool
heard_pool start claim pool heard = heard.pool_is ∙ ap (λ (state : PlainState). state.pool) (state_of_progress _ pool.history)

pub heart_limits : (limits : Limits) (start : PlainPool) (claim : ℕ) (pool : OpenPool) → IsStart limits start → IsHeard start claim pool → pool.heart.limits ≡ limits
heart_limits limits start claim pool is heard =
    ap (λ (p : PlainPool). p.limits) (heard_pool start claim pool heard) ∙ limits_stay start pool.history heard.conditions is.state ∙ is.limits_are

-- each dataset has a log area of its own
areas_of_core : (core : Core) → IsCore core → AreAreas (areas_of core) (pool_of core)
areas_of_core core is = record {
  count = length-map core.datasets (λ (dataset : HeartDataset). dataset.area) ∙ sym (length-map core.datasets plain_dataset);
  below = all_mapped (λ (area : ℕ). area < 8) (λ (dataset : HeartDataset). dataset.area) core.datasets (each_of IsDatasetOfCore (λ (dataset : HeartDataset). dataset.area < 8) core.datasets (λ dataset its. its.area) is.datasets);
  apart = is.apart;
}

-- the next numbers after so many entries
next_numbers : (start : PlainPool) (history : List Entry) → Each MeetsConditions history → IsState (begun start) → length history ≤ 2 ^ 62 → AreNextUpTo (2 ^ 64 - 1) (state_after start history).pool
next_numbers start history meet is few =
    let counted = (state_is_state start history meet is).counted in
    let entries = entries_are_counted start history in
    record { dataset = omega (arith, counted.dataset, entries); file = λ place dataset stands. omega (arith, counted.file place dataset stands, entries) }

-- what the files are now is such as a root may have
pub heard_base : (limits : Limits) (start : PlainPool) (claim : ℕ) (pool : OpenPool) → IsStart limits start → IsHeard start claim pool → IsCore pool.heart → length pool.history ≤ 2 ^ 62 → IsBase limits (base_of pool.heart)
heard_base limits start claim pool is heard core few =
    let same : (state_after start pool.history).pool ≡ pool_of pool.heart = sym (heard_pool start claim pool heard) in
    record {
      plain = core.plain;
      limits_are = heart_limits limits start claim pool is heard;
      named = subst AreNamed same (named_stays start pool.history heard.conditions is.named);
      areas = areas_of_core pool.heart core;
      few_pointers = subst HaveFewPointers same (few_pointers_stay start pool.history heard.conditions is.state is.few_pointers);
      next_numbers = subst (λ (p : PlainPool). AreNextUpTo (2 ^ 64 - 1) p) same (next_numbers start pool.history heard.conditions is.state few);
    }

-- a pool that a root may have holds few blocks
pub held_small : (limits : Limits) (base : Base) → IsBase limits base → held_by base.pool ≤ 2 ^ 62
unfolding held_by
held_small limits base is = let few = few_stamps base.pool is.plain in omega (arith, few)
