-- What holds of an answer, from what is to be shown of each command where it isn't refused.
use Rattle.std.proofs.Common.{◌≡◌, ℕ, ◌+◌, ◌≤◌, ◌==◌, true, false, nat_lt, List, length, Option, Some, None, Result, Ok, Err, refl, ⊎_elim}
use Rattle.std.specs.Prelude.{is_some, replicate}
use Rattle.std.proofs.lemmas.Bool.{cases_Bool, ltb-false}
use Rattle.zc_command.specs.declared.command.Command.{Command}
use Rattle.zc_command.specs.declared.command.Command.TheVariants.{Mkds, Rmds, Mount, Create, Remove, Write, Fill, Truncate, Read, Stat, Commit}
use Rattle.zc_command.specs.declared.refusal.Refusal.{Refusal}
use Rattle.zc_command.specs.declared.refusal.Refusal.TheVariants.{Eexist}
use Rattle.zc_command.specs.declared.reply.Reply.{Reply}
use Rattle.zc_command.specs.declared.reply.Reply.TheVariants.{Done, Count, Data, Size}
use Rattle.zc_plain.specs.declared.finding.Path.{Path}
use Rattle.zc_plain.specs.declared.plain_pool.PlainPool.{PlainPool}
use Rattle.zc_plain.specs.declared.tally.MadeBlock.{MadeBlock}
use Rattle.zc_plain.specs.declared.tally.Tally.{Tally}
use Rattle.zc_plain.specs.PlainPool.{dataset_at, file_at, made_count, bytes_from, with_new_dataset, with_new_file, without_dataset, without_file, in_dataset, in_file}
use Rattle.zc_plain.specs.Written.{written}
use Rattle.zc_plain.specs.Truncated.{truncated}
use Rattle.zc_plain.specs.Charge.{with_blocks, charge_of}
use Rattle.zc_plain.specs.Answer.{refuse_long, refuse_end, most_datasets, most_files, most_charge, most_pointers, most_bytes, most_read, dataset_place, file_place, dataset_of, path_of, pointers_after, blocks_touched, blocks_trimmed, mkds, rmds, mount, create, remove, room_in_file, put_some, put, write, fill, truncate, read, stat, named_answer, answer}
use Rattle.zc_plain.proofs.PlainLaws.{after_test, after_found}

-- the charge stays within the limit once these blocks are made
abbrev pub IsWithin : List MadeBlock → Tally → PlainPool → Type 0
IsWithin blocks tally pool = charge_of (with_blocks blocks tally) ≤ most_charge pool

-- what is to be shown of a write
abbrev pub PutGoal : (Result (Reply × PlainPool) Refusal → Type 0) → ℕ → Tally → PlainPool → List ℕ → List ℕ → ℕ → List ℕ → Type 0
PutGoal P number tally pool dataset file offset bytes =
    (path : Path) → path_of dataset file pool ≡ Ok path
    → ((length bytes == 0) ≡ true → P (Ok (Count 0, pool)))
    × ((length bytes == 0) ≡ false → pointers_after offset (length bytes) path pool ≤ most_pointers pool → IsWithin (blocks_touched tally offset (length bytes) path pool) tally pool
    → P (Ok (Count (length bytes), in_file path (written number offset bytes) pool)))

-- what is to be shown of each command where it isn't refused
abbrev pub Goal : (Result (Reply × PlainPool) Refusal → Type 0) → ℕ → Tally → PlainPool → Command → Type 0
Goal P number tally pool (Mkds dataset) = dataset_place dataset pool ≡ None → P (Ok (Done, with_new_dataset dataset pool))
Goal P number tally pool (Rmds dataset) = (place : ℕ) → dataset_of dataset pool ≡ Ok place → P (Ok (Done, without_dataset place pool))
Goal P number tally pool (Mount dataset) = Unit {0}
Goal P number tally pool (Create dataset file) =
    (place : ℕ) → dataset_of dataset pool ≡ Ok place → file_place file (dataset_at place pool) ≡ None → P (Ok (Done, in_dataset place (with_new_file file) pool))
Goal P number tally pool (Remove dataset file) = (path : Path) → path_of dataset file pool ≡ Ok path → P (Ok (Done, in_dataset path.dataset (without_file path.file) pool))
Goal P number tally pool (Write dataset file offset bytes) = PutGoal P number tally pool dataset file offset bytes
Goal P number tally pool (Fill dataset file offset len byte) = PutGoal P number tally pool dataset file offset (replicate len byte)
Goal P number tally pool (Truncate dataset file size) =
    (path : Path) → path_of dataset file pool ≡ Ok path → IsWithin (blocks_trimmed tally size path pool) tally pool → P (Ok (Done, in_file path (truncated number size) pool))
Goal P number tally pool (Read dataset file offset len) = (path : Path) → path_of dataset file pool ≡ Ok path → P (Ok (Data (bytes_from offset len (file_at path pool)), pool))
Goal P number tally pool (Stat dataset file) = (path : Path) → path_of dataset file pool ≡ Ok path → P (Ok (Size (file_at path pool).size (made_count (file_at path pool).blocks), pool))
Goal P number tally pool Commit = P (Ok (Done, pool))

-- what isn't there isn't found
none_there : (o : Option ℕ) → is_some o ≡ false → o ≡ None
none_there None e = refl
none_there (Some k) e = cc

-- a dataset in which bytes have room holds at most as many pointers as it may
room_fits : (offset len : ℕ) (path : Path) (pool : PlainPool) → room_in_file offset len path pool ≡ Ok tt → pointers_after offset len path pool ≤ most_pointers pool
unfolding room_in_file
room_fits offset len path pool room =
    let Q = λ (r : Result (Unit {0}) Refusal). r ≡ Ok tt → pointers_after offset len path pool ≤ most_pointers pool in
    after_test Q (nat_lt (most_bytes pool) (offset + len)) _ _ (λ e. cc)
    (λ short e.
    ⊎_elim
    (λ (over : nat_lt (most_pointers pool) (pointers_after offset len path pool) ≡ true). no_room _ (rw over at e))
    (λ (fits : nat_lt (most_pointers pool) (pointers_after offset len path pool) ≡ false). ltb-false _ _ fits)
    (cases_Bool (nat_lt (most_pointers pool) (pointers_after offset len path pool))))
    room
  where
    no_room : {A : Type 0} (refusal : Refusal) → ◌≡◌ {A = Result (Unit {0}) Refusal} (Err refusal) (Ok tt) → A
    no_room refusal e = cc

module _ (P : Result (Reply × PlainPool) Refusal → Type 0) (number : ℕ) (tally : Tally) (pool : PlainPool) (refused : (refusal : Refusal) → P (Err refusal)) where
  by_put : (dataset file : List ℕ) (offset : ℕ) (bytes : List ℕ) → PutGoal P number tally pool dataset file offset bytes → P (write number dataset file offset bytes tally pool)
  unfolding write put put_some
  by_put dataset file offset bytes goal =
      after_found P (path_of dataset file pool) _ refused
      (λ path found.
      ⊎_elim
      (λ (empty : (length bytes == 0) ≡ true). rw empty ((goal path found).0 empty))
      (λ (full : (length bytes == 0) ≡ false).
      rw full (after_found P (room_in_file offset (length bytes) path pool) _ refused
      (λ _ room.
      after_test P (nat_lt (most_charge pool) (charge_of (with_blocks (blocks_touched tally offset (length bytes) path pool) tally))) _ _ (refused _)
      (λ free. (goal path found).1 full (room_fits offset (length bytes) path pool room) (ltb-false _ _ free)))))
      (cases_Bool (length bytes == 0)))

  by_named : (command : Command) → Goal P number tally pool command → P (named_answer number tally pool command)
  unfolding mkds rmds mount create remove fill truncate read stat
  by_named (Mkds dataset) goal =
      after_test P (is_some (dataset_place dataset pool)) Eexist _ (refused _)
      (λ missing. after_test P (nat_lt most_datasets (length pool.datasets + 1)) _ _ (refused _) (λ few. goal (none_there (dataset_place dataset pool) missing)))
  by_named (Rmds dataset) goal = after_found P (dataset_of dataset pool) _ refused (λ place found. goal place found)
  by_named (Mount dataset) goal = after_found P (dataset_of dataset pool) _ refused (λ place found. refused _)
  by_named (Create dataset file) goal =
      after_found P (dataset_of dataset pool) _ refused
      (λ place found.
      after_test P (is_some (file_place file (dataset_at place pool))) Eexist _ (refused _)
      (λ missing.
      after_test P (nat_lt (most_files pool) (length (dataset_at place pool).files + 1)) _ _ (refused _)
      (λ few. goal place found (none_there (file_place file (dataset_at place pool)) missing))))
  by_named (Remove dataset file) goal = after_found P (path_of dataset file pool) _ refused (λ path found. goal path found)
  by_named (Write dataset file offset bytes) goal = by_put dataset file offset bytes goal
  by_named (Fill dataset file offset len byte) goal = by_put dataset file offset (replicate len byte) goal
  by_named (Truncate dataset file size) goal =
      after_found P (path_of dataset file pool) _ refused
      (λ path found.
      after_found P (refuse_end size pool) _ refused
      (λ _ short.
      after_test P (nat_lt (most_charge pool) (charge_of (with_blocks (blocks_trimmed tally size path pool) tally))) _ _ (refused _)
      (λ free. goal path found (ltb-false _ _ free))))
  by_named (Read dataset file offset len) goal =
      after_found P (path_of dataset file pool) _ refused (λ path found. after_test P (nat_lt most_read len) _ _ (refused _) (λ short. goal path found))
  by_named (Stat dataset file) goal = after_found P (path_of dataset file pool) _ refused (λ path found. goal path found)
  by_named Commit goal = goal

  -- the answer has a property that each refusal has, where each command that isn't refused leads to it
  pub by_command : (command : Command) → Goal P number tally pool command → P (answer number tally pool command)
  unfolding answer
  by_command command goal = after_found P (refuse_long command) _ refused (λ _ short. by_named command goal)
