-- Each command leads from a plain pool to a plain pool, and each entry of a history from a state to a state.
use Rattle.std.proofs.Common.{◌≡◌, ℕ, ◌+◌, ◌≤◌, Bool, true, false, nat_lt, ◌==◌, List, [], length, Option, Some, None, Result, Ok, Err, refl, sym, ap, subst, ⊎_elim, arith}
use Rattle.std.specs.Prelude.{slice_get, unwrap_or, is_some, replicate}
use Rattle.std.proofs.lemmas.Bool.{cases_Bool, ltb-false}
use Rattle.std.proofs.lemmas.List.{length-append}
use Rattle.zc_num.proofs.Changes.{length_change_at}
use Rattle.zc_command.specs.declared.command.Command.{Command}
use Rattle.zc_command.specs.declared.command.Command.TheVariants.{Mkds, Rmds, Mount, Create, Remove, Write, Fill, Truncate, Read, Stat, Commit}
use Rattle.zc_command.specs.declared.refusal.Refusal.{Refusal}
use Rattle.zc_command.specs.declared.refusal.Refusal.TheVariants.{Eexist}
use Rattle.zc_command.specs.declared.reply.Reply.{Reply}
use Rattle.zc_command.specs.declared.reply.Reply.TheVariants.{Count}
use Rattle.zc_plain.specs.declared.finding.Path.{Path}
use Rattle.zc_plain.specs.declared.plain_pool.PlainFile.{PlainFile}
use Rattle.zc_plain.specs.declared.plain_pool.PlainDataset.{PlainDataset}
use Rattle.zc_plain.specs.declared.plain_pool.PlainPool.{PlainPool}
use Rattle.zc_plain.specs.PlainPool.{byte_of, new_file, new_dataset, new_pool, dataset_at, file_at, with_new_dataset, with_new_file, without_dataset, without_file, in_dataset, in_files, in_file}
use Rattle.zc_plain.specs.declared.tally.Tally.{Tally}
use Rattle.zc_plain.specs.Written.{written}
use Rattle.zc_plain.specs.Truncated.{truncated}
use Rattle.zc_plain.specs.IsPlain.{StandsAt, AreNumbered, IsPlainFile, IsPlainDataset, IsPlain}
use Rattle.zc_plain.specs.Answer.{◌>>=◌, refuse_if, refuse_long, most_datasets, most_files, most_bytes, most_read, dataset_place, file_place, dataset_of, path_of, mkds, rmds, mount, create, remove, put_some, put, write, fill, truncate, read, stat, room_in_file, refuse_charge, blocks_touched, blocks_trimmed, named_answer, answer, settled}
use Rattle.zc_plain.proofs.Bytes.{zero_of_zeros, length_zeros}
use Rattle.zc_plain.proofs.Places.{dataset_there}
use Rattle.zc_plain.proofs.NumberedLaws.{no_item, stood_or_new, stood_or_changed, no_item_has, numbered_more, numbered_changed, stood_before_removal, length_removed, numbered_less, skipped}
use Rattle.zc_plain.proofs.WrittenLaws.{plain_once_written, id_of_written, name_of_written, size_of_written}
use Rattle.zc_plain.proofs.TruncatedLaws.{plain_once_truncated, id_of_truncated, name_of_truncated, size_of_truncated}

-- what holds after a test, where it holds of the refusal and of what comes where the test fails
pub after_test : {A : Type 0} (P : Result A Refusal → Type 0) (test : Bool) (refusal : Refusal) (next : Result A Refusal) → P (Err refusal) → (test ≡ false → P next) → P (refuse_if test refusal >>= (λ _. next))
after_test P true refusal next refused goes = refused
after_test P false refusal next refused goes = goes refl

-- what holds after a search
pub after_found : {A B : Type 0} (P : Result B Refusal → Type 0) (first : Result A Refusal) (next : A → Result B Refusal) → ((refusal : Refusal) → P (Err refusal)) → ((x : A) → first ≡ Ok x → P (next x)) → P (first >>= next)
after_found P (Err refusal) next refused goes = refused refusal
after_found P (Ok x) next refused goes = goes x refl

-- no item is a list of numbered items
numbered_none : {X : Type 0} (number_of : X → ℕ) (name_of : X → List ℕ) (next : ℕ) → 1 ≤ next → AreNumbered number_of name_of next []
numbered_none number_of name_of next from_one = record {
  next_from_one = from_one;
  from_one = λ a x stands. no_item x stands;
  below_next = λ a x stands. no_item x stands;
  ascending = λ a b x y lt first second. no_item x first;
  one_name = λ a b x y lt first second. no_item x first;
}

-- new files, datasets and pools
plain_new_file : (id : ℕ) (name : List ℕ) → IsPlainFile (new_file id name)
unfolding byte_of
plain_new_file id name = record { blocks = refl; whole = λ k. length_zeros; zero_past = λ i past. zero_of_zeros _ }

plain_new_dataset : (most most_size id : ℕ) (name : List ℕ) → IsPlainDataset most most_size (new_dataset id name)
plain_new_dataset most most_size id name = record {
  numbered = numbered_none (λ (file : PlainFile). file.id) (λ (file : PlainFile). file.name) 1 (omega arith);
  few = omega arith;
  files = λ place file stands. no_item file stands;
  sizes = λ place file stands. no_item file stands;
}

pub plain_new_pool : (limits : _) → IsPlain (new_pool limits)
plain_new_pool limits = record {
  numbered = numbered_none (λ (dataset : PlainDataset). dataset.id) (λ (dataset : PlainDataset). dataset.name) 1 (omega arith);
  few = omega arith;
  datasets = λ place dataset stands. no_item dataset stands;
}

-- a pool with a new dataset
pub plain_with_dataset : (name : List ℕ) (pool : PlainPool) → IsPlain pool → is_some (dataset_place name pool) ≡ false → length pool.datasets + 1 ≤ most_datasets → IsPlain (with_new_dataset name pool)
unfolding dataset_place
plain_with_dataset name pool plain missing few = record {
  numbered = numbered_more (λ (dataset : PlainDataset). dataset.id) (λ (dataset : PlainDataset). dataset.name) pool.next_dataset pool.datasets (new_dataset pool.next_dataset name) plain.numbered refl
      (λ a dataset stands. no_item_has (λ (d : PlainDataset). d.name) name pool.datasets a dataset missing stands);
  few = simp length-append few;
  datasets = λ place dataset stands.
      ⊎_elim (λ (before : StandsAt pool.datasets place dataset). plain.datasets place dataset before)
      (λ (new : (place ≡ length pool.datasets) × (dataset ≡ new_dataset pool.next_dataset name)). subst (IsPlainDataset (most_files pool) (most_bytes pool)) (sym new.1) (plain_new_dataset (most_files pool) (most_bytes pool) pool.next_dataset name))
      (stood_or_new pool.datasets (new_dataset pool.next_dataset name) place dataset stands);
}

-- a dataset with a new file
pub plain_with_file : (most most_size : ℕ) (name : List ℕ) (dataset : PlainDataset) → IsPlainDataset most most_size dataset → is_some (file_place name dataset) ≡ false → length dataset.files + 1 ≤ most
    → IsPlainDataset most most_size (with_new_file name dataset)
unfolding file_place
plain_with_file most most_size name dataset plain missing few = record {
  numbered = numbered_more (λ (file : PlainFile). file.id) (λ (file : PlainFile). file.name) dataset.next_file dataset.files (new_file dataset.next_file name) plain.numbered refl
      (λ a file stands. no_item_has (λ (f : PlainFile). f.name) name dataset.files a file missing stands);
  few = simp length-append few;
  files = λ place file stands.
      ⊎_elim (λ (before : StandsAt dataset.files place file). plain.files place file before)
      (λ (new : (place ≡ length dataset.files) × (file ≡ new_file dataset.next_file name)). subst IsPlainFile (sym new.1) (plain_new_file dataset.next_file name))
      (stood_or_new dataset.files (new_file dataset.next_file name) place file stands);
  sizes = λ place file stands.
      ⊎_elim (λ (before : StandsAt dataset.files place file). plain.sizes place file before)
      (λ (new : (place ≡ length dataset.files) × (file ≡ new_file dataset.next_file name)). let is = ap (λ (f : PlainFile). f.size) new.1 in omega arith)
      (stood_or_new dataset.files (new_file dataset.next_file name) place file stands);
}

-- a dataset with a file changed
pub plain_in_files : (most most_size place : ℕ) (change : PlainFile → PlainFile) (dataset : PlainDataset) → ((file : PlainFile) → (change file).id ≡ file.id) → ((file : PlainFile) → (change file).name ≡ file.name)
    → ((file : PlainFile) → IsPlainFile file → IsPlainFile (change file)) → ((file : PlainFile) → file.size ≤ most_size → (change file).size ≤ most_size)
    → IsPlainDataset most most_size dataset → IsPlainDataset most most_size (in_files place change dataset)
plain_in_files most most_size place change dataset keeps_id keeps_name keeps_plain keeps_short plain = record {
  numbered = numbered_changed (λ (file : PlainFile). file.id) (λ (file : PlainFile). file.name) dataset.next_file change place dataset.files keeps_id keeps_name plain.numbered;
  few = rw length_change_at plain.few;
  files = λ at file stands.
      let was = stood_or_changed change place dataset.files at file stands in
      ⊎_elim (λ (same : file ≡ was.0). subst IsPlainFile (sym same) (plain.files at was.0 was.1))
      (λ (changed : (at ≡ place) × (file ≡ change was.0)). subst IsPlainFile (sym changed.1) (keeps_plain was.0 (plain.files at was.0 was.1)))
      was.2;
  sizes = λ at file stands.
      let was = stood_or_changed change place dataset.files at file stands in
      ⊎_elim (λ (same : file ≡ was.0). subst (λ (f : PlainFile). f.size ≤ most_size) (sym same) (plain.sizes at was.0 was.1))
      (λ (changed : (at ≡ place) × (file ≡ change was.0)). subst (λ (f : PlainFile). f.size ≤ most_size) (sym changed.1) (keeps_short was.0 (plain.sizes at was.0 was.1)))
      was.2;
}

-- a pool with a dataset changed
pub plain_in_dataset : (place : ℕ) (change : PlainDataset → PlainDataset) (pool : PlainPool) → ((dataset : PlainDataset) → (change dataset).id ≡ dataset.id) → ((dataset : PlainDataset) → (change dataset).name ≡ dataset.name)
    → ((dataset : PlainDataset) → StandsAt pool.datasets place dataset → IsPlainDataset (most_files pool) (most_bytes pool) dataset → IsPlainDataset (most_files pool) (most_bytes pool) (change dataset)) → IsPlain pool → IsPlain (in_dataset place change pool)
plain_in_dataset place change pool keeps_id keeps_name keeps_plain plain = record {
  numbered = numbered_changed (λ (dataset : PlainDataset). dataset.id) (λ (dataset : PlainDataset). dataset.name) pool.next_dataset change place pool.datasets keeps_id keeps_name plain.numbered;
  few = rw length_change_at plain.few;
  datasets = λ at dataset stands.
      let was = stood_or_changed change place pool.datasets at dataset stands in
      ⊎_elim (λ (same : dataset ≡ was.0). subst (IsPlainDataset (most_files pool) (most_bytes pool)) (sym same) (plain.datasets at was.0 was.1))
      (λ (changed : (at ≡ place) × (dataset ≡ change was.0)).
      let there : StandsAt pool.datasets place was.0 = subst (λ (k : ℕ). StandsAt pool.datasets k was.0) changed.0 was.1 in
      subst (IsPlainDataset (most_files pool) (most_bytes pool)) (sym changed.1) (keeps_plain was.0 there (plain.datasets at was.0 was.1)))
      was.2;
}

-- a dataset without a file, and a pool without a dataset
pub plain_without_file : (most most_size place : ℕ) (dataset : PlainDataset) → IsPlainDataset most most_size dataset → IsPlainDataset most most_size (without_file place dataset)
plain_without_file most most_size place dataset plain = record {
  numbered = numbered_less (λ (file : PlainFile). file.id) (λ (file : PlainFile). file.name) dataset.next_file place dataset.files plain.numbered;
  few = omega (arith, length_removed dataset.files place, plain.few);
  files = λ at file stands. plain.files (skipped place at) file (stood_before_removal place dataset.files at file stands);
  sizes = λ at file stands. plain.sizes (skipped place at) file (stood_before_removal place dataset.files at file stands);
}

pub plain_without_dataset : (place : ℕ) (pool : PlainPool) → IsPlain pool → IsPlain (without_dataset place pool)
plain_without_dataset place pool plain = record {
  numbered = numbered_less (λ (dataset : PlainDataset). dataset.id) (λ (dataset : PlainDataset). dataset.name) pool.next_dataset place pool.datasets plain.numbered;
  few = omega (arith, length_removed pool.datasets place, plain.few);
  datasets = λ at dataset stands. plain.datasets (skipped place at) dataset (stood_before_removal place pool.datasets at dataset stands);
}

-- a pool with the file at a path changed
pub plain_in_file : (path : Path) (change : PlainFile → PlainFile) (pool : PlainPool) → ((file : PlainFile) → (change file).id ≡ file.id) → ((file : PlainFile) → (change file).name ≡ file.name)
    → ((file : PlainFile) → IsPlainFile file → IsPlainFile (change file)) → ((file : PlainFile) → file.size ≤ most_bytes pool → (change file).size ≤ most_bytes pool) → IsPlain pool → IsPlain (in_file path change pool)
plain_in_file path change pool keeps_id keeps_name keeps_plain keeps_short plain =
    plain_in_dataset path.dataset (in_files path.file change) pool (λ d. refl) (λ d. refl) (λ d stands is. plain_in_files (most_files pool) (most_bytes pool) path.file change d keeps_id keeps_name keeps_plain keeps_short is) plain

-- the pool that comes of an answer
abbrev pub next_of : PlainPool → Result (Reply × PlainPool) Refusal → PlainPool
next_of pool given = (settled pool given).1

-- each command leads to a plain pool
plain_after_mkds : (dataset : List ℕ) (pool : PlainPool) → IsPlain pool → IsPlain (next_of pool (mkds dataset pool))
unfolding mkds
plain_after_mkds dataset pool plain =
    after_test (λ r. IsPlain (next_of pool r)) (is_some (dataset_place dataset pool)) Eexist _ plain
    (λ missing. after_test (λ r. IsPlain (next_of pool r)) (nat_lt most_datasets (length pool.datasets + 1)) _ _ plain
    (λ few. plain_with_dataset dataset pool plain missing (ltb-false most_datasets (length pool.datasets + 1) few)))

plain_after_create : (dataset file : List ℕ) (pool : PlainPool) → IsPlain pool → IsPlain (next_of pool (create dataset file pool))
unfolding create
plain_after_create dataset file pool plain =
    after_found (λ r. IsPlain (next_of pool r)) (dataset_of dataset pool) _ (λ refusal. plain)
    (λ place found. after_test (λ r. IsPlain (next_of pool r)) (is_some (file_place file (dataset_at place pool))) Eexist _ plain
    (λ missing. after_test (λ r. IsPlain (next_of pool r)) (nat_lt (most_files pool) (length (dataset_at place pool).files + 1)) _ _ plain
    (λ few. plain_in_dataset place (with_new_file file) pool (λ d. refl) (λ d. refl)
    (λ d stands is.
    let same = dataset_there pool place d stands in
    plain_with_file (most_files pool) (most_bytes pool) file d is (rw same at missing) (ltb-false (most_files pool) (length d.files + 1) (rw same at few)))
    plain)))

plain_after_rmds : (dataset : List ℕ) (pool : PlainPool) → IsPlain pool → IsPlain (next_of pool (rmds dataset pool))
unfolding rmds
plain_after_rmds dataset pool plain =
    after_found (λ r. IsPlain (next_of pool r)) (dataset_of dataset pool) _ (λ refusal. plain) (λ place found. plain_without_dataset place pool plain)

plain_after_mount : (dataset : List ℕ) (pool : PlainPool) → IsPlain pool → IsPlain (next_of pool (mount dataset pool))
unfolding mount
plain_after_mount dataset pool plain =
    after_found (λ r. IsPlain (next_of pool r)) (dataset_of dataset pool) _ (λ refusal. plain) (λ place found. plain)

plain_after_remove : (dataset file : List ℕ) (pool : PlainPool) → IsPlain pool → IsPlain (next_of pool (remove dataset file pool))
unfolding remove
plain_after_remove dataset file pool plain =
    after_found (λ r. IsPlain (next_of pool r)) (path_of dataset file pool) _ (λ refusal. plain)
    (λ path found. plain_in_dataset path.dataset (without_file path.file) pool (λ d. refl) (λ d. refl) (λ d stands is. plain_without_file (most_files pool) (most_bytes pool) path.file d is) plain)

-- where a file has room for bytes, they end within its limit
pub ends_within : (offset len : ℕ) (path : Path) (pool : PlainPool) (done : Unit {0}) → room_in_file offset len path pool ≡ Ok done → offset + len ≤ most_bytes pool
unfolding room_in_file
ends_within offset len path pool done room =
    ⊎_elim
    (λ (long : nat_lt (most_bytes pool) (offset + len) ≡ true). refused _ done (rw long at room))
    (λ (short : nat_lt (most_bytes pool) (offset + len) ≡ false). ltb-false (most_bytes pool) (offset + len) short)
    (cases_Bool (nat_lt (most_bytes pool) (offset + len)))
  where
    room_of : Unit {0} → Result (Unit {0}) Refusal
    room_of done = Ok done

    refused : {A : Type 0} (refusal : Refusal) (done : Unit {0}) → Err refusal ≡ room_of done → A
    refused refusal done e = cc

-- what holds after the refusals of a write for want of room
pub after_put_within : (P : Result (Reply × PlainPool) Refusal → Type 0) (number : ℕ) (path : Path) (offset : ℕ) (bytes : List ℕ) (tally : Tally) (pool : PlainPool) → ((refusal : Refusal) → P (Err refusal))
    → P (Ok (Count 0, pool)) → (offset + length bytes ≤ most_bytes pool → P (Ok (Count (length bytes), in_file path (written number offset bytes) pool))) → P (put number path offset bytes tally pool)
unfolding put put_some
after_put_within P number path offset bytes tally pool refused none some =
    ⊎_elim
    (λ (empty : (length bytes == 0) ≡ true). rw empty none)
    (λ (full : (length bytes == 0) ≡ false).
    rw full (after_found P (room_in_file offset (length bytes) path pool) _ refused
    (λ done room. after_found P (refuse_charge (blocks_touched tally offset (length bytes) path pool) tally pool) _ refused
    (λ _ free. some (ends_within offset (length bytes) path pool done room)))))
    (cases_Bool (length bytes == 0))

pub after_put : (P : Result (Reply × PlainPool) Refusal → Type 0) (number : ℕ) (path : Path) (offset : ℕ) (bytes : List ℕ) (tally : Tally) (pool : PlainPool) → ((refusal : Refusal) → P (Err refusal))
    → P (Ok (Count 0, pool)) → P (Ok (Count (length bytes), in_file path (written number offset bytes) pool)) → P (put number path offset bytes tally pool)
after_put P number path offset bytes tally pool refused none some = after_put_within P number path offset bytes tally pool refused none (λ within. some)

-- a file into which bytes are written ends where it did, or where they do
pub short_once_written : (most number offset : ℕ) (bytes : List ℕ) (file : PlainFile) → file.size ≤ most → offset + length bytes ≤ most → (written number offset bytes file).size ≤ most
short_once_written most number offset bytes file before within = omega (arith, size_of_written number offset bytes file)

pub short_once_truncated : (most number size : ℕ) (file : PlainFile) → size ≤ most → (truncated number size file).size ≤ most
short_once_truncated most number size file within = omega (arith, size_of_truncated number size file)

plain_after_write : (number : ℕ) (dataset file : List ℕ) (offset : ℕ) (bytes : List ℕ) (tally : Tally) (pool : PlainPool) → IsPlain pool → IsPlain (next_of pool (write number dataset file offset bytes tally pool))
unfolding write
plain_after_write number dataset file offset bytes tally pool plain =
    after_found (λ r. IsPlain (next_of pool r)) (path_of dataset file pool) _ (λ refusal. plain)
    (λ path found. after_put_within (λ r. IsPlain (next_of pool r)) number path offset bytes tally pool (λ refusal. plain) plain
    (λ within. plain_in_file path (written number offset bytes) pool (id_of_written number offset bytes) (name_of_written number offset bytes) (plain_once_written number offset bytes)
    (λ file before. short_once_written (most_bytes pool) number offset bytes file before within) plain))

plain_after_fill : (number : ℕ) (dataset file : List ℕ) (offset len byte : ℕ) (tally : Tally) (pool : PlainPool) → IsPlain pool → IsPlain (next_of pool (fill number dataset file offset len byte tally pool))
unfolding fill
plain_after_fill number dataset file offset len byte tally pool plain = plain_after_write number dataset file offset (replicate len byte) tally pool plain

plain_after_truncate : (number : ℕ) (dataset file : List ℕ) (size : ℕ) (tally : Tally) (pool : PlainPool) → IsPlain pool → IsPlain (next_of pool (truncate number dataset file size tally pool))
unfolding truncate
plain_after_truncate number dataset file size tally pool plain =
    after_found (λ r. IsPlain (next_of pool r)) (path_of dataset file pool) _ (λ refusal. plain)
    (λ path found. after_test (λ r. IsPlain (next_of pool r)) (nat_lt (most_bytes pool) size) _ _ plain
    (λ short. after_found (λ r. IsPlain (next_of pool r)) (refuse_charge (blocks_trimmed tally size path pool) tally pool) _ (λ refusal. plain)
    (λ _ free. plain_in_file path (truncated number size) pool (id_of_truncated number size) (name_of_truncated number size) (plain_once_truncated number size)
    (λ file before. short_once_truncated (most_bytes pool) number size file (ltb-false (most_bytes pool) size short)) plain)))

plain_after_read : (dataset file : List ℕ) (offset len : ℕ) (pool : PlainPool) → IsPlain pool → IsPlain (next_of pool (read dataset file offset len pool))
unfolding read
plain_after_read dataset file offset len pool plain =
    after_found (λ r. IsPlain (next_of pool r)) (path_of dataset file pool) _ (λ refusal. plain) (λ path found. after_test (λ r. IsPlain (next_of pool r)) (nat_lt most_read len) _ _ plain (λ short. plain))

plain_after_stat : (dataset file : List ℕ) (pool : PlainPool) → IsPlain pool → IsPlain (next_of pool (stat dataset file pool))
unfolding stat
plain_after_stat dataset file pool plain =
    after_found (λ r. IsPlain (next_of pool r)) (path_of dataset file pool) _ (λ refusal. plain) (λ path found. plain)

plain_after_named : (number : ℕ) (tally : Tally) (pool : PlainPool) (command : Command) → IsPlain pool → IsPlain (next_of pool (named_answer number tally pool command))
plain_after_named number tally pool (Mkds dataset) plain = plain_after_mkds dataset pool plain
plain_after_named number tally pool (Rmds dataset) plain = plain_after_rmds dataset pool plain
plain_after_named number tally pool (Mount dataset) plain = plain_after_mount dataset pool plain
plain_after_named number tally pool (Create dataset file) plain = plain_after_create dataset file pool plain
plain_after_named number tally pool (Remove dataset file) plain = plain_after_remove dataset file pool plain
plain_after_named number tally pool (Write dataset file offset bytes) plain = plain_after_write number dataset file offset bytes tally pool plain
plain_after_named number tally pool (Fill dataset file offset len byte) plain = plain_after_fill number dataset file offset len byte tally pool plain
plain_after_named number tally pool (Truncate dataset file size) plain = plain_after_truncate number dataset file size tally pool plain
plain_after_named number tally pool (Read dataset file offset len) plain = plain_after_read dataset file offset len pool plain
plain_after_named number tally pool (Stat dataset file) plain = plain_after_stat dataset file pool plain
plain_after_named number tally pool Commit plain = plain

pub plain_after : (number : ℕ) (tally : Tally) (pool : PlainPool) (command : Command) → IsPlain pool → IsPlain (next_of pool (answer number tally pool command))
unfolding answer
plain_after number tally pool command plain =
    after_found (λ r. IsPlain (next_of pool r)) (refuse_long command) _ (λ refusal. plain) (λ _ short. plain_after_named number tally pool command plain)

-- what stands at a place of a plain pool is plain
pub plain_dataset_at : (pool : PlainPool) (place : ℕ) → IsPlain pool → IsPlainDataset (most_files pool) (most_bytes pool) (dataset_at place pool)
unfolding dataset_at
plain_dataset_at pool place plain = either (slice_get pool.datasets place) refl
  where
    either : (found : Option PlainDataset) → slice_get pool.datasets place ≡ found → IsPlainDataset (most_files pool) (most_bytes pool) (unwrap_or found (new_dataset 0 []))
    either None missing = plain_new_dataset (most_files pool) (most_bytes pool) 0 []
    either (Some dataset) stands = plain.datasets place dataset stands

pub plain_file_at : (pool : PlainPool) (path : Path) → IsPlain pool → IsPlainFile (file_at path pool)
unfolding file_at
plain_file_at pool path plain = either (slice_get (dataset_at path.dataset pool).files path.file) refl
  where
    either : (found : Option PlainFile) → slice_get (dataset_at path.dataset pool).files path.file ≡ found → IsPlainFile (unwrap_or found (new_file 0 []))
    either None missing = plain_new_file 0 []
    either (Some file) stands = (plain_dataset_at pool path.dataset plain).files path.file file stands
