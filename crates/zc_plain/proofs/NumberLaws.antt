-- No number is given twice: what a command finds keeps its number, and what it makes has one that was never given.
use Rattle.std.proofs.Common.{◌≡◌, ℕ, ◌+◌, nat_lt, List, length, Result, inl, inr, refl, sym, ap, subst, ◌∙◌, ⊎_elim, arith}
use Rattle.std.specs.Prelude.{is_some, replicate}
use Rattle.zc_command.specs.declared.command.Command.{Command}
use Rattle.zc_command.specs.declared.command.Command.TheVariants.{Mkds, Rmds, Mount, Create, Remove, Write, Fill, Truncate, Read, Stat, Commit}
use Rattle.zc_command.specs.declared.refusal.Refusal.{Refusal}
use Rattle.zc_command.specs.declared.refusal.Refusal.TheVariants.{Eexist}
use Rattle.zc_command.specs.declared.reply.Reply.{Reply}
use Rattle.zc_plain.specs.declared.plain_pool.PlainFile.{PlainFile}
use Rattle.zc_plain.specs.declared.plain_pool.PlainDataset.{PlainDataset}
use Rattle.zc_plain.specs.declared.plain_pool.PlainPool.{PlainPool}
use Rattle.zc_plain.specs.PlainPool.{new_file, new_dataset, dataset_at, with_new_dataset, with_new_file, without_dataset, without_file, in_dataset, in_files}
use Rattle.zc_plain.specs.declared.tally.Tally.{Tally}
use Rattle.zc_plain.specs.Written.{written}
use Rattle.zc_plain.specs.Truncated.{truncated}
use Rattle.zc_plain.specs.IsPlain.{StandsAt}
use Rattle.zc_plain.specs.Promises.{LivesOn, GivesNoNumberTwice}
use Rattle.zc_plain.specs.Answer.{refuse_long, refuse_end, refuse_charge, blocks_trimmed, most_datasets, most_files, most_read, dataset_place, file_place, dataset_of, path_of, mkds, rmds, mount, create, remove, write, fill, truncate, read, stat, named_answer, answer}
use Rattle.zc_plain.proofs.NumberedLaws.{stood_or_new, stood_or_changed, stood_before_removal, skipped}
use Rattle.zc_plain.proofs.PlainLaws.{after_test, after_found, after_put, next_of}
use Rattle.zc_plain.proofs.WrittenLaws.{id_of_written, name_of_written}
use Rattle.zc_plain.proofs.TruncatedLaws.{id_of_truncated, name_of_truncated}

-- a dataset that stays as it is
lives_on : (dataset : PlainDataset) → LivesOn dataset dataset
lives_on dataset = record { number = refl; name = refl; next = omega arith; files = λ place file stands. inl (place, file, stands, refl, refl) }

-- a pool that stays as it is
pub unchanged : (pool : PlainPool) → GivesNoNumberTwice pool pool
unchanged pool = record { next = omega arith; datasets = λ place dataset stands. inl (place, dataset, stands, lives_on dataset) }

-- a dataset with a new file
with_file : (name : List ℕ) (dataset : PlainDataset) → LivesOn dataset (with_new_file name dataset)
with_file name dataset = record {
  number = refl;
  name = refl;
  next = omega arith;
  files = λ place file stands.
      ⊎_elim (λ (before : StandsAt dataset.files place file). inl (place, file, before, refl, refl))
      (λ (new : (place ≡ length dataset.files) × (file ≡ new_file dataset.next_file name)). let is = ap (λ (f : PlainFile). f.id) new.1 in inr (omega arith))
      (stood_or_new dataset.files (new_file dataset.next_file name) place file stands);
}

-- a dataset with a file changed
with_change : (at : ℕ) (change : PlainFile → PlainFile) (dataset : PlainDataset) → ((file : PlainFile) → (change file).id ≡ file.id) → ((file : PlainFile) → (change file).name ≡ file.name) → LivesOn dataset (in_files at change dataset)
with_change at change dataset keeps_id keeps_name = record {
  number = refl;
  name = refl;
  next = omega arith;
  files = λ place file stands.
      let was = stood_or_changed change at dataset.files place file stands in
      ⊎_elim (λ (same : file ≡ was.0). inl (place, was.0, was.1, sym (ap (λ (f : PlainFile). f.id) same), sym (ap (λ (f : PlainFile). f.name) same)))
      (λ (changed : (place ≡ at) × (file ≡ change was.0)).
      inl (place, was.0, was.1, sym (ap (λ (f : PlainFile). f.id) changed.1 ∙ keeps_id was.0), sym (ap (λ (f : PlainFile). f.name) changed.1 ∙ keeps_name was.0)))
      was.2;
}

-- a pool with a new dataset
with_dataset : (name : List ℕ) (pool : PlainPool) → GivesNoNumberTwice pool (with_new_dataset name pool)
with_dataset name pool = record {
  next = omega arith;
  datasets = λ place dataset stands.
      ⊎_elim (λ (before : StandsAt pool.datasets place dataset). inl (place, dataset, before, lives_on dataset))
      (λ (new : (place ≡ length pool.datasets) × (dataset ≡ new_dataset pool.next_dataset name)). let is = ap (λ (d : PlainDataset). d.id) new.1 in inr (omega arith))
      (stood_or_new pool.datasets (new_dataset pool.next_dataset name) place dataset stands);
}

-- a pool with a dataset changed
in_place : (at : ℕ) (change : PlainDataset → PlainDataset) (pool : PlainPool) → ((dataset : PlainDataset) → LivesOn dataset (change dataset)) → GivesNoNumberTwice pool (in_dataset at change pool)
in_place at change pool lives = record {
  next = omega arith;
  datasets = λ place dataset stands.
      let was = stood_or_changed change at pool.datasets place dataset stands in
      ⊎_elim (λ (same : dataset ≡ was.0). inl (place, was.0, was.1, subst (LivesOn was.0) (sym same) (lives_on was.0)))
      (λ (changed : (place ≡ at) × (dataset ≡ change was.0)). inl (place, was.0, was.1, subst (LivesOn was.0) (sym changed.1) (lives was.0)))
      was.2;
}

-- a dataset without a file
less_file : (at : ℕ) (dataset : PlainDataset) → LivesOn dataset (without_file at dataset)
less_file at dataset = record {
  number = refl;
  name = refl;
  next = omega arith;
  files = λ place file stands. inl (skipped at place, file, stood_before_removal at dataset.files place file stands, refl, refl);
}

-- a pool without a dataset
less_dataset : (at : ℕ) (pool : PlainPool) → GivesNoNumberTwice pool (without_dataset at pool)
less_dataset at pool = record {
  next = omega arith;
  datasets = λ place dataset stands. inl (skipped at place, dataset, stood_before_removal at pool.datasets place dataset stands, lives_on dataset);
}

-- a pool with bytes written into a file
after_written : (number : ℕ) (dataset file : List ℕ) (offset : ℕ) (bytes : List ℕ) (tally : Tally) (pool : PlainPool) → GivesNoNumberTwice pool (next_of pool (write number dataset file offset bytes tally pool))
unfolding write
after_written number dataset file offset bytes tally pool =
    let P = λ (r : Result (Reply × PlainPool) Refusal). GivesNoNumberTwice pool (next_of pool r) in
    after_found P (path_of dataset file pool) _ (λ refusal. unchanged pool)
    (λ path found. after_put P number path offset bytes tally pool (λ refusal. unchanged pool) (unchanged pool)
    (in_place path.dataset (in_files path.file (written number offset bytes)) pool (λ d. with_change path.file (written number offset bytes) d (id_of_written number offset bytes) (name_of_written number offset bytes))))

no_number_twice_named : (number : ℕ) (tally : Tally) (pool : PlainPool) (command : Command) → GivesNoNumberTwice pool (next_of pool (named_answer number tally pool command))
unfolding mkds rmds mount create remove fill truncate read stat
no_number_twice_named number tally pool (Mkds dataset) =
    let P = λ (r : Result (Reply × PlainPool) Refusal). GivesNoNumberTwice pool (next_of pool r) in
    after_test P (is_some (dataset_place dataset pool)) Eexist _ (unchanged pool)
    (λ missing. after_test P (nat_lt most_datasets (length pool.datasets + 1)) _ _ (unchanged pool) (λ few. with_dataset dataset pool))
no_number_twice_named number tally pool (Rmds dataset) =
    after_found (λ (r : Result (Reply × PlainPool) Refusal). GivesNoNumberTwice pool (next_of pool r)) (dataset_of dataset pool) _ (λ refusal. unchanged pool) (λ place found. less_dataset place pool)
no_number_twice_named number tally pool (Mount dataset) =
    after_found (λ (r : Result (Reply × PlainPool) Refusal). GivesNoNumberTwice pool (next_of pool r)) (dataset_of dataset pool) _ (λ refusal. unchanged pool) (λ place found. unchanged pool)
no_number_twice_named number tally pool (Create dataset file) =
    let P = λ (r : Result (Reply × PlainPool) Refusal). GivesNoNumberTwice pool (next_of pool r) in
    after_found P (dataset_of dataset pool) _ (λ refusal. unchanged pool)
    (λ place found. after_test P (is_some (file_place file (dataset_at place pool))) Eexist _ (unchanged pool)
    (λ missing. after_test P (nat_lt (most_files pool) (length (dataset_at place pool).files + 1)) _ _ (unchanged pool)
    (λ few. in_place place (with_new_file file) pool (with_file file))))
no_number_twice_named number tally pool (Remove dataset file) =
    after_found (λ (r : Result (Reply × PlainPool) Refusal). GivesNoNumberTwice pool (next_of pool r)) (path_of dataset file pool) _ (λ refusal. unchanged pool)
    (λ path found. in_place path.dataset (without_file path.file) pool (less_file path.file))
no_number_twice_named number tally pool (Write dataset file offset bytes) = after_written number dataset file offset bytes tally pool
no_number_twice_named number tally pool (Fill dataset file offset len byte) = after_written number dataset file offset (replicate len byte) tally pool
no_number_twice_named number tally pool (Truncate dataset file size) =
    let P = λ (r : Result (Reply × PlainPool) Refusal). GivesNoNumberTwice pool (next_of pool r) in
    after_found P (path_of dataset file pool) _ (λ refusal. unchanged pool)
    (λ path found. after_found P (refuse_end size pool) _ (λ refusal. unchanged pool)
    (λ _ short. after_found P (refuse_charge (blocks_trimmed tally size path pool) tally pool) _ (λ refusal. unchanged pool)
    (λ _ free. in_place path.dataset (in_files path.file (truncated number size)) pool (λ d. with_change path.file (truncated number size) d (id_of_truncated number size) (name_of_truncated number size)))))
no_number_twice_named number tally pool (Read dataset file offset len) =
    let P = λ (r : Result (Reply × PlainPool) Refusal). GivesNoNumberTwice pool (next_of pool r) in
    after_found P (path_of dataset file pool) _ (λ refusal. unchanged pool) (λ path found. after_test P (nat_lt most_read len) _ _ (unchanged pool) (λ short. unchanged pool))
no_number_twice_named number tally pool (Stat dataset file) =
    after_found (λ (r : Result (Reply × PlainPool) Refusal). GivesNoNumberTwice pool (next_of pool r)) (path_of dataset file pool) _ (λ refusal. unchanged pool) (λ path found. unchanged pool)
no_number_twice_named number tally pool Commit = unchanged pool

-- no command gives a number twice
pub no_number_twice : (number : ℕ) (tally : Tally) (pool : PlainPool) (command : Command) → GivesNoNumberTwice pool (next_of pool (answer number tally pool command))
unfolding answer
no_number_twice number tally pool command =
    after_found (λ r. GivesNoNumberTwice pool (next_of pool r)) (refuse_long command) _ (λ refusal. unchanged pool) (λ _ short. no_number_twice_named number tally pool command)
