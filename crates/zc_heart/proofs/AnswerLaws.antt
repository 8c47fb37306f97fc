-- A heart answers as the plain pool does that it stands for.
use Rattle.std.proofs.Common.{◌≡◌, ℕ, ◌+◌, ◌/◌, ◌==◌, nat_lt, Bool, true, false, List, [], length, replicate, map, Result, Ok, Err, refl, sym, ap, subst, ◌∙◌, ⊎_elim, arith}
use Rattle.std.specs.Prelude.{is_some, count_by, not, IfOk, OnErr, if◌then◌else◌}
use Rattle.std.specs.Str.{bytes_eq}
use Rattle.std.specs.declared.alloc.AllocError.{AllocError}
use Rattle.std.proofs.lemmas.Bool.{cases_Bool, false≢true}
use Rattle.std.proofs.lemmas.List.{length-map, length-replicate}
use Rattle.zc_num.specs.Words.{change_at}
use Rattle.zc_num.proofs.Each.{each_none, each_same}
use Rattle.zc_command.specs.declared.command.Command.{Command}
use Rattle.zc_command.specs.declared.command.Command.TheVariants.{Mkds, Rmds, Mount, Create, Remove, Write, Fill, Truncate, Read, Stat, Commit}
use Rattle.zc_command.specs.declared.refusal.What.TheVariants as what
use Rattle.zc_command.specs.declared.refusal.Part.TheVariants as part
use Rattle.zc_command.specs.declared.refusal.Why.TheVariants as why
use Rattle.zc_command.specs.declared.refusal.Bad.TheVariants as bad
use Rattle.zc_command.specs.declared.refusal.Refusal.{Refusal}
use Rattle.zc_command.specs.declared.refusal.Refusal.TheVariants.{Enoent, Ebusy, Eexist, Einval, Enospc}
use Rattle.zc_command.specs.declared.reply.Reply.{Reply}
use Rattle.zc_command.specs.declared.reply.Reply.TheVariants.{Done, Count, Data, Size, No}
use Rattle.zc_plain.specs.declared.finding.Path.{Path}
use Rattle.zc_plain.specs.declared.plain_pool.PlainFile.{PlainFile}
use Rattle.zc_plain.specs.declared.plain_pool.PlainDataset.{PlainDataset}
use Rattle.zc_plain.specs.declared.plain_pool.PlainPool.{PlainPool}
use Rattle.zc_plain.specs.declared.tally.MadeBlock.{MadeBlock}
use Rattle.zc_plain.specs.declared.tally.Tally.{Tally}
use Rattle.zc_plain.specs.PlainPool.{byte_of, bytes_from, made_count, dataset_at, file_at, with_new_file, without_dataset, without_file, in_dataset, in_files, in_file}
use Rattle.zc_plain.specs.Putting.{first_touched, touched_count}
use Rattle.zc_plain.specs.Written.{written}
use Rattle.zc_plain.specs.Truncated.{is_trimmed, truncated}
use Rattle.zc_plain.specs.Charge.{blocks_made, with_blocks, charge_of}
use Rattle.zc_plain.specs.IsPlain.{StandsAt, IsPlain}
use Rattle.zc_plain.specs.Answer.{◌>>=◌, refuse_if, refuse_length, refuse_long, refuse_end, refuse_pointers, most_datasets, most_files, most_charge, most_read, file_place, path_of, blocks_touched, blocks_trimmed, blocks_on, blocks_put, blocks_of_command, holes_touched, counted, settled}
use Rattle.zc_plain.specs.Answer as answer
use Rattle.zc_heart.specs.declared.file.HeartFile.{HeartFile}
use Rattle.zc_heart.specs.declared.directory.Named.{Named}
use Rattle.zc_heart.specs.declared.dataset.Spot.{Spot}
use Rattle.zc_heart.specs.declared.pool_core.HeartDataset.{HeartDataset}
use Rattle.zc_heart.specs.declared.pool_core.Core.{Core}
use Rattle.zc_heart.specs.Directory.{id_of, id_called, is_called}
use Rattle.zc_heart.specs.Changes.{change_by, without}
use Rattle.zc_heart.specs.Core.{plain_file, plain_dataset, plain_blocks, pool_of, charge, made_now, is_made, Agrees, IsHeartFile, IsDatasetOfCore, IsCore}
use Rattle.zc_heart.specs.File.{bare, unmade_in}
use Rattle.zc_heart.specs.Meaning.{Replies, Commands, is_data}
use Rattle.zc_heart.specs.Deeds.{dataset_index, dataset_of, files_in, spot_of, file_on, said_of, blocks_on as blocks_on_spot, bytes_on, size_on, made_on, unmade_on, trimmed_count, trimmed_on, pointers_at, Deed, number_of, with_file_changed, without_numbered, pool_after_command, last_later, blocks_there, blocks_by, Becomes, Does, IsLeft, Gives, mkds, rmds, mount, create, remove, room_in_file, refuse_charge, put_some, put, write, truncate, read, stat, named_answer}
use Rattle.zc_heart.specs.Deeds as deeds
use Rattle.zc_heart.specs.Deeds.{Nothing, AddDataset, DropDataset, AddFile, DropFile, PutBytes, SetSize}
use Rattle.zc_heart.proofs.Listing.{holds_there, stands_in_map, FindsAt, FindsNone, finds, changed_to, changed_by_number, taken_by_number, Ascend}
use Rattle.zc_heart.proofs.Charged.{fresh, length_more}
use Rattle.zc_heart.proofs.Spots.{place_same, dataset_same, dataset_is, files_are, dataset_is_plain, files_ascend, IsAt, SamePath, file_place_same, paths_same, file_is, file_on_is}
use Rattle.zc_heart.proofs.OtherSteps.{nothing_more}

-- ---- two answers that are alike

-- the one says what the plain pool gives, and which blocks are made; the other what the heart does
abbrev pub Same : Tally → Core → Result (Reply × PlainPool) Refusal → List MadeBlock → Result (Reply × Deed) Refusal → Type 0
Same tally core (Ok done) blocks (Ok does) = (done.0 ≡ does.0) × (done.1 ≡ pool_after_command does.1 (pool_of core)) × (blocks ≡ blocks_by tally does.1 core)
Same tally core (Ok done) blocks (Err refusal) = ⊥
Same tally core (Err refusal) blocks (Ok does) = ⊥
Same tally core (Err refusal) blocks (Err other) = refusal ≡ other

-- after one test, and after two that are equal
same_after_test : (tally : Tally) (core : Core) (blocks : List MadeBlock) (test : Bool) (refusal : Refusal) (next : Result (Reply × PlainPool) Refusal) (other : Result (Reply × Deed) Refusal) → (test ≡ false → Same tally core next blocks other)
    → Same tally core (refuse_if test refusal >>= (λ _. next)) blocks (refuse_if test refusal >>= (λ _. other))
same_after_test tally core blocks true refusal next other goes = refl
same_after_test tally core blocks false refusal next other goes = goes refl

same_after : (tally : Tally) (core : Core) (blocks : List MadeBlock) (test : Result (Unit {0}) Refusal) (next : Result (Reply × PlainPool) Refusal) (other : Result (Reply × Deed) Refusal) → Same tally core next blocks other
    → Same tally core (test >>= (λ _. next)) blocks (test >>= (λ _. other))
same_after tally core blocks (Ok done) next other goes = goes
same_after tally core blocks (Err refusal) next other goes = refl

-- ---- what is found

-- a dataset is found, or none is
dataset_cases : (name : List ℕ) (core : Core) (P : Result ℕ Refusal → Type 0) → ((refusal : Refusal) → P (Err refusal)) → ((place : ℕ) (d : HeartDataset) → StandsAt core.datasets place d → P (Ok place)) → P (dataset_of name core)
unfolding dataset_of dataset_index
dataset_cases name core P refused found =
    ⊎_elim
    (λ (one : FindsAt (λ (d : HeartDataset). bytes_eq d.name name) 0 core.datasets).
    let at_is : 0 + one.at ≡ one.at = omega arith in
    rw (one.place, at_is) (found one.at one.item one.stands))
    (λ (none : FindsNone (λ (d : HeartDataset). bytes_eq d.name name) 0 core.datasets). rw none.place (refused (Enoent part.Dataset)))
    (finds (λ (d : HeartDataset). bytes_eq d.name name) 0 core.datasets)

-- a file is found, or none is
path_cases : (dataset file : List ℕ) (core : Core) → IsPlain (pool_of core) → (P : Result Path Refusal → Result Spot Refusal → Type 0) → ((refusal : Refusal) → P (Err refusal) (Err refusal))
    → ((path : Path) (spot : Spot) → IsAt path spot core → P (Ok path) (Ok spot)) → P (path_of dataset file (pool_of core)) (spot_of dataset file core)
path_cases dataset file core plain P refused found = either (path_of dataset file (pool_of core)) (spot_of dataset file core) (paths_same dataset file core plain)
  where
    either : (path : Result Path Refusal) (spot : Result Spot Refusal) → SamePath path spot core → P path spot
    either (Ok path) (Ok spot) same = found path spot same
    either (Ok path) (Err refusal) same = absurd same
    either (Err refusal) (Ok spot) same = absurd same
    either (Err refusal) (Err other) same = subst (λ (r : Refusal). P (Err refusal) (Err r)) same (refused refusal)

-- a name is there in both, or in neither
name_same : (name : List ℕ) (dataset : HeartDataset) → is_some (file_place name (plain_dataset dataset)) ≡ is_some (id_called name dataset.files)
name_same name dataset =
    ⊎_elim
    (λ (one : FindsAt (is_called name) 0 dataset.files). rw (file_place_same name dataset, one.place, one.found) refl)
    (λ (none : FindsNone (is_called name) 0 dataset.files). rw (file_place_same name dataset, none.place, none.found) refl)
    (finds (is_called name) 0 dataset.files)

-- ---- one file of the pool, by its path and by its spot

module _ (path : Path) (spot : Spot) (core : Core) (is : IsCore core) (at : IsAt path spot core) where
  the_dataset : dataset_at path.dataset (pool_of core) ≡ plain_dataset at.dataset
  the_dataset = dataset_is core path.dataset at.dataset at.stands

  the_file : file_at path (pool_of core) ≡ plain_file at.file
  the_file = file_is path spot core at

  said : {X : Type 0} (other : X) (say : HeartFile → X) → said_of other say (file_on spot core) ≡ say at.file.value
  said other say = ap (said_of other say) (file_on_is path spot core at)

  is_dataset : IsDatasetOfCore at.dataset
  is_dataset = holds_there IsDatasetOfCore core.datasets path.dataset at.dataset is.datasets at.stands

  is_file : IsHeartFile at.file.value
  is_file = holds_there (λ (n : Named HeartFile). IsHeartFile n.value) at.dataset.files path.file at.file is_dataset.files at.there

  files_ascend_here : Ascend id_of at.dataset.files
  files_ascend_here = files_ascend (most_files (pool_of core)) (answer.most_bytes (pool_of core)) at.dataset (dataset_is_plain core path.dataset at.dataset is.plain at.stands)

  plain_ascends : Ascend number_of (map plain_file at.dataset.files)
  plain_ascends = (dataset_is_plain core path.dataset at.dataset is.plain at.stands).numbered.ascending

  -- the pool with the file changed, and without it
  pub changed_same : (change : PlainFile → PlainFile) → in_file path change (pool_of core) ≡ in_dataset spot.place (with_file_changed spot.id change) (pool_of core)
  changed_same change =
      let stands = stands_in_map plain_dataset core.datasets path.dataset at.dataset at.stands in
      let there = stands_in_map plain_file at.dataset.files path.file at.file at.there in
      let files : change_at change path.file (map plain_file at.dataset.files) ≡ change_by number_of spot.id change (map plain_file at.dataset.files) =
      sym (changed_by_number number_of change (map plain_file at.dataset.files) path.file (plain_file at.file) plain_ascends there)
      ∙ ap (λ (id : ℕ). change_by number_of id change (map plain_file at.dataset.files)) (sym at.id) in
      let datasets : change_at (in_files path.file change) path.dataset (map plain_dataset core.datasets) ≡ change_at (with_file_changed spot.id change) path.dataset (map plain_dataset core.datasets) =
      changed_to (in_files path.file change) path.dataset (map plain_dataset core.datasets) (plain_dataset at.dataset) stands
      ∙ ap (λ (fs : List PlainFile). change_at (λ _. record { id = at.dataset.id; name = at.dataset.name; next_file = at.dataset.next_file; files = fs }) path.dataset (map plain_dataset core.datasets)) files
      ∙ sym (changed_to (with_file_changed spot.id change) path.dataset (map plain_dataset core.datasets) (plain_dataset at.dataset) stands) in
      ap (λ (ds : List PlainDataset). record { limits = core.limits; next_dataset = core.next_dataset; datasets = ds }) datasets
      ∙ ap (λ (place : ℕ). in_dataset place (with_file_changed spot.id change) (pool_of core)) (sym at.place)

  removed_same : in_dataset path.dataset (without_file path.file) (pool_of core) ≡ in_dataset spot.place (without_numbered spot.id) (pool_of core)
  removed_same =
      let stands = stands_in_map plain_dataset core.datasets path.dataset at.dataset at.stands in
      let there = stands_in_map plain_file at.dataset.files path.file at.file at.there in
      let files =
      sym (taken_by_number number_of (map plain_file at.dataset.files) path.file (plain_file at.file) plain_ascends there)
      ∙ ap (λ (id : ℕ). without number_of id (map plain_file at.dataset.files)) (sym at.id) in
      let datasets : change_at (without_file path.file) path.dataset (map plain_dataset core.datasets) ≡ change_at (without_numbered spot.id) path.dataset (map plain_dataset core.datasets) =
      changed_to (without_file path.file) path.dataset (map plain_dataset core.datasets) (plain_dataset at.dataset) stands
      ∙ ap (λ (fs : List PlainFile). change_at (λ _. record { id = at.dataset.id; name = at.dataset.name; next_file = at.dataset.next_file; files = fs }) path.dataset (map plain_dataset core.datasets)) files
      ∙ sym (changed_to (without_numbered spot.id) path.dataset (map plain_dataset core.datasets) (plain_dataset at.dataset) stands) in
      ap (λ (ds : List PlainDataset). record { limits = core.limits; next_dataset = core.next_dataset; datasets = ds }) datasets
      ∙ ap (λ (place : ℕ). in_dataset place (without_numbered spot.id) (pool_of core)) (sym at.place)

  -- the room that there is
  room_same : (offset len : ℕ) → answer.room_in_file offset len path (pool_of core) ≡ room_in_file offset len spot core
  unfolding answer.room_in_file room_in_file
  room_same offset len =
      let pointers : pointers_at spot.place core ≡ at.dataset.pointers = rw (at.place, at.stands) refl in
      let blocks : blocks_on_spot spot core ≡ plain_blocks at.file.value = said [] plain_blocks in
      rw (the_dataset, the_file, pointers, blocks, is_dataset.pointers) refl

  -- the blocks that are made
  blocks_same : (tally : Tally) (first count : ℕ) → blocks_made tally (dataset_at path.dataset (pool_of core)).id (file_at path (pool_of core)).id first count ≡ blocks_there tally first count spot core
  blocks_same tally first count = rw (at.place, the_file, at.id) refl

  -- the charge
  charge_same : (tally : Tally) (first count : ℕ) → Agrees tally core → charge_of (with_blocks (blocks_there tally first count spot core) tally) ≡ charge core + unmade_on first count spot core
  charge_same tally first count agrees =
      let place : (dataset_at spot.place (pool_of core)).id ≡ at.dataset.id = ap (λ (p : ℕ). (dataset_at p (pool_of core)).id) at.place ∙ ap (λ (d : PlainDataset). d.id) the_dataset in
      let more = length_more tally.made (length tally.sealed) at.dataset.id spot.id first count in
      let unmade = unmade_here tally first count agrees in
      let there = said 0 (unmade_in first count) in
      let whole = agrees.whole in
      let held = agrees.held in
      rw place (omega (arith, more, unmade, there, whole, held))
    where
      unmade_here : (tally : Tally) (first count : ℕ) → Agrees tally core → fresh tally.made (length tally.sealed) at.dataset.id spot.id first count ≡ unmade_in first count at.file.value
      unmade_here tally first count agrees =
          ap (count_by (λ (was : Bool). not was))
          (each_same count (λ k. made_now tally at.dataset.id spot.id (first + k)) (λ k. is_made (first + k) at.file.value)
          (λ k within. ap (λ (id : ℕ). made_now tally at.dataset.id id (first + k)) at.id ∙ sym (agrees.marks path.dataset at.dataset path.file at.file (first + k) at.stands at.there)))

  refuse_same : (tally : Tally) (first count : ℕ) (blocks : List MadeBlock) → blocks ≡ blocks_there tally first count spot core → Agrees tally core
      → answer.refuse_charge blocks tally (pool_of core) ≡ refuse_charge (unmade_on first count spot core) core
  unfolding refuse_charge
  refuse_same tally first count blocks blocks_are agrees =
      let all = ap (λ (bs : List MadeBlock). charge_of (with_blocks bs tally)) blocks_are ∙ charge_same tally first count agrees in
      ap (λ (n : ℕ). refuse_if (nat_lt (most_charge (pool_of core)) n) (Enospc what.Charge n (most_charge (pool_of core)))) all

  -- bytes that are put
  put_same : (number offset : ℕ) (bytes : List ℕ) (tally : Tally) → Agrees tally core
      → Same tally core (answer.put number path offset bytes tally (pool_of core)) (if length bytes == 0 then [] else blocks_touched tally offset (length bytes) path (pool_of core)) (put number spot offset bytes core)
  unfolding answer.put answer.put_some put put_some
  put_same number offset bytes tally agrees =
      let blocks = blocks_same tally (first_touched offset) (touched_count offset (length bytes)) in
      let refused = refuse_same tally (first_touched offset) (touched_count offset (length bytes)) (blocks_touched tally offset (length bytes) path (pool_of core)) blocks agrees in
      ⊎_elim
      (λ (empty : (length bytes == 0) ≡ true). rw empty (refl, refl, refl))
      (λ (full : (length bytes == 0) ≡ false).
      rw (full, room_same offset (length bytes), refused)
      (same_after tally core (blocks_touched tally offset (length bytes) path (pool_of core)) (room_in_file offset (length bytes) spot core) _ _
      (same_after tally core (blocks_touched tally offset (length bytes) path (pool_of core)) (refuse_charge (unmade_on (first_touched offset) (touched_count offset (length bytes)) spot core) core) _ _
      (refl, changed_same (written number offset bytes), blocks))))
      (cases_Bool (length bytes == 0))

  -- a size that is set
  trimmed_same : (size : ℕ) (tally : Tally) → blocks_trimmed tally size path (pool_of core) ≡ blocks_there tally (size / 4096) (trimmed_on size spot core) spot core
  trimmed_same size tally =
      let count = said 0 (trimmed_count size) in
      let blocks = rw the_file at (blocks_same tally (size / 4096) 1) in
      rw (the_file, count)
      (⊎_elim
      (λ (trimmed : is_trimmed at.file.value.size size (plain_blocks at.file.value) (size / 4096) ≡ true). rw trimmed blocks)
      (λ (whole : is_trimmed at.file.value.size size (plain_blocks at.file.value) (size / 4096) ≡ false). rw whole (sym (each_none _)))
      (cases_Bool (is_trimmed at.file.value.size size (plain_blocks at.file.value) (size / 4096))))

-- ---- each command

mkds_same : (dataset : List ℕ) (tally : Tally) (core : Core) → Same tally core (answer.mkds dataset (pool_of core)) [] (mkds dataset core)
unfolding answer.mkds mkds
mkds_same dataset tally core =
    let long : length (map plain_dataset core.datasets) ≡ length core.datasets = length-map core.datasets plain_dataset in
    rw (place_same dataset core, long)
    (same_after_test tally core [] (is_some (dataset_index dataset core)) Eexist _ _
    (λ missing. same_after_test tally core [] (nat_lt most_datasets (length core.datasets + 1)) _ _ _ (λ few. (refl, refl, refl))))

rmds_same : (dataset : List ℕ) (tally : Tally) (core : Core) → Same tally core (answer.rmds dataset (pool_of core)) [] (rmds dataset core)
unfolding answer.rmds rmds
rmds_same dataset tally core =
    rw (dataset_same dataset core)
    (dataset_cases dataset core (λ found. Same tally core (found >>= (λ place. Ok (Done, without_dataset place (pool_of core)))) [] (found >>= (λ place. Ok (Done, DropDataset place))))
    (λ refusal. refl) (λ place d stands. (refl, refl, refl)))

mount_same : (dataset : List ℕ) (tally : Tally) (core : Core) → Same tally core (answer.mount dataset (pool_of core)) [] (mount dataset core)
unfolding answer.mount mount
mount_same dataset tally core =
    rw (dataset_same dataset core)
    (dataset_cases dataset core (λ found. Same tally core (found >>= (λ place. Err (Ebusy why.Mounted))) [] (found >>= (λ place. Err (Ebusy why.Mounted))))
    (λ refusal. refl) (λ place d stands. refl))

create_same : (dataset file : List ℕ) (tally : Tally) (core : Core) → Same tally core (answer.create dataset file (pool_of core)) [] (create dataset file core)
unfolding answer.create create
create_same dataset file tally core =
    rw (dataset_same dataset core)
    (dataset_cases dataset core
    (λ found. Same tally core
    (found >>= (λ place.
    refuse_if (is_some (file_place file (dataset_at place (pool_of core)))) Eexist >>= (λ _.
    refuse_if (nat_lt (most_files (pool_of core)) (length (dataset_at place (pool_of core)).files + 1)) (Enospc what.Files (length (dataset_at place (pool_of core)).files + 1) (most_files (pool_of core))) >>= (λ _.
    Ok (Done, in_dataset place (with_new_file file) (pool_of core)))))) []
    (found >>= (λ place.
    refuse_if (is_some (id_called file (files_in place core))) Eexist >>= (λ _.
    refuse_if (nat_lt (most_files (pool_of core)) (length (files_in place core) + 1)) (Enospc what.Files (length (files_in place core) + 1) (most_files (pool_of core))) >>= (λ _.
    Ok (Done, AddFile place file))))))
    (λ refusal. refl)
    (λ place d stands.
    let long : length (map plain_file d.files) ≡ length d.files = length-map d.files plain_file in
    rw (dataset_is core place d stands, files_are core place d stands, name_same file d, long)
    (same_after_test tally core [] (is_some (id_called file d.files)) Eexist _ _
    (λ missing. same_after_test tally core [] (nat_lt (most_files (pool_of core)) (length d.files + 1)) _ _ _ (λ few. (refl, refl, refl))))))

remove_same : (dataset file : List ℕ) (tally : Tally) (core : Core) → IsCore core → Same tally core (answer.remove dataset file (pool_of core)) [] (remove dataset file core)
unfolding answer.remove remove
remove_same dataset file tally core is =
    path_cases dataset file core is.plain
    (λ path spot. Same tally core (path >>= (λ p. Ok (Done, in_dataset p.dataset (without_file p.file) (pool_of core)))) [] (spot >>= (λ s. Ok (Done, DropFile s))))
    (λ refusal. refl) (λ path spot at. (refl, removed_same path spot core is at, refl))

write_same : (number : ℕ) (dataset file : List ℕ) (offset : ℕ) (bytes : List ℕ) (tally : Tally) (core : Core) → IsCore core → Agrees tally core
    → Same tally core (answer.write number dataset file offset bytes tally (pool_of core)) (blocks_put tally offset (length bytes) dataset file (pool_of core)) (write number dataset file offset bytes core)
unfolding answer.write write
write_same number dataset file offset bytes tally core is agrees =
    path_cases dataset file core is.plain
    (λ path spot. Same tally core (path >>= (λ p. answer.put number p offset bytes tally (pool_of core)))
    (if length bytes == 0 then [] else blocks_on path (λ p. blocks_touched tally offset (length bytes) p (pool_of core)))
    (spot >>= (λ s. put number s offset bytes core)))
    (λ refusal. refl) (λ path spot at. put_same path spot core is at number offset bytes tally agrees)

fill_same : (number : ℕ) (dataset file : List ℕ) (offset len byte : ℕ) (tally : Tally) (core : Core) → IsCore core → Agrees tally core
    → Same tally core (answer.fill number dataset file offset len byte tally (pool_of core)) (blocks_put tally offset len dataset file (pool_of core)) (write number dataset file offset (replicate len byte) core)
unfolding answer.fill
fill_same number dataset file offset len byte tally core is agrees =
    let many : length (replicate len byte) ≡ len = length-replicate {A = ℕ} len byte in
    subst (λ (n : ℕ). Same tally core (answer.write number dataset file offset (replicate len byte) tally (pool_of core)) (blocks_put tally offset n dataset file (pool_of core)) (write number dataset file offset (replicate len byte) core)) many
    (write_same number dataset file offset (replicate len byte) tally core is agrees)

truncate_same : (number : ℕ) (dataset file : List ℕ) (size : ℕ) (tally : Tally) (core : Core) → IsCore core → Agrees tally core
    → Same tally core (answer.truncate number dataset file size tally (pool_of core)) (blocks_on (path_of dataset file (pool_of core)) (λ path. blocks_trimmed tally size path (pool_of core))) (truncate number dataset file size core)
unfolding answer.truncate truncate
truncate_same number dataset file size tally core is agrees =
    path_cases dataset file core is.plain
    (λ path spot. Same tally core
    (path >>= (λ p. refuse_end size (pool_of core) >>= (λ _. answer.refuse_charge (blocks_trimmed tally size p (pool_of core)) tally (pool_of core) >>= (λ _. Ok (Done, in_file p (truncated number size) (pool_of core))))))
    (blocks_on path (λ p. blocks_trimmed tally size p (pool_of core)))
    (spot >>= (λ s. refuse_end size (pool_of core) >>= (λ _. refuse_charge (unmade_on (size / 4096) (trimmed_on size s core) s core) core >>= (λ _. Ok (Done, SetSize number s size))))))
    (λ refusal. refl)
    (λ path spot at.
    let blocks = trimmed_same path spot core is at size tally in
    let refused = refuse_same path spot core is at tally (size / 4096) (trimmed_on size spot core) (blocks_trimmed tally size path (pool_of core)) blocks agrees in
    rw refused
    (same_after tally core (blocks_trimmed tally size path (pool_of core)) (refuse_end size (pool_of core)) _ _
    (same_after tally core (blocks_trimmed tally size path (pool_of core)) (refuse_charge (unmade_on (size / 4096) (trimmed_on size spot core) spot core) core) _ _
    (refl, changed_same path spot core is at (truncated number size), blocks))))

-- the bytes of a file have nothing to do with its number and its name
bytes_same : (offset len : ℕ) (named : Named HeartFile) → bytes_from offset len (plain_file named) ≡ bytes_from offset len (bare named.value)
unfolding bytes_from byte_of
bytes_same offset len named = refl

read_same : (dataset file : List ℕ) (offset len : ℕ) (tally : Tally) (core : Core) → IsCore core → Same tally core (answer.read dataset file offset len (pool_of core)) [] (read dataset file offset len core)
unfolding answer.read read
read_same dataset file offset len tally core is =
    path_cases dataset file core is.plain
    (λ path spot. Same tally core
    (path >>= (λ p. refuse_if (nat_lt most_read len) (Einval bad.Length) >>= (λ _. Ok (Data (bytes_from offset len (file_at p (pool_of core))), pool_of core)))) []
    (spot >>= (λ s. refuse_if (nat_lt most_read len) (Einval bad.Length) >>= (λ _. Ok (Data (bytes_on offset len s core), Nothing)))))
    (λ refusal. refl)
    (λ path spot at. same_after_test tally core [] (nat_lt most_read len) _ _ _
    (λ few.
    let bytes = ap (bytes_from offset len) (the_file path spot core is at) ∙ bytes_same offset len at.file ∙ sym (said path spot core is at [] (λ (file : HeartFile). bytes_from offset len (bare file))) in
    (ap Data bytes, refl, refl)))

stat_same : (dataset file : List ℕ) (tally : Tally) (core : Core) → IsCore core → Same tally core (answer.stat dataset file (pool_of core)) [] (stat dataset file core)
unfolding answer.stat stat
stat_same dataset file tally core is =
    path_cases dataset file core is.plain
    (λ path spot. Same tally core
    (path >>= (λ p. Ok (Size (file_at p (pool_of core)).size (made_count (file_at p (pool_of core)).blocks), pool_of core))) []
    (spot >>= (λ s. Ok (Size (size_on s core) (made_on s core), Nothing))))
    (λ refusal. refl)
    (λ path spot at.
    let size = said path spot core is at 0 (λ (file : HeartFile). file.size) in
    let made = said path spot core is at 0 (λ (file : HeartFile). file.pointers) in
    (rw (the_file path spot core is at, size, made, (is_file path spot core is at).pointers) refl, refl, refl))

named_same : (number : ℕ) (tally : Tally) (core : Core) (command : Command) → IsCore core → Agrees tally core
    → Same tally core (answer.named_answer number tally (pool_of core) command) (blocks_of_command tally (pool_of core) command) (named_answer number core command)
unfolding blocks_of_command
named_same number tally core (Mkds dataset) is agrees = mkds_same dataset tally core
named_same number tally core (Rmds dataset) is agrees = rmds_same dataset tally core
named_same number tally core (Mount dataset) is agrees = mount_same dataset tally core
named_same number tally core (Create dataset file) is agrees = create_same dataset file tally core
named_same number tally core (Remove dataset file) is agrees = remove_same dataset file tally core is
named_same number tally core (Write dataset file offset bytes) is agrees = write_same number dataset file offset bytes tally core is agrees
named_same number tally core (Fill dataset file offset len byte) is agrees = fill_same number dataset file offset len byte tally core is agrees
named_same number tally core (Truncate dataset file size) is agrees = truncate_same number dataset file size tally core is agrees
named_same number tally core (Read dataset file offset len) is agrees = read_same dataset file offset len tally core is
named_same number tally core (Stat dataset file) is agrees = stat_same dataset file tally core is
named_same number tally core Commit is agrees = (refl, refl, refl)

-- the answers are alike
pub answers_same : (number : ℕ) (tally : Tally) (core : Core) (command : Command) → IsCore core → Agrees tally core
    → Same tally core (answer.answer number tally (pool_of core) command) (blocks_of_command tally (pool_of core) command) (deeds.answer number core command)
unfolding answer.answer deeds.answer
answers_same number tally core command is agrees = same_after tally core (blocks_of_command tally (pool_of core) command) (refuse_long command) _ _ (named_same number tally core command is agrees)

-- ---- what a call gives

-- what is done is what the heart becomes
does_becomes : (deed : Deed) (old new : Core) → IsCore old → Does deed old new → Becomes deed old new
does_becomes Nothing old new is does = subst (Becomes Nothing old) (sym does) (record {
  is = is;
  pool = refl;
  agrees = λ tally agrees. nothing_more tally old agrees;
  commands = record { leads = λ base leads. leads; knows = λ placing knows. knows; group = refl; waiting = refl; limits = refl };
  last = refl;
})
does_becomes (AddDataset name) old new is does = does
does_becomes (DropDataset place) old new is does = does
does_becomes (AddFile place name) old new is does = does
does_becomes (DropFile spot) old new is does = does
does_becomes (PutBytes number spot offset bytes) old new is does = does
does_becomes (SetSize number spot size) old new is does = does

-- the reply, and what the heart then stands for
abbrev Replied : Tally → Core → Core → Reply → Result (Reply × PlainPool) Refusal → List MadeBlock → Type 0
Replied tally old new reply given blocks = (settled (pool_of old) given ≡ (reply, pool_of new)) × Agrees (counted tally blocks given) new

pair_same : (reply other : Reply) (pool next : PlainPool) → reply ≡ other → pool ≡ next → ◌≡◌ {A = Reply × PlainPool} (reply, pool) (other, next)
pair_same reply other pool next replies pools = ap (λ (r : Reply). pair r pool) replies ∙ ap (λ (p : PlainPool). pair other p) pools
  where
    pair : Reply → PlainPool → Reply × PlainPool
    pair r p = (r, p)

replied : (tally : Tally) (old new : Core) (reply : Reply) (given : Result (Reply × PlainPool) Refusal) (blocks : List MadeBlock) (does : Result (Reply × Deed) Refusal) → IsCore old → Agrees tally old
    → Same tally old given blocks does → Gives old new reply does → Replied tally old new reply given blocks
replied tally old new reply (Ok done) blocks (Ok does) is agrees same gives =
    let becomes = does_becomes does.1 old new is gives.1 in (
      pair_same done.0 reply done.1 (pool_of new) (same.0 ∙ sym gives.0) (same.1 ∙ sym becomes.pool),
      subst (λ (bs : List MadeBlock). Agrees (with_blocks bs tally) new) (sym same.2) (becomes.agrees tally agrees),
    )
replied tally old new reply (Ok done) blocks (Err refusal) is agrees same gives = absurd same
replied tally old new reply (Err refusal) blocks (Ok does) is agrees same gives = absurd same
replied tally old new reply (Err refusal) blocks (Err other) is agrees same gives = (
  pair_same (No refusal) reply (pool_of old) (pool_of new) (ap No same ∙ sym gives.0) (ap pool_of (sym gives.1)),
  subst (Agrees tally) (sym gives.1) agrees,
)

-- what a call that gave an answer leaves
abbrev pub Answered : ℕ → Command → Core → Core → Result Reply AllocError → Type 0
Answered number command old new result = IfOk result (λ reply. Gives old new reply (deeds.answer number old command)) × OnErr result (IsLeft old new)

pub replies : (number : ℕ) (command : Command) (old new : Core) (result : Result Reply AllocError) → IsCore old → IfOk result (λ reply. Gives old new reply (deeds.answer number old command)) → OnErr result (IsLeft old new)
    → Replies number command old new result
replies number command old new (Ok reply) is given left =
    λ tally agrees. replied tally old new reply (answer.answer number tally (pool_of old) command) (blocks_of_command tally (pool_of old) command) (deeds.answer number old command) is agrees (answers_same number tally old command is agrees) given
replies number command old new (Err fault) is given left = left.stays

-- the heart is one again, and keeps what a command keeps
abbrev Kept : Core → Core → Type 0
Kept old new = IsCore new × Commands old new

kept_by : (old new : Core) (reply : Reply) (does : Result (Reply × Deed) Refusal) → IsCore old → Gives old new reply does → Kept old new
kept_by old new reply (Ok does) is gives = let becomes = does_becomes does.1 old new is gives.1 in (becomes.is, becomes.commands)
kept_by old new reply (Err refusal) is gives = (
  subst IsCore (sym gives.1) is,
  subst (Commands old) (sym gives.1) (record { leads = λ base leads. leads; knows = λ placing knows. knows; group = refl; waiting = refl; limits = refl }),
)

pub kept : (number : ℕ) (command : Command) (old new : Core) (result : Result Reply AllocError) → IsCore old → IfOk result (λ reply. Gives old new reply (deeds.answer number old command)) → OnErr result (IsLeft old new) → IsCore new × Commands old new
kept number command old new (Ok reply) is given left = kept_by old new reply (deeds.answer number old command) is given
kept number command old new (Err fault) is given left =
    (left.is, record { leads = left.stays.leads; knows = left.stays.knows; group = left.stays.group; waiting = left.stays.waiting; limits = ap (λ (pool : PlainPool). pool.limits) left.stays.pool })

-- ---- a reply with bytes

-- where the reply has bytes, nothing is done
abbrev IsQuiet : Result (Reply × Deed) Refusal → Type 0
IsQuiet (Ok done) = is_data done.0 ≡ true → done.1 ≡ Nothing
IsQuiet (Err refusal) = Unit {0}

-- so it is after one test
quiet_after : {X : Type 0} (test : Result X Refusal) (next : X → Result (Reply × Deed) Refusal) → ((x : X) → IsQuiet (next x)) → IsQuiet (test >>= next)
quiet_after (Ok x) next quiet = quiet x
quiet_after (Err refusal) next quiet = tt

put_some_quiet : (number : ℕ) (spot : Spot) (offset : ℕ) (bytes : List ℕ) (core : Core) → IsQuiet (put_some number spot offset bytes core)
unfolding put_some
put_some_quiet number spot offset bytes core =
    quiet_after (room_in_file offset (length bytes) spot core) _ (λ _.
    quiet_after (refuse_charge (unmade_on (first_touched offset) (touched_count offset (length bytes)) spot core) core) _ (λ _.
    λ with_bytes. absurd (false≢true with_bytes)))

put_quiet : (number : ℕ) (spot : Spot) (offset : ℕ) (bytes : List ℕ) (core : Core) → IsQuiet (put number spot offset bytes core)
unfolding put
put_quiet number spot offset bytes core = by (length bytes == 0)
  where
    by : (empty : Bool) → IsQuiet (if empty then Ok (Count 0, Nothing) else put_some number spot offset bytes core)
    by true = λ with_bytes. absurd (false≢true with_bytes)
    by false = put_some_quiet number spot offset bytes core

write_quiet : (number : ℕ) (dataset file : List ℕ) (offset : ℕ) (bytes : List ℕ) (core : Core) → IsQuiet (write number dataset file offset bytes core)
unfolding write
write_quiet number dataset file offset bytes core = quiet_after (spot_of dataset file core) _ (λ spot. put_quiet number spot offset bytes core)

named_quiet : (number : ℕ) (core : Core) (command : Command) → IsQuiet (named_answer number core command)
unfolding mkds rmds mount create remove truncate read stat
named_quiet number core (Mkds dataset) =
    quiet_after (refuse_if (is_some (dataset_index dataset core)) Eexist) _ (λ _.
    quiet_after (refuse_if (nat_lt most_datasets (length core.datasets + 1)) (Enospc what.Datasets (length core.datasets + 1) most_datasets)) _ (λ _.
    λ with_bytes. absurd (false≢true with_bytes)))
named_quiet number core (Rmds dataset) = quiet_after (dataset_of dataset core) _ (λ place. λ with_bytes. absurd (false≢true with_bytes))
named_quiet number core (Mount dataset) = quiet_after (dataset_of dataset core) _ (λ place. tt)
named_quiet number core (Create dataset file) =
    quiet_after (dataset_of dataset core) _ (λ place.
    quiet_after (refuse_if (is_some (id_called file (files_in place core))) Eexist) _ (λ _.
    quiet_after (refuse_if (nat_lt (most_files (pool_of core)) (length (files_in place core) + 1)) (Enospc what.Files (length (files_in place core) + 1) (most_files (pool_of core)))) _ (λ _.
    λ with_bytes. absurd (false≢true with_bytes))))
named_quiet number core (Remove dataset file) = quiet_after (spot_of dataset file core) _ (λ spot. λ with_bytes. absurd (false≢true with_bytes))
named_quiet number core (Write dataset file offset bytes) = write_quiet number dataset file offset bytes core
named_quiet number core (Fill dataset file offset len byte) = write_quiet number dataset file offset (replicate len byte) core
named_quiet number core (Truncate dataset file size) =
    quiet_after (spot_of dataset file core) _ (λ spot.
    quiet_after (refuse_end size (pool_of core)) _ (λ _.
    quiet_after (refuse_charge (unmade_on (size / 4096) (trimmed_on size spot core) spot core) core) _ (λ _.
    λ with_bytes. absurd (false≢true with_bytes))))
named_quiet number core (Read dataset file offset len) =
    quiet_after (spot_of dataset file core) _ (λ spot.
    quiet_after (refuse_if (nat_lt most_read len) (Einval bad.Length)) _ (λ _.
    λ with_bytes. refl))
named_quiet number core (Stat dataset file) = quiet_after (spot_of dataset file core) _ (λ spot. λ with_bytes. absurd (false≢true with_bytes))
named_quiet number core Commit = λ with_bytes. absurd (false≢true with_bytes)

answer_quiet : (number : ℕ) (core : Core) (command : Command) → IsQuiet (deeds.answer number core command)
unfolding deeds.answer
answer_quiet number core command = quiet_after (refuse_long command) _ (λ _. named_quiet number core command)

unchanged_by : (old new : Core) (reply : Reply) (does : Result (Reply × Deed) Refusal) → IsQuiet does → Gives old new reply does → is_data reply ≡ true → new ≡ old
unchanged_by old new reply (Ok does) quiet gives with_bytes =
    let said : is_data does.0 ≡ true = subst (λ (r : Reply). is_data r ≡ true) gives.0 with_bytes in
    subst (λ (deed : Deed). Does deed old new) (quiet said) gives.1
unchanged_by old new reply (Err refusal) quiet gives with_bytes = gives.1

-- a reply with bytes leaves the heart as it was
pub unchanged : (number : ℕ) (command : Command) (old new : Core) (result : Result Reply AllocError) → IfOk result (λ reply. Gives old new reply (deeds.answer number old command))
    → IfOk result (λ reply. is_data reply ≡ true → new ≡ old)
unchanged number command old new (Ok reply) given = unchanged_by old new reply (deeds.answer number old command) (answer_quiet number old command) given
unchanged number command old new (Err fault) given = tt
