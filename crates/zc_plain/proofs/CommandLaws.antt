-- What each command does to the files and the numbers of a pool.
use Rattle.std.proofs.Common.{◌≡◌, ◌≢◌, ℕ, ◌+◌, ◌<◌, true, false, nat_lt, ◌==◌, List, [], ◌∷◌, length, Option, Some, None, Result, Ok, Err, refl, sym, ap, subst, ◌∙◌, ⊎_elim, arith}
use Rattle.std.specs.Prelude.{Bool, slice_get, unwrap_or, is_some, replicate}
use Rattle.std.specs.Option.{option_map, ok_or}
use Rattle.std.specs.Result.{result_ok}
use Rattle.std.specs.Str.{bytes_eq}
use Rattle.std.proofs.lemmas.Bool.{cases_Bool, cases_eq}
use Rattle.std.proofs.lemmas.Bool.Decides.{Decides-eqb}
use Rattle.zc_num.specs.Words.{change_at, found_from}
use Rattle.zc_num.proofs.Changes.{get_of_change_at, other_of_change_at}
use Rattle.zc_command.specs.Names.{names_of}
use Rattle.zc_command.specs.declared.command.Command.{Command}
use Rattle.zc_command.specs.declared.command.Command.TheVariants.{Mkds, Rmds, Mount, Create, Remove, Write, Fill, Truncate, Read, Stat, Commit}
use Rattle.zc_command.specs.declared.refusal.Part.TheVariants as part
use Rattle.zc_command.specs.declared.refusal.Refusal.{Refusal}
use Rattle.zc_command.specs.declared.refusal.Refusal.TheVariants.{Enoent, Eexist}
use Rattle.zc_command.specs.declared.reply.Reply.{Reply}
use Rattle.zc_command.specs.declared.reply.Reply.TheVariants.{Data}
use Rattle.zc_plain.specs.declared.finding.Path.{Path}
use Rattle.zc_plain.specs.declared.plain_pool.PlainFile.{PlainFile}
use Rattle.zc_plain.specs.declared.plain_pool.PlainDataset.{PlainDataset}
use Rattle.zc_plain.specs.declared.plain_pool.PlainPool.{PlainPool}
use Rattle.zc_plain.specs.PlainPool.{new_file, new_dataset, dataset_at, file_at, with_new_file, in_dataset, in_files, in_file, bytes_from}
use Rattle.zc_plain.specs.declared.tally.Tally.{Tally}
use Rattle.zc_plain.specs.Written.{written}
use Rattle.zc_plain.specs.Truncated.{truncated}
use Rattle.zc_plain.specs.IsPlain.{StandsAt, IsPlain}
use Rattle.zc_plain.specs.Answer.{◌>>=◌, refuse_long, most_datasets, most_files, dataset_place, file_place, dataset_of, path_of, file_of, refuse_end, refuse_charge, room_in_file, blocks_touched, blocks_trimmed, most_read, mkds, mount, create, put_some, put, write, fill, truncate, read, stat, named_answer, answer}
use Rattle.zc_plain.proofs.NumberedLaws.{one_item}
use Rattle.zc_plain.proofs.Places.{dataset_there, file_there}
use Rattle.zc_plain.proofs.OtherLaws.{found_in_changed, new_with_file, file_of_in, found_passes, name_is, other_in_files, other_with_file, other_in_dataset, other_with_dataset}
use Rattle.zc_plain.proofs.PlainLaws.{after_test, after_found, after_put, next_of, plain_file_at}
use Rattle.zc_plain.proofs.WrittenLaws.{name_of_written, read_of_written}
use Rattle.zc_plain.proofs.TruncatedLaws.{name_of_truncated}

abbrev ok_of : ℕ → Result ℕ Refusal
ok_of place = Ok place

abbrev answered : Reply → PlainPool → Result (Reply × PlainPool) Refusal
answered reply next = Ok (reply, next)

abbrev some_of : {X : Type 0} → X → Option X
some_of x = Some x

-- the place of a dataset that has to be there
place_found : (dataset : List ℕ) (pool : PlainPool) (place : ℕ) → dataset_of dataset pool ≡ Ok place → dataset_place dataset pool ≡ Some place
unfolding dataset_of
place_found dataset pool place found = is_found (dataset_place dataset pool) found
  where
    is_found : (o : Option ℕ) → ok_or o (Enoent part.Dataset) ≡ Ok place → o ≡ Some place
    is_found None e = cc
    is_found (Some k) e = let same : k ≡ place = cc in ap some_of same

-- it stands there, and has the name
pub dataset_of_is : (dataset : List ℕ) (pool : PlainPool) (place : ℕ) → dataset_of dataset pool ≡ Ok place → (d : PlainDataset) × StandsAt pool.datasets place d × (d.name ≡ dataset)
unfolding dataset_place
dataset_of_is dataset pool place found =
    let there = found_passes (λ (d : PlainDataset). bytes_eq d.name dataset) pool.datasets place (place_found dataset pool place found) in
    (there.0, there.1, name_is there.0.name dataset there.2)

-- what isn't there isn't found
is_none : (o : Option ℕ) → is_some o ≡ false → o ≡ None
is_none None e = refl
is_none (Some k) e = cc

abbrev path_at : ℕ → ℕ → Path
path_at dataset file = record { dataset = dataset; file = file }

-- the places of a path
pub path_of_is : (dataset file : List ℕ) (pool : PlainPool) (path : Path) → path_of dataset file pool ≡ Ok path → (dataset_of dataset pool ≡ Ok path.dataset) × (file_place file (dataset_at path.dataset pool) ≡ Some path.file)
unfolding path_of
path_of_is dataset file pool path found = first (dataset_of dataset pool) refl found
  where
    second : (place : ℕ) (o : Option ℕ) → file_place file (dataset_at place pool) ≡ o → (ok_or o (Enoent part.File) >>= (λ at. Ok (path_at place at))) ≡ Ok path → (place ≡ path.dataset) × (file_place file (dataset_at path.dataset pool) ≡ Some path.file)
    second place None is e = cc
    second place (Some at) is e =
        let same : path_at place at ≡ path = cc in
        let there : place ≡ path.dataset = ap (λ (p : Path). p.dataset) same in
        (there, subst (λ (k : ℕ). file_place file (dataset_at k pool) ≡ Some path.file) there (is ∙ ap (λ (p : Path). some_of p.file) same))

    first : (r : Result ℕ Refusal) → dataset_of dataset pool ≡ r → (r >>= (λ place. ok_or (file_place file (dataset_at place pool)) (Enoent part.File) >>= (λ at. Ok (path_at place at)))) ≡ Ok path
        → (r ≡ Ok path.dataset) × (file_place file (dataset_at path.dataset pool) ≡ Some path.file)
    first (Err refusal) is e = cc
    first (Ok place) is e =
        let parts = second place (file_place file (dataset_at place pool)) refl e in
        (ap ok_of parts.0, parts.1)

-- the file at a path stands there, and has the name
pub file_at_is : (dataset file : List ℕ) (pool : PlainPool) (path : Path) (d : PlainDataset) → path_of dataset file pool ≡ Ok path → StandsAt pool.datasets path.dataset d → (f : PlainFile) × StandsAt d.files path.file f × (f.name ≡ file)
unfolding file_place
file_at_is dataset file pool path d found stands =
    let at = rw (dataset_there pool path.dataset d stands) at (path_of_is dataset file pool path found).1 in
    let there = found_passes (λ (f : PlainFile). bytes_eq f.name file) d.files path.file at in
    (there.0, there.1, name_is there.0.name file there.2)

-- the datasets that stand at a place are one
one_dataset : (pool : PlainPool) (place : ℕ) (a b : PlainDataset) → StandsAt pool.datasets place a → StandsAt pool.datasets place b → a ≡ b
one_dataset pool place a b first second = one_item a b (sym first ∙ second)

-- a change of the file at a path, under its own name, changes no file of other names
other_in_file : (owner name : List ℕ) (path : Path) (change : PlainFile → PlainFile) (dataset file : List ℕ) (pool : PlainPool) → ((f : PlainFile) → (change f).name ≡ f.name) → path_of owner name pool ≡ Ok path
    → owner ∷ name ∷ [] ≢ dataset ∷ file ∷ [] → file_of dataset file (in_file path change pool) ≡ file_of dataset file pool
other_in_file owner name path change dataset file pool keeps found other =
    other_in_dataset path.dataset (in_files path.file change) dataset file pool (λ d. refl)
    (λ d stands named. other_in_files path.file change file d keeps
    (λ f f_stands same.
    let owner_there = dataset_of_is owner pool path.dataset (path_of_is owner name pool path found).0 in
    let file_there = file_at_is owner name pool path d found stands in
    let owner_is : owner ≡ dataset = sym owner_there.2 ∙ ap (λ (x : PlainDataset). x.name) (one_dataset pool path.dataset owner_there.0 d owner_there.1 stands) ∙ named in
    let name_is : name ≡ file = sym file_there.2 ∙ ap (λ (x : PlainFile). x.name) (one_item file_there.0 f (sym file_there.1 ∙ f_stands)) ∙ same in
    let both : owner ∷ name ∷ [] ≡ dataset ∷ file ∷ [] = cc in
    other both))

-- the command takes a file or a dataset out
abbrev pub is_removal : Command → Bool
is_removal (Mkds dataset) = false
is_removal (Rmds dataset) = true
is_removal (Mount dataset) = false
is_removal (Create dataset file) = false
is_removal (Remove dataset file) = true
is_removal (Write dataset file offset bytes) = false
is_removal (Fill dataset file offset len byte) = false
is_removal (Truncate dataset file size) = false
is_removal (Read dataset file offset len) = false
is_removal (Stat dataset file) = false
is_removal Commit = false

other_after_write : (number : ℕ) (tally : Tally) (pool : PlainPool) (owner name : List ℕ) (offset : ℕ) (bytes : List ℕ) (dataset file : List ℕ) → owner ∷ name ∷ [] ≢ dataset ∷ file ∷ []
    → file_of dataset file (next_of pool (write number owner name offset bytes tally pool)) ≡ file_of dataset file pool
unfolding write
other_after_write number tally pool owner name offset bytes dataset file other =
    let P = λ (r : Result (Reply × PlainPool) Refusal). file_of dataset file (next_of pool r) ≡ file_of dataset file pool in
    after_found P (path_of owner name pool) _ (λ refusal. refl)
    (λ path found. after_put P number path offset bytes tally pool (λ refusal. refl) refl (other_in_file owner name path (written number offset bytes) dataset file pool (name_of_written number offset bytes) found other))

-- a command that takes nothing out changes no file but the one that it names
other_after_named : (number : ℕ) (tally : Tally) (pool : PlainPool) (command : Command) (dataset file : List ℕ) → is_removal command ≡ false → names_of command ≢ dataset ∷ file ∷ []
    → file_of dataset file (next_of pool (named_answer number tally pool command)) ≡ file_of dataset file pool
unfolding mkds mount create fill truncate read stat
other_after_named number tally pool (Mkds name) dataset file keeps other =
    let P = λ (r : Result (Reply × PlainPool) Refusal). file_of dataset file (next_of pool r) ≡ file_of dataset file pool in
    after_test P (is_some (dataset_place name pool)) Eexist _ refl
    (λ missing. after_test P (nat_lt most_datasets (length pool.datasets + 1)) _ _ refl
    (λ few. other_with_dataset name dataset file pool (is_none (dataset_place name pool) missing)))
other_after_named number tally pool (Rmds name) dataset file keeps other = cc
other_after_named number tally pool (Mount name) dataset file keeps other =
    after_found (λ (r : Result (Reply × PlainPool) Refusal). file_of dataset file (next_of pool r) ≡ file_of dataset file pool) (dataset_of name pool) _ (λ refusal. refl) (λ place found. refl)
other_after_named number tally pool (Create owner name) dataset file keeps other =
    let P = λ (r : Result (Reply × PlainPool) Refusal). file_of dataset file (next_of pool r) ≡ file_of dataset file pool in
    after_found P (dataset_of owner pool) _ (λ refusal. refl)
    (λ place found. after_test P (is_some (file_place name (dataset_at place pool))) Eexist _ refl
    (λ missing. after_test P (nat_lt (most_files pool) (length (dataset_at place pool).files + 1)) _ _ refl
    (λ few. other_in_dataset place (with_new_file name) dataset file pool (λ d. refl)
    (λ d stands named. other_with_file name file d
    (λ same.
    let there = dataset_of_is owner pool place found in
    let owner_is : owner ≡ dataset = sym there.2 ∙ ap (λ (x : PlainDataset). x.name) (one_dataset pool place there.0 d there.1 stands) ∙ named in
    let both : owner ∷ name ∷ [] ≡ dataset ∷ file ∷ [] = cc in
    other both)))))
other_after_named number tally pool (Remove owner name) dataset file keeps other = cc
other_after_named number tally pool (Write owner name offset bytes) dataset file keeps other = other_after_write number tally pool owner name offset bytes dataset file other
other_after_named number tally pool (Fill owner name offset len byte) dataset file keeps other = other_after_write number tally pool owner name offset (replicate len byte) dataset file other
other_after_named number tally pool (Truncate owner name size) dataset file keeps other =
    let P = λ (r : Result (Reply × PlainPool) Refusal). file_of dataset file (next_of pool r) ≡ file_of dataset file pool in
    after_found P (path_of owner name pool) _ (λ refusal. refl)
    (λ path found. after_found P (refuse_end size pool) _ (λ refusal. refl)
    (λ _ short. after_found P (refuse_charge (blocks_trimmed tally size path pool) tally pool) _ (λ refusal. refl)
    (λ _ free. other_in_file owner name path (truncated number size) dataset file pool (name_of_truncated number size) found other)))
other_after_named number tally pool (Read owner name offset len) dataset file keeps other =
    let P = λ (r : Result (Reply × PlainPool) Refusal). file_of dataset file (next_of pool r) ≡ file_of dataset file pool in
    after_found P (path_of owner name pool) _ (λ refusal. refl) (λ path found. after_test P (nat_lt most_read len) _ _ refl (λ short. refl))
other_after_named number tally pool (Stat owner name) dataset file keeps other =
    after_found (λ (r : Result (Reply × PlainPool) Refusal). file_of dataset file (next_of pool r) ≡ file_of dataset file pool) (path_of owner name pool) _ (λ refusal. refl) (λ path found. refl)
other_after_named number tally pool Commit dataset file keeps other = refl

pub other_files_stay : (number : ℕ) (tally : Tally) (pool : PlainPool) (command : Command) (dataset file : List ℕ) → is_removal command ≡ false → names_of command ≢ dataset ∷ file ∷ []
    → file_of dataset file (next_of pool (answer number tally pool command)) ≡ file_of dataset file pool
unfolding answer
other_files_stay number tally pool command dataset file keeps other =
    after_found (λ r. file_of dataset file (next_of pool r) ≡ file_of dataset file pool) (refuse_long command) _ (λ refusal. refl) (λ _ short. other_after_named number tally pool command dataset file keeps other)

-- a change of a dataset that keeps its name moves none
dataset_moved : (place : ℕ) (change : PlainDataset → PlainDataset) (dataset : List ℕ) (pool : PlainPool) → ((d : PlainDataset) → (change d).name ≡ d.name) → dataset_of dataset (in_dataset place change pool) ≡ dataset_of dataset pool
unfolding dataset_of dataset_place
dataset_moved place change dataset pool keeps =
    ap (λ (o : Option ℕ). ok_or o (Enoent part.Dataset)) (found_in_changed (λ (d : PlainDataset). bytes_eq d.name dataset) change 0 place pool.datasets (λ d. ap (λ (name : List ℕ). bytes_eq name dataset) (keeps d)))

-- a change of a file that keeps its name moves nothing
file_kept : (path : Path) (change : PlainFile → PlainFile) (file : List ℕ) (pool : PlainPool) (place : ℕ) → ((f : PlainFile) → (change f).name ≡ f.name) → file_place file (dataset_at place (in_file path change pool)) ≡ file_place file (dataset_at place pool)
unfolding file_place dataset_at
file_kept path change file pool place keeps =
    ⊎_elim
    (λ (same : place ≡ path.dataset). rw (subst (λ (k : ℕ). slice_get (change_at (in_files path.file change) k pool.datasets) place ≡ option_map (in_files path.file change) (slice_get pool.datasets place)) same (get_of_change_at (in_files path.file change) place pool.datasets)) (either (slice_get pool.datasets place)))
    (λ (apart : place ≢ path.dataset). rw (other_of_change_at (in_files path.file change) path.dataset pool.datasets place apart) refl)
    (cases_eq place path.dataset)
  where
    either : (o : Option PlainDataset) → found_from (λ (f : PlainFile). bytes_eq f.name file) 0 (unwrap_or (option_map (in_files path.file change) o) (new_dataset 0 [])).files ≡ found_from (λ (f : PlainFile). bytes_eq f.name file) 0 (unwrap_or o (new_dataset 0 [])).files
    either None = refl
    either (Some d) = found_in_changed (λ (f : PlainFile). bytes_eq f.name file) change 0 path.file d.files (λ f. ap (λ (name : List ℕ). bytes_eq name file) (keeps f))

pub path_kept : (path : Path) (change : PlainFile → PlainFile) (dataset file : List ℕ) (pool : PlainPool) → ((f : PlainFile) → (change f).name ≡ f.name) → path_of dataset file (in_file path change pool) ≡ path_of dataset file pool
unfolding path_of
path_kept path change dataset file pool keeps = rw (dataset_moved path.dataset (in_files path.file change) dataset pool (λ d. refl)) (either (dataset_of dataset pool))
  where
    either : (r : Result ℕ Refusal) → (r >>= (λ place. ok_or (file_place file (dataset_at place (in_file path change pool))) (Enoent part.File) >>= (λ at. Ok (path_at place at))))
        ≡ (r >>= (λ place. ok_or (file_place file (dataset_at place pool)) (Enoent part.File) >>= (λ at. Ok (path_at place at))))
    either (Err refusal) = refl
    either (Ok place) = ap (λ (o : Option ℕ). ok_or o (Enoent part.File) >>= (λ at. Ok (path_at place at))) (file_kept path change file pool place keeps)

-- and the file at the path is the changed one
pub changed_at_path : (dataset file : List ℕ) (path : Path) (change : PlainFile → PlainFile) (pool : PlainPool) → path_of dataset file pool ≡ Ok path → file_at path (in_file path change pool) ≡ change (file_at path pool)
changed_at_path dataset file path change pool found =
    let d = dataset_of_is dataset pool path.dataset (path_of_is dataset file pool path found).0 in
    let f = file_at_is dataset file pool path d.0 found d.1 in
    let d_now : StandsAt (in_file path change pool).datasets path.dataset (in_files path.file change d.0) = get_of_change_at (in_files path.file change) path.dataset pool.datasets ∙ ap (option_map (in_files path.file change)) d.1 in
    let there = dataset_there (in_file path change pool) path.dataset (in_files path.file change d.0) d_now in
    let f_now : StandsAt (in_files path.file change d.0).files path.file (change f.0) = get_of_change_at change path.file d.0.files ∙ ap (option_map change) f.1 in
    file_there (in_file path change pool) path (change f.0) (rw there f_now)
    ∙ ap change (sym (file_there pool path f.0 (rw (dataset_there pool path.dataset d.0 d.1) f.1)))

-- bytes that are there are not 0 in number
not_zero : (n : ℕ) → 0 < n → (n == 0) ≡ false
not_zero n some = ⊎_elim (λ (zero : (n == 0) ≡ true). let is : n ≡ 0 = (Decides-eqb n 0).0 zero in absurd (omega arith)) (λ (other : (n == 0) ≡ false). other) (cases_Bool (n == 0))

-- an answer that is Ok
refused_answer : {A : Type 0} (refusal : Refusal) (reply : Reply) (next : PlainPool) → Err refusal ≡ answered reply next → A
refused_answer refusal reply next e = cc

one_answer : (a b : Reply) (p q : PlainPool) → answered a p ≡ answered b q → p ≡ q
one_answer a b p q same = ap (next_of p) same

-- the pool after a write that isn't refused
after_write : (number : ℕ) (dataset file : List ℕ) (offset : ℕ) (bytes : List ℕ) (tally : Tally) (pool next : PlainPool) (reply : Reply) (path : Path) → path_of dataset file pool ≡ Ok path → 0 < length bytes
    → write number dataset file offset bytes tally pool ≡ Ok (reply, next) → next ≡ in_file path (written number offset bytes) pool
unfolding write put put_some
after_write number dataset file offset bytes tally pool next reply path found some done =
    let Q = λ (r : Result (Reply × PlainPool) Refusal). r ≡ answered reply next → next ≡ in_file path (written number offset bytes) pool in
    after_found Q (room_in_file offset (length bytes) path pool) _ (λ refusal e. refused_answer refusal reply next e)
    (λ _ room. after_found Q (refuse_charge (blocks_touched tally offset (length bytes) path pool) tally pool) _ (λ refusal e. refused_answer refusal reply next e)
    (λ _ free e. sym (one_answer _ reply _ next e)))
    (rw (found, not_zero (length bytes) some) at done)

-- a write that isn't refused changes its file so, where it has bytes
pub write_changes_its_file : (number : ℕ) (dataset file : List ℕ) (offset : ℕ) (bytes : List ℕ) (tally : Tally) (pool next : PlainPool) (reply : Reply) (path : Path) → path_of dataset file pool ≡ Ok path → 0 < length bytes
    → write number dataset file offset bytes tally pool ≡ Ok (reply, next) → file_of dataset file next ≡ option_map (written number offset bytes) (file_of dataset file pool)
unfolding file_of
write_changes_its_file number dataset file offset bytes tally pool next reply path found some done =
    let change = written number offset bytes in
    let still : path_of dataset file (in_file path change pool) ≡ Ok path = path_kept path change dataset file pool (name_of_written number offset bytes) ∙ found in
    ap (λ (after : PlainPool). option_map (λ (p : Path). file_at p after) (result_ok (path_of dataset file after))) (after_write number dataset file offset bytes tally pool next reply path found some done)
    ∙ rw (still, found) (ap some_of (changed_at_path dataset file path change pool found))

-- the file that a command made
new_file_found : (dataset file : List ℕ) (pool : PlainPool) (place : ℕ) → dataset_of dataset pool ≡ Ok place → file_place file (dataset_at place pool) ≡ None
    → file_of dataset file (in_dataset place (with_new_file file) pool) ≡ Some (new_file (dataset_at place pool).next_file file)
unfolding dataset_place
new_file_found dataset file pool place found missing =
    let d = dataset_of_is dataset pool place found in
    let there = dataset_there pool place d.0 d.1 in
    let at = place_found dataset (in_dataset place (with_new_file file) pool) place (dataset_moved place (with_new_file file) dataset pool (λ x. refl) ∙ found) in
    let d_now : StandsAt (in_dataset place (with_new_file file) pool).datasets place (with_new_file file d.0) = get_of_change_at (with_new_file file) place pool.datasets ∙ ap (option_map (with_new_file file)) d.1 in
    file_of_in dataset file (in_dataset place (with_new_file file) pool)
    ∙ rw (at, dataset_there (in_dataset place (with_new_file file) pool) place (with_new_file file d.0) d_now, there) (new_with_file file d.0 (rw there at missing))

-- a new file stands under its name with the next number
pub create_makes_a_file : (dataset file : List ℕ) (pool next : PlainPool) (place : ℕ) (reply : Reply) → dataset_of dataset pool ≡ Ok place → create dataset file pool ≡ Ok (reply, next)
    → file_of dataset file next ≡ Some (new_file (dataset_at place pool).next_file file)
unfolding create
create_makes_a_file dataset file pool next place reply found created =
    let Q = λ (r : Result (Reply × PlainPool) Refusal). r ≡ answered reply next → file_of dataset file next ≡ Some (new_file (dataset_at place pool).next_file file) in
    after_test Q (is_some (file_place file (dataset_at place pool))) Eexist _ (λ e. refused_answer _ reply next e)
    (λ missing. after_test Q (nat_lt (most_files pool) (length (dataset_at place pool).files + 1)) _ _ (λ e. refused_answer _ reply next e)
    (λ few is.
    subst (λ (p : PlainPool). file_of dataset file p ≡ Some (new_file (dataset_at place pool).next_file file)) (one_answer _ reply _ next is) (new_file_found dataset file pool place found (is_none (file_place file (dataset_at place pool)) missing))))
    (rw found at created)

-- what a read of a file that is there gives
read_at_path : (dataset file : List ℕ) (offset len : ℕ) (pool : PlainPool) (path : Path) → path_of dataset file pool ≡ Ok path → nat_lt most_read len ≡ false → read dataset file offset len pool ≡ Ok (Data (bytes_from offset len (file_at path pool)), pool)
unfolding read
read_at_path dataset file offset len pool path found short = rw (found, short) refl

-- a read of the range that was written, after a write that isn't refused, gives the bytes
pub read_after_write : (number : ℕ) (dataset file : List ℕ) (offset : ℕ) (bytes : List ℕ) (tally : Tally) (pool next : PlainPool) (reply : Reply) (path : Path) → IsPlain pool → path_of dataset file pool ≡ Ok path
    → 0 < length bytes → nat_lt most_read (length bytes) ≡ false → write number dataset file offset bytes tally pool ≡ Ok (reply, next) → read dataset file offset (length bytes) next ≡ Ok (Data bytes, next)
read_after_write number dataset file offset bytes tally pool next reply path plain found some short done =
    let change = written number offset bytes in
    let after = in_file path change pool in
    let still : path_of dataset file after ≡ Ok path = path_kept path change dataset file pool (name_of_written number offset bytes) ∙ found in
    let is : bytes_from offset (length bytes) (file_at path after) ≡ bytes = ap (bytes_from offset (length bytes)) (changed_at_path dataset file path change pool found) ∙ read_of_written number offset bytes (file_at path pool) (plain_file_at pool path plain) in
    let given : read dataset file offset (length bytes) after ≡ answered (Data bytes) after = read_at_path dataset file offset (length bytes) after path still short ∙ ap (λ (bs : List ℕ). answered (Data bs) after) is in
    subst (λ (p : PlainPool). read dataset file offset (length bytes) p ≡ answered (Data bytes) p) (sym (after_write number dataset file offset bytes tally pool next reply path found some done)) given

-- the same after a fill
pub read_after_fill : (number : ℕ) (dataset file : List ℕ) (offset len byte : ℕ) (tally : Tally) (pool next : PlainPool) (reply : Reply) (path : Path) → IsPlain pool → path_of dataset file pool ≡ Ok path
    → 0 < length (replicate len byte) → nat_lt most_read (length (replicate len byte)) ≡ false → fill number dataset file offset len byte tally pool ≡ Ok (reply, next)
    → read dataset file offset (length (replicate len byte)) next ≡ Ok (Data (replicate len byte), next)
unfolding fill
read_after_fill number dataset file offset len byte tally pool next reply path plain found some short done =
    read_after_write number dataset file offset (replicate len byte) tally pool next reply path plain found some short done
