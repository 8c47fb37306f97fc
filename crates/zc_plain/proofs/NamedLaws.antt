-- The datasets and files of a pool by their names.
use Rattle.std.proofs.Common.{◌≡◌, ◌≢◌, ℕ, zero, suc, ◌<◌, ◌≤◌, Bool, true, false, nat_lt, cond, List, [], ◌∷◌, ◌++◌, length, Option, Some, None, Result, Ok, Err, refl, sym, ap, ◌∙◌, ⊎_elim, arith}
use Rattle.std.specs.Prelude.{slice_get, find, remove}
use Rattle.std.specs.Option.{option_map, option_and_then, option_or, ok_or}
use Rattle.std.specs.Result.{result_ok}
use Rattle.std.specs.List.{position_or_len}
use Rattle.std.specs.Str.{bytes_eq}
use Rattle.std.proofs.lemmas.Bool.{cases_Bool, cases_lt, ltb-false}
use Rattle.std.proofs.lemmas.List.Folds.{find_at, find-append}
use Rattle.std.proofs.lemmas.Slice.Eq.{bytes_eq-Decides}
use Rattle.std.proofs.lemmas.Iterator.Adapters.{position_from-zero}
use Rattle.zc_num.specs.Words.{change_at, found_from}
use Rattle.zc_num.proofs.Changes.{get_of_change_at}
use Rattle.zc_command.specs.declared.refusal.Part.TheVariants as part
use Rattle.zc_command.specs.declared.refusal.Refusal.{Refusal}
use Rattle.zc_command.specs.declared.refusal.Refusal.TheVariants.{Enoent}
use Rattle.zc_plain.specs.declared.finding.Path.{Path}
use Rattle.zc_plain.specs.declared.plain_pool.PlainFile.{PlainFile}
use Rattle.zc_plain.specs.declared.plain_pool.PlainDataset.{PlainDataset}
use Rattle.zc_plain.specs.declared.plain_pool.PlainPool.{PlainPool}
use Rattle.zc_plain.specs.PlainPool.{new_file, new_dataset, dataset_at, file_at, with_new_dataset, with_new_file, without_dataset, without_file, in_dataset, in_files}
use Rattle.zc_plain.specs.IsPlain.{StandsAt, AreNumbered}
use Rattle.zc_plain.specs.Answer.{◌>>=◌, dataset_place, file_place, dataset_of, path_of, file_of}
use Rattle.zc_plain.specs.Promises.{dataset_named, file_among, file_named}
use Rattle.zc_plain.proofs.NumberedLaws.{one_item, stood_before_removal, skipped}
use Rattle.zc_plain.proofs.OtherLaws.{found_in_changed, name_is}
use Rattle.zc_plain.proofs.Places.{dataset_there, file_there}
use Rattle.zc_plain.proofs.CommandLaws.{dataset_of_is, path_of_is, file_at_is}

abbrev some_of : {X : Type 0} → X → Option X
some_of x = Some x

abbrev path_at : ℕ → ℕ → Path
path_at dataset file = record { dataset = dataset; file = file }

-- nothing stands past the end
nothing_past : {X : Type 0} (xs : List X) (k : ℕ) → length xs ≤ k → slice_get xs k ≡ None
nothing_past [] k far = refl
nothing_past (x ∷ xs) zero far = absurd (omega arith)
nothing_past (x ∷ xs) (suc k) far = nothing_past xs k (omega arith)

-- names that aren't equal are tested so
pub names_differ : (a b : List ℕ) → a ≢ b → bytes_eq a b ≡ false
names_differ a b apart = ⊎_elim (λ (same : bytes_eq a b ≡ true). absurd (apart (name_is a b same))) (λ (differs : bytes_eq a b ≡ false). differs) (cases_Bool (bytes_eq a b))

pub names_same : (a b : List ℕ) → a ≡ b → bytes_eq a b ≡ true
names_same a b same = (bytes_eq-Decides a b).1 same

-- the first item that passes stands at the place that is found
find_by_place : {X : Type 0} (test : X → Bool) (xs : List X) → find test xs ≡ option_and_then (λ place. slice_get xs place) (found_from test 0 xs)
find_by_place test xs = find_at test xs ∙ either (nat_lt (position_or_len test xs) (length xs)) refl ∙ ap (option_and_then (λ place. slice_get xs place)) (position_from-zero test xs)
  where
    either : (within : Bool) → nat_lt (position_or_len test xs) (length xs) ≡ within
        → slice_get xs (position_or_len test xs) ≡ option_and_then (λ place. slice_get xs place) (cond within (Some (position_or_len test xs)) None)
    either true is = refl
    either false is = nothing_past xs (position_or_len test xs) (ltb-false (position_or_len test xs) (length xs) is)

-- an item that fails, after others, changes nothing
find_before_failing : {X : Type 0} (test : X → Bool) (xs : List X) (y : X) → test y ≡ false → find test (xs ++ y ∷ []) ≡ find test xs
find_before_failing {X} test xs y fails = find-append test xs (y ∷ []) ∙ rw fails (or_none (find test xs))
  where
    or_none : (o : Option X) → option_or o None ≡ o
    or_none None = refl
    or_none (Some x) = refl

-- the last item is the one where none before it is
find_last : {X : Type 0} (test : X → Bool) (xs : List X) (y : X) → find test xs ≡ None → test y ≡ true → find test (xs ++ y ∷ []) ≡ Some y
find_last test xs y missing passes = find-append test xs (y ∷ []) ∙ rw (missing, passes) refl

-- an item that fails may be changed to another that fails
find_beside_changed : {X : Type 0} (test : X → Bool) (f : X → X) (place : ℕ) (xs : List X) → ((x : X) → test (f x) ≡ test x) → ((x : X) → StandsAt xs place x → test x ≡ false) → find test (change_at f place xs) ≡ find test xs
find_beside_changed test f place [] unseen other = refl
find_beside_changed test f zero (x ∷ xs) unseen other = let fails = other x refl in rw (unseen, fails) refl
find_beside_changed test f (suc place) (x ∷ xs) unseen other = ap (cond (test x) (Some x)) (find_beside_changed test f place xs unseen (λ y stands. other y stands))

-- and it may go
find_beside_removed : {X : Type 0} (test : X → Bool) (place : ℕ) (xs : List X) → ((x : X) → StandsAt xs place x → test x ≡ false) → find test (remove xs place) ≡ find test xs
find_beside_removed test zero [] other = refl
find_beside_removed test (suc place) [] other = refl
find_beside_removed test zero (x ∷ xs) other = let fails = other x refl in rw fails refl
find_beside_removed test (suc place) (x ∷ xs) other = ap (cond (test x) (Some x)) (find_beside_removed test place xs (λ y stands. other y stands))

-- the item that is found, once it was changed
find_changed : {X : Type 0} (test : X → Bool) (f : X → X) (place : ℕ) (xs : List X) → ((x : X) → test (f x) ≡ test x) → found_from test 0 xs ≡ Some place → find test (change_at f place xs) ≡ option_map f (find test xs)
find_changed {X} test f place xs unseen found =
    let before : find test xs ≡ slice_get xs place = find_by_place test xs ∙ ap (option_and_then (λ k. slice_get xs k)) found in
    let after : find test (change_at f place xs) ≡ slice_get (change_at f place xs) place =
    find_by_place test (change_at f place xs) ∙ ap (option_and_then (λ k. slice_get (change_at f place xs) k)) (found_in_changed test f 0 place xs unseen ∙ found) in
    after ∙ get_of_change_at f place xs ∙ ap (option_map f) (sym before)

-- where none passes, none is found
find_none : {X : Type 0} (test : X → Bool) (xs : List X) → ((a : ℕ) (x : X) → StandsAt xs a x → test x ≡ false) → find test xs ≡ None
find_none test [] fail = refl
find_none test (x ∷ xs) fail = let fails = fail 0 x refl in rw fails (find_none test xs (λ a y stands. fail (suc a) y stands))

-- what is told of the item that is found, where a change keeps it
told_of_changed : {X Y : Type 0} (tell : X → Option Y) (test : X → Bool) (f : X → X) (place : ℕ) (xs : List X) → ((x : X) → test (f x) ≡ test x) → ((x : X) → StandsAt xs place x → test x ≡ true → tell (f x) ≡ tell x)
    → option_and_then tell (find test (change_at f place xs)) ≡ option_and_then tell (find test xs)
told_of_changed tell test f place [] unseen same = refl
told_of_changed tell test f zero (x ∷ xs) unseen same =
    ⊎_elim
    (λ (passes : test x ≡ true). rw (unseen, passes) (same x refl passes))
    (λ (fails : test x ≡ false). rw (unseen, fails) refl)
    (cases_Bool (test x))
told_of_changed tell test f (suc place) (x ∷ xs) unseen same =
    ⊎_elim
    (λ (passes : test x ≡ true). rw passes refl)
    (λ (fails : test x ≡ false). rw fails (told_of_changed tell test f place xs unseen (λ y stands. same y stands)))
    (cases_Bool (test x))

-- no item that is left stood at the place
skipped_apart : (at a : ℕ) → skipped at a ≢ at
skipped_apart zero a e = absurd (omega arith)
skipped_apart (suc at) zero e = absurd (omega arith)
skipped_apart (suc at) (suc a) e = skipped_apart at a (omega arith)

-- items at two places have two names
names_apart : {X : Type 0} (number_of : X → ℕ) (name_of : X → List ℕ) (next : ℕ) (xs : List X) (a b : ℕ) (x y : X) → AreNumbered number_of name_of next xs → StandsAt xs a x → StandsAt xs b y → a ≢ b → name_of x ≢ name_of y
names_apart number_of name_of next xs a b x y numbered first second other same =
    ⊎_elim
    (λ (less : a < b). numbered.one_name a b x y less first second same)
    (λ (more : b ≤ a).
    ⊎_elim
    (λ (less : b < a). numbered.one_name b a y x less second first (sym same))
    (λ (most : a ≤ b). other (omega arith))
    (cases_lt b a))
    (cases_lt a b)

-- once the item with a name goes, none has the name
name_gone : {X : Type 0} (number_of : X → ℕ) (name_of : X → List ℕ) (next : ℕ) (place : ℕ) (xs : List X) (name : List ℕ) (x : X) → AreNumbered number_of name_of next xs → StandsAt xs place x → name_of x ≡ name
    → find (λ (y : X). bytes_eq (name_of y) name) (remove xs place) ≡ None
name_gone {X} number_of name_of next place xs name x numbered stands named =
    find_none (λ (y : X). bytes_eq (name_of y) name) (remove xs place)
    (λ a y left.
    names_differ (name_of y) name
    (λ same. names_apart number_of name_of next xs (skipped place a) place y x numbered (stood_before_removal place xs a y left) stands (skipped_apart place a) (same ∙ sym named)))

-- the dataset that stands at the place of the name has the name
at_place : (dataset : List ℕ) (pool : PlainPool) (place : ℕ) → dataset_of dataset pool ≡ Ok place → dataset_place dataset pool ≡ Some place
unfolding dataset_of
at_place dataset pool place found = is_found (dataset_place dataset pool) found
  where
    is_found : (o : Option ℕ) → ok_or o (Enoent part.Dataset) ≡ Ok place → o ≡ Some place
    is_found None e = cc
    is_found (Some k) e = let same : k ≡ place = cc in ap some_of same

-- datasets by name are datasets by place
named_by_place : (name : List ℕ) (pool : PlainPool) → dataset_named name pool ≡ option_and_then (λ place. slice_get pool.datasets place) (dataset_place name pool)
unfolding dataset_named dataset_place
named_by_place name pool = find_by_place (λ (dataset : PlainDataset). bytes_eq dataset.name name) pool.datasets

among_by_place : (name : List ℕ) (dataset : PlainDataset) → file_among name dataset ≡ option_and_then (λ place. slice_get dataset.files place) (file_place name dataset)
unfolding file_among file_place
among_by_place name dataset = find_by_place (λ (file : PlainFile). bytes_eq file.name name) dataset.files

-- the dataset that is found
pub dataset_found : (dataset : List ℕ) (pool : PlainPool) (place : ℕ) → dataset_of dataset pool ≡ Ok place → dataset_named dataset pool ≡ Some (dataset_at place pool)
dataset_found dataset pool place found =
    let there = dataset_of_is dataset pool place found in
    named_by_place dataset pool ∙ ap (option_and_then (λ at. slice_get pool.datasets at)) (at_place dataset pool place found) ∙ there.1 ∙ ap some_of (sym (dataset_there pool place there.0 there.1))

pub dataset_missing : (dataset : List ℕ) (pool : PlainPool) → dataset_place dataset pool ≡ None → dataset_named dataset pool ≡ None
dataset_missing dataset pool missing = named_by_place dataset pool ∙ ap (option_and_then (λ at. slice_get pool.datasets at)) missing

pub file_missing : (file : List ℕ) (dataset : PlainDataset) → file_place file dataset ≡ None → file_among file dataset ≡ None
file_missing file dataset missing = among_by_place file dataset ∙ ap (option_and_then (λ at. slice_get dataset.files at)) missing

-- the files of a dataset that is there
pub file_in_named : (dataset file : List ℕ) (pool : PlainPool) (owner : PlainDataset) → dataset_named dataset pool ≡ Some owner → file_named dataset file pool ≡ file_among file owner
unfolding file_named
file_in_named dataset file pool owner there = ap (option_and_then (file_among file)) there

-- the file that is found
pub file_found : (dataset file : List ℕ) (pool : PlainPool) (path : Path) → path_of dataset file pool ≡ Ok path → file_named dataset file pool ≡ Some (file_at path pool)
file_found dataset file pool path found =
    let parts = path_of_is dataset file pool path found in
    let owner = dataset_of_is dataset pool path.dataset parts.0 in
    let same = dataset_there pool path.dataset owner.0 owner.1 in
    let it = file_at_is dataset file pool path owner.0 found owner.1 in
    let stands : StandsAt (dataset_at path.dataset pool).files path.file it.0 = ap (λ (d : PlainDataset). slice_get d.files path.file) same ∙ it.1 in
    file_in_named dataset file pool (dataset_at path.dataset pool) (dataset_found dataset pool path.dataset parts.0)
    ∙ among_by_place file (dataset_at path.dataset pool)
    ∙ ap (option_and_then (λ at. slice_get (dataset_at path.dataset pool).files at)) parts.1
    ∙ stands
    ∙ ap some_of (sym (file_there pool path it.0 stands))

-- a new dataset
pub dataset_came : (name : List ℕ) (pool : PlainPool) → dataset_named name pool ≡ None → dataset_named name (with_new_dataset name pool) ≡ Some (new_dataset pool.next_dataset name)
unfolding dataset_named
dataset_came name pool missing = find_last (λ (d : PlainDataset). bytes_eq d.name name) pool.datasets (new_dataset pool.next_dataset name) missing (names_same name name refl)

pub other_dataset_came : (name dataset : List ℕ) (pool : PlainPool) → name ≢ dataset → dataset_named dataset (with_new_dataset name pool) ≡ dataset_named dataset pool
unfolding dataset_named
other_dataset_came name dataset pool other = find_before_failing (λ (d : PlainDataset). bytes_eq d.name dataset) pool.datasets (new_dataset pool.next_dataset name) (names_differ name dataset other)

-- a dataset that goes
pub dataset_went : (name : List ℕ) (place : ℕ) (pool : PlainPool) → AreNumbered (λ (d : PlainDataset). d.id) (λ (d : PlainDataset). d.name) pool.next_dataset pool.datasets → dataset_of name pool ≡ Ok place
    → dataset_named name (without_dataset place pool) ≡ None
unfolding dataset_named
dataset_went name place pool numbered found =
    let there = dataset_of_is name pool place found in
    name_gone (λ (d : PlainDataset). d.id) (λ (d : PlainDataset). d.name) pool.next_dataset place pool.datasets name there.0 numbered there.1 there.2

pub other_dataset_went : (name dataset : List ℕ) (place : ℕ) (pool : PlainPool) → dataset_of name pool ≡ Ok place → name ≢ dataset → dataset_named dataset (without_dataset place pool) ≡ dataset_named dataset pool
unfolding dataset_named
other_dataset_went name dataset place pool found other =
    let there = dataset_of_is name pool place found in
    find_beside_removed (λ (d : PlainDataset). bytes_eq d.name dataset) place pool.datasets
    (λ d stands. names_differ d.name dataset (λ same. other (sym there.2 ∙ ap (λ (x : PlainDataset). x.name) (one_item there.0 d (sym there.1 ∙ stands)) ∙ same)))

-- a dataset that is changed under its name
changed_named : (name : List ℕ) (place : ℕ) (change : PlainDataset → PlainDataset) (pool : PlainPool) → ((d : PlainDataset) → (change d).name ≡ d.name) → dataset_place name pool ≡ Some place
    → dataset_named name (in_dataset place change pool) ≡ option_map change (dataset_named name pool)
unfolding dataset_named dataset_place
changed_named name place change pool keeps found = find_changed (λ (d : PlainDataset). bytes_eq d.name name) change place pool.datasets (λ d. ap (λ (n : List ℕ). bytes_eq n name) (keeps d)) found

pub dataset_changed : (name : List ℕ) (place : ℕ) (change : PlainDataset → PlainDataset) (pool : PlainPool) → ((d : PlainDataset) → (change d).name ≡ d.name) → dataset_of name pool ≡ Ok place
    → dataset_named name (in_dataset place change pool) ≡ Some (change (dataset_at place pool))
dataset_changed name place change pool keeps found = changed_named name place change pool keeps (at_place name pool place found) ∙ ap (option_map change) (dataset_found name pool place found)

pub other_dataset_changed : (name dataset : List ℕ) (place : ℕ) (change : PlainDataset → PlainDataset) (pool : PlainPool) → ((d : PlainDataset) → (change d).name ≡ d.name) → dataset_of name pool ≡ Ok place → name ≢ dataset
    → dataset_named dataset (in_dataset place change pool) ≡ dataset_named dataset pool
unfolding dataset_named
other_dataset_changed name dataset place change pool keeps found other =
    let there = dataset_of_is name pool place found in
    find_beside_changed (λ (d : PlainDataset). bytes_eq d.name dataset) change place pool.datasets (λ d. ap (λ (n : List ℕ). bytes_eq n dataset) (keeps d))
    (λ d stands. names_differ d.name dataset (λ same. other (sym there.2 ∙ ap (λ (x : PlainDataset). x.name) (one_item there.0 d (sym there.1 ∙ stands)) ∙ same)))

-- the files of a pool of which a dataset is changed that keeps them
pub file_beside_changed : (dataset file : List ℕ) (place : ℕ) (change : PlainDataset → PlainDataset) (pool : PlainPool) → ((d : PlainDataset) → (change d).name ≡ d.name)
    → ((d : PlainDataset) → StandsAt pool.datasets place d → d.name ≡ dataset → file_among file (change d) ≡ file_among file d) → file_named dataset file (in_dataset place change pool) ≡ file_named dataset file pool
unfolding file_named dataset_named
file_beside_changed dataset file place change pool keeps same =
    told_of_changed (file_among file) (λ (d : PlainDataset). bytes_eq d.name dataset) change place pool.datasets (λ d. ap (λ (n : List ℕ). bytes_eq n dataset) (keeps d))
    (λ d stands passes. same d stands (name_is d.name dataset passes))

-- a new file of a dataset
pub file_came : (name : List ℕ) (dataset : PlainDataset) → file_among name dataset ≡ None → file_among name (with_new_file name dataset) ≡ Some (new_file dataset.next_file name)
unfolding file_among
file_came name dataset missing = find_last (λ (f : PlainFile). bytes_eq f.name name) dataset.files (new_file dataset.next_file name) missing (names_same name name refl)

pub other_file_came : (name file : List ℕ) (dataset : PlainDataset) → name ≢ file → file_among file (with_new_file name dataset) ≡ file_among file dataset
unfolding file_among
other_file_came name file dataset other = find_before_failing (λ (f : PlainFile). bytes_eq f.name file) dataset.files (new_file dataset.next_file name) (names_differ name file other)

-- a file that goes
pub file_went : (name : List ℕ) (place : ℕ) (dataset : PlainDataset) (file : PlainFile) → AreNumbered (λ (f : PlainFile). f.id) (λ (f : PlainFile). f.name) dataset.next_file dataset.files → StandsAt dataset.files place file → file.name ≡ name
    → file_among name (without_file place dataset) ≡ None
unfolding file_among
file_went name place dataset file numbered stands named = name_gone (λ (f : PlainFile). f.id) (λ (f : PlainFile). f.name) dataset.next_file place dataset.files name file numbered stands named

pub other_file_went : (file : List ℕ) (place : ℕ) (dataset : PlainDataset) → ((f : PlainFile) → StandsAt dataset.files place f → f.name ≢ file) → file_among file (without_file place dataset) ≡ file_among file dataset
unfolding file_among
other_file_went file place dataset other = find_beside_removed (λ (f : PlainFile). bytes_eq f.name file) place dataset.files (λ f stands. names_differ f.name file (other f stands))

-- another file of a dataset of which a file is changed
pub other_file_changed : (file : List ℕ) (place : ℕ) (change : PlainFile → PlainFile) (dataset : PlainDataset) → ((f : PlainFile) → (change f).name ≡ f.name) → ((f : PlainFile) → StandsAt dataset.files place f → f.name ≢ file)
    → file_among file (in_files place change dataset) ≡ file_among file dataset
unfolding file_among
other_file_changed file place change dataset keeps other =
    find_beside_changed (λ (f : PlainFile). bytes_eq f.name file) change place dataset.files (λ f. ap (λ (n : List ℕ). bytes_eq n file) (keeps f)) (λ f stands. names_differ f.name file (other f stands))

-- where the names lead nowhere, there is no file
no_dataset : (dataset : List ℕ) (pool : PlainPool) (refusal : Refusal) → dataset_of dataset pool ≡ Err refusal → dataset_place dataset pool ≡ None
unfolding dataset_of
no_dataset dataset pool refusal missing = is_missing (dataset_place dataset pool) missing
  where
    is_missing : (o : Option ℕ) → ok_or o (Enoent part.Dataset) ≡ Err refusal → o ≡ None
    is_missing None e = refl
    is_missing (Some k) e = cc

no_file : (dataset file : List ℕ) (pool : PlainPool) (refusal : Refusal) → path_of dataset file pool ≡ Err refusal → file_named dataset file pool ≡ None
unfolding path_of file_named
no_file dataset file pool refusal missing = first (dataset_of dataset pool) refl missing
  where
    second : (place : ℕ) (o : Option ℕ) → dataset_of dataset pool ≡ Ok place → file_place file (dataset_at place pool) ≡ o → (ok_or o (Enoent part.File) >>= (λ at. Ok (path_at place at))) ≡ Err refusal
        → option_and_then (file_among file) (dataset_named dataset pool) ≡ None
    second place None found is e = ap (option_and_then (file_among file)) (dataset_found dataset pool place found) ∙ file_missing file (dataset_at place pool) is
    second place (Some at) found is e = cc

    first : (r : Result ℕ Refusal) → dataset_of dataset pool ≡ r → (r >>= (λ place. ok_or (file_place file (dataset_at place pool)) (Enoent part.File) >>= (λ at. Ok (path_at place at)))) ≡ Err refusal
        → option_and_then (file_among file) (dataset_named dataset pool) ≡ None
    first (Err other) is e = ap (option_and_then (file_among file)) (dataset_missing dataset pool (no_dataset dataset pool other is))
    first (Ok place) is e = second place (file_place file (dataset_at place pool)) is refl e

-- the file of the names is found by its names
pub file_of_by_name : (dataset file : List ℕ) (pool : PlainPool) → file_of dataset file pool ≡ file_named dataset file pool
unfolding file_of
file_of_by_name dataset file pool = either (path_of dataset file pool) refl
  where
    either : (r : Result Path Refusal) → path_of dataset file pool ≡ r → option_map (λ path. file_at path pool) (result_ok r) ≡ file_named dataset file pool
    either (Err refusal) missing = sym (no_file dataset file pool refusal missing)
    either (Ok path) found = sym (file_found dataset file pool path found)
