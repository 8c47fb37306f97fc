-- What a command leaves as it was: the files that it doesn't name, and the numbers that were given.
use Rattle.std.proofs.Common.{◌≡◌, ◌≢◌, ℕ, zero, suc, ◌+◌, ◌-◌, ◌<◌, ◌≤◌, Bool, true, false, List, [], ◌∷◌, ◌++◌, length, get_or, Option, Some, None, Ok, refl, sym, ap, subst, ◌∙◌, ⊎_elim, arith}
use Rattle.std.specs.Prelude.{slice_get, unwrap_or}
use Rattle.std.specs.Option.{option_map, option_and_then, ok_or}
use Rattle.std.specs.Result.{result_ok}
use Rattle.std.specs.Str.{bytes_eq}
use Rattle.std.proofs.lemmas.Bool.{cases_Bool, cases_eq}
use Rattle.std.proofs.lemmas.Option.{slice_get_cases}
use Rattle.std.proofs.lemmas.Slice.Eq.{bytes_eq-Decides}
use Rattle.zc_num.specs.Words.{change_at, found_from}
use Rattle.zc_num.proofs.Changes.{get_of_change_at, other_of_change_at}
use Rattle.zc_num.proofs.Found.{found_is_first}
use Rattle.zc_command.specs.declared.refusal.Part.TheVariants as part
use Rattle.zc_command.specs.declared.refusal.Refusal.TheVariants.{Enoent}
use Rattle.zc_plain.specs.declared.finding.Path.{Path}
use Rattle.zc_plain.specs.declared.plain_pool.PlainFile.{PlainFile}
use Rattle.zc_plain.specs.declared.plain_pool.PlainDataset.{PlainDataset}
use Rattle.zc_plain.specs.declared.plain_pool.PlainPool.{PlainPool}
use Rattle.zc_plain.specs.PlainPool.{new_file, new_dataset, dataset_at, file_at, with_new_dataset, with_new_file, in_dataset, in_files}
use Rattle.zc_plain.specs.IsPlain.{StandsAt}
use Rattle.zc_plain.specs.Answer.{◌>>=◌, dataset_place, file_place, dataset_of, path_of, file_of}
use Rattle.zc_plain.proofs.NumberedLaws.{no_item, stands_in_more}

abbrev some_of : {X : Type 0} → X → Option X
some_of x = Some x

abbrev path_at : ℕ → ℕ → Path
path_at dataset file = record { dataset = dataset; file = file }

-- what is found is found with more items after it
pub found_in_more : {X : Type 0} (test : X → Bool) (k : ℕ) (xs ys : List X) (place : ℕ) → found_from test k xs ≡ Some place → found_from test k (xs ++ ys) ≡ Some place
found_in_more test k [] ys place found = no_item place found
found_in_more test k (x ∷ xs) ys place found =
    ⊎_elim
    (λ (passes : test x ≡ true). let here = rw passes at found in rw passes here)
    (λ (fails : test x ≡ false). let there = rw fails at found in rw fails (found_in_more test (k + 1) xs ys place there))
    (cases_Bool (test x))

-- a change that a test doesn't see moves nothing that it finds
pub found_in_changed : {X : Type 0} (test : X → Bool) (f : X → X) (k place : ℕ) (xs : List X) → ((x : X) → test (f x) ≡ test x) → found_from test k (change_at f place xs) ≡ found_from test k xs
found_in_changed test f k place [] unseen = refl
found_in_changed test f k zero (x ∷ xs) unseen = rw unseen refl
found_in_changed test f k (suc place) (x ∷ xs) unseen =
    ⊎_elim
    (λ (passes : test x ≡ true). rw passes refl)
    (λ (fails : test x ≡ false). rw fails (found_in_changed test f (k + 1) place xs unseen))
    (cases_Bool (test x))

-- an item that fails a test, after others, changes nothing that it finds
found_before_failing : {X : Type 0} (test : X → Bool) (k : ℕ) (xs : List X) (x : X) → test x ≡ false → found_from test k (xs ++ x ∷ []) ≡ found_from test k xs
found_before_failing test k [] x fails = rw fails refl
found_before_failing test k (y ∷ xs) x fails =
    ⊎_elim
    (λ (passes : test y ≡ true). rw passes refl)
    (λ (other : test y ≡ false). rw other (found_before_failing test (k + 1) xs x fails))
    (cases_Bool (test y))

-- what is found passes the test
pub found_passes : {X : Type 0} (test : X → Bool) (xs : List X) (place : ℕ) → found_from test 0 xs ≡ Some place → (x : X) × StandsAt xs place x × (test x ≡ true)
found_passes {X} test xs place found =
    let first = found_is_first test 0 xs place found in
    ⊎_elim
    (λ (there : (x : X) × (place < length xs) × (slice_get xs place ≡ Some x) × (get_or xs place x ≡ x)).
    let none : place - 0 ≡ place = omega arith in
    let passes : test (get_or xs place there.0) ≡ true = rw none at (first.passes there.0) in
    (there.0, there.2, sym (ap test there.3) ∙ passes))
    (λ (past : (length xs ≤ place) × (slice_get xs place ≡ None)). absurd (omega (arith, first.within)))
    (slice_get_cases xs place).1

-- the last item is found where none before it is
found_last : {X : Type 0} (test : X → Bool) (k : ℕ) (xs : List X) (x : X) → found_from test k xs ≡ None → test x ≡ true → found_from test k (xs ++ x ∷ []) ≡ Some (k + length xs)
found_last test k [] x missing passes = rw passes (ap some_of (omega arith))
found_last test k (y ∷ xs) x missing passes =
    ⊎_elim
    (λ (here : test y ≡ true). let found : Some k ≡ None = rw here at missing in cc)
    (λ (other : test y ≡ false). let there = rw other at missing in rw other (found_last test (k + 1) xs x there passes ∙ ap some_of (omega arith)))
    (cases_Bool (test y))

-- an item after others
last_stands : {X : Type 0} (xs : List X) (x : X) → StandsAt (xs ++ x ∷ []) (length xs) x
last_stands [] x = refl
last_stands (y ∷ xs) x = last_stands xs x

-- names that are tested equal are equal
pub name_is : (a b : List ℕ) → bytes_eq a b ≡ true → a ≡ b
name_is a b test = (bytes_eq-Decides a b).0 test

name_differs : (a b : List ℕ) → a ≢ b → bytes_eq a b ≡ false
name_differs a b apart = ⊎_elim (λ (same : bytes_eq a b ≡ true). absurd (apart (name_is a b same))) (λ (differs : bytes_eq a b ≡ false). differs) (cases_Bool (bytes_eq a b))

-- the file of the name in a dataset
pub file_in : List ℕ → PlainDataset → Option PlainFile
file_in file dataset = option_map (λ place. unwrap_or (slice_get dataset.files place) (new_file 0 [])) (file_place file dataset)

no_file_in_new : (file : List ℕ) (id : ℕ) (name : List ℕ) → file_in file (new_dataset id name) ≡ None
unfolding file_in file_place
no_file_in_new file id name = refl

-- the file of the names is the file in the dataset of the name
pub file_of_in : (dataset file : List ℕ) (pool : PlainPool) → file_of dataset file pool ≡ option_and_then (λ place. file_in file (dataset_at place pool)) (dataset_place dataset pool)
unfolding file_of file_in path_of dataset_of file_at
file_of_in dataset file pool =
    elim (dataset_place dataset pool) as (λ found. option_map (λ path. unwrap_or (slice_get (dataset_at path.dataset pool).files path.file) (new_file 0 []))
    (result_ok (ok_or found (Enoent part.Dataset) >>= (λ place. ok_or (file_place file (dataset_at place pool)) (Enoent part.File) >>= (λ file_place. Ok (path_at place file_place)))))
    ≡ option_and_then (λ place. option_map (λ at. unwrap_or (slice_get (dataset_at place pool).files at) (new_file 0 [])) (file_place file (dataset_at place pool))) found) [
      | None ↦ refl
      | Some place ↦ elim (file_place file (dataset_at place pool)) as (λ found. option_map (λ path. unwrap_or (slice_get (dataset_at path.dataset pool).files path.file) (new_file 0 []))
          (result_ok (ok_or found (Enoent part.File) >>= (λ file_place. Ok (path_at place file_place)))) ≡ option_map (λ at. unwrap_or (slice_get (dataset_at place pool).files at) (new_file 0 [])) found) [ None ↦ refl | Some at ↦ refl ]
    ]

-- another file of a dataset of which a file is changed
pub other_in_files : (place : ℕ) (change : PlainFile → PlainFile) (file : List ℕ) (dataset : PlainDataset) → ((f : PlainFile) → (change f).name ≡ f.name) → ((f : PlainFile) → StandsAt dataset.files place f → f.name ≢ file)
    → file_in file (in_files place change dataset) ≡ file_in file dataset
unfolding file_in file_place
other_in_files place change file dataset keeps other =
    let test : PlainFile → Bool = λ (f : PlainFile). bytes_eq f.name file in
    rw (found_in_changed test change 0 place dataset.files (λ f. ap (λ (name : List ℕ). bytes_eq name file) (keeps f)))
    (either (found_from test 0 dataset.files) refl)
  where
    either : (found : Option ℕ) → found_from (λ (f : PlainFile). bytes_eq f.name file) 0 dataset.files ≡ found
        → option_map (λ at. unwrap_or (slice_get (change_at change place dataset.files) at) (new_file 0 [])) found ≡ option_map (λ at. unwrap_or (slice_get dataset.files at) (new_file 0 [])) found
    either None missing = refl
    either (Some at) found =
        let there = found_passes (λ (f : PlainFile). bytes_eq f.name file) dataset.files at found in
        let apart : at ≢ place = λ (same : at ≡ place). other there.0 (subst (λ (k : ℕ). StandsAt dataset.files k there.0) same there.1) (name_is there.0.name file there.2) in
        ap (λ (item : Option PlainFile). some_of (unwrap_or item (new_file 0 []))) (other_of_change_at change place dataset.files at apart)

-- the file that is changed
pub changed_in_files : (place : ℕ) (change : PlainFile → PlainFile) (file : List ℕ) (dataset : PlainDataset) → ((f : PlainFile) → (change f).name ≡ f.name) → file_place file dataset ≡ Some place
    → file_in file (in_files place change dataset) ≡ option_map change (file_in file dataset)
unfolding file_in file_place
changed_in_files place change file dataset keeps found =
    let test : PlainFile → Bool = λ (f : PlainFile). bytes_eq f.name file in
    let there = found_passes test dataset.files place found in
    let now' : slice_get (change_at change place dataset.files) place ≡ Some (change there.0) = get_of_change_at change place dataset.files ∙ ap (option_map change) there.1 in
    rw (found_in_changed test change 0 place dataset.files (λ f. ap (λ (name : List ℕ). bytes_eq name file) (keeps f)), found, now', there.1) refl

-- another file of a dataset with a new one
pub other_with_file : (name file : List ℕ) (dataset : PlainDataset) → name ≢ file → file_in file (with_new_file name dataset) ≡ file_in file dataset
unfolding file_in file_place
other_with_file name file dataset other =
    let test : PlainFile → Bool = λ (f : PlainFile). bytes_eq f.name file in
    rw (found_before_failing test 0 dataset.files (new_file dataset.next_file name) (name_differs name file other))
    (either (found_from test 0 dataset.files) refl)
  where
    either : (found : Option ℕ) → found_from (λ (f : PlainFile). bytes_eq f.name file) 0 dataset.files ≡ found
        → option_map (λ at. unwrap_or (slice_get (dataset.files ++ new_file dataset.next_file name ∷ []) at) (new_file 0 [])) found ≡ option_map (λ at. unwrap_or (slice_get dataset.files at) (new_file 0 [])) found
    either None missing = refl
    either (Some at) found =
        let there = found_passes (λ (f : PlainFile). bytes_eq f.name file) dataset.files at found in
        let still = stands_in_more dataset.files (new_file dataset.next_file name ∷ []) at there.0 there.1 in
        rw (still, there.1) refl

-- the new file
pub new_with_file : (name : List ℕ) (dataset : PlainDataset) → file_place name dataset ≡ None → file_in name (with_new_file name dataset) ≡ Some (new_file dataset.next_file name)
unfolding file_in file_place
new_with_file name dataset missing =
    let test : PlainFile → Bool = λ (f : PlainFile). bytes_eq f.name name in
    let passes : bytes_eq name name ≡ true = (bytes_eq-Decides name name).1 refl in
    let place : 0 + length dataset.files ≡ length dataset.files = omega arith in
    rw (found_last test 0 dataset.files (new_file dataset.next_file name) missing passes, place, last_stands dataset.files (new_file dataset.next_file name)) refl

-- the files of another dataset's names, and those of this one that the change leaves
pub other_in_dataset : (place : ℕ) (change : PlainDataset → PlainDataset) (dataset file : List ℕ) (pool : PlainPool) → ((d : PlainDataset) → (change d).name ≡ d.name)
    → ((d : PlainDataset) → StandsAt pool.datasets place d → d.name ≡ dataset → file_in file (change d) ≡ file_in file d) → file_of dataset file (in_dataset place change pool) ≡ file_of dataset file pool
unfolding dataset_place dataset_at
other_in_dataset place change dataset file pool keeps same_files =
    let test : PlainDataset → Bool = λ (d : PlainDataset). bytes_eq d.name dataset in
    file_of_in dataset file (in_dataset place change pool)
    ∙ rw (found_in_changed test change 0 place pool.datasets (λ d. ap (λ (name : List ℕ). bytes_eq name dataset) (keeps d))) (either (found_from test 0 pool.datasets) refl)
    ∙ sym (file_of_in dataset file pool)
  where
    either : (found : Option ℕ) → found_from (λ (d : PlainDataset). bytes_eq d.name dataset) 0 pool.datasets ≡ found
        → option_and_then (λ at. file_in file (unwrap_or (slice_get (change_at change place pool.datasets) at) (new_dataset 0 []))) found ≡ option_and_then (λ at. file_in file (unwrap_or (slice_get pool.datasets at) (new_dataset 0 []))) found
    either None missing = refl
    either (Some at) found =
        let there = found_passes (λ (d : PlainDataset). bytes_eq d.name dataset) pool.datasets at found in
        ⊎_elim
        (λ (same : at ≡ place).
        let now' : slice_get (change_at change place pool.datasets) at ≡ Some (change there.0) =
        subst (λ (k : ℕ). slice_get (change_at change k pool.datasets) at ≡ Some (change there.0)) same (get_of_change_at change at pool.datasets ∙ ap (option_map change) there.1) in
        rw (now', there.1) (same_files there.0 (subst (λ (k : ℕ). StandsAt pool.datasets k there.0) same there.1) (name_is there.0.name dataset there.2)))
        (λ (apart : at ≢ place). rw (other_of_change_at change place pool.datasets at apart) refl)
        (cases_eq at place)

-- a new dataset has no file, and every other keeps its files
pub other_with_dataset : (name dataset file : List ℕ) (pool : PlainPool) → dataset_place name pool ≡ None → file_of dataset file (with_new_dataset name pool) ≡ file_of dataset file pool
unfolding dataset_place dataset_at
other_with_dataset name dataset file pool missing =
    file_of_in dataset file (with_new_dataset name pool) ∙ either (found_from (λ (d : PlainDataset). bytes_eq d.name dataset) 0 pool.datasets) refl ∙ sym (file_of_in dataset file pool)
  where
    either : (found : Option ℕ) → found_from (λ (d : PlainDataset). bytes_eq d.name dataset) 0 pool.datasets ≡ found
        → option_and_then (λ at. file_in file (unwrap_or (slice_get (pool.datasets ++ new_dataset pool.next_dataset name ∷ []) at) (new_dataset 0 []))) (found_from (λ (d : PlainDataset). bytes_eq d.name dataset) 0 (pool.datasets ++ new_dataset pool.next_dataset name ∷ []))
        ≡ option_and_then (λ at. file_in file (unwrap_or (slice_get pool.datasets at) (new_dataset 0 []))) (found_from (λ (d : PlainDataset). bytes_eq d.name dataset) 0 pool.datasets)
    either None absent =
        ⊎_elim
        (λ (new : bytes_eq name dataset ≡ true).
        let place : 0 + length pool.datasets ≡ length pool.datasets = omega arith in
        rw (found_last (λ (d : PlainDataset). bytes_eq d.name dataset) 0 pool.datasets (new_dataset pool.next_dataset name) absent new, absent, place, last_stands pool.datasets (new_dataset pool.next_dataset name)) (no_file_in_new file pool.next_dataset name))
        (λ (other : bytes_eq name dataset ≡ false).
        rw (found_before_failing (λ (d : PlainDataset). bytes_eq d.name dataset) 0 pool.datasets (new_dataset pool.next_dataset name) other, absent) refl)
        (cases_Bool (bytes_eq name dataset))
    either (Some at) found =
        let there = found_passes (λ (d : PlainDataset). bytes_eq d.name dataset) pool.datasets at found in
        let still = stands_in_more pool.datasets (new_dataset pool.next_dataset name ∷ []) at there.0 there.1 in
        rw (found_in_more (λ (d : PlainDataset). bytes_eq d.name dataset) 0 pool.datasets (new_dataset pool.next_dataset name ∷ []) at found, found, still, there.1) refl
