-- What stands at the places of a plain pool, and stands there once it was changed in place.
use Rattle.std.proofs.Common.{◌≡◌, ℕ, List, [], Option, Result, Ok, Err, sym, ap, ◌∙◌}
use Rattle.std.specs.Prelude.{slice_set, unwrap_or, OnOk, OnErr}
use Rattle.std.proofs.lemmas.List.{set-get_or}
use Rattle.std.proofs.lemmas.Option.{get_or_from_slice_get}
use Rattle.zc_num.specs.Words.{change_at}
use Rattle.zc_num.proofs.Changes.{set_as_change_at}
use Rattle.zc_plain.specs.declared.finding.Path.{Path}
use Rattle.zc_plain.specs.declared.plain_pool.PlainFile.{PlainFile}
use Rattle.zc_plain.specs.declared.plain_pool.PlainDataset.{PlainDataset}
use Rattle.zc_plain.specs.declared.plain_pool.PlainPool.{PlainPool}
use Rattle.zc_plain.specs.PlainPool.{new_dataset, new_file, dataset_at, file_at, in_files, in_dataset}
use Rattle.zc_plain.specs.IsPlain.{StandsAt}

-- the dataset at a place
pub dataset_there : (pool : PlainPool) (place : ℕ) (dataset : PlainDataset) → StandsAt pool.datasets place dataset → dataset_at place pool ≡ dataset
unfolding dataset_at
dataset_there pool place dataset stands = ap (λ (found : Option PlainDataset). unwrap_or found (new_dataset 0 [])) stands

-- the file at a path
pub file_there : (pool : PlainPool) (path : Path) (file : PlainFile) → StandsAt (dataset_at path.dataset pool).files path.file file → file_at path pool ≡ file
unfolding file_at
file_there pool path file stands = ap (λ (found : Option PlainFile). unwrap_or found (new_file 0 [])) stands

-- an item that a call changed where it was answered Ok, written back
pub changed_there : {T E X : Type 0} (result : Result T E) (f : X → X) (xs : List X) (place : ℕ) (x y : X) → StandsAt xs place x → OnOk result (y ≡ f x) → OnOk result (slice_set xs place y ≡ change_at f place xs)
changed_there (Ok value) f xs place x y stands changed = set_as_change_at f place xs x y stands changed
changed_there (Err fault) f xs place x y stands changed = tt

-- an item that a call left as it was where it failed, written back
pub kept_there : {T E X : Type 0} (result : Result T E) (xs : List X) (place : ℕ) (x y : X) → StandsAt xs place x → OnErr result (y ≡ x) → OnErr result (slice_set xs place y ≡ xs)
kept_there (Ok value) xs place x y stands same = tt
kept_there (Err fault) xs place x y stands same =
    ap (slice_set xs place) (same ∙ sym (get_or_from_slice_get xs place x x stands)) ∙ set-get_or xs place x

-- the same of a dataset of the pool
pub changed_in_pool : {T E : Type 0} (result : Result T E) (change : PlainDataset → PlainDataset) (pool : PlainPool) (place : ℕ) (was now' : PlainDataset) → StandsAt pool.datasets place was → OnOk result (now' ≡ change was)
    → OnOk result (record pool { datasets = slice_set pool.datasets place now' } ≡ in_dataset place change pool)
changed_in_pool (Ok value) change pool place was now' stands changed = ap (λ (datasets : List PlainDataset). record pool { datasets = datasets }) (set_as_change_at change place pool.datasets was now' stands changed)
changed_in_pool (Err fault) change pool place was now' stands changed = tt

pub kept_in_pool : {T E : Type 0} (result : Result T E) (pool : PlainPool) (place : ℕ) (was now' : PlainDataset) → StandsAt pool.datasets place was → OnErr result (now' ≡ was)
    → OnErr result (record pool { datasets = slice_set pool.datasets place now' } ≡ pool)
kept_in_pool (Ok value) pool place was now' stands same = tt
kept_in_pool {T} {E} (Err fault) pool place was now' stands same =
    ap (λ (datasets : List PlainDataset). record pool { datasets = datasets }) (kept_there {T = T} {E = E} (Err fault) pool.datasets place was now' stands same)

-- the same of the files of a dataset
pub changed_files : {T E : Type 0} (result : Result T E) (change : PlainFile → PlainFile) (place : ℕ) (was : PlainDataset) (files : List PlainFile) → OnOk result (files ≡ change_at change place was.files)
    → OnOk result (record was { files = files } ≡ in_files place change was)
changed_files (Ok value) change place was files changed = ap (λ (fs : List PlainFile). record was { files = fs }) changed
changed_files (Err fault) change place was files changed = tt

pub kept_files : {T E : Type 0} (result : Result T E) (was : PlainDataset) (files : List PlainFile) → OnErr result (files ≡ was.files) → OnErr result (record was { files = files } ≡ was)
kept_files (Ok value) was files same = tt
kept_files (Err fault) was files same = ap (λ (fs : List PlainFile). record was { files = fs }) same
