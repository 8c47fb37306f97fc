-- Where datasets and files stand in a heart, and in the plain pool that it stands for.
use Rattle.std.proofs.Common.{◌≡◌, ℕ, zero, suc, ◌+◌, Bool, true, false, List, [], ◌∷◌, map, Option, Some, None, Result, Ok, Err, refl, sym, ap, subst, ◌∙◌, ⊎_elim, arith}
use Rattle.std.specs.Prelude.{find, IsSome}
use Rattle.std.specs.Option.{ok_or, option_map}
use Rattle.std.specs.Str.{bytes_eq}
use Rattle.std.proofs.lemmas.Bool.{cases_Bool, eq-eqb}
use Rattle.zc_num.specs.Words.{found_from}
use Rattle.zc_command.specs.declared.refusal.Part.TheVariants as part
use Rattle.zc_command.specs.declared.refusal.Refusal.{Refusal}
use Rattle.zc_command.specs.declared.refusal.Refusal.TheVariants.{Enoent}
use Rattle.zc_plain.specs.declared.finding.Path.{Path}
use Rattle.zc_plain.specs.declared.plain_pool.PlainFile.{PlainFile}
use Rattle.zc_plain.specs.declared.plain_pool.PlainDataset.{PlainDataset}
use Rattle.zc_plain.specs.PlainPool.{dataset_at, file_at}
use Rattle.zc_plain.specs.IsPlain.{StandsAt, IsPlainDataset, IsPlain}
use Rattle.zc_plain.specs.Answer.{◌>>=◌, most_files, most_bytes, dataset_place, file_place, path_of}
use Rattle.zc_plain.specs.Answer as answer
use Rattle.zc_plain.proofs.Places.{dataset_there}
use Rattle.zc_plain.proofs.NumberedLaws.{one_item, no_item}
use Rattle.zc_heart.specs.declared.file.HeartFile.{HeartFile}
use Rattle.zc_heart.specs.declared.directory.Named.{Named}
use Rattle.zc_heart.specs.declared.dataset.Spot.{Spot}
use Rattle.zc_heart.specs.declared.pool_core.HeartDataset.{HeartDataset}
use Rattle.zc_heart.specs.declared.pool_core.Core.{Core}
use Rattle.zc_heart.specs.Directory.{id_of, is_numbered, is_called, id_called}
use Rattle.zc_heart.specs.Core.{plain_file, plain_dataset, pool_of}
use Rattle.zc_heart.specs.Meaning.{dataset_number}
use Rattle.zc_heart.specs.Deeds.{dataset_index, dataset_of, files_in, spot_of, file_on}
use Rattle.zc_heart.proofs.Listing.{stands_in_map, found_in_map, FindsAt, FindsNone, finds, Ascend, found_by_number}

-- ---- datasets

-- the dataset of a name stands at the same place
pub place_same : (name : List ℕ) (core : Core) → dataset_place name (pool_of core) ≡ dataset_index name core
unfolding dataset_place dataset_index
place_same name core = found_in_map plain_dataset (λ (d : PlainDataset). bytes_eq d.name name) 0 core.datasets

pub dataset_same : (name : List ℕ) (core : Core) → answer.dataset_of name (pool_of core) ≡ dataset_of name core
unfolding answer.dataset_of dataset_of
dataset_same name core = ap (λ (found : Option ℕ). ok_or found (Enoent part.Dataset)) (place_same name core)

-- the dataset at a place
pub dataset_is : (core : Core) (place : ℕ) (dataset : HeartDataset) → StandsAt core.datasets place dataset → dataset_at place (pool_of core) ≡ plain_dataset dataset
dataset_is core place dataset stands = dataset_there (pool_of core) place (plain_dataset dataset) (stands_in_map plain_dataset core.datasets place dataset stands)

pub files_are : (core : Core) (place : ℕ) (dataset : HeartDataset) → StandsAt core.datasets place dataset → files_in place core ≡ dataset.files
unfolding files_in
files_are core place dataset stands = rw stands refl

-- it is plain
pub dataset_is_plain : (core : Core) (place : ℕ) (dataset : HeartDataset) → IsPlain (pool_of core) → StandsAt core.datasets place dataset → IsPlainDataset (most_files (pool_of core)) (most_bytes (pool_of core)) (plain_dataset dataset)
dataset_is_plain core place dataset plain stands = plain.datasets place (plain_dataset dataset) (stands_in_map plain_dataset core.datasets place dataset stands)

-- the numbers of datasets ascend, and those of the files of each
pub datasets_ascend : (core : Core) → IsPlain (pool_of core) → Ascend (λ (d : HeartDataset). d.id) core.datasets
datasets_ascend core plain =
    λ a b x y lt first second. plain.numbered.ascending a b (plain_dataset x) (plain_dataset y) lt (stands_in_map plain_dataset core.datasets a x first) (stands_in_map plain_dataset core.datasets b y second)

pub files_ascend : (most most_size : ℕ) (dataset : HeartDataset) → IsPlainDataset most most_size (plain_dataset dataset) → Ascend id_of dataset.files
files_ascend most most_size dataset plain =
    λ a b x y lt first second. plain.numbered.ascending a b (plain_file x) (plain_file y) lt (stands_in_map plain_file dataset.files a x first) (stands_in_map plain_file dataset.files b y second)

-- ---- files

-- The path of a file, and its spot.
pub record IsAt (path : Path) (spot : Spot) (core : Core) : Type 0 where
  pub dataset : HeartDataset
  pub stands : StandsAt core.datasets path.dataset dataset
  pub file : Named HeartFile
  pub there : StandsAt dataset.files path.file file
  pub place : spot.place ≡ path.dataset
  pub id : spot.id ≡ file.id
  pub found : find (is_numbered spot.id) dataset.files ≡ Some file

-- both are found, or both refused alike
abbrev pub SamePath : Result Path Refusal → Result Spot Refusal → Core → Type 0
SamePath (Ok path) (Ok spot) core = IsAt path spot core
SamePath (Ok path) (Err refusal) core = ⊥
SamePath (Err refusal) (Ok spot) core = ⊥
SamePath (Err refusal) (Err other) core = refusal ≡ other

-- the file of a name stands at the same place of a dataset
pub file_place_same : (name : List ℕ) (dataset : HeartDataset) → file_place name (plain_dataset dataset) ≡ found_from (is_called name) 0 dataset.files
unfolding file_place
file_place_same name dataset = found_in_map plain_file (λ (f : PlainFile). bytes_eq f.name name) 0 dataset.files

-- the file of a name in a dataset
file_same : (core : Core) (place : ℕ) (dataset : HeartDataset) (name : List ℕ) → IsPlain (pool_of core) → StandsAt core.datasets place dataset
    → SamePath (ok_or (file_place name (plain_dataset dataset)) (Enoent part.File) >>= (λ at. Ok (record { dataset = place; file = at }))) (ok_or (id_called name dataset.files) (Enoent part.File) >>= (λ id. Ok (record { place = place; id = id }))) core
file_same core place dataset name plain stands =
    let place_is = file_place_same name dataset in
    ⊎_elim
    (λ (one : FindsAt (is_called name) 0 dataset.files).
    let at_is : 0 + one.at ≡ one.at = omega arith in
    let ascend = files_ascend (most_files (pool_of core)) (most_bytes (pool_of core)) dataset (dataset_is_plain core place dataset plain stands) in
    rw (place_is, one.place, at_is, one.found)
    (record { dataset = dataset; stands = stands; file = one.item; there = one.stands; place = refl; id = refl; found = found_by_number id_of dataset.files one.at one.item ascend one.stands }))
    (λ (none : FindsNone (is_called name) 0 dataset.files). rw (place_is, none.place, none.found) refl)
    (finds (is_called name) 0 dataset.files)

found_place : (core : Core) (name : List ℕ) (one : FindsAt (λ (d : HeartDataset). bytes_eq d.name name) 0 core.datasets) → dataset_index name core ≡ Some one.at
unfolding dataset_index
found_place core name one = let at_is : 0 + one.at ≡ one.at = omega arith in one.place ∙ ap Some at_is

no_place : (core : Core) (name : List ℕ) → FindsNone (λ (d : HeartDataset). bytes_eq d.name name) 0 core.datasets → dataset_index name core ≡ None
unfolding dataset_index
no_place core name none = none.place

-- the path and the spot of the names
pub paths_same : (dataset file : List ℕ) (core : Core) → IsPlain (pool_of core) → SamePath (path_of dataset file (pool_of core)) (spot_of dataset file core) core
unfolding path_of spot_of answer.dataset_of dataset_of
paths_same dataset file core plain =
    rw place_same
    (⊎_elim
    (λ (one : FindsAt (λ (d : HeartDataset). bytes_eq d.name dataset) 0 core.datasets).
    let at_is : 0 + one.at ≡ one.at = omega arith in
    let found : dataset_index dataset core ≡ Some one.at = found_place core dataset one in
    let is = dataset_is core one.at one.item one.stands in
    let files = files_are core one.at one.item one.stands in
    rw (found, is, files) (file_same core one.at one.item file plain one.stands))
    (λ (none : FindsNone (λ (d : HeartDataset). bytes_eq d.name dataset) 0 core.datasets).
    let missing : dataset_index dataset core ≡ None = no_place core dataset none in
    rw missing refl)
    (finds (λ (d : HeartDataset). bytes_eq d.name dataset) 0 core.datasets))

-- the file at a path
pub file_is : (path : Path) (spot : Spot) (core : Core) (at : IsAt path spot core) → file_at path (pool_of core) ≡ plain_file at.file
unfolding file_at
file_is path spot core at =
    let is = dataset_is core path.dataset at.dataset at.stands in
    let there = stands_in_map plain_file at.dataset.files path.file at.file at.there in
    rw (is, there) refl

-- the file at the spot
pub file_on_is : (path : Path) (spot : Spot) (core : Core) (at : IsAt path spot core) → file_on spot core ≡ Some at.file
unfolding file_on
file_on_is path spot core at =
    let files = files_are core path.dataset at.dataset at.stands in
    rw (at.place, files) at.found

-- an item that passes is found, or one before it
found_some : {X : Type 0} (test : X → Bool) (xs : List X) (at : ℕ) (x : X) → StandsAt xs at x → test x ≡ true → IsSome (find test xs)
found_some test [] at x stands passes = no_item x stands
found_some test (y ∷ xs) zero x stands passes = let here : test y ≡ true = ap test (one_item y x stands) ∙ passes in rw here refl
found_some test (y ∷ xs) (suc at) x stands passes =
    ⊎_elim
    (λ (here : test y ≡ true). rw here refl)
    (λ (fails : test y ≡ false). rw fails (found_some test xs at x stands passes))
    (cases_Bool (test y))

-- what is found by its name is found by its number
pub called_is_numbered : (name : List ℕ) (files : List (Named HeartFile)) (id : ℕ) → id_called name files ≡ Some id → IsSome (find (is_numbered id) files)
called_is_numbered name files id found =
    ⊎_elim
    (λ (one : FindsAt (is_called name) 0 files).
    let named : Some one.item.id ≡ Some id = rw one.found at found in
    let same : one.item.id ≡ id = one_item one.item.id id named in
    found_some (is_numbered id) files one.at one.item one.stands (eq-eqb one.item.id id same))
    (λ (none : FindsNone (is_called name) 0 files). let missing : None ≡ Some id = rw none.found at found in no_item id missing)
    (finds (is_called name) 0 files)

-- ---- the number of a dataset

found_in_image : {X Y : Type 0} (g : X → Y) (test : Y → Bool) (xs : List X) → find test (map g xs) ≡ option_map g (find (λ x. test (g x)) xs)
found_in_image g test [] = refl
found_in_image g test (x ∷ xs) =
    ⊎_elim
    (λ (passes : test (g x) ≡ true). rw passes refl)
    (λ (fails : test (g x) ≡ false). rw fails (found_in_image g test xs))
    (cases_Bool (test (g x)))

pub number_of_none : (name : List ℕ) (core : Core) → dataset_index name core ≡ None → dataset_number name (pool_of core) ≡ None
unfolding dataset_index
number_of_none name core missing =
    ⊎_elim
    (λ (one : FindsAt (λ (d : HeartDataset). bytes_eq d.name name) 0 core.datasets). no_item (0 + one.at) (sym missing ∙ one.place))
    (λ (none : FindsNone (λ (d : HeartDataset). bytes_eq d.name name) 0 core.datasets).
    ap (option_map (λ (d : PlainDataset). (d.id, true))) (found_in_image plain_dataset (λ (d : PlainDataset). bytes_eq d.name name) core.datasets)
    ∙ ap (λ (found : Option HeartDataset). option_map (λ (d : PlainDataset). (d.id, true)) (option_map plain_dataset found)) none.found)
    (finds (λ (d : HeartDataset). bytes_eq d.name name) 0 core.datasets)

pub number_of_one : (name : List ℕ) (core : Core) (place : ℕ) (dataset : HeartDataset) → dataset_index name core ≡ Some place → StandsAt core.datasets place dataset → dataset_number name (pool_of core) ≡ Some (dataset.id, true)
unfolding dataset_index
number_of_one name core place dataset found stands =
    ⊎_elim
    (λ (one : FindsAt (λ (d : HeartDataset). bytes_eq d.name name) 0 core.datasets).
    let at_is : one.at ≡ place = let same = one_item (0 + one.at) place (sym one.place ∙ found) in omega (arith, same) in
    let is = one_item one.item dataset (sym (subst (λ (k : ℕ). StandsAt core.datasets k one.item) at_is one.stands) ∙ stands) in
    ap (option_map (λ (d : PlainDataset). (d.id, true))) (found_in_image plain_dataset (λ (d : PlainDataset). bytes_eq d.name name) core.datasets)
    ∙ ap (λ (one : Option HeartDataset). option_map (λ (d : PlainDataset). (d.id, true)) (option_map plain_dataset one)) (one.found ∙ ap Some is))
    (λ (none : FindsNone (λ (d : HeartDataset). bytes_eq d.name name) 0 core.datasets). no_item place (sym none.place ∙ found))
    (finds (λ (d : HeartDataset). bytes_eq d.name name) 0 core.datasets)
