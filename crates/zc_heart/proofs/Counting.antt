-- How often each stamp stands in a heart: a sum over its datasets and their files.
use Rattle.std.proofs.Common.{◌≡◌, ℕ, ◌<◌, ◌==◌, false, List, [], ◌∷◌, ◌++◌, map, refl, sym, ap, ◌∙◌, arith}
use Rattle.std.specs.Prelude.{sum_by, count_by, flat_map}
use Rattle.std.specs.List.{AllByRecursion}
use Rattle.std.proofs.lemmas.Bool.{ne_eqb}
use Rattle.std.proofs.lemmas.List.Concat.{flat_map-cons}
use Rattle.std.proofs.lemmas.List.Sums.{sum_by-cons}
use Rattle.zc_plain.specs.declared.plain_pool.PlainBlock.{PlainBlock}
use Rattle.zc_plain.specs.declared.plain_pool.PlainBlock.TheVariants.{Hole, Made}
use Rattle.zc_plain.specs.declared.plain_pool.PlainFile.{PlainFile}
use Rattle.zc_plain.specs.declared.plain_pool.PlainDataset.{PlainDataset}
use Rattle.zc_plain.specs.Charge.{is_stamp, stamp_of, stamps_of}
use Rattle.zc_plain.specs.IsPlain.{StandsAt}
use Rattle.zc_heart.specs.declared.file.HeartFile.{HeartFile}
use Rattle.zc_heart.specs.declared.directory.Named.{Named}
use Rattle.zc_heart.specs.declared.pool_core.HeartDataset.{HeartDataset}
use Rattle.zc_heart.specs.declared.pool_core.Core.{Core}
use Rattle.zc_heart.specs.declared.stamps.Stamps.{Stamps}
use Rattle.zc_heart.specs.Core.{plain_file, plain_dataset, pool_of, IsMadeBy, IsStamped}
use Rattle.zc_heart.specs.File.{stamps_in, Counts, IsNew}
use Rattle.zc_heart.specs.Stamps.{AreCounted}
use Rattle.zc_heart.specs.Deeds.{stamps_in_files, CountsAll}
use Rattle.zc_heart.proofs.Listing.{counted_flat, sum_of_one}

-- what comes of an image
flat_mapped : {X Y Z : Type 0} (f : Y → List Z) (g : X → Y) (xs : List X) → flat_map f (map g xs) ≡ flat_map (λ x. f (g x)) xs
flat_mapped f g [] = refl
flat_mapped {X} {Y} {Z} f g (x ∷ xs) = flat_map-cons f (g x) (map g xs) ∙ ap (λ (rest : List Z). f (g x) ++ rest) (flat_mapped f g xs) ∙ sym (flat_map-cons (λ x. f (g x)) x xs)

flat_same : {X Z : Type 0} (f g : X → List Z) (xs : List X) → ((x : X) → f x ≡ g x) → flat_map f xs ≡ flat_map g xs
flat_same f g [] same = refl
flat_same {X} {Z} f g (x ∷ xs) same =
    flat_map-cons f x xs ∙ ap (λ (first : List Z). first ++ flat_map f xs) (same x) ∙ ap (λ (rest : List Z). g x ++ rest) (flat_same f g xs same) ∙ sym (flat_map-cons g x xs)

-- the stamps of a plain file
abbrev stamps_of_file : PlainFile → List (ℕ × ℕ)
stamps_of_file file = flat_map stamp_of file.blocks

-- the stamps of the pool
pub stamps_of_core : (core : Core) → stamps_of (pool_of core) ≡ flat_map (λ (d : HeartDataset). stamps_in_files d.files) core.datasets
unfolding stamps_of
stamps_of_core core =
    flat_mapped (λ (d : PlainDataset). flat_map stamps_of_file d.files) plain_dataset core.datasets
    ∙ flat_same (λ (d : HeartDataset). flat_map stamps_of_file (map plain_file d.files)) (λ (d : HeartDataset). stamps_in_files d.files) core.datasets
    (λ d. flat_mapped stamps_of_file plain_file d.files)

-- how often a stamp stands in a dataset, and in a file
abbrev pub count_in : ℕ × ℕ → HeartDataset → ℕ
count_in stamp dataset = count_by (is_stamp stamp) (stamps_in_files dataset.files)

abbrev pub count_of : ℕ × ℕ → Named HeartFile → ℕ
count_of stamp named = count_by (is_stamp stamp) (stamps_in named.value)

pub counted_in_core : (stamp : ℕ × ℕ) (core : Core) → count_by (is_stamp stamp) (stamps_of (pool_of core)) ≡ sum_by (count_in stamp) core.datasets
counted_in_core stamp core =
    ap (count_by (is_stamp stamp)) (stamps_of_core core) ∙ counted_flat (is_stamp stamp) (λ (d : HeartDataset). stamps_in_files d.files) core.datasets

pub counted_in_files : (stamp : ℕ × ℕ) (files : List (Named HeartFile)) → count_by (is_stamp stamp) (stamps_in_files files) ≡ sum_by (count_of stamp) files
counted_in_files stamp files = counted_flat (is_stamp stamp) (λ (named : Named HeartFile). stamps_in named.value) files

-- the stamps of a dataset and of a file are counted
pub dataset_counted : (core : Core) (stamps : Stamps) (place : ℕ) (dataset : HeartDataset) → AreCounted stamps (stamps_of (pool_of core)) → StandsAt core.datasets place dataset → CountsAll stamps dataset.files
dataset_counted core stamps place dataset counted stands =
    λ stamp. let all = counted stamp ∙ counted_in_core stamp core in omega (arith, all, sum_of_one (count_in stamp) place core.datasets dataset stands)

pub file_counted : (stamps : Stamps) (files : List (Named HeartFile)) (at : ℕ) (named : Named HeartFile) → CountsAll stamps files → StandsAt files at named → Counts stamps named.value
file_counted stamps files at named counted stands =
    λ stamp. let all = counted_in_files stamp files in omega (arith, all, counted stamp, sum_of_one (count_of stamp) at files named stands)

-- where no block was made by a command after one, none was made by a later one
no_later_blocks : (last number index : ℕ) (blocks : List PlainBlock) → last < number → AllByRecursion (IsMadeBy last) blocks → count_by (is_stamp (number, index)) (flat_map stamp_of blocks) ≡ 0
no_later_blocks last number index [] later all = refl
no_later_blocks last number index (Hole ∷ blocks) later all = no_later_blocks last number index blocks later all.1
no_later_blocks last number index (Made entry at bytes ∷ blocks) later all =
    let apart : (number == entry) ≡ false = ne_eqb number entry (omega (arith, all.0)) in
    rw apart (no_later_blocks last number index blocks later all.1)

-- a sum of nothing is nothing
sum_of_none : {X : Type 0} (g : X → ℕ) (xs : List X) → AllByRecursion (λ x. g x ≡ 0) xs → sum_by g xs ≡ 0
sum_of_none g [] none = refl
sum_of_none g (x ∷ xs) none = let rest = sum_of_none g xs none.1 in let first = none.0 in rw sum_by-cons (omega arith)

no_later_files : (last number index : ℕ) (files : List PlainFile) → last < number → AllByRecursion (λ (file : PlainFile). AllByRecursion (IsMadeBy last) file.blocks) files
    → AllByRecursion (λ (file : PlainFile). count_by (is_stamp (number, index)) (stamps_of_file file) ≡ 0) files
no_later_files last number index [] later all = tt
no_later_files last number index (file ∷ files) later all = (no_later_blocks last number index file.blocks later all.0, no_later_files last number index files later all.1)

no_later_datasets : (last number index : ℕ) (datasets : List PlainDataset) → last < number → AllByRecursion (IsStamped last) datasets
    → AllByRecursion (λ (d : PlainDataset). count_by (is_stamp (number, index)) (flat_map stamps_of_file d.files) ≡ 0) datasets
no_later_datasets last number index [] later all = tt
no_later_datasets last number index (d ∷ datasets) later all = (
  counted_flat (is_stamp (number, index)) stamps_of_file d.files ∙ sum_of_none (λ (file : PlainFile). count_by (is_stamp (number, index)) (stamps_of_file file)) d.files (no_later_files last number index d.files later all.0),
  no_later_datasets last number index datasets later all.1,
)

pub number_is_new : (core : Core) (stamps : Stamps) (number : ℕ) → AreCounted stamps (stamps_of (pool_of core)) → AllByRecursion (IsStamped core.last) (pool_of core).datasets → core.last < number → IsNew number stamps
unfolding stamps_of
number_is_new core stamps number counted stamped later =
    λ index. counted (number, index) ∙ counted_flat (is_stamp (number, index)) (λ (d : PlainDataset). flat_map stamps_of_file d.files) (pool_of core).datasets
    ∙ sum_of_none (λ (d : PlainDataset). count_by (is_stamp (number, index)) (flat_map stamps_of_file d.files)) (pool_of core).datasets (no_later_datasets core.last number index (pool_of core).datasets later stamped)
