-- What a heart's datasets and files have, so that a command may change them.
use Rattle.std.proofs.Common.{◌≡◌, ℕ, suc, ◌+◌, ◌-◌, ◌^◌, ◌<◌, ◌≤◌, ◌==◌, Bool, true, false, List, [], ◌∷◌, ◌++◌, length, take, Option, Some, None, Result, Ok, Err, refl, sym, ap, subst, ◌∙◌, ⊎_elim, arith}
use Rattle.std.specs.Prelude.{not, find, slice_get, is_some, IsSome, IsTrue, OnOk, OnErr, slice_set}
use Rattle.std.proofs.lemmas.Bool.{cases_Bool, eqb-true}
use Rattle.std.proofs.lemmas.Grind.{common_steps}
use Rattle.zc_plain.specs.declared.plain_pool.PlainFile.{PlainFile}
use Rattle.zc_plain.specs.PlainPool.{byte_of, made_count, pointers_in}
use Rattle.zc_plain.specs.IsPlain.{StandsAt, IsPlainFile, AreNextUpTo}
use Rattle.zc_plain.specs.Answer.{most_files, most_bytes, most_charge}
use Rattle.zc_plain.proofs.NumberedLaws.{one_item, no_item}
use Rattle.zc_num.specs.Words.{each}
use Rattle.zc_num.proofs.Each.{length_each}
use Rattle.std.proofs.lemmas.List.Sums.{count_by-le-length}
use Rattle.zc_plain.proofs.FewBlocks.{few_pointers}
use Rattle.zc_heart.specs.declared.file.HeartFile.{HeartFile}
use Rattle.zc_heart.specs.declared.directory.Named.{Named}
use Rattle.zc_heart.specs.declared.dataset.Spot.{Spot}
use Rattle.zc_heart.specs.declared.pool_core.HeartDataset.{HeartDataset}
use Rattle.zc_heart.specs.declared.pool_core.Core.{Core}
use Rattle.zc_heart.specs.declared.stamps.Stamps.{Stamps}
use Rattle.zc_heart.specs.Directory.{id_of, id_called, is_numbered, with_value}
use Rattle.zc_heart.specs.File.{bare, unmade_in}
use Rattle.zc_heart.specs.Core.{plain_file, plain_dataset, plain_blocks, pool_of, is_made, IsHeartFile, IsDatasetOfCore, IsCore}
use Rattle.std.specs.Option.{option_map}
use Rattle.zc_num.proofs.Changes.{set_as_change_at, get_of_change_at}
use Rattle.zc_heart.specs.Changes.{change_by}
use Rattle.zc_heart.specs.Stamps.{holds_number}
use Rattle.zc_heart.specs.Deeds.{files_of, files_in, file_on, IsFreshIn, IsChangeable, ChangesFile, IsNoted, Keeps, CountsAll}
use Rattle.zc_heart.proofs.Listing.{holds_there, holds_of_each, stands_in_map, found_by_number, sum_of_one, sum_mapped}
use Rattle.zc_heart.proofs.Counting.{dataset_counted, file_counted, number_is_new}
use Rattle.zc_heart.proofs.Spots.{dataset_is, files_are, dataset_is_plain, files_ascend}
use Rattle.zc_heart.proofs.FileDeeds.{found_stands}

-- what follows where a call was answered, and where it wasn't
pub ok_then : {T E A B : Type 0} (result : Result T E) → (A → B) → OnOk result A → OnOk result B
ok_then (Ok value) f given = f given
ok_then (Err fault) f given = tt

pub err_then : {T E A B : Type 0} (result : Result T E) → (A → B) → OnErr result A → OnErr result B
err_then (Ok value) f given = tt
err_then (Err fault) f given = f given

-- a dataset of the heart
pub dataset_of_core : (core : Core) (place : ℕ) (dataset : HeartDataset) → IsCore core → StandsAt core.datasets place dataset → IsDatasetOfCore dataset
dataset_of_core core place dataset is stands = holds_there IsDatasetOfCore core.datasets place dataset is.datasets stands

pub files_counted : (core : Core) (place : ℕ) (dataset : HeartDataset) → IsCore core → StandsAt core.datasets place dataset → CountsAll core.stamps dataset.files
files_counted core place dataset is stands = dataset_counted core core.stamps place dataset is.counted stands

-- a file has no more pointers than its dataset
pub pointers_within : (dataset : HeartDataset) (at : ℕ) (named : Named HeartFile) → IsDatasetOfCore dataset → StandsAt dataset.files at named → named.value.pointers ≤ dataset.pointers
unfolding pointers_in
pointers_within dataset at named is there =
    let g = λ (n : Named HeartFile). made_count (plain_blocks n.value) in
    let all = is.pointers ∙ sum_mapped (λ (f : PlainFile). made_count f.blocks) plain_file dataset.files in
    let file = (holds_there (λ (n : Named HeartFile). IsHeartFile n.value) dataset.files at named is.files there).pointers in
    omega (arith, all, file, sum_of_one g at dataset.files named there)

-- a dataset has few pointers
pub few_pointers_there : (core : Core) (place : ℕ) (dataset : HeartDataset) → IsCore core → StandsAt core.datasets place dataset → dataset.pointers ≤ 67108864
few_pointers_there core place dataset is stands =
    let here = (dataset_of_core core place dataset is stands).pointers ∙ sym (ap pointers_in (dataset_is core place dataset stands)) in
    omega (arith, here, few_pointers (pool_of core) place is.plain)

-- the bytes of a plain file have nothing to do with its number and its name
bare_is_plain : (named : Named HeartFile) → IsPlainFile (plain_file named) → IsPlainFile (bare named.value)
unfolding byte_of
bare_is_plain named is = record { blocks = is.blocks; whole = is.whole; zero_past = is.zero_past }

-- the file that is found may be changed
pub changeable : (spot : Spot) (number : ℕ) (core : Core) (dataset : HeartDataset) → IsCore core → core.last < number → IsSome (file_on spot core) → StandsAt core.datasets spot.place dataset → IsChangeable spot.id number dataset core.stamps
unfolding file_on
changeable spot number core dataset is later there stands =
    let files = files_are core spot.place dataset stands in
    let plain = dataset_is_plain core spot.place dataset is.plain stands in
    let here = dataset_of_core core spot.place dataset is stands in
    let few = few_pointers_there core spot.place dataset is stands in
    record {
      there = rw files at there;
      file = λ named found.
          let at = found_stands (is_numbered spot.id) dataset.files named found in
          record {
            heart = holds_there (λ (n : Named HeartFile). IsHeartFile n.value) dataset.files at.at named here.files at.there;
            plain = bare_is_plain named (plain.files at.at (plain_file named) (stands_in_map plain_file dataset.files at.at named at.there));
            short = let short = plain.sizes at.at (plain_file named) (stands_in_map plain_file dataset.files at.at named at.there) in omega (arith, short, core.limits.are_limits.few_places);
            counted = file_counted core.stamps dataset.files at.at named (files_counted core spot.place dataset is stands) at.there;
            pointers = pointers_within dataset at.at named here at.there;
          };
      alone = λ named other at found stands_there numbered.
          one_item other named
          (sym (found_by_number id_of dataset.files at other (files_ascend (most_files (pool_of core)) (most_bytes (pool_of core)) dataset plain) stands_there)
          ∙ ap (λ (id : ℕ). find (is_numbered id) dataset.files) numbered ∙ found);
      few = omega (arith, few);
      new = number_is_new core core.stamps number is.counted is.stamped later;
    }

-- a new file may be added
pub fresh_in : (core : Core) (place : ℕ) (dataset : HeartDataset) (name : List ℕ) → IsCore core → AreNextUpTo (2 ^ 64 - 2) (pool_of core) → is_some (id_called name (files_in place core)) ≡ false → StandsAt core.datasets place dataset → IsFreshIn name dataset
fresh_in core place dataset name is next missing stands =
    let plain = dataset_is_plain core place dataset is.plain stands in
    let number = next.file place (plain_dataset dataset) (stands_in_map plain_dataset core.datasets place dataset stands) in
    let files = files_are core place dataset stands in
    record {
      number = omega (arith, number);
      below = holds_of_each (λ (named : Named HeartFile). named.id < dataset.next_file) dataset.files (λ at named there. plain.numbered.below_next at (plain_file named) (stands_in_map plain_file dataset.files at named there));
      missing = none_of (id_called name dataset.files) (rw files at missing);
    }
  where
    none_of : (found : Option ℕ) → is_some found ≡ false → found ≡ None
    none_of None none = refl
    none_of (Some id) none = cc

-- a list without its last item
pub without_last : {X : Type 0} (xs : List X) (x : X) → take (length (xs ++ x ∷ []) - 1) (xs ++ x ∷ []) ≡ xs
without_last xs x = grind (arith, common_steps)

-- ---- the file that stands at a spot

-- Where a file of the heart stands.
pub record SpotFile (spot : Spot) (core : Core) (named : Named HeartFile) : Type 0 where
  pub dataset : HeartDataset
  pub stands : StandsAt core.datasets spot.place dataset
  pub at : ℕ
  pub there : StandsAt dataset.files at named

pub spot_file : (spot : Spot) (core : Core) (named : Named HeartFile) → file_on spot core ≡ Some named → SpotFile spot core named
unfolding file_on files_in
spot_file spot core named found = either (slice_get core.datasets spot.place) refl found
  where
    either : (there : Option HeartDataset) → slice_get core.datasets spot.place ≡ there → find (is_numbered spot.id) (files_of there) ≡ Some named → SpotFile spot core named
    either None missing none = no_item named none
    either (Some dataset) stands one =
        let at = found_stands (is_numbered spot.id) dataset.files named one in
        record { dataset = dataset; stands = stands; at = at.at; there = at.there }

-- it is one of the heart's
pub spot_heart : (spot : Spot) (core : Core) (named : Named HeartFile) → IsCore core → file_on spot core ≡ Some named → IsHeartFile named.value
spot_heart spot core named is found =
    let file = spot_file spot core named found in
    holds_there (λ (n : Named HeartFile). IsHeartFile n.value) file.dataset.files file.at named (dataset_of_core core spot.place file.dataset is file.stands).files file.there

pub spot_short : (spot : Spot) (core : Core) (named : Named HeartFile) → IsCore core → file_on spot core ≡ Some named → named.value.size ≤ 2 ^ 28
spot_short spot core named is found =
    let file = spot_file spot core named found in
    let plain = dataset_is_plain core spot.place file.dataset is.plain file.stands in
    let short = plain.sizes file.at (plain_file named) (stands_in_map plain_file file.dataset.files file.at named file.there) in
    omega (arith, short, core.limits.are_limits.few_places)

-- no more blocks are unmade than there are
pub unmade_few : (first count : ℕ) (file : HeartFile) → unmade_in first count file ≤ count
unmade_few first count file =
    let all = each count (λ k. is_made (first + k) file) in
    let long : length all ≡ count = length_each count (λ k. is_made (first + k) file) in
    omega (arith, long, count_by-le-length (λ (made : Bool). not made) all)

-- the limits of the heart's files
pub few_bytes : (core : Core) → most_bytes (pool_of core) ≤ 2 ^ 28
few_bytes core = omega (arith, core.limits.are_limits.few_places)

pub few_charge : (core : Core) → most_charge (pool_of core) ≤ 131072
few_charge core = omega (arith, core.limits.are_limits.few_places)

-- ---- one file of a dataset

-- a change of the item of a number to what it is
same_by_number : {X : Type 0} (number_of : X → ℕ) (number : ℕ) (f : X → X) (xs : List X) → ((at : ℕ) (x : X) → StandsAt xs at x → (number_of x == number) ≡ true → f x ≡ x) → change_by number_of number f xs ≡ xs
same_by_number number_of number f [] same = refl
same_by_number {X} number_of number f (x ∷ xs) same =
    let rest = same_by_number number_of number f xs (λ at y stands is. same (suc at) y stands is) in
    ⊎_elim
    (λ (here : (number_of x == number) ≡ true). rw here (ap (λ (y : X). y ∷ change_by number_of number f xs) (same 0 x refl here) ∙ ap (λ (ys : List X). x ∷ ys) rest))
    (λ (there : (number_of x == number) ≡ false). rw there (ap (λ (ys : List X). x ∷ ys) rest))
    (cases_Bool (number_of x == number))

-- what is there has a value
pub record Found {X Y : Type 0} (f : X → Y) (found : Option X) (value : Y) : Type 0 where
  pub item : X
  pub is : found ≡ Some item
  pub value_is : f item ≡ value

pub found_of : {X Y : Type 0} (f : X → Y) (found : Option X) (value : Y) → option_map f found ≡ Some value → Found f found value
found_of f None value is = no_item value is
found_of f (Some item) value is = record { item = item; is = refl; value_is = one_item (f item) value is }

-- a dataset that is left as it was
pub file_kept : (id number : ℕ) (dataset : HeartDataset) (stamps : Stamps) → IsChangeable id number dataset stamps → ChangesFile id (Keeps stamps stamps) dataset dataset
file_kept id number dataset stamps is = either (find (is_numbered id) dataset.files) refl is.there
  where
    either : (found : Option (Named HeartFile)) → find (is_numbered id) dataset.files ≡ found → IsSome found → ChangesFile id (Keeps stamps stamps) dataset dataset
    either None missing there = cc
    either (Some named) found there = record {
      was = named;
      there = found;
      file = named.value;
      change = (record { file = refl; pointers = refl; sized = refl; touched = λ k. refl; made = λ k. refl }, record { files = λ stamp. refl; placed = λ stamp. refl });
      is = (is.file named found).heart;
      dataset =
          ap (λ (files : List (Named HeartFile)). record dataset { files = files })
          (sym (same_by_number id_of id (with_value named.value) dataset.files
          (λ at other stands numbered.
          let same = is.alone named other at found stands (eqb-true other.id id numbered) in
          ap (with_value named.value) same ∙ sym same)));
      pointers = refl;
      noted = λ other missing. missing;
    }

-- the dataset at the place of a list in which it was written
pub noted_there : (spot : Spot) (datasets : List HeartDataset) (was behind : HeartDataset) → StandsAt datasets spot.place was → IsTrue (holds_number spot.id behind.changed) → IsNoted spot (slice_set datasets spot.place behind)
noted_there spot datasets was behind stands noted =
    λ dataset there.
    let now' = sym (ap (λ (ds : List HeartDataset). slice_get ds spot.place) (set_as_change_at (λ _. behind) spot.place datasets was behind stands refl)) ∙ there in
    let same = one_item behind dataset (sym (get_of_change_at (λ _. behind) spot.place datasets ∙ ap (option_map (λ _. behind)) stands) ∙ now') in
    subst (λ (d : HeartDataset). IsTrue (holds_number spot.id d.changed)) same noted
