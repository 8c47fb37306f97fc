-- The files of a heart once a group was sealed: they stand as they stood, and none is touched.
use Rattle.std.proofs.Common.{◌≡◌, ◌∙◌, ℕ, zero, suc, ◌+◌, ◌<◌, Bool, true, false, true≢false, ◌==◌, cond, List, [], ◌∷◌, ◌++◌, map, take, drop, Option, Some, None, refl, sym, ap, subst, add-one, arith}
use Rattle.std.specs.Prelude.{find, slice_get, slice_set}
use Rattle.std.specs.List.{AllByRecursion}
use Rattle.std.proofs.lemmas.Bool.{eqb-true, eq-eqb, ne_eqb, or_from}
use Rattle.zc_heart.specs.declared.file.HeartFile.{HeartFile}
use Rattle.zc_heart.specs.declared.directory.Named.{Named}
use Rattle.zc_heart.specs.declared.pool_core.HeartDataset.{HeartDataset}
use Rattle.zc_heart.specs.Changes.{change_by}
use Rattle.zc_heart.specs.Stamps.{holds_number}
use Rattle.zc_heart.specs.Core.{plain_file, plain_dataset, IsUntouched, IsHeartFile, AreBefore, AreDatasetsBefore}
use Rattle.zc_heart.specs.Directory.{id_of, is_numbered, with_value}
use Rattle.zc_heart.proofs.ListLaws.{one_item, no_item, each_of, Rises}
use Rattle.zc_heart.specs.Noted.{settled_file, settled_found, settled_at, settled_files}

-- ---- one file

-- the file with the number, settled
abbrev pub settle_if : ℕ → Named HeartFile → Named HeartFile
settle_if number named = cond (named.id == number) (with_value (settled_file named.value) named) named

-- where all numbers are above it nothing is changed
all_above : (number : ℕ) (files : List (Named HeartFile)) → AllByRecursion (λ (named : Named HeartFile). number < named.id) files → files ≡ map (settle_if number) files
all_above number [] above = refl
all_above number (named ∷ files) above =
    let apart : (named.id == number) ≡ false = ne_eqb named.id number (λ same. absurd (omega (arith, above.0))) in
    λ i. cond (sym apart i) (with_value (settled_file named.value) named) named ∷ all_above number files above.1 i

all_changed_above : (number : ℕ) (value : HeartFile) (files : List (Named HeartFile)) → AllByRecursion (λ (named : Named HeartFile). number < named.id) files → change_by id_of number (with_value value) files ≡ files
all_changed_above number value [] above = refl
all_changed_above number value (named ∷ files) above =
    let apart : (named.id == number) ≡ false = ne_eqb named.id number (λ same. absurd (omega (arith, above.0))) in
    λ i. cond (apart i) (with_value value named) named ∷ all_changed_above number value files above.1 i

-- the file with the number is settled alone
pub settled_at_is : (number : ℕ) (files : List (Named HeartFile)) → Rises id_of files → settled_at number files ≡ map (settle_if number) files
settled_at_is number [] rises = refl
settled_at_is number (named ∷ files) rises = by (settled_at_is number files rises.1) (named.id == number) refl where
  past : (found : Option (Named HeartFile)) → (named.id == number) ≡ false → settled_found number found (named ∷ files) ≡ named ∷ settled_found number found files
  past None apart = refl
  past (Some other) apart = λ i. cond (apart i) (with_value (settled_file other.value) named) named ∷ change_by id_of number (with_value (settled_file other.value)) files

  by : settled_at number files ≡ map (settle_if number) files → (here : Bool) → (named.id == number) ≡ here → settled_found number (cond (named.id == number) (Some named) (find (is_numbered number) files)) (named ∷ files) ≡ cond (named.id == number) (with_value (settled_file named.value) named) named ∷ map (settle_if number) files
  by others true is =
      let same : named.id ≡ number = eqb-true named.id number is in
      let above : AllByRecursion (λ (other : Named HeartFile). number < other.id) files = each_of (λ (other : Named HeartFile). named.id < other.id) (λ (other : Named HeartFile). number < other.id) files (λ other low. omega (arith, same)) rises.0 in
      ap (λ (b : Bool). settled_found number (cond b (Some named) (find (is_numbered number) files)) (named ∷ files)) is
      ∙ (λ i. cond (is i) (with_value (settled_file named.value) named) named ∷ (all_changed_above number (settled_file named.value) files above ∙ all_above number files above) i)
      ∙ ap (λ (b : Bool). cond b (with_value (settled_file named.value) named) named ∷ map (settle_if number) files) (sym is)
  by others false is =
      ap (λ (b : Bool). settled_found number (cond b (Some named) (find (is_numbered number) files)) (named ∷ files)) is
      ∙ past (find (is_numbered number) files) is
      ∙ ap (λ (rest : List (Named HeartFile)). named ∷ rest) others
      ∙ ap (λ (b : Bool). cond b (with_value (settled_file named.value) named) named ∷ map (settle_if number) files) (sym is)

-- it keeps its number
settle_keeps : (number : ℕ) (named : Named HeartFile) → (settle_if number named).id ≡ named.id
settle_keeps number named = by (named.id == number) where
  by : (here : Bool) → (cond here (with_value (settled_file named.value) named) named).id ≡ named.id
  by true = refl
  by false = refl

-- and stands as it stood
settle_plain : (number : ℕ) (named : Named HeartFile) → plain_file (settle_if number named) ≡ plain_file named
settle_plain number named = by (named.id == number) where
  by : (here : Bool) → plain_file (cond here (with_value (settled_file named.value) named) named) ≡ plain_file named
  by true = refl
  by false = refl

-- ---- the files of a dataset

above_still : (number least : ℕ) (files : List (Named HeartFile)) → AllByRecursion (λ (named : Named HeartFile). least < named.id) files → AllByRecursion (λ (named : Named HeartFile). least < named.id) (map (settle_if number) files)
above_still number least [] above = tt
above_still number least (named ∷ files) above = (subst (λ n. least < n) (sym (settle_keeps number named)) above.0, above_still number least files above.1)

rises_settled : (number : ℕ) (files : List (Named HeartFile)) → Rises id_of files → Rises id_of (map (settle_if number) files)
rises_settled number [] rises = tt
rises_settled number (named ∷ files) rises =
    (subst (λ n. AllByRecursion (λ (other : Named HeartFile). n < other.id) (map (settle_if number) files)) (sym (settle_keeps number named)) (above_still number named.id files rises.0), rises_settled number files rises.1)

pub rises_at : (number : ℕ) (files : List (Named HeartFile)) → Rises id_of files → Rises id_of (settled_at number files)
rises_at number files rises = subst (Rises id_of) (sym (settled_at_is number files rises)) (rises_settled number files rises)

plain_at : (number : ℕ) (files : List (Named HeartFile)) → map plain_file (map (settle_if number) files) ≡ map plain_file files
plain_at number [] = refl
plain_at number (named ∷ files) = λ i. settle_plain number named i ∷ plain_at number files i

-- they stand as they stood
pub settled_plain : (numbers : List ℕ) (files : List (Named HeartFile)) → Rises id_of files → map plain_file (settled_files numbers files) ≡ map plain_file files
settled_plain [] files rises = refl
settled_plain (number ∷ numbers) files rises =
    settled_plain numbers (settled_at number files) (rises_at number files rises) ∙ ap (map plain_file) (settled_at_is number files rises) ∙ plain_at number files

-- what a settling keeps of each file holds of all
pub settled_all : (P : Named HeartFile → Type 0) → ((number : ℕ) (named : Named HeartFile) → P named → P (settle_if number named)) → (numbers : List ℕ) (files : List (Named HeartFile)) → Rises id_of files → AllByRecursion P files
    → AllByRecursion P (settled_files numbers files)
settled_all P keeps [] files rises all = all
settled_all P keeps (number ∷ numbers) files rises all =
    settled_all P keeps numbers (settled_at number files) (rises_at number files rises) (subst (AllByRecursion P) (sym (settled_at_is number files rises)) (at files all))
  where
    at : (files : List (Named HeartFile)) → AllByRecursion P files → AllByRecursion P (map (settle_if number) files)
    at [] all = tt
    at (named ∷ files) all = (keeps number named all.0, at files all.1)

-- no file is touched
untouched_once : (number : ℕ) (numbers : List ℕ) (named : Named HeartFile) → (holds_number named.id (number ∷ numbers) ≡ false → IsUntouched named) → holds_number named.id numbers ≡ false → IsUntouched (settle_if number named)
untouched_once number numbers named listed past = by (named.id == number) refl where
  by : (here : Bool) → (named.id == number) ≡ here → IsUntouched (cond here (with_value (settled_file named.value) named) named)
  by true is = (refl, λ k. refl)
  by false is = listed (or_from (number == named.id) (holds_number named.id numbers) (ne_eqb number named.id (λ same. true≢false (sym (eq-eqb named.id number (sym same)) ∙ is))) past)

pub none_touched : (numbers : List ℕ) (files : List (Named HeartFile)) → Rises id_of files → AllByRecursion (λ (named : Named HeartFile). holds_number named.id numbers ≡ false → IsUntouched named) files
    → AllByRecursion IsUntouched (settled_files numbers files)
none_touched [] files rises listed = each_of (λ (named : Named HeartFile). holds_number named.id [] ≡ false → IsUntouched named) IsUntouched files (λ named alone. alone refl) listed
none_touched (number ∷ numbers) files rises listed =
    none_touched numbers (settled_at number files) (rises_at number files rises)
    (subst (AllByRecursion (λ (named : Named HeartFile). holds_number named.id numbers ≡ false → IsUntouched named)) (sym (settled_at_is number files rises)) (at files listed))
  where
    at : (files : List (Named HeartFile)) → AllByRecursion (λ (named : Named HeartFile). holds_number named.id (number ∷ numbers) ≡ false → IsUntouched named) files
        → AllByRecursion (λ (named : Named HeartFile). holds_number named.id numbers ≡ false → IsUntouched named) (map (settle_if number) files)
    at [] listed = tt
    at (named ∷ files) listed =
        ((λ past. untouched_once number numbers named listed.0 (sym (ap (λ (n : ℕ). holds_number n numbers) (settle_keeps number named)) ∙ past)), at files listed.1)

-- each is as a heart file is
pub heart_file_settled : (number : ℕ) (named : Named HeartFile) → IsHeartFile named.value → IsHeartFile (settle_if number named).value
heart_file_settled number named is = by (named.id == number) where
  by : (here : Bool) → IsHeartFile (cond here (with_value (settled_file named.value) named) named).value
  by true = record { ends = is.ends; pointers = is.pointers }
  by false = is

-- ---- the datasets

-- those before a place are settled, and one more is
pub settled_more : {X : Type 0} (f : X → X) (place : ℕ) (xs ys : List X) (x : X) → ys ≡ map f (take place xs) ++ drop place xs → slice_get ys place ≡ Some x → slice_set ys place (f x) ≡ map f (take (place + 1) xs) ++ drop (place + 1) xs
settled_more {X} f place xs ys x so_far there =
    (λ i. slice_set (so_far i) place (f x)) ∙ at place xs (sym (ap (λ (zs : List X). slice_get zs place) so_far) ∙ there) ∙ ap (λ (n : ℕ). map f (take n xs) ++ drop n xs) (sym (add-one place))
  where
    at : (place : ℕ) (xs : List X) → slice_get (map f (take place xs) ++ drop place xs) place ≡ Some x → slice_set (map f (take place xs) ++ drop place xs) place (f x) ≡ map f (take (suc place) xs) ++ drop (suc place) xs
    at zero [] there = no_item x there
    at zero (y ∷ xs) there = ap (λ (z : X). f z ∷ xs) (sym (one_item y x there))
    at (suc place) [] there = no_item x there
    at (suc place) (y ∷ xs) there = ap (λ (zs : List X). f y ∷ zs) (at place xs there)

-- files are as they were before the open group where it touched none
pub before_itself : (files : List (Named HeartFile)) → AreBefore (map plain_file files) files
before_itself [] = tt
before_itself (named ∷ files) = ((refl, refl, (λ whole. refl), (λ k untouched. refl)), before_itself files)

pub datasets_before_themselves : (datasets : List HeartDataset) → AreDatasetsBefore (map plain_dataset datasets) datasets
datasets_before_themselves [] = tt
datasets_before_themselves (dataset ∷ datasets) = (refl, refl, refl, before_itself dataset.files, datasets_before_themselves datasets)
