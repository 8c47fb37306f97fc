-- What single steps of making and dropping leave, in the words of the contracts.
use Rattle.std.proofs.Common.{◌≡◌, ℕ, ◌+◌, ◌-◌, ◌^◌, ◌<◌, ◌≤◌, max, Bool, true, false, cond, List, [], ◌∷◌, ◌++◌, length, take, Option, Some, Result, Ok, Err, refl, sym, ap, subst, ◌∙◌, arith}
use Rattle.std.specs.Prelude.{count_by, find, remove, slice_get, slice_set, is_some, OnOk, OnErr, is_err}
use Rattle.std.specs.Option.{option_map}
use Rattle.std.proofs.lemmas.Bool.{eqb-true}
use Rattle.std.proofs.lemmas.List.Concat.{flat_map-cons}
use Rattle.zc_num.specs.Ordered.{Ascends}
use Rattle.zc_num.specs.Words.{change_at}
use Rattle.zc_num.proofs.Changes.{set_as_change_at}
use Rattle.zc_plain.specs.declared.plain_pool.PlainFile.{PlainFile}
use Rattle.zc_plain.specs.Written.{written}
use Rattle.zc_plain.specs.Truncated.{truncated}
use Rattle.zc_plain.specs.IsPlain.{StandsAt}
use Rattle.zc_plain.specs.Charge.{is_stamp}
use Rattle.zc_plain.specs.Answer.{most_files}
use Rattle.zc_plain.proofs.NumberedLaws.{one_item}
use Rattle.zc_heart.specs.declared.changes.Change.{Change}
use Rattle.zc_heart.specs.declared.changes.Change.TheVariants.{DropDataset, MakeFile, DropFile}
use Rattle.zc_heart.specs.declared.file.HeldBlock.{HeldBlock}
use Rattle.zc_heart.specs.declared.file.HeartFile.{HeartFile}
use Rattle.zc_heart.specs.declared.directory.Named.{Named}
use Rattle.zc_heart.specs.declared.dataset.Spot.{Spot}
use Rattle.zc_heart.specs.declared.pool_core.HeartDataset.{HeartDataset}
use Rattle.zc_heart.specs.declared.pool_core.Core.{Core}
use Rattle.zc_heart.specs.declared.stamps.Stamps.{Stamps}
use Rattle.zc_heart.specs.Directory.{id_called, is_numbered, value_of}
use Rattle.zc_heart.specs.File.{stamps_in, Counts, StaysFile, Writes, Truncates}
use Rattle.zc_heart.specs.Stamps.{files_at, Moves, LearnsNothing}
use Rattle.zc_heart.specs.Core.{pool_of, IsHeartFile, IsDatasetOfCore, IsCore}
use Rattle.zc_heart.specs.Deeds.{files_in, with_file, entry_stamp, entry_stamps, stamps_in_files, CountsAll, TakesFile, IsChangeable, IsChangeableFile, Becomes, IsLeft}
use Rattle.zc_heart.specs.Deeds as deeds
use Rattle.zc_heart.proofs.Listing.{holds_there, counted_both, changed_to}
use Rattle.zc_heart.proofs.Counting.{file_counted}
use Rattle.zc_heart.proofs.LogLaws.{changed_to_itself}
use Rattle.zc_heart.proofs.StampLaws.{stamp_itself}
use Rattle.zc_heart.proofs.OtherSteps.{becomes_without_dataset, becomes_with_file, becomes_without_file}
use Rattle.zc_heart.proofs.FileDeeds.{found_stands, left_same}
use Rattle.zc_heart.proofs.Leaving.{entries_counted}
use Rattle.zc_heart.proofs.Ready.{found_of, pointers_within, without_last}

-- where a call failed, and where it didn't
pub ok_is : {T E A : Type 0} (result : Result T E) → is_err result ≡ false → OnOk result A → A
ok_is (Ok value) answered is = is
ok_is (Err fault) answered is = cc

pub err_is : {T E A : Type 0} (result : Result T E) → is_err result ≡ true → OnErr result A → A
err_is (Ok value) failed is = cc
err_is (Err fault) failed is = is

-- an item that is set to what it is
pub set_to_itself : {X : Type 0} (place : ℕ) (xs : List X) (x y : X) → slice_get xs place ≡ Some x → y ≡ x → slice_set xs place y ≡ xs
set_to_itself place xs x y stands same = set_as_change_at (λ z. z) place xs x y stands same ∙ changed_to_itself place xs

-- a stamp that stands once is counted
pub counted_alone : (stamp : ℕ × ℕ) (n : ℕ) → count_by (is_stamp stamp) (stamp ∷ []) ≤ n → 0 < n
counted_alone stamp n within =
    let one : count_by (is_stamp stamp) (stamp ∷ []) ≡ 1 = ap (λ (b : Bool). 0 + cond b 1 0) (stamp_itself stamp) in
    omega (arith, one, within)

-- ---- the entries of a file's blocks, one after another

both_counted : (stamp : ℕ × ℕ) (entry : ℕ × Option HeldBlock) (rest : List (ℕ × Option HeldBlock)) → count_by (is_stamp stamp) (entry_stamps (entry ∷ rest)) ≡ count_by (is_stamp stamp) (entry_stamp entry) + count_by (is_stamp stamp) (entry_stamps rest)
both_counted stamp entry rest = ap (count_by (is_stamp stamp)) (flat_map-cons entry_stamp entry rest) ∙ counted_both (is_stamp stamp) (entry_stamp entry) (entry_stamps rest)

-- the first of those that are left is counted
pub entry_counted : (file : HeartFile) (first next : Stamps) (left : List (ℕ × Option HeldBlock)) (entry : ℕ × Option HeldBlock) (rest : List (ℕ × Option HeldBlock)) → left ≡ entry ∷ rest → IsHeartFile file → Ascends file.blocks → Counts first file
    → Moves first next (entry_stamps file.blocks) (entry_stamps left) → (stamp : ℕ × ℕ) → count_by (is_stamp stamp) (entry_stamp entry) ≤ files_at next stamp
entry_counted file first next left entry rest is heart ascends counted moved =
    λ stamp.
    let all = entries_counted stamp file heart ascends in
    let one = moved stamp in
    let both = ap (λ (entries : List (ℕ × Option HeldBlock)). count_by (is_stamp stamp) (entry_stamps entries)) is ∙ both_counted stamp entry rest in
    omega (arith, all, one, both, counted stamp)

-- and then it has left
pub entry_left : (file : HeartFile) (first next last : Stamps) (left : List (ℕ × Option HeldBlock)) (entry : ℕ × Option HeldBlock) (rest : List (ℕ × Option HeldBlock)) → left ≡ entry ∷ rest
    → Moves first next (entry_stamps file.blocks) (entry_stamps left) → Moves next last (entry_stamp entry) [] → Moves first last (entry_stamps file.blocks) (entry_stamps rest)
entry_left file first next last left entry rest is before moved =
    λ stamp.
    let one = before stamp in
    let other = moved stamp in
    let both = ap (λ (entries : List (ℕ × Option HeldBlock)). count_by (is_stamp stamp) (entry_stamps entries)) is ∙ both_counted stamp entry rest in
    omega (arith, one, other, both)

-- once all have left, so has the file
pub file_left : (file : HeartFile) (first last : Stamps) (left : List (ℕ × Option HeldBlock)) → left ≡ [] → IsHeartFile file → Ascends file.blocks → Moves first last (entry_stamps file.blocks) (entry_stamps left) → Moves first last (stamps_in file) []
file_left file first last left none heart ascends moved =
    λ stamp.
    let all = entries_counted stamp file heart ascends in
    let one = moved stamp in
    let nothing : count_by (is_stamp stamp) (entry_stamps left) ≡ 0 = ap (λ (entries : List (ℕ × Option HeldBlock)). count_by (is_stamp stamp) (entry_stamps entries)) none in
    omega (arith, all, one, nothing)

-- ---- the file of a number

-- it is one of a heart, its pointers are among those of its dataset, and its blocks are counted
pub found_heart : (id : ℕ) (dataset : HeartDataset) (named : Named HeartFile) → find (is_numbered id) dataset.files ≡ Some named → IsDatasetOfCore dataset → IsHeartFile named.value
found_heart id dataset named found is =
    let at = found_stands (is_numbered id) dataset.files named found in
    holds_there (λ (n : Named HeartFile). IsHeartFile n.value) dataset.files at.at named is.files at.there

pub found_within : (id : ℕ) (dataset : HeartDataset) (named : Named HeartFile) → find (is_numbered id) dataset.files ≡ Some named → IsDatasetOfCore dataset → named.value.pointers ≤ dataset.pointers
found_within id dataset named found is =
    let at = found_stands (is_numbered id) dataset.files named found in
    pointers_within dataset at.at named is at.there

pub found_counted : (id : ℕ) (stamps : Stamps) (files : List (Named HeartFile)) (named : Named HeartFile) → find (is_numbered id) files ≡ Some named → CountsAll stamps files → Counts stamps named.value
found_counted id stamps files named found counted =
    let at = found_stands (is_numbered id) files named found in
    file_counted stamps files at.at named counted at.there

-- the value of the number may be changed
pub value_changeable : (id number : ℕ) (dataset : HeartDataset) (stamps : Stamps) (file : HeartFile) → IsChangeable id number dataset stamps → option_map value_of (find (is_numbered id) dataset.files) ≡ Some file → IsChangeableFile dataset stamps file
value_changeable id number dataset stamps file is value =
    let found = found_of value_of (find (is_numbered id) dataset.files) file value in
    subst (IsChangeableFile dataset stamps) found.value_is (is.file found.item found.is)

-- ---- the size of a file that was changed

-- what was written ends within the limit
pub short_once_put : {T E : Type 0} (result : Result T E) (number offset : ℕ) (bytes : List ℕ) (old new : HeartFile) → OnOk result (Writes number offset bytes old new) → OnErr result (StaysFile old new) → old.size ≤ 2 ^ 28 → offset + length bytes ≤ 2 ^ 28 → new.size ≤ 2 ^ 28
unfolding written
short_once_put (Ok value) number offset bytes old new writes stays short ends =
    let size : new.size ≡ max old.size (offset + length bytes) = ap (λ (f : PlainFile). f.size) writes.file in
    omega (arith, size, short, ends)
short_once_put (Err fault) number offset bytes old new writes stays short ends =
    let size : new.size ≡ old.size = ap (λ (f : PlainFile). f.size) stays.file in
    omega (arith, size, short)

-- and so does what was trimmed
pub short_once_trimmed : {T E : Type 0} (result : Result T E) (number size : ℕ) (old new : HeartFile) → OnOk result (Truncates number size old new) → OnErr result (StaysFile old new) → old.size ≤ 2 ^ 28 → size ≤ 2 ^ 28 → new.size ≤ 2 ^ 28
unfolding truncated
short_once_trimmed (Ok value) number size old new trims stays short ends =
    let sized : new.size ≡ size = ap (λ (f : PlainFile). f.size) trims.file in
    omega (arith, sized, ends)
short_once_trimmed (Err fault) number size old new trims stays short ends =
    let sized : new.size ≡ old.size = ap (λ (f : PlainFile). f.size) stays.file in
    omega (arith, sized, short)

-- ---- what becomes of a heart

-- a dataset went
pub dropped_dataset : (place : ℕ) (old : Core) (first dataset : HeartDataset) (datasets : List HeartDataset) (log : List Change) (stamps : Stamps) → IsCore old → StandsAt old.datasets place first → StandsAt old.datasets place dataset
    → datasets ≡ remove old.datasets place → log ≡ old.log ++ DropDataset first.id ∷ [] → Moves old.stamps stamps (stamps_in_files dataset.files) [] → LearnsNothing old.stamps stamps
    → Becomes (deeds.DropDataset place) old (record old { datasets = datasets; stamps = stamps; log = log })
dropped_dataset place old first dataset datasets log stamps is first_stands stands rest logged moves learns =
    let same = one_item first dataset (sym first_stands ∙ stands) in
    let log_is : log ≡ old.log ++ DropDataset dataset.id ∷ [] = logged ∙ ap (λ (d : HeartDataset). old.log ++ DropDataset d.id ∷ []) same in
    subst (λ (ds : List HeartDataset). Becomes (deeds.DropDataset place) old (record old { datasets = ds; stamps = stamps; log = log })) (sym rest)
    (subst (λ (all : List Change). Becomes (deeds.DropDataset place) old (record old { datasets = remove old.datasets place; stamps = stamps; log = all })) (sym log_is)
    (becomes_without_dataset place dataset stamps old stands moves learns is))

-- a file went
pub dropped_file : (spot : Spot) (old : Core) (first dataset behind : HeartDataset) (log : List Change) (stamps : Stamps) → IsCore old → StandsAt old.datasets spot.place first → StandsAt old.datasets spot.place dataset
    → log ≡ old.log ++ DropFile first.id spot.id ∷ [] → TakesFile spot.id dataset behind old.stamps stamps
    → Becomes (deeds.DropFile spot) old (record old { datasets = slice_set old.datasets spot.place behind; stamps = stamps; log = log })
dropped_file spot old first dataset behind log stamps is first_stands stands logged takes =
    let same = one_item first dataset (sym first_stands ∙ stands) in
    let log_is : log ≡ old.log ++ DropFile dataset.id spot.id ∷ [] = logged ∙ ap (λ (d : HeartDataset). old.log ++ DropFile d.id spot.id ∷ []) same in
    let at = found_stands (is_numbered spot.id) dataset.files takes.was takes.there in
    subst (λ (ds : List HeartDataset). Becomes (deeds.DropFile spot) old (record old { datasets = ds; stamps = stamps; log = log })) (sym (set_as_change_at (λ _. behind) spot.place old.datasets dataset behind stands refl))
    (subst (λ (all : List Change). Becomes (deeds.DropFile spot) old (record old { datasets = change_at (λ _. behind) spot.place old.datasets; stamps = stamps; log = all })) (sym log_is)
    (becomes_without_file spot dataset at.at takes.was behind stamps old stands at.there (eqb-true takes.was.id spot.id at.passes) takes.dataset takes.moves takes.learns is))

-- a file was made
pub added_file : (place : ℕ) (name copy : List ℕ) (old behind : Core) (dataset : HeartDataset) (log : List Change) → IsCore old → StandsAt old.datasets place dataset → files_in place old ≡ dataset.files
    → is_some (id_called name (files_in place old)) ≡ false → length (files_in place old) + 1 ≤ most_files (pool_of old) → copy ≡ name → log ≡ old.log ++ MakeFile dataset.id dataset.next_file copy ∷ []
    → behind ≡ record old { log = log; datasets = change_at (with_file name) place old.datasets } → Becomes (deeds.AddFile place name) old behind
added_file place name copy old behind dataset log is stands files missing few same logged later_is =
    let none : is_some (id_called name dataset.files) ≡ false = ap (λ (all : List (Named HeartFile)). is_some (id_called name all)) (sym files) ∙ missing in
    let many = ap (λ (all : List (Named HeartFile)). length all) files in
    let log_is : log ≡ old.log ++ MakeFile dataset.id dataset.next_file name ∷ [] = logged ∙ ap (λ (text : List ℕ). old.log ++ MakeFile dataset.id dataset.next_file text ∷ []) same in
    subst (Becomes (deeds.AddFile place name) old) (sym later_is)
    (subst (λ (ds : List HeartDataset). Becomes (deeds.AddFile place name) old (record old { log = log; datasets = ds })) (sym (changed_to (with_file name) place old.datasets dataset stands))
    (subst (λ (all : List Change). Becomes (deeds.AddFile place name) old (record old { log = all; datasets = change_at (λ _. with_file name dataset) place old.datasets })) (sym log_is)
    (becomes_with_file place dataset name old stands is none (omega (arith, few, many)))))

-- the heart whose log had one more change, which went again
pub left_unlogged : (old behind : Core) (change : Change) (log last : List Change) → IsCore old → log ≡ old.log ++ change ∷ [] → behind ≡ record old { log = log } → last ≡ take (length behind.log - 1) behind.log → IsLeft old (record behind { log = last })
left_unlogged old behind change log last is logged later_is rest =
    let all : behind.log ≡ old.log ++ change ∷ [] = ap (λ (core : Core). core.log) later_is ∙ logged in
    let again : last ≡ old.log = rest ∙ ap (λ (changes : List Change). take (length changes - 1) changes) all ∙ without_last old.log change in
    let same : record behind { log = last } ≡ old = ap (λ (core : Core). record core { log = last }) later_is ∙ ap (λ (changes : List Change). record old { log = changes }) again in
    subst (IsLeft old) (sym same) (left_same old is)
