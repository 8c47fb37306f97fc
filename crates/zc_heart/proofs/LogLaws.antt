-- What the log of a heart leads to, once a dataset or a file is made or dropped, and what stays once a file is changed.
use Rattle.std.proofs.Common.{◌≡◌, ℕ, zero, suc, ◌+◌, ◌==◌, Bool, true, false, List, [], ◌∷◌, ◌++◌, length, map, drop, refl, sym, ap, subst, ◌∙◌, arith}
use Rattle.std.specs.Prelude.{remove, if◌then◌else◌}
use Rattle.zc_num.specs.Words.{change_at}
use Rattle.zc_blkptr.specs.declared.ptr.Ptr.{Ptr}
use Rattle.zc_tree.specs.declared.tree.LogState.TheVariants.{Normal}
use Rattle.zc_tree.specs.declared.tree.File.{File}
use Rattle.zc_tree.specs.declared.tree.Dataset.{Dataset}
use Rattle.zc_tree.specs.declared.tree.Tree.{Tree}
use Rattle.zc_plain.specs.declared.plain_pool.PlainFile.{PlainFile}
use Rattle.zc_plain.specs.declared.plain_pool.PlainDataset.{PlainDataset}
use Rattle.zc_plain.specs.declared.plain_pool.PlainPool.{PlainPool}
use Rattle.zc_plain.specs.PlainPool.{new_file, with_new_dataset, with_new_file, without_dataset, without_file, in_dataset}
use Rattle.zc_plain.specs.IsPlain.{StandsAt}
use Rattle.zc_plain.proofs.NumberedLaws.{one_item, no_item}
use Rattle.zc_heart.specs.declared.changes.Change.{Change}
use Rattle.zc_heart.specs.declared.changes.Change.TheVariants.{MakeDataset, DropDataset, MakeFile, DropFile}
use Rattle.zc_heart.specs.declared.file.HeartFile.{HeartFile}
use Rattle.zc_heart.specs.declared.directory.Named.{Named}
use Rattle.zc_heart.specs.declared.pool_core.HeartDataset.{HeartDataset}
use Rattle.zc_heart.specs.Directory.{id_of}
use Rattle.zc_heart.specs.Changes.{Placing, without, number_of_dataset, number_of_file, nowhere, is_made, left_after, changed, made_in, file_of, dataset_of, datasets_of, tree_of}
use Rattle.zc_heart.specs.Core.{IsBefore, AreBefore, AreDatasetsBefore}
use Rattle.zc_heart.proofs.Listing.{Ascend, changed_by_number, taken_by_number, map_more, map_removed, stood_in_map, stands_in_map}

-- ---- the files and datasets before the open group touched their blocks

-- what there is to say of one dataset
abbrev pub IsDatasetBefore : PlainDataset → HeartDataset → Type 0
IsDatasetBefore before dataset = (before.id ≡ dataset.id) × (before.name ≡ dataset.name) × (before.next_file ≡ dataset.next_file) × AreBefore before.files dataset.files

-- a file changed in place
pub files_before_changed : (befores : List PlainFile) (files : List (Named HeartFile)) (at : ℕ) (was behind : Named HeartFile) → StandsAt files at was → ((before : PlainFile) → IsBefore before was → IsBefore before behind)
    → AreBefore befores files → AreBefore befores (change_at (λ _. behind) at files)
files_before_changed [] [] at was behind stands keeps are = no_item was stands
files_before_changed [] (file ∷ files) at was behind stands keeps are = absurd are
files_before_changed (before ∷ befores) [] at was behind stands keeps are = absurd are
files_before_changed (before ∷ befores) (file ∷ files) zero was behind stands keeps are = (keeps before (subst (IsBefore before) (one_item file was stands) are.0), are.1)
files_before_changed (before ∷ befores) (file ∷ files) (suc at) was behind stands keeps are = (are.0, files_before_changed befores files at was behind stands keeps are.1)

-- a file more, and one fewer
pub files_before_more : (befores : List PlainFile) (files : List (Named HeartFile)) (before : PlainFile) (file : Named HeartFile) → IsBefore before file → AreBefore befores files → AreBefore (befores ++ before ∷ []) (files ++ file ∷ [])
files_before_more [] [] before file is are = (is, tt)
files_before_more [] (other ∷ files) before file is are = absurd are
files_before_more (other ∷ befores) [] before file is are = absurd are
files_before_more (one ∷ befores) (other ∷ files) before file is are = (are.0, files_before_more befores files before file is are.1)

pub files_before_removed : (befores : List PlainFile) (files : List (Named HeartFile)) (at : ℕ) → AreBefore befores files → AreBefore (remove befores at) (remove files at)
files_before_removed [] [] zero are = tt
files_before_removed [] [] (suc at) are = tt
files_before_removed [] (file ∷ files) at are = absurd are
files_before_removed (before ∷ befores) [] at are = absurd are
files_before_removed (before ∷ befores) (file ∷ files) zero are = are.1
files_before_removed (before ∷ befores) (file ∷ files) (suc at) are = (are.0, files_before_removed befores files at are.1)

-- a dataset changed in place, and what it was before with it
pub datasets_before_changed : (f : PlainDataset → PlainDataset) (befores : List PlainDataset) (datasets : List HeartDataset) (place : ℕ) (was behind : HeartDataset) → StandsAt datasets place was
    → ((before : PlainDataset) → IsDatasetBefore before was → IsDatasetBefore (f before) behind) → AreDatasetsBefore befores datasets → AreDatasetsBefore (change_at f place befores) (change_at (λ _. behind) place datasets)
datasets_before_changed f [] [] place was behind stands keeps are = no_item was stands
datasets_before_changed f [] (dataset ∷ datasets) place was behind stands keeps are = absurd are
datasets_before_changed f (before ∷ befores) [] place was behind stands keeps are = absurd are
datasets_before_changed f (before ∷ befores) (dataset ∷ datasets) zero was behind stands keeps are =
    let now' = keeps before (subst (IsDatasetBefore before) (one_item dataset was stands) (are.0, are.1, are.2, are.3)) in
    (now'.0, now'.1, now'.2, now'.3, are.4)
datasets_before_changed f (before ∷ befores) (dataset ∷ datasets) (suc place) was behind stands keeps are =
    (are.0, are.1, are.2, are.3, datasets_before_changed f befores datasets place was behind stands keeps are.4)

-- a change to what is there already
pub changed_to_itself : {X : Type 0} (place : ℕ) (xs : List X) → change_at (λ x. x) place xs ≡ xs
changed_to_itself place [] = refl
changed_to_itself zero (x ∷ xs) = refl
changed_to_itself (suc place) (x ∷ xs) = ap (λ rest. x ∷ rest) (changed_to_itself place xs)

-- a dataset more, and one fewer
pub datasets_before_more : (befores : List PlainDataset) (datasets : List HeartDataset) (before : PlainDataset) (dataset : HeartDataset) → IsDatasetBefore before dataset → AreDatasetsBefore befores datasets
    → AreDatasetsBefore (befores ++ before ∷ []) (datasets ++ dataset ∷ [])
datasets_before_more [] [] before dataset is are = (is.0, is.1, is.2, is.3, tt)
datasets_before_more [] (other ∷ datasets) before dataset is are = absurd are
datasets_before_more (other ∷ befores) [] before dataset is are = absurd are
datasets_before_more (one ∷ befores) (other ∷ datasets) before dataset is are = (are.0, are.1, are.2, are.3, datasets_before_more befores datasets before dataset is are.4)

pub datasets_before_removed : (befores : List PlainDataset) (datasets : List HeartDataset) (place : ℕ) → AreDatasetsBefore befores datasets → AreDatasetsBefore (remove befores place) (remove datasets place)
datasets_before_removed [] [] zero are = tt
datasets_before_removed [] [] (suc place) are = tt
datasets_before_removed [] (dataset ∷ datasets) place are = absurd are
datasets_before_removed (before ∷ befores) [] place are = absurd are
datasets_before_removed (before ∷ befores) (dataset ∷ datasets) zero are = are.4
datasets_before_removed (before ∷ befores) (dataset ∷ datasets) (suc place) are = (are.0, are.1, are.2, are.3, datasets_before_removed befores datasets place are.4)

-- there are as many
pub as_many_before : (befores : List PlainDataset) (datasets : List HeartDataset) → AreDatasetsBefore befores datasets → length befores ≡ length datasets
as_many_before [] [] are = refl
as_many_before [] (dataset ∷ datasets) are = absurd are
as_many_before (before ∷ befores) [] are = absurd are
as_many_before (before ∷ befores) (dataset ∷ datasets) are = ap suc (as_many_before befores datasets are.4)

-- the dataset before at a place
pub dataset_before : (befores : List PlainDataset) (datasets : List HeartDataset) (place : ℕ) (before : PlainDataset) → AreDatasetsBefore befores datasets → StandsAt befores place before → (dataset : HeartDataset) × StandsAt datasets place dataset × IsDatasetBefore before dataset
dataset_before [] [] place before are stands = no_item before stands
dataset_before [] (dataset ∷ datasets) place before are stands = absurd are
dataset_before (other ∷ befores) [] place before are stands = absurd are
dataset_before (other ∷ befores) (dataset ∷ datasets) zero before are stands = (dataset, refl, subst (λ (b : PlainDataset). IsDatasetBefore b dataset) (one_item other before stands) (are.0, are.1, are.2, are.3))
dataset_before (other ∷ befores) (dataset ∷ datasets) (suc place) before are stands = dataset_before befores datasets place before are.4 stands

-- and the dataset before one that stands
pub dataset_was : (befores : List PlainDataset) (datasets : List HeartDataset) (place : ℕ) (dataset : HeartDataset) → AreDatasetsBefore befores datasets → StandsAt datasets place dataset → (before : PlainDataset) × StandsAt befores place before × IsDatasetBefore before dataset
dataset_was [] [] place dataset are stands = no_item dataset stands
dataset_was [] (other ∷ datasets) place dataset are stands = absurd are
dataset_was (before ∷ befores) [] place dataset are stands = absurd are
dataset_was (before ∷ befores) (other ∷ datasets) zero dataset are stands = (before, refl, subst (IsDatasetBefore before) (one_item other dataset stands) (are.0, are.1, are.2, are.3))
dataset_was (before ∷ befores) (other ∷ datasets) (suc place) dataset are stands = dataset_was befores datasets place dataset are.4 stands

pub file_before : (befores : List PlainFile) (files : List (Named HeartFile)) (at : ℕ) (before : PlainFile) → AreBefore befores files → StandsAt befores at before → (file : Named HeartFile) × StandsAt files at file × IsBefore before file
file_before [] [] at before are stands = no_item before stands
file_before [] (file ∷ files) at before are stands = absurd are
file_before (other ∷ befores) [] at before are stands = absurd are
file_before (other ∷ befores) (file ∷ files) zero before are stands = (file, refl, subst (λ (b : PlainFile). IsBefore b file) (one_item other before stands) are.0)
file_before (other ∷ befores) (file ∷ files) (suc at) before are stands = file_before befores files at before are.1 stands

-- and the file before one that stands
pub file_was : (befores : List PlainFile) (files : List (Named HeartFile)) (at : ℕ) (file : Named HeartFile) → AreBefore befores files → StandsAt files at file → (before : PlainFile) × StandsAt befores at before × IsBefore before file
file_was [] [] at file are stands = no_item file stands
file_was [] (other ∷ files) at file are stands = absurd are
file_was (before ∷ befores) [] at file are stands = absurd are
file_was (before ∷ befores) (other ∷ files) zero file are stands = (before, refl, subst (IsBefore before) (one_item other file stands) are.0)
file_was (before ∷ befores) (other ∷ files) (suc at) file are stands = file_was befores files at file are.1 stands

-- ---- the tree

-- one more change, with no pointer
pub made_in_more : (log : List Change) (change : Change) (tree : Tree) → made_in (log ++ change ∷ []) [] tree ≡ changed change nowhere (made_in log [] tree)
made_in_more [] change tree = refl
made_in_more (one ∷ log) change tree =
    ap (λ (ptrs : List Ptr). made_in (log ++ change ∷ []) ptrs (changed one nowhere tree)) (none_left one)
    ∙ made_in_more log change (changed one nowhere tree)
    ∙ ap (λ (ptrs : List Ptr). changed change nowhere (made_in log ptrs (changed one nowhere tree))) (sym (none_left one))
  where
    none_left : (one : Change) → left_after one [] ≡ []
    none_left one = either (is_made one)
      where
        either : (b : Bool) → (if b then drop {A = Ptr} 1 [] else []) ≡ []
        either true = refl
        either false = refl

-- one more dataset
datasets_of_more : (placing : Placing) (areas : List ℕ) (plains : List PlainDataset) (area : ℕ) (plain : PlainDataset) → length areas ≡ length plains → datasets_of placing (areas ++ area ∷ []) (plains ++ plain ∷ []) ≡ datasets_of placing areas plains ++ dataset_of placing area plain ∷ []
datasets_of_more placing [] [] area plain alike = refl
datasets_of_more placing [] (one ∷ plains) area plain alike = absurd (omega (arith, alike))
datasets_of_more placing (other ∷ areas) [] area plain alike = absurd (omega (arith, alike))
datasets_of_more placing (other ∷ areas) (one ∷ plains) area plain alike = ap (λ (rest : List Dataset). dataset_of placing other one ∷ rest) (datasets_of_more placing areas plains area plain (omega (arith, alike)))

-- one dataset fewer
datasets_of_removed : (placing : Placing) (areas : List ℕ) (plains : List PlainDataset) (place : ℕ) → length areas ≡ length plains → datasets_of placing (remove areas place) (remove plains place) ≡ remove (datasets_of placing areas plains) place
datasets_of_removed placing [] [] zero alike = refl
datasets_of_removed placing [] [] (suc place) alike = refl
datasets_of_removed placing [] (one ∷ plains) place alike = absurd (omega (arith, alike))
datasets_of_removed placing (other ∷ areas) [] place alike = absurd (omega (arith, alike))
datasets_of_removed placing (other ∷ areas) (one ∷ plains) zero alike = refl
datasets_of_removed placing (other ∷ areas) (one ∷ plains) (suc place) alike = ap (λ (rest : List Dataset). dataset_of placing other one ∷ rest) (datasets_of_removed placing areas plains place (omega (arith, alike)))

-- a dataset changed in place
datasets_of_changed : (placing : Placing) (f : PlainDataset → PlainDataset) (g : Dataset → Dataset) (areas : List ℕ) (plains : List PlainDataset) (place : ℕ) → ((area : ℕ) (plain : PlainDataset) → StandsAt plains place plain → dataset_of placing area (f plain) ≡ g (dataset_of placing area plain))
    → datasets_of placing areas (change_at f place plains) ≡ change_at g place (datasets_of placing areas plains)
datasets_of_changed placing f g areas [] place turns = refl
datasets_of_changed placing f g [] (plain ∷ plains) zero turns = refl
datasets_of_changed placing f g [] (plain ∷ plains) (suc place) turns = refl
datasets_of_changed placing f g (area ∷ areas) (plain ∷ plains) zero turns = ap (λ (first : Dataset). first ∷ datasets_of placing areas plains) (turns area plain refl)
datasets_of_changed placing f g (area ∷ areas) (plain ∷ plains) (suc place) turns =
    ap (λ (rest : List Dataset). dataset_of placing area plain ∷ rest) (datasets_of_changed placing f g areas plains place (λ a p stands. turns a p stands))

-- the dataset of the tree at a place
tree_dataset : (placing : Placing) (areas : List ℕ) (plains : List PlainDataset) (place : ℕ) (dataset : Dataset) → StandsAt (datasets_of placing areas plains) place dataset → (plain : PlainDataset) × StandsAt plains place plain × (dataset.id ≡ plain.id)
tree_dataset placing areas [] place dataset stands = no_item dataset stands
tree_dataset placing [] (plain ∷ plains) place dataset stands = no_item dataset stands
tree_dataset placing (area ∷ areas) (plain ∷ plains) zero dataset stands = (plain, refl, ap (λ (d : Dataset). d.id) (sym (one_item (dataset_of placing area plain) dataset stands)))
tree_dataset placing (area ∷ areas) (plain ∷ plains) (suc place) dataset stands = tree_dataset placing areas plains place dataset stands

dataset_in_tree : (placing : Placing) (areas : List ℕ) (plains : List PlainDataset) (place : ℕ) (plain : PlainDataset) → length areas ≡ length plains → StandsAt plains place plain → (dataset : Dataset) × StandsAt (datasets_of placing areas plains) place dataset × (dataset.id ≡ plain.id)
dataset_in_tree placing areas [] place plain alike stands = no_item plain stands
dataset_in_tree placing [] (one ∷ plains) place plain alike stands = absurd (omega (arith, alike))
dataset_in_tree placing (area ∷ areas) (one ∷ plains) zero plain alike stands = (dataset_of placing area one, refl, ap (λ (d : PlainDataset). d.id) (one_item one plain stands))
dataset_in_tree placing (area ∷ areas) (one ∷ plains) (suc place) plain alike stands = dataset_in_tree placing areas plains place plain (omega (arith, alike)) stands

-- the numbers of the tree's datasets ascend where those of the heart's do
tree_ascends : (placing : Placing) (areas : List ℕ) (befores : List PlainDataset) (datasets : List HeartDataset) → AreDatasetsBefore befores datasets → Ascend (λ (d : HeartDataset). d.id) datasets → Ascend number_of_dataset (datasets_of placing areas befores)
tree_ascends placing areas befores datasets are ascend =
    λ a b x y lt first second.
    let one = tree_dataset placing areas befores a x first in
    let other = tree_dataset placing areas befores b y second in
    let this = dataset_before befores datasets a one.0 are one.1 in
    let that = dataset_before befores datasets b other.0 are other.1 in
    omega (arith, one.2, other.2, this.2.0, that.2.0, ascend a b this.0 that.0 lt this.1 that.1)

-- ---- what one more entry of the log leads to

pub leads_with_dataset : (group : ℕ) (placing : Placing) (areas : List ℕ) (before : PlainPool) (id area : ℕ) (name : List ℕ) → length areas ≡ length before.datasets → before.next_dataset ≡ id
    → changed (MakeDataset id area name) nowhere (tree_of group placing areas before) ≡ tree_of group placing (areas ++ area ∷ []) (with_new_dataset name before)
unfolding changed
leads_with_dataset group placing areas before id area name alike next =
    subst (λ (n : ℕ). changed (MakeDataset n area name) nowhere (tree_of group placing areas before) ≡ tree_of group placing (areas ++ area ∷ []) (with_new_dataset name before)) next
    (ap (λ (datasets : List Dataset). record { group = group; next_dataset = before.next_dataset + 1; datasets = datasets })
    (sym (datasets_of_more placing areas before.datasets area (record { id = before.next_dataset; name = name; next_file = 1; files = [] }) alike)))

pub leads_without_dataset : (group : ℕ) (placing : Placing) (areas : List ℕ) (before : PlainPool) (datasets : List HeartDataset) (place : ℕ) (dataset : HeartDataset) → length areas ≡ length before.datasets → AreDatasetsBefore before.datasets datasets
    → Ascend (λ (d : HeartDataset). d.id) datasets → (plain : PlainDataset) → StandsAt before.datasets place plain → plain.id ≡ dataset.id
    → changed (DropDataset dataset.id) nowhere (tree_of group placing areas before) ≡ tree_of group placing (remove areas place) (without_dataset place before)
unfolding changed
leads_without_dataset group placing areas before datasets place dataset alike are ascend plain stands same =
    let in_tree = dataset_in_tree placing areas before.datasets place plain alike stands in
    let taken = taken_by_number number_of_dataset (datasets_of placing areas before.datasets) place in_tree.0 (tree_ascends placing areas before.datasets datasets are ascend) in_tree.1 in
    ap (λ (left : List Dataset). record { group = group; next_dataset = before.next_dataset; datasets = left })
    (ap (λ (n : ℕ). without number_of_dataset n (datasets_of placing areas before.datasets)) (sym (in_tree.2 ∙ same)) ∙ taken ∙ sym (datasets_of_removed placing areas before.datasets place alike))

pub leads_with_file : (group : ℕ) (placing : Placing) (areas : List ℕ) (before : PlainPool) (datasets : List HeartDataset) (place : ℕ) (dataset : HeartDataset) (name : List ℕ) → length areas ≡ length before.datasets → AreDatasetsBefore before.datasets datasets
    → Ascend (λ (d : HeartDataset). d.id) datasets → (plain : PlainDataset) → StandsAt before.datasets place plain → plain.id ≡ dataset.id → plain.next_file ≡ dataset.next_file
    → changed (MakeFile dataset.id dataset.next_file name) nowhere (tree_of group placing areas before) ≡ tree_of group placing areas (in_dataset place (with_new_file name) before)
unfolding changed
leads_with_file group placing areas before datasets place dataset name alike are ascend plain stands same next =
    let g = λ (d : Dataset). record d { next_file = dataset.next_file + 1; files = d.files ++ record { id = dataset.next_file; name = name; size = 0; slots = [] } ∷ [] } in
    let in_tree = dataset_in_tree placing areas before.datasets place plain alike stands in
    let found = changed_by_number number_of_dataset g (datasets_of placing areas before.datasets) place in_tree.0 (tree_ascends placing areas before.datasets datasets are ascend) in_tree.1 in
    ap (λ (all : List Dataset). record { group = group; next_dataset = before.next_dataset; datasets = all })
    (ap (λ (n : ℕ). map (λ (d : Dataset). if d.id == n then g d else d) (datasets_of placing areas before.datasets)) (sym (in_tree.2 ∙ same)) ∙ found
    ∙ sym (datasets_of_changed placing (with_new_file name) g areas before.datasets place
    (λ area one there.
    let is = one_item one plain (sym there ∙ stands) in
    let number : one.next_file ≡ dataset.next_file = ap (λ (p : PlainDataset). p.next_file) is ∙ next in
    ap (λ (n : ℕ). record { id = one.id; slot = area; name = one.name; next_file = n + 1; log = Normal; files = map (file_of placing) (one.files ++ new_file n name ∷ []) }) number
    ∙ ap (λ (files : List File). record { id = one.id; slot = area; name = one.name; next_file = dataset.next_file + 1; log = Normal; files = files }) (map_more (file_of placing) one.files (new_file dataset.next_file name)))))

pub leads_without_file : (group : ℕ) (placing : Placing) (areas : List ℕ) (before : PlainPool) (datasets : List HeartDataset) (place : ℕ) (dataset : HeartDataset) (at : ℕ) (file : Named HeartFile) → length areas ≡ length before.datasets → AreDatasetsBefore before.datasets datasets
    → Ascend (λ (d : HeartDataset). d.id) datasets → Ascend id_of dataset.files → StandsAt datasets place dataset → StandsAt dataset.files at file
    → (plain : PlainDataset) → StandsAt before.datasets place plain → IsDatasetBefore plain dataset
    → changed (DropFile dataset.id file.id) nowhere (tree_of group placing areas before) ≡ tree_of group placing areas (in_dataset place (without_file at) before)
unfolding changed
leads_without_file group placing areas before datasets place dataset at file alike are ascend files_ascend there file_there plain stands is =
    let g = λ (d : Dataset). record d { files = without number_of_file file.id d.files } in
    let in_tree = dataset_in_tree placing areas before.datasets place plain alike stands in
    let found = changed_by_number number_of_dataset g (datasets_of placing areas before.datasets) place in_tree.0 (tree_ascends placing areas before.datasets datasets are ascend) in_tree.1 in
    ap (λ (all : List Dataset). record { group = group; next_dataset = before.next_dataset; datasets = all })
    (ap (λ (n : ℕ). map (λ (d : Dataset). if d.id == n then g d else d) (datasets_of placing areas before.datasets)) (sym (in_tree.2 ∙ is.0)) ∙ found
    ∙ sym (datasets_of_changed placing (without_file at) g areas before.datasets place
    (λ area one same.
    let one_is = one_item one plain (sym same ∙ stands) in
    ap (λ (files : List File). record { id = one.id; slot = area; name = one.name; next_file = one.next_file; log = Normal; files = files })
    (subst (λ (p : PlainDataset). map (file_of placing) (remove p.files at) ≡ without number_of_file file.id (map (file_of placing) p.files)) (sym one_is)
    (map_removed (file_of placing) plain.files at ∙ sym (taken plain is.3))))))
  where
    taken : (plain : PlainDataset) → AreBefore plain.files dataset.files → without number_of_file file.id (map (file_of placing) plain.files) ≡ remove (map (file_of placing) plain.files) at
    taken plain are_files =
        let was = file_was plain.files dataset.files at file are_files file_there in
        let numbers : Ascend number_of_file (map (file_of placing) plain.files) =
        λ a b x y lt first second.
        let one = stood_in_map (file_of placing) plain.files a x first in
        let other = stood_in_map (file_of placing) plain.files b y second in
        let this = file_before plain.files dataset.files a one.0 are_files one.1 in
        let that = file_before plain.files dataset.files b other.0 are_files other.1 in
        let id_x = ap number_of_file one.2 in
        let id_y = ap number_of_file other.2 in
        omega (arith, id_x, id_y, this.2.0, that.2.0, files_ascend a b this.0 that.0 lt this.1 that.1)
        in
        ap (λ (n : ℕ). without number_of_file n (map (file_of placing) plain.files)) (sym was.2.0)
        ∙ taken_by_number number_of_file (map (file_of placing) plain.files) at (file_of placing was.0) numbers (stands_in_map (file_of placing) plain.files at was.0 was.1)
