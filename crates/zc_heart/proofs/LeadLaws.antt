-- The changes that a seal hands out lead from the base to the tree of what stands.
use Rattle.std.proofs.Common.{◌≡◌, ◌∙◌, ℕ, true, false, List, [], ◌∷◌, ◌++◌, map, inl, inr, refl, ap, ⊎_elim}
use Rattle.std.specs.List.{AllByRecursion}
use Rattle.std.proofs.lemmas.Bool.{cases_Bool}
use Rattle.zc_blkptr.specs.declared.ptr.Ptr.{Ptr}
use Rattle.zc_tree.specs.declared.tree.File.{File}
use Rattle.zc_tree.specs.declared.tree.LogState.TheVariants.{Normal}
use Rattle.zc_plain.specs.declared.plain_pool.PlainFile.{PlainFile}
use Rattle.zc_plain.specs.declared.plain_pool.PlainDataset.{PlainDataset}
use Rattle.zc_plain.specs.declared.plain_pool.PlainPool.{PlainPool}
use Rattle.zc_heart.specs.declared.changes.Change.{Change}
use Rattle.zc_heart.specs.declared.file.HeartFile.{HeartFile}
use Rattle.zc_heart.specs.declared.directory.Named.{Named}
use Rattle.zc_heart.specs.declared.pool_core.HeartDataset.{HeartDataset}
use Rattle.zc_heart.specs.declared.pool_core.Core.{Core}
use Rattle.zc_heart.specs.Changes.{Placing, is_noted, made_in, file_of, dataset_of, datasets_of, tree_of}
use Rattle.zc_heart.specs.Core.{plain_file, plain_dataset, pool_of, areas_of, is_touched, IsBefore, AreBefore, AreDatasetsBefore, Base, Leads, IsCore}
use Rattle.zc_heart.specs.Meaning.{placed_by_all}
use Rattle.zc_heart.specs.Noted.{noted_in}
use Rattle.zc_heart.proofs.ListLaws.{each_of, each_of_two}
use Rattle.zc_heart.proofs.MadeLaws.{StandsNow, stands_noted, made_file, made_file_is, each_of_files, all_changed, made_after_log, none_placed}
use Rattle.zc_heart.proofs.NotedLaws.{Fact, Covers, facts, all_covered, noted_stand}

-- what is known of a file, and that the changes cover it
abbrev IsLed : PlainPool → List Change → ℕ → Named HeartFile → Type 0
IsLed pool changes dataset named = Fact pool dataset named × Covers changes dataset named

module _ (placing : Placing) (pool : PlainPool) (changes : List Change) (stand : AllByRecursion (StandsNow pool) changes) where
  -- what the changes make of each file
  abbrev step : ℕ → ℕ → File → File
  step d f file = made_file changes (placed_by_all placing pool changes) d f file

  lead_file : (dataset : ℕ) (before : PlainFile) (named : Named HeartFile) → IsBefore before named → IsLed pool changes dataset named → step dataset before.id (file_of placing before) ≡ file_of placing (plain_file named)
  lead_file dataset before named was led =
      ap (λ (id : ℕ). step dataset id (file_of placing before)) was.0
      ∙ made_file_is placing pool dataset named.id (plain_file named) led.0.only changes before stand was.0 was.1
      (⊎_elim
      (λ (sized : named.value.sized ≡ true). inr (led.1.sizes sized))
      (λ (whole : named.value.sized ≡ false). inl (was.2 whole))
      (cases_Bool named.value.sized))
      (λ k. ⊎_elim
      (λ (touched : is_touched k named.value ≡ true). inr (led.1.puts k touched))
      (λ (untouched : is_touched k named.value ≡ false). inl (was.3 k untouched))
      (cases_Bool (is_touched k named.value)))

  lead_files : (dataset : ℕ) (befores : List PlainFile) (files : List (Named HeartFile)) → AreBefore befores files → AllByRecursion (IsLed pool changes dataset) files
      → map (λ (file : File). step dataset file.id file) (map (file_of placing) befores) ≡ map (file_of placing) (map plain_file files)
  lead_files dataset [] [] were led = refl
  lead_files dataset [] (named ∷ files) were led = absurd were
  lead_files dataset (before ∷ befores) [] were led = absurd were
  lead_files dataset (before ∷ befores) (named ∷ files) were led = λ i. lead_file dataset before named were.0 led.0 i ∷ lead_files dataset befores files were.1 led.1 i

  -- a dataset whose files are led
  lead_dataset : (area : ℕ) (before : PlainDataset) (dataset : HeartDataset) → before.id ≡ dataset.id → before.name ≡ dataset.name → before.next_file ≡ dataset.next_file → AreBefore before.files dataset.files
      → AllByRecursion (IsLed pool changes dataset.id) dataset.files → each_of_files step (dataset_of placing area before) ≡ dataset_of placing area (plain_dataset dataset)
  lead_dataset area before dataset id name next_file were led =
      let files : map (λ (file : File). step before.id file.id file) (map (file_of placing) before.files) ≡ map (file_of placing) (map plain_file dataset.files) =
      ap (λ (d : ℕ). map (λ (file : File). step d file.id file) (map (file_of placing) before.files)) id ∙ lead_files dataset.id before.files dataset.files were led in
      λ i. record { id = id i; slot = area; name = name i; next_file = next_file i; log = Normal; files = files i }

  lead_datasets : (befores : List PlainDataset) (datasets : List HeartDataset) → AreDatasetsBefore befores datasets → AllByRecursion (λ (dataset : HeartDataset). AllByRecursion (IsLed pool changes dataset.id) dataset.files) datasets
      → map (each_of_files step) (datasets_of placing (map (λ (dataset : HeartDataset). dataset.area) datasets) befores) ≡ datasets_of placing (map (λ (dataset : HeartDataset). dataset.area) datasets) (map plain_dataset datasets)
  lead_datasets [] [] were led = refl
  lead_datasets [] (dataset ∷ datasets) were led = absurd were
  lead_datasets (before ∷ befores) [] were led = absurd were
  lead_datasets (before ∷ befores) (dataset ∷ datasets) were led =
      λ i. lead_dataset dataset.area before dataset were.0 were.1 were.2 were.3 led.0 i ∷ lead_datasets befores datasets were.4 led.1 i

-- the whole
pub leads : (core : Core) → IsCore core → (base : Base) (placing : Placing) (group : ℕ) → Leads base core
    → made_in (core.log ++ noted_in core.datasets) (placed_by_all placing (pool_of core) (core.log ++ noted_in core.datasets)) (tree_of group placing base.areas base.pool) ≡ tree_of group placing (areas_of core) (pool_of core)
leads core is base placing group led =
    let pool = pool_of core in
    let noted = noted_in core.datasets in
    let ptrs = placed_by_all placing pool noted in
    let start = tree_of group placing base.areas base.pool in
    let known = facts core is in
    let stand = noted_stand pool core.datasets known in
    let all_led : AllByRecursion (λ (dataset : HeartDataset). AllByRecursion (IsLed pool noted dataset.id) dataset.files) core.datasets =
    each_of_two (λ (dataset : HeartDataset). AllByRecursion (Fact pool dataset.id) dataset.files) (λ (dataset : HeartDataset). AllByRecursion (Covers noted dataset.id) dataset.files)
    (λ (dataset : HeartDataset). AllByRecursion (IsLed pool noted dataset.id) dataset.files) core.datasets
    (λ dataset fact covers. each_of_two (Fact pool dataset.id) (Covers noted dataset.id) (IsLed pool noted dataset.id) dataset.files (λ named one other. (one, other)) fact covers) known (all_covered core is) in
    let datasets = lead_datasets placing pool noted stand led.before.datasets core.datasets led.datasets all_led in
    ap (λ (placed : List Ptr). made_in (core.log ++ noted) placed start) (none_placed placing pool core.log noted is.logged)
    ∙ made_after_log core.log noted ptrs start is.logged
    ∙ ap (made_in noted ptrs) (led.made group placing)
    ∙ all_changed noted ptrs (tree_of group placing (areas_of core) led.before) (each_of (StandsNow pool) (λ (change : Change). is_noted change ≡ true) noted (λ change stands. stands_noted pool change stands) stand)
    ∙ (λ i. record { group = group; next_dataset = led.next_dataset i; datasets = datasets i })
