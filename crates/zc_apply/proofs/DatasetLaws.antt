-- A tree that holds a plain pool, with pointers that a pool may have, is one that a root may have.
use Rattle.std.proofs.Common.{◌≡◌, ◌∙◌, ℕ, suc, ◌-◌, ◌^◌, ◌<◌, ◌≤◌, true, false, ◌||◌, ◌&&◌, eqb, ltb, IsTrue, List, [], ◌∷◌, ◌++◌, length, refl, sym, ap, subst, arith}
use Rattle.std.specs.Prelude.{sum_by}
use Rattle.std.specs.List.{AllByRecursion, list_all, list_any}
use Rattle.std.specs.Str.{bytes_eq}
use Rattle.std.proofs.lemmas.Bool.{lt-ltb, and_from, or_from}
use Rattle.std.proofs.lemmas.List.Folds.{list_any-append, list_all-append}
use Rattle.zc_num.specs.Limits.{AreLimits, files_of, pointers_of, file_bytes_of}
use Rattle.zc_command.specs.Names.{IsName}
use Rattle.zc_blkptr.specs.Ptr.{IsPtr}
use Rattle.zc_blkptr.specs.declared.ptr.Ptr.{Ptr}
use Rattle.zc_tree.specs.declared.tree.LogState.TheVariants.{Normal}
use Rattle.zc_tree.specs.declared.tree.Dataset.{Dataset}
use Rattle.zc_tree.specs.declared.tree.Tree.{Tree}
use Rattle.zc_tree.specs.Names.{AreNewTo}
use Rattle.zc_tree.specs.Spelling.{AscendFrom, IsFile, IsLogState, IsDataset, IsAfter}
use Rattle.zc_tree.specs.Catalogue.{AreDatasets}
use Rattle.zc_plain.specs.declared.plain_pool.PlainFile.{PlainFile}
use Rattle.zc_plain.specs.declared.plain_pool.PlainDataset.{PlainDataset}
use Rattle.zc_plain.specs.declared.plain_pool.PlainPool.{PlainPool}
use Rattle.zc_plain.specs.PlainPool.{made_count, pointers_in}
use Rattle.zc_plain.specs.IsPlain.{StandsAt, AreNumbered, IsPlainDataset, IsPlain, AreNextUpTo}
use Rattle.zc_plain.specs.Promises.{HaveFewPointers}
use Rattle.zc_heart.specs.Changes.{Placing, dataset_of, datasets_of, tree_of}
use Rattle.zc_apply.specs.Alike.{IsDatasetAlike, AreDatasetsAlike, IsAlike}
use Rattle.zc_apply.specs.Named.{IsNamed, AreNamed, AreAreas}
use Rattle.zc_heart.specs.Core.{AreApart}
use Rattle.zc_apply.proofs.NumberLaws.{numbered_after, first_below, first_differs, numbers_ascend, names_new, AreOtherAreas, areas_none, areas_more}
use Rattle.zc_apply.proofs.FileLaws.{files_are}

pointers_are : (plain : PlainDataset) → pointers_in plain ≡ sum_by (λ (file : PlainFile). made_count file.blocks) plain.files
unfolding pointers_in
pointers_are plain = refl

lower : (a b c : ℕ) → a ≡ b → b < c → a < c
lower a b c same below = omega (arith, same, below)

-- ---- datasets

abbrev id_of : PlainDataset → ℕ
id_of dataset = dataset.id

abbrev name_of : PlainDataset → List ℕ
name_of dataset = dataset.name

module _ (devices places : ℕ) (limits : AreLimits devices places) (P : Ptr → Ptr → Type 0) (ptrs : (ptr other : Ptr) → P ptr other → IsPtr devices places ptr) (placing : Placing) (group next : ℕ) where
  -- what is known of a dataset of the plain pool
  record IsKnown (plain : PlainDataset) : Type 0 where
    plain_is : IsPlainDataset (files_of devices places) (file_bytes_of devices places) plain
    next_file : plain.next_file ≤ 2 ^ 64 - 1
    pointers : pointers_in plain ≤ pointers_of devices places

  dataset_is : (area : ℕ) (plain : PlainDataset) (dataset : Dataset) → 1 ≤ plain.id → plain.id < next → area < 8 → IsNamed plain → IsKnown plain → IsDatasetAlike P dataset (dataset_of placing area plain)
      → IsDataset devices places group next dataset
  dataset_is area plain dataset some below slot named known is =
      let plain_is = known.plain_is in
      let files = files_are devices places limits P ptrs placing plain.next_file plain.files dataset.files plain_is.numbered named.files plain_is.files plain_is.sizes is.files in
      let ascend = numbers_ascend (λ (f : PlainFile). f.id) (λ (f : PlainFile). f.name) plain.next_file 1 plain.files plain_is.numbered plain_is.numbered.from_one in
      let differ = names_new (λ (f : PlainFile). f.id) (λ (f : PlainFile). f.name) plain.next_file [] plain.files plain_is.numbered (λ a x stands. refl) in
      let few : length plain.files ≤ files_of devices places = plain_is.few in
      let pointers : pointers_in plain ≤ pointers_of devices places = known.pointers in
      record {
        made = omega (arith, is.id, some);
        before_next = omega (arith, is.id, below);
        in_slot = omega (arith, is.slot, slot);
        name = subst IsName (sym is.name) named.own;
        some_next_file = omega (arith, is.next_file, plain_is.numbered.next_from_one);
        next_file_width = omega (arith, is.next_file, known.next_file);
        log = subst (IsLogState devices places group) (sym is.log) tt;
        few_files = omega (arith, files.count, few);
        files = subst (λ (n : ℕ). AllByRecursion (IsFile devices places n) dataset.files) (sym is.next_file) files.each;
        files_ascend = subst (AscendFrom 1) (sym files.ids) ascend;
        names_differ = subst (AreNewTo []) (sym files.names) differ;
        few_pointers = omega (arith, files.pointers, pointers_are plain, pointers);
      }

  -- those that are still to come are above the others, with names of their own
  abbrev AreAbove : List Dataset → List PlainDataset → Type 0
  AreAbove others plains = (place : ℕ) (plain : PlainDataset) → StandsAt plains place plain → IsTrue (list_all (λ (other : Dataset). ltb other.id plain.id) others)

  abbrev HaveOtherNames : List Dataset → List PlainDataset → Type 0
  HaveOtherNames others plains = (place : ℕ) (plain : PlainDataset) → StandsAt plains place plain → list_any (λ (other : Dataset). bytes_eq other.name plain.name) others ≡ false

  record AreAfter (others : List Dataset) (areas : List ℕ) (plains : List PlainDataset) : Type 0 where
    above : AreAbove others plains
    other_names : HaveOtherNames others plains
    other_areas : AreOtherAreas others areas

  record AreKnown (areas : List ℕ) (plains : List PlainDataset) : Type 0 where
    numbered : AreNumbered id_of name_of next plains
    named : AllByRecursion IsNamed plains
    each : (place : ℕ) (plain : PlainDataset) → StandsAt plains place plain → IsKnown plain
    count : length areas ≡ length plains
    below : AllByRecursion (λ area. area < 8) areas
    apart : AreApart areas

  known_after : (area : ℕ) (areas : List ℕ) (plain : PlainDataset) (plains : List PlainDataset) → AreKnown (area ∷ areas) (plain ∷ plains) → AreKnown areas plains
  known_after area areas plain plains known = record {
    numbered = numbered_after id_of name_of next plain plains known.numbered;
    named = known.named.1;
    each = λ place other stands. known.each (suc place) other stands;
    count = omega (arith, known.count);
    below = known.below.1;
    apart = known.apart.1;
  }

  -- they are after one dataset more
  after_more : (others : List Dataset) (dataset : Dataset) (area : ℕ) (areas : List ℕ) (plain : PlainDataset) (plains : List PlainDataset) → AreKnown (area ∷ areas) (plain ∷ plains)
      → AreAfter others (area ∷ areas) (plain ∷ plains) → IsDatasetAlike P dataset (dataset_of placing area plain) → AreAfter (others ++ dataset ∷ []) areas plains
  after_more others dataset area areas plain plains known behind is = record {
    above = λ place other stands.
        list_all-append (λ (d : Dataset). ltb d.id other.id) others (dataset ∷ [])
        ∙ and_from (list_all (λ (d : Dataset). ltb d.id other.id) others) (ltb dataset.id other.id && true) (behind.above (suc place) other stands)
        (and_from (ltb dataset.id other.id) true (lt-ltb dataset.id other.id (lower dataset.id plain.id other.id is.id (first_below id_of name_of next plain plains known.numbered place other stands))) refl);
    other_names = λ place other stands.
        list_any-append (λ (d : Dataset). bytes_eq d.name other.name) others (dataset ∷ [])
        ∙ or_from (list_any (λ (d : Dataset). bytes_eq d.name other.name) others) (bytes_eq dataset.name other.name || false) (behind.other_names (suc place) other stands)
        (or_from (bytes_eq dataset.name other.name) false (ap (λ (name : List ℕ). bytes_eq name other.name) is.name ∙ first_differs id_of name_of next plain plains known.numbered place other stands) refl);
    other_areas = areas_more others dataset area areas is.slot known.apart.0 behind.other_areas.1;
  }

  datasets_are : (others : List Dataset) (areas : List ℕ) (plains : List PlainDataset) (datasets : List Dataset) → AreKnown areas plains → AreAfter others areas plains
      → AreDatasetsAlike P datasets (datasets_of placing areas plains) → AreDatasets devices places group next others datasets × (length datasets ≡ length plains)
  datasets_are others [] [] [] known behind are = (tt, refl)
  datasets_are others [] [] (dataset ∷ datasets) known behind are = absurd are
  datasets_are others [] (plain ∷ plains) datasets known behind are = absurd (omega (arith, known.count))
  datasets_are others (area ∷ areas) [] datasets known behind are = absurd (omega (arith, known.count))
  datasets_are others (area ∷ areas) (plain ∷ plains) [] known behind are = absurd are
  datasets_are others (area ∷ areas) (plain ∷ plains) (dataset ∷ datasets) known behind are =
      let is = are.0 in
      let own : IsDataset devices places group next dataset =
      dataset_is area plain dataset (known.numbered.from_one 0 plain refl) (known.numbered.below_next 0 plain refl) known.below.0 known.named.0 (known.each 0 plain refl) is in
      let after : IsAfter others dataset = record {
        above = subst (λ (id : ℕ). IsTrue (list_all (λ (other : Dataset). ltb other.id id) others)) (sym is.id) (behind.above 0 plain refl);
        other_slot = subst (λ (slot : ℕ). list_any (λ (other : Dataset). eqb other.slot slot) others ≡ false) (sym is.slot) behind.other_areas.0;
        other_name = subst (λ (name : List ℕ). list_any (λ (other : Dataset). bytes_eq other.name name) others ≡ false) (sym is.name) (behind.other_names 0 plain refl);
      } in
      let rest = datasets_are (others ++ dataset ∷ []) areas plains datasets (known_after area areas plain plains known) (after_more others dataset area areas plain plains known behind is) are.1 in
      ((own, after, rest.0), ap (λ (n : ℕ). suc n) rest.1)

-- what a root has to have of the tree
pub record HasDatasets (devices places group : ℕ) (tree : Tree) : Type 0 where
  pub datasets : AreDatasets devices places group tree.next_dataset [] tree.datasets
  pub few : length tree.datasets ≤ 8
  pub some_next : 1 ≤ tree.next_dataset
  pub next_width : tree.next_dataset < 2 ^ 64

-- a root may have the tree that holds a plain pool, with pointers that a pool may have
pub datasets_of_held : (devices places group g : ℕ) (P : Ptr → Ptr → Type 0) (placing : Placing) (areas : List ℕ) (pool : PlainPool) (tree : Tree)
    → ((ptr other : Ptr) → P ptr other → IsPtr devices places ptr)
    → IsPlain pool → AreNamed pool → HaveFewPointers pool → AreNextUpTo (2 ^ 64 - 1) pool → AreAreas areas pool
    → pool.limits.devices ≡ devices → pool.limits.places ≡ places → AreLimits devices places
    → IsAlike P tree (tree_of g placing areas pool) → HasDatasets devices places group tree
datasets_of_held devices places group g P placing areas pool tree ptrs plain named few counted are_areas devices_are places_are limits is =
    let each : (place : ℕ) (dataset : PlainDataset) → StandsAt pool.datasets place dataset → IsKnown devices places limits P ptrs placing group pool.next_dataset dataset =
    λ place dataset stands. record {
      plain_is = subst (λ (p : ℕ). IsPlainDataset (files_of devices p) (file_bytes_of devices p) dataset) places_are
          (subst (λ (d : ℕ). IsPlainDataset (files_of d pool.limits.places) (file_bytes_of d pool.limits.places) dataset) devices_are (plain.datasets place dataset stands));
      next_file = counted.file place dataset stands;
      pointers = subst (λ (p : ℕ). pointers_in dataset ≤ pointers_of devices p) places_are (subst (λ (d : ℕ). pointers_in dataset ≤ pointers_of d pool.limits.places) devices_are (few place dataset stands));
    } in
    let all = datasets_are devices places limits P ptrs placing group pool.next_dataset [] areas pool.datasets tree.datasets
    (record { numbered = plain.numbered; named = named; each = each; count = are_areas.count; below = are_areas.below; apart = are_areas.apart })
    (record { above = λ place dataset stands. refl; other_names = λ place dataset stands. refl; other_areas = areas_none areas }) is.datasets in
    let at_most : length pool.datasets ≤ 8 = plain.few in
    record {
      datasets = subst (λ (next : ℕ). AreDatasets devices places group next [] tree.datasets) (sym is.next_dataset) all.0;
      few = omega (arith, all.1, at_most);
      some_next = omega (arith, is.next_dataset, plain.numbered.next_from_one);
      next_width = omega (arith, is.next_dataset, counted.dataset);
    }

-- ---- logs

normal_in : (P : Ptr → Ptr → Type 0) (placing : Placing) (areas : List ℕ) (plains : List PlainDataset) (datasets : List Dataset) → AreDatasetsAlike P datasets (datasets_of placing areas plains)
    → AllByRecursion (λ (dataset : Dataset). dataset.log ≡ Normal) datasets
normal_in P placing areas plains [] are = tt
normal_in P placing [] [] (dataset ∷ datasets) are = absurd are
normal_in P placing [] (plain ∷ plains) (dataset ∷ datasets) are = absurd are
normal_in P placing (area ∷ areas) [] (dataset ∷ datasets) are = absurd are
normal_in P placing (area ∷ areas) (plain ∷ plains) (dataset ∷ datasets) are = (are.0.log, normal_in P placing areas plains datasets are.1)

-- no dataset of a tree that holds a plain pool has a log that is claimed
pub logs_none : (g : ℕ) (P : Ptr → Ptr → Type 0) (placing : Placing) (areas : List ℕ) (pool : PlainPool) (tree : Tree) → IsAlike P tree (tree_of g placing areas pool)
    → AllByRecursion (λ (dataset : Dataset). dataset.log ≡ Normal) tree.datasets
logs_none g P placing areas pool tree is = normal_in P placing areas pool.datasets tree.datasets is.datasets
