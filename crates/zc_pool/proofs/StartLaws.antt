-- What an import holds in memory is a pool from which a history begins.
use Rattle.std.proofs.Common.{◌≡◌, ◌∙◌, ℕ, ◌+◌, ◌^◌, ◌≤◌, true, ◌&&◌, ◌==◌, List, [], ◌∷◌, map, length, refl, sym, ap, subst, arith}
use Rattle.std.specs.List.{AllByRecursion, list_any}
use Rattle.zc_num.specs.Limits.{pointers_of}
use Rattle.zc_command.specs.Names.{IsName}
use Rattle.zc_blkptr.specs.Ptr.{IsPtr}
use Rattle.zc_blkptr.specs.declared.ptr.Ptr.{Ptr}
use Rattle.zc_tape.specs.Tape.{Shape}
use Rattle.zc_tree.specs.declared.tree.File.{File}
use Rattle.zc_tree.specs.declared.tree.Dataset.{Dataset}
use Rattle.zc_tree.specs.Reach.{pointers_of_file, pointers_of_files, pointers_of_datasets, pointers_of_tree}
use Rattle.zc_tree.specs.Spelling.{IsEntry, IsFile, IsDataset}
use Rattle.zc_damage.specs.declared.block.FoundBlock.{FoundBlock}
use Rattle.zc_damage.specs.Places.{bytes_in}
use Rattle.zc_damage.specs.Passed.{HasZeroTail}
use Rattle.zc_damage.proofs.EarlyLaws.{each_weaker, image_each, log_none}
use Rattle.zc_damage.proofs.LateLaws.{tail_none}
use Rattle.zc_state.proofs.Pointers.{all_joined}
use Rattle.zc_next.proofs.BlockLists.{holds_there}
use Rattle.zc_plain.specs.declared.plain_pool.PlainFile.{PlainFile}
use Rattle.zc_plain.specs.declared.plain_pool.PlainDataset.{PlainDataset}
use Rattle.zc_plain.specs.declared.plain_pool.PlainPool.{PlainPool}
use Rattle.zc_plain.specs.PlainPool.{pointers_in}
use Rattle.zc_plain.specs.IsPlain.{IsPlain, AreNextUpTo}
use Rattle.zc_plain.specs.Promises.{HaveFewPointers}
use Rattle.zc_heart.specs.declared.opening.HeartBlock.{HeartBlock}
use Rattle.zc_heart.specs.declared.pool_core.Core.{Core}
use Rattle.zc_heart.specs.Changes.{tree_of}
use Rattle.zc_heart.specs.Core.{pool_of, areas_of, Base, base_of, IsCore}
use Rattle.zc_heart.specs.Meaning.{bytes_at, found_file, found_dataset, found_pool, MayOpen, IsOpened}
use Rattle.zc_heart.proofs.RiseLaws.{image_there, each_dataset}
use Rattle.zc_apply.specs.Alike.{by_bytes, HasBytes, Holds}
use Rattle.zc_apply.specs.Named.{IsNamed, AreNamed}
use Rattle.zc_apply.specs.Jobs.{IsBase}
use Rattle.zc_apply.proofs.AlikeLaws.{alike_weaker}
use Rattle.zc_group.specs.declared.root.Root.{Root}
use Rattle.zc_group.specs.Kept.{HasSize, HasPlaces}
use Rattle.zc_group.specs.Imported.{IsTaken}
use Rattle.zc_lane.specs.Jobs.{HasTreeOf}
use Rattle.zc_open.specs.Events.{begun_pool}
use Rattle.zc_open.specs.Heard.{IsStart, IsHeard}
use Rattle.zc_open.proofs.HeardLaws.{heard_begun}
use Rattle.zc_open.proofs.BaseLaws.{heard_base}
use Rattle.zc_open.proofs.PointLaws.{lined_begun}
use Rattle.zc_pool.specs.Importing.{heart_block}
use Rattle.zc_pool.specs.Running.{IsKept}
use Rattle.zc_pool.proofs.FoundPool.{bytes_are, any_same, pool_zero_past, pointers_found, found_holds}

-- ---- the pointers of datasets

entries_fit : (devices places size : ℕ) (entries : List (ℕ × Ptr)) → AllByRecursion (IsEntry devices places size) entries → AllByRecursion (IsPtr devices places) (map (λ (entry : ℕ × Ptr). entry.1) entries)
entries_fit devices places size entries fit = image_each (IsPtr devices places) (λ (entry : ℕ × Ptr). entry.1) entries (each_weaker (IsEntry devices places size) (λ (entry : ℕ × Ptr). IsPtr devices places entry.1) (λ entry is. is.pointer) entries fit)

files_fit : (devices places next : ℕ) (files : List File) → AllByRecursion (IsFile devices places next) files → AllByRecursion (IsPtr devices places) (pointers_of_files files)
files_fit devices places next [] fit = tt
files_fit devices places next (file ∷ files) fit =
    all_joined (IsPtr devices places) (pointers_of_file file) (pointers_of_files files) (entries_fit devices places file.size file.slots fit.0.entries) (files_fit devices places next files fit.1)

pointers_fit : (devices places group next : ℕ) (datasets : List Dataset) → AllByRecursion (IsDataset devices places group next) datasets → AllByRecursion (IsPtr devices places) (pointers_of_datasets datasets)
pointers_fit devices places group next [] fit = tt
pointers_fit devices places group next (dataset ∷ datasets) fit =
    all_joined (IsPtr devices places) (pointers_of_files dataset.files) (pointers_of_datasets datasets)
    (files_fit devices places dataset.next_file dataset.files fit.0.files) (pointers_fit devices places group next datasets fit.1)

-- ---- what was taken up

module _ (root : Root) (blocks : List FoundBlock) (taken : IsTaken root.limits root.tree blocks) where
  abbrev Fits : Dataset → Type 0
  Fits = IsDataset root.limits.devices root.limits.places root.tree.group root.tree.next_dataset

  abbrev held : List HeartBlock
  held = map heart_block blocks

  abbrev found : PlainPool
  found = found_pool root.limits root.tree held

  abbrev slots : List ℕ
  slots = map (λ (dataset : Dataset). dataset.slot) root.tree.datasets

  datasets_fit : AllByRecursion Fits root.tree.datasets
  datasets_fit = each_dataset root.limits.devices root.limits.places root.tree.group root.tree.next_dataset [] root.tree.datasets taken.datasets

  blocks_there : AllByRecursion (λ (ptr : Ptr). list_any (λ (block : HeartBlock). (block.device == ptr.device) && (block.place == ptr.place)) held ≡ true) (pointers_of_tree root.tree)
  blocks_there =
      each_weaker (λ (ptr : Ptr). list_any (λ (block : FoundBlock). (block.device == ptr.device) && (block.place == ptr.place)) blocks ≡ true)
      (λ (ptr : Ptr). list_any (λ (block : HeartBlock). (block.device == ptr.device) && (block.place == ptr.place)) held ≡ true)
      (λ ptr there. any_same blocks ptr.device ptr.place ∙ there) (pointers_of_tree root.tree) taken.there

  tails_zero : AllByRecursion (λ (dataset : Dataset). AllByRecursion (HasZeroTail (bytes_at held)) dataset.files) root.tree.datasets
  tails_zero =
      subst (λ (at : ℕ → ℕ → List ℕ). AllByRecursion (λ (dataset : Dataset). AllByRecursion (HasZeroTail at) dataset.files) root.tree.datasets) (sym (bytes_are blocks))
      (tail_none (bytes_in blocks) root.tree.datasets taken.tails)

  -- its files may be held
  pub may_open : MayOpen root.limits root.tree held
  may_open = record {
    group = let low = taken.group in omega (arith, low);
    some_next_dataset = taken.some_next_dataset;
    next_dataset = taken.next_dataset;
    next_files = taken.next_files;
    few = taken.few_datasets;
    datasets = taken.datasets;
    one_block = taken.one_block;
    there = blocks_there;
    zero_past = pool_zero_past root.limits root.tree held tails_zero;
  }

  -- the names, the pointers and the numbers of what was found
  found_named : AreNamed found
  found_named =
      image_each IsNamed (found_dataset held) root.tree.datasets
      (each_weaker Fits (λ (dataset : Dataset). IsNamed (found_dataset held dataset))
      (λ dataset is. record {
        own = is.name;
        files = image_each (λ (file : PlainFile). IsName file.name) (found_file held) dataset.files
            (each_weaker (IsFile root.limits.devices root.limits.places dataset.next_file) (λ (file : File). IsName file.name) (λ file one. one.name) dataset.files is.files);
      }) root.tree.datasets datasets_fit)

  found_few : HaveFewPointers found
  found_few place dataset stands =
      let there = image_there (found_dataset held) Fits root.tree.datasets place dataset datasets_fit stands in
      let count : pointers_in dataset ≡ length (pointers_of_files there.0.files) =
      ap pointers_in there.2 ∙ pointers_found root.limits.devices root.limits.places root.tree.group root.tree.next_dataset held there.0 there.1 in
      subst (λ (n : ℕ). n ≤ pointers_of root.limits.devices root.limits.places) (sym count) there.1.few_pointers

  found_numbers : AreNextUpTo (2 ^ 62 + 0) found
  found_numbers = record {
    dataset = let low = taken.next_dataset in omega (arith, low);
    file = λ place dataset stands.
        let there = image_there (found_dataset held) (λ (one : Dataset). one.next_file ≤ 2 ^ 62) root.tree.datasets place dataset taken.next_files stands in
        let low : there.0.next_file ≤ 2 ^ 62 = there.1 in
        let next : dataset.next_file ≡ there.0.next_file = ap (λ (one : PlainDataset). one.next_file) there.2 in
        omega (arith, low, next);
  }

  module _ (core : Core) (is : IsCore core) (opened : IsOpened root.limits root.tree held core) where
    -- a history may begin from it
    pub found_start : IsStart root.limits found
    found_start = record {
      state = record {
        plain = subst IsPlain opened.pool is.plain;
        tally = record { held = subst (λ (n : ℕ). n ≤ 2 ^ 62) (sym opened.agrees.held) is.held; few = omega arith };
        counted = found_numbers;
      };
      limits_are = refl;
      named = found_named;
      few_pointers = found_few;
    }

    base_is : base_of core ≡ record { areas = slots; pool = found }
    base_is = λ i. record { areas = opened.areas i; pool = opened.pool i }

    -- the tree holds the files
    pub core_holds : Holds (bytes_in blocks) (areas_of core) (pool_of core) root.tree
    core_holds =
        let here : Holds (bytes_at held) slots found root.tree =
        found_holds held root.limits.devices root.limits.places root.tree.group root.tree.next_dataset root.limits root.tree datasets_fit
        (log_none root.limits.devices root.limits.places root.tree.datasets taken.no_logs) in
        subst (λ (at : ℕ → ℕ → List ℕ). Holds at (areas_of core) (pool_of core) root.tree) (bytes_are blocks)
        (subst (λ (base : Base). Holds (bytes_at held) base.areas base.pool root.tree) (sym base_is) here)

    -- and its pointers are those of a pool of this size
    pub core_has_tree : HasTreeOf (base_of core) root
    core_has_tree =
        let fit : AllByRecursion (IsPtr root.limits.devices root.limits.places) (pointers_of_tree root.tree) =
        pointers_fit root.limits.devices root.limits.places root.tree.group root.tree.next_dataset root.tree.datasets datasets_fit in
        alike_weaker (HasBytes (bytes_in blocks)) (λ ptr bytes. IsPtr root.limits.devices root.limits.places ptr) root.tree (tree_of root.tree.group by_bytes (areas_of core) (pool_of core))
        (λ ptr other among has. holds_there (IsPtr root.limits.devices root.limits.places) (pointers_of_tree root.tree) ptr fit among) core_holds

    module _ (calls : ℕ) (few : calls ≤ 2 ^ 64) where
      core_heard : IsHeard found root.tree.group (begun_pool core root.tree.group calls)
      core_heard = heard_begun root.limits found core root.tree.group calls found_start opened.pool opened.agrees opened.group opened.last few

      core_base : IsBase root.limits (base_of core)
      core_base = heard_base root.limits found root.tree.group (begun_pool core root.tree.group calls) found_start core_heard is (omega arith)

      -- so what is kept in memory is right, before anything was asked
      pub kept_begins : (shape : Shape) (begun : ℕ) → HasSize shape root → HasPlaces root → root.body.group ≡ root.tree.group
          → IsKept shape (record { start = found; claim = root.tree.group; begun = begun }) root (begun_pool core root.tree.group calls) (record { entries = 0; group = root.tree.group; base = base_of core })
      kept_begins shape begun size places body_group = record {
        start_is = found_start;
        claim = taken.group;
        heard = core_heard;
        lined = lined_begun root.limits found core root.tree.group calls found_start opened.pool core_base opened.leads opened.waiting (ap (λ (pool : PlainPool). pool.limits) opened.pool);
        size = size;
        places = places;
        tree = core_has_tree;
        group = refl;
        body_group = body_group;
      }
