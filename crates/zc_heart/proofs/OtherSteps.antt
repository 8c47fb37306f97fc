-- A heart in which a dataset or a file is made or dropped: what stays true, and what it then stands for.
use Rattle.std.proofs.Common.{◌≡◌, ◌≢◌, ℕ, zero, suc, ◌+◌, ◌-◌, ◌<◌, ◌≤◌, ◌==◌, ◌||◌, Bool, true, false, List, [], ◌∷◌, ◌++◌, length, map, refl, sym, ap, subst, ◌∙◌, ⊎_elim, arith}
use Rattle.std.specs.Prelude.{remove, sum_by, count_by, flat_map, is_some}
use Rattle.std.specs.List.{AllByRecursion, list_any}
use Rattle.std.proofs.lemmas.Bool.{cases_Bool, eq-eqb, eqb-true}
use Rattle.std.proofs.lemmas.List.{length-map}
use Rattle.zc_num.specs.Words.{change_at}
use Rattle.zc_num.specs.Ordered.{value_at}
use Rattle.zc_num.proofs.Each.{each_none}
use Rattle.zc_plain.specs.declared.plain_pool.PlainBlock.{PlainBlock}
use Rattle.zc_plain.specs.declared.plain_pool.PlainFile.{PlainFile}
use Rattle.zc_plain.specs.declared.plain_pool.PlainDataset.{PlainDataset}
use Rattle.zc_plain.specs.declared.tally.MadeBlock.{MadeBlock}
use Rattle.zc_plain.specs.declared.tally.Tally.{Tally}
use Rattle.zc_plain.specs.PlainPool.{block_at, made_count, pointers_in, new_file, new_dataset, with_new_dataset, with_new_file, without_dataset, without_file, in_dataset}
use Rattle.zc_plain.specs.Charge.{is_stamp, stamp_of, is_block, with_blocks}
use Rattle.zc_plain.specs.IsPlain.{StandsAt, IsPlain}
use Rattle.zc_plain.specs.Answer.{most_datasets, most_files, most_bytes, file_place}
use Rattle.zc_plain.proofs.NumberedLaws.{one_item, no_item, stood_or_new, stood_before_removal, skipped}
use Rattle.zc_plain.proofs.Counted.{added_none}
use Rattle.zc_plain.proofs.PlainLaws.{plain_with_dataset, plain_with_file, plain_in_dataset, plain_without_dataset, plain_without_file}
use Rattle.zc_heart.specs.declared.changes.Change.{Change}
use Rattle.zc_heart.specs.declared.changes.Change.TheVariants.{MakeDataset, DropDataset, MakeFile, DropFile}
use Rattle.zc_heart.specs.declared.file.HeartFile.{HeartFile}
use Rattle.zc_heart.specs.declared.directory.Named.{Named}
use Rattle.zc_heart.specs.declared.dataset.Spot.{Spot}
use Rattle.zc_heart.specs.declared.pool_core.HeartDataset.{HeartDataset}
use Rattle.zc_heart.specs.declared.pool_core.Core.{Core}
use Rattle.zc_heart.specs.declared.stamps.Stamps.{Stamps}
use Rattle.zc_heart.specs.Directory.{id_of, id_called, is_called}
use Rattle.zc_heart.specs.Stamps.{Moves, LearnsNothing, holds_number}
use Rattle.zc_heart.specs.File.{stamps_in}
use Rattle.zc_heart.specs.Changes.{without, is_noted, nowhere, changed, tree_of}
use Rattle.zc_heart.specs.Core.{plain_block, plain_file, plain_dataset, plain_blocks, pool_of, areas_of, is_made, made_now, Agrees, Base, AreBefore, Leads, IsUntouched, IsHeartFile, IsStamped, AreApart, IsDatasetOfCore, IsCore}
use Rattle.zc_heart.specs.Deeds.{dataset_index, number_of, files_in, without_numbered, empty_dataset, empty_file, with_logged, with_dataset, with_file, stamps_in_files, Becomes}
use Rattle.zc_heart.specs.Deeds as deeds
use Rattle.zc_heart.proofs.Listing.{FindsAt, FindsNone, finds, holds_there, stands_in_map, map_more, map_removed, map_changed_there, map_without, taken_by_number, sum_more, sum_removed, sum_changed, sum_mapped, all_more_items, all_removed, all_changed, all_weaken}
use Rattle.zc_heart.proofs.Counting.{count_in, count_of, counted_in_core, counted_in_files}
use Rattle.zc_heart.proofs.Charged.{block_of, same_block, any_of_both}
use Rattle.zc_heart.proofs.LogLaws.{files_before_more, files_before_removed, datasets_before_changed, datasets_before_more, datasets_before_removed, as_many_before, dataset_was, made_in_more, leads_with_dataset, leads_without_dataset, leads_with_file, leads_without_file, changed_to_itself}
use Rattle.zc_heart.proofs.FileSteps.{stands_changed, IsStampedFile}
use Rattle.zc_heart.proofs.Spots.{place_same, file_place_same, dataset_is_plain, datasets_ascend, files_ascend}

-- no block more is counted
pub nothing_more : (tally : Tally) (core : Core) → Agrees tally core → Agrees (with_blocks [] tally) core
nothing_more tally core agrees = subst (λ (made : List MadeBlock). Agrees (record tally { made = made }) core) (sym (added_none is_block tally.made)) agrees

-- ---- log areas

-- two numbers that are tested the other way round
not_same_back : (a b : ℕ) → (a == b) ≡ false → (b == a) ≡ false
not_same_back a b differs =
    ⊎_elim
    (λ (same : (b == a) ≡ true). let is = eqb-true b a same in let both : true ≡ false = sym same ∙ ap (λ (n : ℕ). n == a) is ∙ ap (λ (n : ℕ). a == n) (sym is) ∙ differs in cc)
    (λ (apart : (b == a) ≡ false). apart)
    (cases_Bool (b == a))

or_none : (a b : Bool) → a ≡ false → b ≡ false → (a || b) ≡ false
or_none true b a_none b_none = a_none
or_none false b a_none b_none = b_none

pub none_of_or : (a b : Bool) → (a || b) ≡ false → (a ≡ false) × (b ≡ false)
none_of_or true b none = cc
none_of_or false b none = (refl, none)

apart_more : (numbers : List ℕ) (number : ℕ) → list_any (λ (other : ℕ). other == number) numbers ≡ false → AreApart numbers → AreApart (numbers ++ number ∷ [])
apart_more [] number none apart = (refl, tt)
apart_more (one ∷ numbers) number none apart =
    let split = none_of_or (one == number) (list_any (λ (other : ℕ). other == number) numbers) none in (
      any_of_both (λ (other : ℕ). other == one) numbers number ∙ or_none (list_any (λ (other : ℕ). other == one) numbers) (number == one) apart.0 (not_same_back one number split.0),
      apart_more numbers number split.1 apart.1,
    )

none_in_removed : (p : ℕ → Bool) (numbers : List ℕ) (at : ℕ) → list_any p numbers ≡ false → list_any p (remove numbers at) ≡ false
none_in_removed p [] zero none = refl
none_in_removed p [] (suc at) none = refl
none_in_removed p (one ∷ numbers) zero none = (none_of_or (p one) (list_any p numbers) none).1
none_in_removed p (one ∷ numbers) (suc at) none =
    let split = none_of_or (p one) (list_any p numbers) none in
    or_none (p one) (list_any p (remove numbers at)) split.0 (none_in_removed p numbers at split.1)

apart_removed : (numbers : List ℕ) (at : ℕ) → AreApart numbers → AreApart (remove numbers at)
apart_removed [] zero apart = tt
apart_removed [] (suc at) apart = tt
apart_removed (one ∷ numbers) zero apart = apart.1
apart_removed (one ∷ numbers) (suc at) apart = (none_in_removed (λ (other : ℕ). other == one) numbers at apart.0, apart_removed numbers at apart.1)

-- as many areas as datasets before
areas_alike : (base : Base) (core : Core) (leads : Leads base core) → length (areas_of core) ≡ length leads.before.datasets
areas_alike base core leads = length-map core.datasets (λ (d : HeartDataset). d.area) ∙ sym (as_many_before leads.before.datasets core.datasets leads.datasets)

-- ---- a new dataset

pub pool_with_dataset : (area : ℕ) (name : List ℕ) (old : Core) → pool_of (with_dataset area name old) ≡ with_new_dataset name (pool_of old)
pool_with_dataset area name old =
    ap (λ (ds : List PlainDataset). record { limits = old.limits; next_dataset = old.next_dataset + 1; datasets = ds }) (map_more plain_dataset old.datasets (empty_dataset old.next_dataset area name))

empty_is_dataset : (id area : ℕ) (name : List ℕ) → area < 8 → IsDatasetOfCore (empty_dataset id area name)
unfolding pointers_in
empty_is_dataset id area name few = record { area = few; pointers = refl; listed = tt; files = tt }

core_with_dataset : (area : ℕ) (name : List ℕ) (old : Core) → IsCore old → area < 8 → list_any (λ (other : ℕ). other == area) (areas_of old) ≡ false → is_some (dataset_index name old) ≡ false → length old.datasets + 1 ≤ most_datasets → IsCore (with_dataset area name old)
core_with_dataset area name old is few free missing room = record {
  plain = rw pool_with_dataset (plain_with_dataset name (pool_of old) is.plain (ap is_some (place_same name old) ∙ missing) (let long = length-map old.datasets plain_dataset in omega (arith, long, room)));
  datasets = all_more_items IsDatasetOfCore old.datasets (empty_dataset old.next_dataset area name) is.datasets (empty_is_dataset old.next_dataset area name few);
  apart = subst AreApart (sym (map_more (λ (d : HeartDataset). d.area) old.datasets (empty_dataset old.next_dataset area name))) (apart_more (areas_of old) area free is.apart);
  counted = λ stamp.
      let before = is.counted stamp ∙ counted_in_core stamp old in
      let behind = counted_in_core stamp (with_dataset area name old) ∙ sum_more (count_in stamp) old.datasets (empty_dataset old.next_dataset area name) in
      omega (arith, before, behind);
  stamped = subst (AllByRecursion (IsStamped old.last)) (sym (map_more plain_dataset old.datasets (empty_dataset old.next_dataset area name))) (all_more_items (IsStamped old.last) (map plain_dataset old.datasets) (new_dataset old.next_dataset name) is.stamped tt);
  logged = all_more_items (λ (change : Change). is_noted change ≡ false) old.log (MakeDataset old.next_dataset area name) is.logged refl;
  held = is.held;
  few = is.few;
}

agrees_with_dataset : (area : ℕ) (name : List ℕ) (old : Core) (tally : Tally) → Agrees tally old → Agrees tally (with_dataset area name old)
agrees_with_dataset area name old tally agrees = record {
  held = agrees.held;
  finished = agrees.finished;
  sealed = agrees.sealed;
  apart = agrees.apart;
  below = agrees.below;
  made = agrees.made;
  whole = agrees.whole;
  marks = λ place d at n k stands there.
      ⊎_elim
      (λ (before : StandsAt old.datasets place d). agrees.marks place d at n k before there)
      (λ (new : (place ≡ length old.datasets) × (d ≡ empty_dataset old.next_dataset area name)). no_item n (subst (λ (h : HeartDataset). StandsAt h.files at n) new.1 there))
      (stood_or_new old.datasets (empty_dataset old.next_dataset area name) place d stands);
  no_dataset = all_weaken (λ (b : MadeBlock). b.dataset < old.next_dataset) (λ (b : MadeBlock). b.dataset < old.next_dataset + 1) tally.made (λ b below. omega (arith, below)) agrees.no_dataset;
  no_file = λ place d stands.
      ⊎_elim
      (λ (before : StandsAt old.datasets place d). agrees.no_file place d before)
      (λ (new : (place ≡ length old.datasets) × (d ≡ empty_dataset old.next_dataset area name)).
      subst (λ (h : HeartDataset). AllByRecursion (λ (b : MadeBlock). (b.dataset == h.id) ≡ true → b.file < h.next_file) tally.made) (sym new.1)
      (all_weaken (λ (b : MadeBlock). b.dataset < old.next_dataset) (λ (b : MadeBlock). (b.dataset == old.next_dataset) ≡ true → b.file < 1) tally.made
      (λ b below same. let is = eqb-true b.dataset old.next_dataset same in absurd (omega (arith, below, is))) agrees.no_dataset))
      (stood_or_new old.datasets (empty_dataset old.next_dataset area name) place d stands);
}

leads_on_with_dataset : (area : ℕ) (name : List ℕ) (old : Core) (base : Base) → Leads base old → Leads base (with_dataset area name old)
leads_on_with_dataset area name old base leads = record {
  before = with_new_dataset name leads.before;
  next_dataset = ap (λ (n : ℕ). n + 1) leads.next_dataset;
  datasets = datasets_before_more leads.before.datasets old.datasets (new_dataset leads.before.next_dataset name) (empty_dataset old.next_dataset area name) (leads.next_dataset, refl, refl, tt) leads.datasets;
  made = λ group placing.
      made_in_more old.log (MakeDataset old.next_dataset area name) (tree_of group placing base.areas base.pool)
      ∙ ap (changed (MakeDataset old.next_dataset area name) nowhere) (leads.made group placing)
      ∙ leads_with_dataset group placing (areas_of old) leads.before old.next_dataset area name (areas_alike base old leads) leads.next_dataset
      ∙ ap (λ (areas : List ℕ). tree_of group placing areas (with_new_dataset name leads.before)) (sym (map_more (λ (d : HeartDataset). d.area) old.datasets (empty_dataset old.next_dataset area name)));
}

pub becomes_with_dataset : (area : ℕ) (name : List ℕ) (old : Core) → IsCore old → area < 8 → list_any (λ (other : ℕ). other == area) (areas_of old) ≡ false → is_some (dataset_index name old) ≡ false → length old.datasets + 1 ≤ most_datasets
    → Becomes (deeds.AddDataset name) old (with_dataset area name old)
becomes_with_dataset area name old is few free missing room = record {
  is = core_with_dataset area name old is few free missing room;
  pool = pool_with_dataset area name old;
  agrees = λ tally agrees. nothing_more tally (with_dataset area name old) (agrees_with_dataset area name old tally agrees);
  commands = record { leads = leads_on_with_dataset area name old; knows = λ placing knows. knows; group = refl; waiting = refl; limits = refl };
  last = refl;
}

-- ---- a dataset fewer

-- the heart without the dataset at the place, which has this number, and with these counts
abbrev pub without_dataset_at : (place id : ℕ) → Stamps → Core → Core
without_dataset_at place id stamps core = record core { datasets = remove core.datasets place; stamps = stamps; log = core.log ++ DropDataset id ∷ [] }

module _ (place : ℕ) (dataset : HeartDataset) (stamps : Stamps) (old : Core) (stands : StandsAt old.datasets place dataset) (moves : Moves old.stamps stamps (stamps_in_files dataset.files) []) (learns : LearnsNothing old.stamps stamps) where
  abbrev pub dropped : Core
  dropped = without_dataset_at place dataset.id stamps old

  pool_dropped : pool_of dropped ≡ without_dataset place (pool_of old)
  pool_dropped = ap (λ (ds : List PlainDataset). record { limits = old.limits; next_dataset = old.next_dataset; datasets = ds }) (map_removed plain_dataset old.datasets place)

  core_dropped : IsCore old → IsCore dropped
  core_dropped is = record {
    plain = rw pool_dropped (plain_without_dataset place (pool_of old) is.plain);
    datasets = all_removed IsDatasetOfCore old.datasets place is.datasets;
    apart = subst AreApart (sym (map_removed (λ (d : HeartDataset). d.area) old.datasets place)) (apart_removed (areas_of old) place is.apart);
    counted = λ stamp.
        let before = is.counted stamp ∙ counted_in_core stamp old in
        let behind = counted_in_core stamp dropped in
        let sum = sum_removed (count_in stamp) place old.datasets dataset stands in
        let moved = moves stamp in
        omega (arith, before, behind, sum, moved);
    stamped = subst (AllByRecursion (IsStamped old.last)) (sym (map_removed plain_dataset old.datasets place)) (all_removed (IsStamped old.last) (map plain_dataset old.datasets) place is.stamped);
    logged = all_more_items (λ (change : Change). is_noted change ≡ false) old.log (DropDataset dataset.id) is.logged refl;
    held = is.held;
    few = is.few;
  }

  agrees_dropped : (tally : Tally) → Agrees tally old → Agrees tally dropped
  agrees_dropped tally agrees = record {
    held = agrees.held;
    finished = agrees.finished;
    sealed = agrees.sealed;
    apart = agrees.apart;
    below = agrees.below;
    made = agrees.made;
    whole = agrees.whole;
    marks = λ at d file n k there file_there. agrees.marks (skipped place at) d file n k (stood_before_removal place old.datasets at d there) file_there;
    no_dataset = agrees.no_dataset;
    no_file = λ at d there. agrees.no_file (skipped place at) d (stood_before_removal place old.datasets at d there);
  }

  leads_dropped : IsPlain (pool_of old) → (base : Base) → Leads base old → Leads base dropped
  leads_dropped plain base leads =
      let was = dataset_was leads.before.datasets old.datasets place dataset leads.datasets stands in
      record {
        before = without_dataset place leads.before;
        next_dataset = leads.next_dataset;
        datasets = datasets_before_removed leads.before.datasets old.datasets place leads.datasets;
        made = λ group placing.
            made_in_more old.log (DropDataset dataset.id) (tree_of group placing base.areas base.pool)
            ∙ ap (changed (DropDataset dataset.id) nowhere) (leads.made group placing)
            ∙ leads_without_dataset group placing (areas_of old) leads.before old.datasets place dataset (areas_alike base old leads) leads.datasets (datasets_ascend old plain) was.0 was.1 was.2.0
            ∙ ap (λ (areas : List ℕ). tree_of group placing areas (without_dataset place leads.before)) (sym (map_removed (λ (d : HeartDataset). d.area) old.datasets place));
      }

  pub becomes_without_dataset : IsCore old → Becomes (deeds.DropDataset place) old dropped
  becomes_without_dataset is = record {
    is = core_dropped is;
    pool = pool_dropped;
    agrees = λ tally agrees. nothing_more tally dropped (agrees_dropped tally agrees);
    commands = record { leads = leads_dropped is.plain; knows = λ placing knows entry index ptr is. knows entry index ptr (learns (entry, index) ptr is); group = refl; waiting = refl; limits = refl };
    last = refl;
  }

-- ---- a new file

-- a file without bytes has no block
no_blocks : plain_blocks empty_file ≡ []
no_blocks = each_none (λ k. plain_block (value_at k empty_file.blocks))

abbrev new_named : ℕ → List ℕ → Named HeartFile
new_named id name = record { id = id; name = name; value = empty_file }

plain_new_named : (id : ℕ) (name : List ℕ) → plain_file (new_named id name) ≡ new_file id name
plain_new_named id name = ap (λ (blocks : List PlainBlock). record { id = id; name = name; size = 0; blocks = blocks }) no_blocks

empty_is_file : IsHeartFile empty_file
unfolding made_count
empty_is_file = record { ends = λ k past. refl; pointers = sym (ap made_count no_blocks) }

-- no block of a file was made whose number is above those of the files with made blocks
none_made : (seals dataset next k : ℕ) (made : List MadeBlock) → AllByRecursion (λ (b : MadeBlock). (b.dataset == dataset) ≡ true → b.file < next) made → list_any (is_block (block_of seals dataset next k)) made ≡ false
none_made seals dataset next k [] all = refl
none_made seals dataset next k (b ∷ made) all =
    or_none (is_block (block_of seals dataset next k) b) (list_any (is_block (block_of seals dataset next k)) made)
    (⊎_elim
    (λ (same : is_block (block_of seals dataset next k) b ≡ true).
    let is = same_block (block_of seals dataset next k) b same in
    let file : next ≡ b.file = ap (λ (one : MadeBlock). one.file) is in
    let here : (b.dataset == dataset) ≡ true = eq-eqb b.dataset dataset (sym (ap (λ (one : MadeBlock). one.dataset) is)) in
    absurd (omega (arith, file, all.0 here)))
    (λ (differs : is_block (block_of seals dataset next k) b ≡ false). differs)
    (cases_Bool (is_block (block_of seals dataset next k) b)))
    (none_made seals dataset next k made all.1)

-- no name is missing in the one and there in the other
no_place : (name : List ℕ) (dataset : HeartDataset) → is_some (id_called name dataset.files) ≡ false → is_some (file_place name (plain_dataset dataset)) ≡ false
no_place name dataset missing =
    ⊎_elim
    (λ (one : FindsAt (is_called name) 0 dataset.files). let both : true ≡ false = rw one.found at missing in absurd (no_truth both))
    (λ (none : FindsNone (is_called name) 0 dataset.files). rw (file_place_same name dataset, none.place) refl)
    (finds (is_called name) 0 dataset.files)
  where
    no_truth : true ≡ false → ⊥
    no_truth e = cc

module _ (place : ℕ) (dataset : HeartDataset) (name : List ℕ) (old : Core) (stands : StandsAt old.datasets place dataset) where
  abbrev pub added : Core
  added = record old { datasets = change_at (λ _. with_file name dataset) place old.datasets; log = old.log ++ MakeFile dataset.id dataset.next_file name ∷ [] }

  plain_added : plain_dataset (with_file name dataset) ≡ with_new_file name (plain_dataset dataset)
  plain_added =
      ap (λ (files : List PlainFile). record { id = dataset.id; name = dataset.name; next_file = dataset.next_file + 1; files = files })
      (map_more plain_file dataset.files (new_named dataset.next_file name) ∙ ap (λ (f : PlainFile). map plain_file dataset.files ++ f ∷ []) (plain_new_named dataset.next_file name))

  pool_added : pool_of added ≡ in_dataset place (with_new_file name) (pool_of old)
  pool_added =
      ap (λ (ds : List PlainDataset). record { limits = old.limits; next_dataset = old.next_dataset; datasets = ds })
      (map_changed_there plain_dataset (λ _. with_file name dataset) (with_new_file name) place old.datasets
      (λ x there. plain_added ∙ ap (λ (d : HeartDataset). with_new_file name (plain_dataset d)) (one_item dataset x (sym stands ∙ there))))

  areas_added : areas_of added ≡ areas_of old
  areas_added =
      map_changed_there (λ (d : HeartDataset). d.area) (λ _. with_file name dataset) (λ n. n) place old.datasets (λ x there. ap (λ (d : HeartDataset). d.area) (one_item dataset x (sym stands ∙ there)))
      ∙ changed_to_itself place (map (λ (d : HeartDataset). d.area) old.datasets)

  dataset_added : IsDatasetOfCore dataset → IsDatasetOfCore (with_file name dataset)
  unfolding pointers_in
  dataset_added is = record {
    area = is.area;
    pointers =
        let g = λ (n : Named HeartFile). made_count (plain_blocks n.value) in
        let before = is.pointers ∙ sum_mapped (λ (f : PlainFile). made_count f.blocks) plain_file dataset.files in
        let behind = sum_mapped (λ (f : PlainFile). made_count f.blocks) plain_file (with_file name dataset).files ∙ sum_more g dataset.files (new_named dataset.next_file name) in
        let none = empty_is_file.pointers in
        omega (arith, before, behind, none);
    listed = all_more_items (λ (n : Named HeartFile). holds_number n.id dataset.changed ≡ false → IsUntouched n) dataset.files (new_named dataset.next_file name) is.listed (λ missing. (refl, λ k. refl));
    files = all_more_items (λ (n : Named HeartFile). IsHeartFile n.value) dataset.files (new_named dataset.next_file name) is.files empty_is_file;
  }

  stamped_added : AllByRecursion (IsStamped old.last) (pool_of old).datasets → AllByRecursion (IsStamped old.last) (pool_of added).datasets
  stamped_added are =
      subst (AllByRecursion (IsStamped old.last))
      (sym (map_changed_there plain_dataset (λ _. with_file name dataset) (λ _. with_new_file name (plain_dataset dataset)) place old.datasets (λ x there. plain_added)))
      (all_changed (IsStamped old.last) (with_new_file name (plain_dataset dataset)) place (map plain_dataset old.datasets) are
      (all_more_items (IsStampedFile old.last) (map plain_file dataset.files) (new_file dataset.next_file name)
      (holds_there (IsStamped old.last) (map plain_dataset old.datasets) place (plain_dataset dataset) are (stands_in_map plain_dataset old.datasets place dataset stands)) tt))

  core_added : IsCore old → is_some (id_called name dataset.files) ≡ false → length dataset.files + 1 ≤ most_files (pool_of old) → IsCore added
  core_added is missing few = record {
    plain = rw pool_added (plain_in_dataset place (with_new_file name) (pool_of old) (λ d. refl) (λ d. refl)
        (λ d there plain.
        let same = one_item (plain_dataset dataset) d (sym (stands_in_map plain_dataset old.datasets place dataset stands) ∙ there) in
        let many = length-map dataset.files plain_file in
        plain_with_file (most_files (pool_of old)) (most_bytes (pool_of old)) name d plain
        (ap (λ (one : PlainDataset). is_some (file_place name one)) (sym same) ∙ no_place name dataset missing)
        (let files = ap (λ (one : PlainDataset). length one.files) same in omega (arith, files, many, few)))
        is.plain);
    datasets = all_changed IsDatasetOfCore (with_file name dataset) place old.datasets is.datasets (dataset_added (holds_there IsDatasetOfCore old.datasets place dataset is.datasets stands));
    apart = subst AreApart (sym areas_added) is.apart;
    counted = λ stamp.
        let before = is.counted stamp ∙ counted_in_core stamp old in
        let behind = counted_in_core stamp added in
        let sum = sum_changed (count_in stamp) (with_file name dataset) place old.datasets dataset stands in
        let files = counted_in_files stamp dataset.files in
        let files_later = counted_in_files stamp (with_file name dataset).files ∙ sum_more (count_of stamp) dataset.files (new_named dataset.next_file name) in
        let none : count_of stamp (new_named dataset.next_file name) ≡ 0 = ap (λ (blocks : List PlainBlock). count_by (is_stamp stamp) (flat_map stamp_of blocks)) no_blocks in
        omega (arith, before, behind, sum, files, files_later, none);
    stamped = stamped_added is.stamped;
    logged = all_more_items (λ (change : Change). is_noted change ≡ false) old.log (MakeFile dataset.id dataset.next_file name) is.logged refl;
    held = is.held;
    few = is.few;
  }

  agrees_added : (tally : Tally) → Agrees tally old → Agrees tally added
  agrees_added tally agrees = record {
    held = agrees.held;
    finished = agrees.finished;
    sealed = agrees.sealed;
    apart = agrees.apart;
    below = agrees.below;
    made = agrees.made;
    whole = agrees.whole;
    marks = λ at d n_at n k there file_there.
        ⊎_elim
        (λ (other : (at ≢ place) × StandsAt old.datasets at d). agrees.marks at d n_at n k other.1 file_there)
        (λ (here : (at ≡ place) × (d ≡ with_file name dataset)).
        subst (λ (h : HeartDataset). is_made k n.value ≡ made_now tally h.id n.id k) (sym here.1)
        (⊎_elim
        (λ (before : StandsAt dataset.files n_at n). agrees.marks place dataset n_at n k stands before)
        (λ (new : (n_at ≡ length dataset.files) × (n ≡ new_named dataset.next_file name)).
        subst (λ (m : Named HeartFile). is_made k m.value ≡ made_now tally dataset.id m.id k) (sym new.1)
        (sym (none_made (length tally.sealed) dataset.id dataset.next_file k tally.made (agrees.no_file place dataset stands))))
        (stood_or_new dataset.files (new_named dataset.next_file name) n_at n (subst (λ (h : HeartDataset). StandsAt h.files n_at n) here.1 file_there))))
        (stands_changed (with_file name dataset) place old.datasets at d there);
    no_dataset = agrees.no_dataset;
    no_file = λ at d there.
        ⊎_elim
        (λ (other : (at ≢ place) × StandsAt old.datasets at d). agrees.no_file at d other.1)
        (λ (here : (at ≡ place) × (d ≡ with_file name dataset)).
        subst (λ (h : HeartDataset). AllByRecursion (λ (b : MadeBlock). (b.dataset == h.id) ≡ true → b.file < h.next_file) tally.made) (sym here.1)
        (all_weaken (λ (b : MadeBlock). (b.dataset == dataset.id) ≡ true → b.file < dataset.next_file) (λ (b : MadeBlock). (b.dataset == dataset.id) ≡ true → b.file < dataset.next_file + 1) tally.made
        (λ b below same. omega (arith, below same)) (agrees.no_file place dataset stands)))
        (stands_changed (with_file name dataset) place old.datasets at d there);
  }

  leads_added : IsPlain (pool_of old) → (base : Base) → Leads base old → Leads base added
  leads_added plain base leads =
      let was = dataset_was leads.before.datasets old.datasets place dataset leads.datasets stands in
      record {
        before = in_dataset place (with_new_file name) leads.before;
        next_dataset = leads.next_dataset;
        datasets = datasets_before_changed (with_new_file name) leads.before.datasets old.datasets place dataset (with_file name dataset) stands
            (λ before is. (
              is.0,
              is.1,
              ap (λ (n : ℕ). n + 1) is.2,
              files_before_more before.files dataset.files (new_file before.next_file name) (new_named dataset.next_file name)
                  (is.2, refl, λ unsized. refl, λ k untouched. ap (block_at k) (sym no_blocks)) is.3,
            ))
            leads.datasets;
        made = λ group placing.
            made_in_more old.log (MakeFile dataset.id dataset.next_file name) (tree_of group placing base.areas base.pool)
            ∙ ap (changed (MakeFile dataset.id dataset.next_file name) nowhere) (leads.made group placing)
            ∙ leads_with_file group placing (areas_of old) leads.before old.datasets place dataset name (areas_alike base old leads) leads.datasets (datasets_ascend old plain) was.0 was.1 was.2.0 was.2.2
            ∙ ap (λ (areas : List ℕ). tree_of group placing areas (in_dataset place (with_new_file name) leads.before)) (sym areas_added);
      }

  pub becomes_with_file : IsCore old → is_some (id_called name dataset.files) ≡ false → length dataset.files + 1 ≤ most_files (pool_of old) → Becomes (deeds.AddFile place name) old added
  becomes_with_file is missing few = record {
    is = core_added is missing few;
    pool = pool_added;
    agrees = λ tally agrees. nothing_more tally added (agrees_added tally agrees);
    commands = record { leads = leads_added is.plain; knows = λ placing knows. knows; group = refl; waiting = refl; limits = refl };
    last = refl;
  }

-- ---- a file fewer

module _ (spot : Spot) (dataset : HeartDataset) (at : ℕ) (named : Named HeartFile) (behind : HeartDataset) (stamps : Stamps) (old : Core)
    (stands : StandsAt old.datasets spot.place dataset) (there : StandsAt dataset.files at named) (numbered : named.id ≡ spot.id)
    (later_is : behind ≡ record dataset { files = without id_of spot.id dataset.files; pointers = dataset.pointers - named.value.pointers })
    (moves : Moves old.stamps stamps (stamps_in named.value) []) (learns : LearnsNothing old.stamps stamps) where
  abbrev pub less : Core
  less = record old { datasets = change_at (λ _. behind) spot.place old.datasets; stamps = stamps; log = old.log ++ DropFile dataset.id spot.id ∷ [] }

  files_less : IsPlain (pool_of old) → behind.files ≡ remove dataset.files at
  files_less plain =
      ap (λ (d : HeartDataset). d.files) later_is ∙ ap (λ (id : ℕ). without id_of id dataset.files) (sym numbered)
      ∙ taken_by_number id_of dataset.files at named (files_ascend (most_files (pool_of old)) (most_bytes (pool_of old)) dataset (dataset_is_plain old spot.place dataset plain stands)) there

  plain_less : plain_dataset behind ≡ without_numbered spot.id (plain_dataset dataset)
  plain_less =
      ap plain_dataset later_is
      ∙ ap (λ (files : List PlainFile). record { id = dataset.id; name = dataset.name; next_file = dataset.next_file; files = files }) (map_without plain_file id_of number_of spot.id dataset.files (λ x. refl))

  plain_removed : IsPlain (pool_of old) → plain_dataset behind ≡ without_file at (plain_dataset dataset)
  plain_removed plain =
      ap (λ (d : HeartDataset). record { id = d.id; name = d.name; next_file = d.next_file; files = map plain_file behind.files }) later_is
      ∙ ap (λ (files : List PlainFile). record { id = dataset.id; name = dataset.name; next_file = dataset.next_file; files = files }) (ap (map plain_file) (files_less plain) ∙ map_removed plain_file dataset.files at)

  pool_less : pool_of less ≡ in_dataset spot.place (without_numbered spot.id) (pool_of old)
  pool_less =
      ap (λ (ds : List PlainDataset). record { limits = old.limits; next_dataset = old.next_dataset; datasets = ds })
      (map_changed_there plain_dataset (λ _. behind) (without_numbered spot.id) spot.place old.datasets
      (λ x here. plain_less ∙ ap (λ (d : HeartDataset). without_numbered spot.id (plain_dataset d)) (one_item dataset x (sym stands ∙ here))))

  pool_removed : IsPlain (pool_of old) → pool_of less ≡ in_dataset spot.place (without_file at) (pool_of old)
  pool_removed plain =
      ap (λ (ds : List PlainDataset). record { limits = old.limits; next_dataset = old.next_dataset; datasets = ds })
      (map_changed_there plain_dataset (λ _. behind) (without_file at) spot.place old.datasets
      (λ x here. plain_removed plain ∙ ap (λ (d : HeartDataset). without_file at (plain_dataset d)) (one_item dataset x (sym stands ∙ here))))

  areas_less : areas_of less ≡ areas_of old
  areas_less =
      map_changed_there (λ (d : HeartDataset). d.area) (λ _. behind) (λ n. n) spot.place old.datasets
      (λ x here. ap (λ (d : HeartDataset). d.area) later_is ∙ ap (λ (d : HeartDataset). d.area) (one_item dataset x (sym stands ∙ here)))
      ∙ changed_to_itself spot.place (map (λ (d : HeartDataset). d.area) old.datasets)

  dataset_less : IsPlain (pool_of old) → IsDatasetOfCore dataset → IsDatasetOfCore behind
  unfolding pointers_in
  dataset_less plain is =
      let g = λ (n : Named HeartFile). made_count (plain_blocks n.value) in
      let before = is.pointers ∙ sum_mapped (λ (f : PlainFile). made_count f.blocks) plain_file dataset.files in
      let after = sum_mapped (λ (f : PlainFile). made_count f.blocks) plain_file behind.files ∙ ap (sum_by g) (files_less plain) in
      let sum = sum_removed g at dataset.files named there in
      let file = (holds_there (λ (n : Named HeartFile). IsHeartFile n.value) dataset.files at named is.files there).pointers in
      let pointers = ap (λ (d : HeartDataset). d.pointers) later_is in
      record {
        area = subst (λ (area : ℕ). area < 8) (sym (ap (λ (d : HeartDataset). d.area) later_is)) is.area;
        pointers = omega (arith, before, after, sum, file, pointers);
        listed = subst (λ (numbers : List ℕ). AllByRecursion (λ (n : Named HeartFile). holds_number n.id numbers ≡ false → IsUntouched n) behind.files) (sym (ap (λ (d : HeartDataset). d.changed) later_is))
            (subst (AllByRecursion (λ (n : Named HeartFile). holds_number n.id dataset.changed ≡ false → IsUntouched n)) (sym (files_less plain)) (all_removed (λ (n : Named HeartFile). holds_number n.id dataset.changed ≡ false → IsUntouched n) dataset.files at is.listed));
        files = subst (AllByRecursion (λ (n : Named HeartFile). IsHeartFile n.value)) (sym (files_less plain)) (all_removed (λ (n : Named HeartFile). IsHeartFile n.value) dataset.files at is.files);
      }

  stamped_less : IsPlain (pool_of old) → AllByRecursion (IsStamped old.last) (pool_of old).datasets → AllByRecursion (IsStamped old.last) (pool_of less).datasets
  stamped_less plain are =
      subst (AllByRecursion (IsStamped old.last))
      (sym (map_changed_there plain_dataset (λ _. behind) (λ _. without_file at (plain_dataset dataset)) spot.place old.datasets (λ x here. plain_removed plain)))
      (all_changed (IsStamped old.last) (without_file at (plain_dataset dataset)) spot.place (map plain_dataset old.datasets) are
      (all_removed (IsStampedFile old.last) (map plain_file dataset.files) at
      (holds_there (IsStamped old.last) (map plain_dataset old.datasets) spot.place (plain_dataset dataset) are (stands_in_map plain_dataset old.datasets spot.place dataset stands))))

  core_less : IsCore old → IsCore less
  core_less is = record {
    plain = rw (pool_removed is.plain) (plain_in_dataset spot.place (without_file at) (pool_of old) (λ d. refl) (λ d. refl)
        (λ d here plain. plain_without_file (most_files (pool_of old)) (most_bytes (pool_of old)) at d plain) is.plain);
    datasets = all_changed IsDatasetOfCore behind spot.place old.datasets is.datasets (dataset_less is.plain (holds_there IsDatasetOfCore old.datasets spot.place dataset is.datasets stands));
    apart = subst AreApart (sym areas_less) is.apart;
    counted = λ stamp.
        let before = is.counted stamp ∙ counted_in_core stamp old in
        let after = counted_in_core stamp less in
        let sum = sum_changed (count_in stamp) behind spot.place old.datasets dataset stands in
        let files = counted_in_files stamp dataset.files in
        let files_after = counted_in_files stamp behind.files ∙ ap (sum_by (count_of stamp)) (files_less is.plain) in
        let file_sum = sum_removed (count_of stamp) at dataset.files named there in
        let moved = moves stamp in
        omega (arith, before, after, sum, files, files_after, file_sum, moved);
    stamped = stamped_less is.plain is.stamped;
    logged = all_more_items (λ (change : Change). is_noted change ≡ false) old.log (DropFile dataset.id spot.id) is.logged refl;
    held = is.held;
    few = is.few;
  }

  id_less : behind.id ≡ dataset.id
  id_less = ap (λ (d : HeartDataset). d.id) later_is

  next_less : behind.next_file ≡ dataset.next_file
  next_less = ap (λ (d : HeartDataset). d.next_file) later_is

  agrees_less : IsPlain (pool_of old) → (tally : Tally) → Agrees tally old → Agrees tally less
  agrees_less plain tally agrees = record {
    held = agrees.held;
    finished = agrees.finished;
    sealed = agrees.sealed;
    apart = agrees.apart;
    below = agrees.below;
    made = agrees.made;
    whole = agrees.whole;
    marks = λ place d n_at n k here file_there.
        ⊎_elim
        (λ (other : (place ≢ spot.place) × StandsAt old.datasets place d). agrees.marks place d n_at n k other.1 file_there)
        (λ (same : (place ≡ spot.place) × (d ≡ behind)).
        let file_here = subst (λ (files : List (Named HeartFile)). StandsAt files n_at n) (ap (λ (h : HeartDataset). h.files) same.1 ∙ files_less plain) file_there in
        agrees.marks spot.place dataset (skipped at n_at) n k stands (stood_before_removal at dataset.files n_at n file_here)
        ∙ ap (λ (id : ℕ). made_now tally id n.id k) (sym (ap (λ (h : HeartDataset). h.id) same.1 ∙ id_less)))
        (stands_changed behind spot.place old.datasets place d here);
    no_dataset = agrees.no_dataset;
    no_file = λ place d here.
        ⊎_elim
        (λ (other : (place ≢ spot.place) × StandsAt old.datasets place d). agrees.no_file place d other.1)
        (λ (same : (place ≡ spot.place) × (d ≡ behind)).
        subst (λ (h : HeartDataset). AllByRecursion (λ (b : MadeBlock). (b.dataset == h.id) ≡ true → b.file < h.next_file) tally.made) (sym same.1)
        (rw (id_less, next_less) (agrees.no_file spot.place dataset stands)))
        (stands_changed behind spot.place old.datasets place d here);
  }

  leads_less : IsPlain (pool_of old) → (base : Base) → Leads base old → Leads base less
  leads_less plain base leads =
      let was = dataset_was leads.before.datasets old.datasets spot.place dataset leads.datasets stands in
      record {
        before = in_dataset spot.place (without_file at) leads.before;
        next_dataset = leads.next_dataset;
        datasets = datasets_before_changed (without_file at) leads.before.datasets old.datasets spot.place dataset behind stands
            (λ before is. (
              is.0 ∙ sym id_less,
              is.1 ∙ sym (ap (λ (d : HeartDataset). d.name) later_is),
              is.2 ∙ sym next_less,
              subst (AreBefore (remove before.files at)) (sym (files_less plain)) (files_before_removed before.files dataset.files at is.3),
            ))
            leads.datasets;
        made = λ group placing.
            made_in_more old.log (DropFile dataset.id spot.id) (tree_of group placing base.areas base.pool)
            ∙ ap (changed (DropFile dataset.id spot.id) nowhere) (leads.made group placing)
            ∙ subst (λ (id : ℕ). changed (DropFile dataset.id id) nowhere (tree_of group placing (areas_of old) leads.before) ≡ tree_of group placing (areas_of old) (in_dataset spot.place (without_file at) leads.before)) numbered
            (leads_without_file group placing (areas_of old) leads.before old.datasets spot.place dataset at named (areas_alike base old leads) leads.datasets (datasets_ascend old plain)
            (files_ascend (most_files (pool_of old)) (most_bytes (pool_of old)) dataset (dataset_is_plain old spot.place dataset plain stands)) stands there was.0 was.1 was.2)
            ∙ ap (λ (areas : List ℕ). tree_of group placing areas (in_dataset spot.place (without_file at) leads.before)) (sym areas_less);
      }

  pub becomes_without_file : IsCore old → Becomes (deeds.DropFile spot) old less
  becomes_without_file is = record {
    is = core_less is;
    pool = pool_less;
    agrees = λ tally agrees. nothing_more tally less (agrees_less is.plain tally agrees);
    commands = record { leads = leads_less is.plain; knows = λ placing knows entry index ptr is. knows entry index ptr (learns (entry, index) ptr is); group = refl; waiting = refl; limits = refl };
    last = refl;
  }
