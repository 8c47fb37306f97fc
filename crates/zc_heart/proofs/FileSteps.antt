-- A heart in which one file is changed: what stays true, and what it then stands for.
use Rattle.std.proofs.Common.{◌≡◌, ◌≢◌, ℕ, zero, suc, ◌+◌, ◌^◌, ◌<◌, ◌≤◌, ◌==◌, ◌&&◌, ◌||◌, Bool, true, false, List, [], ◌∷◌, length, map, ◌⊎◌, inl, inr, refl, sym, ap, subst, ◌∙◌, ⊎_elim, arith}
use Rattle.std.specs.Prelude.{not, sum_by, count_by}
use Rattle.std.specs.List.{AllByRecursion}
use Rattle.std.proofs.lemmas.Bool.{cases_lt, eq-eqb, ne_eqb, eqb-true}
use Rattle.std.proofs.lemmas.List.{length-append, length-map}
use Rattle.zc_num.specs.Words.{each, change_at}
use Rattle.zc_num.proofs.Each.{each_same}
use Rattle.zc_num.specs.declared.limits.Limits.{Limits}
use Rattle.zc_plain.specs.declared.plain_pool.PlainBlock.{PlainBlock}
use Rattle.zc_plain.specs.declared.plain_pool.PlainBlock.TheVariants.{Hole, Made}
use Rattle.zc_plain.specs.declared.plain_pool.PlainFile.{PlainFile}
use Rattle.zc_plain.specs.declared.plain_pool.PlainDataset.{PlainDataset}
use Rattle.zc_plain.specs.declared.tally.MadeBlock.{MadeBlock}
use Rattle.zc_plain.specs.declared.tally.Tally.{Tally}
use Rattle.zc_plain.specs.PlainPool.{made_count, pointers_in, in_dataset, in_files}
use Rattle.zc_plain.specs.Charge.{stamps_of, is_block, with_each, blocks_made, with_blocks}
use Rattle.zc_plain.specs.IsPlain.{StandsAt, IsPlainDataset, IsPlain}
use Rattle.zc_plain.specs.Answer.{most_files, most_bytes}
use Rattle.zc_plain.proofs.NumberedLaws.{one_item, no_item}
use Rattle.zc_heart.specs.declared.file.HeartFile.{HeartFile}
use Rattle.zc_heart.specs.declared.directory.Named.{Named}
use Rattle.zc_heart.specs.declared.dataset.Spot.{Spot}
use Rattle.zc_heart.specs.declared.pool_core.HeartDataset.{HeartDataset}
use Rattle.zc_heart.specs.declared.pool_core.WaitingGroup.{WaitingGroup}
use Rattle.zc_heart.specs.declared.pool_core.Core.{Core}
use Rattle.zc_heart.specs.Directory.{id_of, with_value}
use Rattle.zc_heart.specs.Stamps.{AreCounted, holds_number}
use Rattle.zc_heart.specs.Changes.{Where}
use Rattle.zc_heart.specs.File.{unmade_in, Marks, CountsChange}
use Rattle.zc_heart.specs.Steps.{is_within}
use Rattle.zc_heart.specs.Core.{plain_file, plain_dataset, plain_blocks, pool_of, areas_of, is_made, AreMade, made_now, made_waiting, Agrees, Base, IsBefore, AreBefore, AreDatasetsBefore, Leads, Knows, IsUntouched, IsHeartFile, IsMadeBy, IsStamped, AreApart, IsDatasetOfCore, IsCore}
use Rattle.zc_heart.proofs.Listing.{holds_there, holds_of_each, stands_in_map, stood_in_map, Ascend, map_changed_there, sum_changed, sum_mapped}
use Rattle.zc_heart.proofs.Counting.{count_in, count_of, counted_in_core, counted_in_files}
use Rattle.zc_heart.proofs.Charged.{block_of, is_among, any_more, fresh, length_more, after_more, all_more}
use Rattle.zc_heart.proofs.LogLaws.{IsDatasetBefore, files_before_changed, datasets_before_changed, changed_to_itself}
use Rattle.zc_heart.proofs.Spots.{files_ascend, datasets_ascend, dataset_is_plain}

-- One file is changed so, and this is made of its blocks.
pub record Step (spot : Spot) (change : PlainFile → PlainFile) (makes : ℕ → Bool) (old new : Core) : Type 0 where
  pub dataset : HeartDataset
  pub stands : StandsAt old.datasets spot.place dataset
  pub at : ℕ
  pub named : Named HeartFile
  pub there : StandsAt dataset.files at named
  pub numbered : named.id ≡ spot.id
  pub file : HeartFile
  pub is : IsHeartFile file
  pub changed : plain_file (with_value file named) ≡ change (plain_file named)
  pub marks : Marks makes named.value file
  pub counts : CountsChange old.stamps new.stamps named.value file
  pub behind : HeartDataset
  pub id : behind.id ≡ dataset.id
  pub area : behind.area ≡ dataset.area
  pub name : behind.name ≡ dataset.name
  pub next_file : behind.next_file ≡ dataset.next_file
  pub files : behind.files ≡ change_at (λ _. with_value file named) at dataset.files
  pub pointers : behind.pointers + named.value.pointers ≡ dataset.pointers + file.pointers
  pub noted : (other : ℕ) → holds_number other behind.changed ≡ false → holds_number other dataset.changed ≡ false
  pub listed : holds_number spot.id behind.changed ≡ false → IsUntouched (with_value file named)
  pub datasets : new.datasets ≡ change_at (λ _. behind) spot.place old.datasets
  pub limits : new.limits ≡ old.limits
  pub group : new.group ≡ old.group
  pub next_dataset : new.next_dataset ≡ old.next_dataset
  pub log : new.log ≡ old.log
  pub held : new.held ≡ old.held
  pub waiting : new.waiting ≡ old.waiting

-- what stands in a list with an item changed in place is what stood there, or what the item was changed to
pub stands_changed : {X : Type 0} (z : X) (place : ℕ) (xs : List X) (at : ℕ) (y : X) → StandsAt (change_at (λ _. z) place xs) at y → ((at ≢ place) × StandsAt xs at y) ⊎ ((at ≡ place) × (y ≡ z))
stands_changed z place [] at y stands = no_item y stands
stands_changed z zero (x ∷ xs) zero y stands = inr (refl, sym (one_item z y stands))
stands_changed z zero (x ∷ xs) (suc at) y stands = inl (omega arith, stands)
stands_changed z (suc place) (x ∷ xs) zero y stands = inl (omega arith, stands)
stands_changed {X} z (suc place) (x ∷ xs) (suc at) y stands =
    ⊎_elim
    (λ (other : (at ≢ place) × StandsAt xs at y). let apart = other.0 in inl (omega (arith, apart), other.1))
    (λ (here : (at ≡ place) × (y ≡ z)). inr (ap suc here.0, here.1))
    (stands_changed z place xs at y stands)

-- two items with one number are one
apart_by_number : {X : Type 0} (number_of : X → ℕ) (xs : List X) (a b : ℕ) (x y : X) → Ascend number_of xs → StandsAt xs a x → StandsAt xs b y → a ≢ b → number_of x ≢ number_of y
apart_by_number number_of xs a b x y ascend first second apart same =
    ⊎_elim
    (λ (before : a < b). absurd (omega (arith, ascend a b x y before first second, same)))
    (λ (not_before : b ≤ a).
    let behind : b < a = omega (arith, apart) in
    absurd (omega (arith, ascend b a y x behind second first, same)))
    (cases_lt a b)

-- a later command is after more
later_block : (last later : ℕ) → last ≤ later → (block : PlainBlock) → IsMadeBy last block → IsMadeBy later block
later_block last later behind Hole is = tt
later_block last later behind (Made entry index bytes) is = omega (arith, is)

abbrev pub IsStampedFile : ℕ → PlainFile → Type 0
IsStampedFile last file = AllByRecursion (IsMadeBy last) file.blocks

pub later_file : (last later : ℕ) → last ≤ later → (file : PlainFile) → IsStampedFile last file → IsStampedFile later file
later_file last later behind file is = holds_of_each (IsMadeBy later) file.blocks (λ at block stands. later_block last later behind block (holds_there (IsMadeBy last) file.blocks at block is stands))

pub later_dataset : (last later : ℕ) → last ≤ later → (dataset : PlainDataset) → IsStamped last dataset → IsStamped later dataset
later_dataset last later behind dataset is = holds_of_each (IsStampedFile later) dataset.files (λ at file stands. later_file last later behind file (holds_there (IsStampedFile last) dataset.files at file is stands))

-- ---- bits

only_before : (a b : Bool) → b ≡ false → a ≡ (a || b)
only_before true b none = refl
only_before false b none = sym none

none_among : (a : Bool) → (a && false) ≡ false
none_among true = refl
none_among false = refl

-- what was made after each seal, with the blocks that are made now
made_more : (made : List MadeBlock) (seals dataset file first count s : ℕ) (waiting : List WaitingGroup) (current : ℕ) → s + length waiting ≡ seals → AreMade s waiting current made
    → AreMade s waiting (current + fresh made seals dataset file first count) (with_each is_block made (each count (λ k. block_of seals dataset file (first + k))))
made_more made seals dataset file first count s [] current ends are =
    let here : (seals == s) ≡ true = eq-eqb seals s (omega (arith, ends)) in
    let more = after_more made seals dataset file first count s in
    let all = rw here at more in
    omega (arith, all, are)
made_more made seals dataset file first count s (one ∷ waiting) current ends are =
    let other : (seals == s) ≡ false = ne_eqb seals s (omega (arith, ends)) in
    let more = after_more made seals dataset file first count s in
    let none = rw other at more in
    (omega (arith, none, are.0), made_more made seals dataset file first count (s + 1) waiting current (omega (arith, ends)) are.1)

-- ---- what it stands for

module _ (spot : Spot) (change : PlainFile → PlainFile) (makes : ℕ → Bool) (old new : Core) (step : Step spot change makes old new) where
  dataset_after : plain_dataset step.behind ≡ in_files step.at change (plain_dataset step.dataset)
  dataset_after =
      let files : map plain_file step.behind.files ≡ change_at change step.at (map plain_file step.dataset.files) =
      ap (map plain_file) step.files
      ∙ map_changed_there plain_file (λ _. with_value step.file step.named) change step.at step.dataset.files
      (λ x stands. step.changed ∙ ap (λ (n : Named HeartFile). change (plain_file n)) (one_item step.named x (sym step.there ∙ stands)))
      in
      ap (λ (n : ℕ). record { id = n; name = step.behind.name; next_file = step.behind.next_file; files = map plain_file step.behind.files }) step.id
      ∙ ap (λ (n : List ℕ). record { id = step.dataset.id; name = n; next_file = step.behind.next_file; files = map plain_file step.behind.files }) step.name
      ∙ ap (λ (n : ℕ). record { id = step.dataset.id; name = step.dataset.name; next_file = n; files = map plain_file step.behind.files }) step.next_file
      ∙ ap (λ (fs : List PlainFile). record { id = step.dataset.id; name = step.dataset.name; next_file = step.dataset.next_file; files = fs }) files

  pub pool_after_step : pool_of new ≡ in_dataset spot.place (in_files step.at change) (pool_of old)
  pool_after_step =
      let datasets : map plain_dataset new.datasets ≡ change_at (in_files step.at change) spot.place (map plain_dataset old.datasets) =
      ap (map plain_dataset) step.datasets
      ∙ map_changed_there plain_dataset (λ _. step.behind) (in_files step.at change) spot.place old.datasets
      (λ x stands. dataset_after ∙ ap (λ (d : HeartDataset). in_files step.at change (plain_dataset d)) (one_item step.dataset x (sym step.stands ∙ stands)))
      in
      ap (λ (l : Limits). record { limits = l; next_dataset = new.next_dataset; datasets = map plain_dataset new.datasets }) step.limits
      ∙ ap (λ (n : ℕ). record { limits = old.limits; next_dataset = n; datasets = map plain_dataset new.datasets }) step.next_dataset
      ∙ ap (λ (ds : List PlainDataset). record { limits = old.limits; next_dataset = old.next_dataset; datasets = ds }) datasets

  pub areas_after_step : areas_of new ≡ areas_of old
  areas_after_step =
      ap (map (λ (d : HeartDataset). d.area)) step.datasets
      ∙ map_changed_there (λ (d : HeartDataset). d.area) (λ _. step.behind) (λ n. n) spot.place old.datasets
      (λ x stands. step.area ∙ ap (λ (d : HeartDataset). d.area) (one_item step.dataset x (sym step.stands ∙ stands)))
      ∙ changed_to_itself spot.place (map (λ (d : HeartDataset). d.area) old.datasets)

  -- ---- what is kept beside the files

  counted_after_step : AreCounted old.stamps (stamps_of (pool_of old)) → AreCounted new.stamps (stamps_of (pool_of new))
  counted_after_step counted =
      λ stamp.
      let file_sum = sum_changed (count_of stamp) (with_value step.file step.named) step.at step.dataset.files step.named step.there in
      let files = counted_in_files stamp step.dataset.files in
      let files_later = counted_in_files stamp step.behind.files ∙ ap (sum_by (count_of stamp)) step.files in
      let sum = sum_changed (count_in stamp) step.behind spot.place old.datasets step.dataset step.stands in
      let before = counted stamp ∙ counted_in_core stamp old in
      let behind = counted_in_core stamp new ∙ ap (sum_by (count_in stamp)) step.datasets in
      let moved = step.counts.moves stamp in
      omega (arith, file_sum, files, files_later, sum, before, behind, moved)

  -- the dataset
  pointers_after_step : step.dataset.pointers ≡ pointers_in (plain_dataset step.dataset) → IsHeartFile step.named.value → step.behind.pointers ≡ pointers_in (plain_dataset step.behind)
  unfolding pointers_in
  pointers_after_step before was =
      let g = λ (n : Named HeartFile). made_count (plain_blocks n.value) in
      let sum = sum_changed g (with_value step.file step.named) step.at step.dataset.files step.named step.there in
      let old_sum = sum_mapped (λ (f : PlainFile). made_count f.blocks) plain_file step.dataset.files in
      let new_sum = sum_mapped (λ (f : PlainFile). made_count f.blocks) plain_file step.behind.files ∙ ap (sum_by g) step.files in
      omega (arith, sum, old_sum, new_sum, before, was.pointers, step.is.pointers, step.pointers)

  dataset_of_step : (most most_size : ℕ) → IsPlainDataset most most_size (plain_dataset step.dataset) → IsDatasetOfCore step.dataset → IsDatasetOfCore step.behind
  dataset_of_step most most_size plain is = record {
    area = rw step.area is.area;
    pointers = pointers_after_step is.pointers (holds_there (λ (n : Named HeartFile). IsHeartFile n.value) step.dataset.files step.at step.named is.files step.there);
    listed = holds_of_each (λ (n : Named HeartFile). holds_number n.id step.behind.changed ≡ false → IsUntouched n) step.behind.files
        (λ at n stands. ⊎_elim
        (λ (other : (at ≢ step.at) × StandsAt step.dataset.files at n).
        λ missing. holds_there (λ (n : Named HeartFile). holds_number n.id step.dataset.changed ≡ false → IsUntouched n) step.dataset.files at n is.listed other.1 (step.noted n.id missing))
        (λ (here : (at ≡ step.at) × (n ≡ with_value step.file step.named)).
        subst (λ (n : Named HeartFile). holds_number n.id step.behind.changed ≡ false → IsUntouched n) (sym here.1)
        (λ missing. step.listed (ap (λ (k : ℕ). holds_number k step.behind.changed) (sym step.numbered) ∙ missing)))
        (stands_changed (with_value step.file step.named) step.at step.dataset.files at n (subst (λ (fs : List (Named HeartFile)). StandsAt fs at n) step.files stands)));
    files = holds_of_each (λ (n : Named HeartFile). IsHeartFile n.value) step.behind.files
        (λ at n stands. ⊎_elim
        (λ (other : (at ≢ step.at) × StandsAt step.dataset.files at n). holds_there (λ (n : Named HeartFile). IsHeartFile n.value) step.dataset.files at n is.files other.1)
        (λ (here : (at ≡ step.at) × (n ≡ with_value step.file step.named)). subst (λ (n : Named HeartFile). IsHeartFile n.value) (sym here.1) step.is)
        (stands_changed (with_value step.file step.named) step.at step.dataset.files at n (subst (λ (fs : List (Named HeartFile)). StandsAt fs at n) step.files stands)));
  }

  datasets_after_step : IsPlain (pool_of old) → AllByRecursion IsDatasetOfCore old.datasets → AllByRecursion IsDatasetOfCore new.datasets
  datasets_after_step plain are =
      holds_of_each IsDatasetOfCore new.datasets
      (λ at d stands. ⊎_elim
      (λ (other : (at ≢ spot.place) × StandsAt old.datasets at d). holds_there IsDatasetOfCore old.datasets at d are other.1)
      (λ (here : (at ≡ spot.place) × (d ≡ step.behind)).
      subst IsDatasetOfCore (sym here.1)
      (dataset_of_step (most_files (pool_of old)) (most_bytes (pool_of old)) (dataset_is_plain old spot.place step.dataset plain step.stands) (holds_there IsDatasetOfCore old.datasets spot.place step.dataset are step.stands)))
      (stands_changed step.behind spot.place old.datasets at d (subst (λ (ds : List HeartDataset). StandsAt ds at d) step.datasets stands)))

  -- which commands made the blocks
  stamped_after_step : (last : ℕ) → old.last ≤ last → AllByRecursion (IsMadeBy last) (plain_blocks step.file) → AllByRecursion (IsStamped old.last) (pool_of old).datasets → AllByRecursion (IsStamped last) (pool_of new).datasets
  stamped_after_step last later made stamped =
      holds_of_each (IsStamped last) (map plain_dataset new.datasets)
      (λ place d stands.
      let from = stood_in_map plain_dataset new.datasets place d stands in
      subst (IsStamped last) (sym from.2)
      (⊎_elim
      (λ (other : (place ≢ spot.place) × StandsAt old.datasets place from.0).
      later_dataset old.last last later (plain_dataset from.0) (holds_there (IsStamped old.last) (map plain_dataset old.datasets) place (plain_dataset from.0) stamped (stands_in_map plain_dataset old.datasets place from.0 other.1)))
      (λ (here : (place ≡ spot.place) × (from.0 ≡ step.behind)).
      subst (λ (h : HeartDataset). IsStamped last (plain_dataset h)) (sym here.1) stamped_dataset)
      (stands_changed step.behind spot.place old.datasets place from.0 (subst (λ (ds : List HeartDataset). StandsAt ds place from.0) step.datasets from.1))))
    where
      was_stamped : IsStamped old.last (plain_dataset step.dataset)
      was_stamped = holds_there (IsStamped old.last) (map plain_dataset old.datasets) spot.place (plain_dataset step.dataset) stamped (stands_in_map plain_dataset old.datasets spot.place step.dataset step.stands)

      stamped_dataset : IsStamped last (plain_dataset step.behind)
      stamped_dataset =
          holds_of_each (IsStampedFile last) (map plain_file step.behind.files)
          (λ at f stands.
          let from = stood_in_map plain_file step.behind.files at f stands in
          subst (IsStampedFile last) (sym from.2)
          (⊎_elim
          (λ (other : (at ≢ step.at) × StandsAt step.dataset.files at from.0).
          later_file old.last last later (plain_file from.0) (holds_there (IsStampedFile old.last) (map plain_file step.dataset.files) at (plain_file from.0) was_stamped (stands_in_map plain_file step.dataset.files at from.0 other.1)))
          (λ (here : (at ≡ step.at) × (from.0 ≡ with_value step.file step.named)).
          subst (λ (n : Named HeartFile). IsStampedFile last (plain_file n)) (sym here.1) made)
          (stands_changed (with_value step.file step.named) step.at step.dataset.files at from.0 (subst (λ (fs : List (Named HeartFile)). StandsAt fs at from.0) step.files from.1))))

  -- so it is a heart again
  pub core_after_step : IsPlain (pool_of new) → new.held ≤ 2 ^ 62 → made_waiting new + new.made ≤ 131072 → old.last ≤ new.last → AllByRecursion (IsMadeBy new.last) (plain_blocks step.file) → IsCore old → IsCore new
  core_after_step plain held few later made is = record {
    plain = plain;
    datasets = datasets_after_step is.plain is.datasets;
    apart = subst AreApart (sym areas_after_step) is.apart;
    counted = counted_after_step is.counted;
    stamped = stamped_after_step new.last later made is.stamped;
    logged = rw step.log is.logged;
    held = held;
    few = few;
  }

  -- ---- what its log leads to, and what it knows

  pub leads_after_step : (base : Base) → Leads base old → Leads base new
  leads_after_step base leads = record {
    before = leads.before;
    next_dataset = leads.next_dataset ∙ sym step.next_dataset;
    datasets = subst (AreDatasetsBefore leads.before.datasets) (sym step.datasets)
        (subst (λ (befores : List PlainDataset). AreDatasetsBefore befores (change_at (λ _. step.behind) spot.place old.datasets)) (changed_to_itself spot.place leads.before.datasets)
        (datasets_before_changed (λ before. before) leads.before.datasets old.datasets spot.place step.dataset step.behind step.stands dataset_before_step leads.datasets));
    made = λ group placing. rw (step.log, areas_after_step) (leads.made group placing);
  }
    where
      file_before_step : (before : PlainFile) → IsBefore before step.named → IsBefore before (with_value step.file step.named)
      file_before_step before is = (
        is.0,
        is.1,
        λ unsized. let was = step.marks.sized unsized in is.2 was.0 ∙ sym was.1,
        λ k untouched. let was = step.marks.kept k untouched in is.3 k was.0 ∙ sym was.1,
      )

      dataset_before_step : (before : PlainDataset) → IsDatasetBefore before step.dataset → IsDatasetBefore before step.behind
      dataset_before_step before is = (
        is.0 ∙ sym step.id,
        is.1 ∙ sym step.name,
        is.2 ∙ sym step.next_file,
        subst (AreBefore before.files) (sym step.files) (files_before_changed before.files step.dataset.files step.at step.named (with_value step.file step.named) step.there file_before_step is.3),
      )

  pub knows_after_step : (placing : Where) → Knows placing old → Knows placing new
  knows_after_step placing knows = λ entry index ptr is. knows entry index ptr (step.counts.learns (entry, index) ptr is)

  -- ---- what the charge is counted from

  ids_apart : IsPlain (pool_of old) → (place : ℕ) (d : HeartDataset) → place ≢ spot.place → StandsAt old.datasets place d → d.id ≢ step.dataset.id
  ids_apart plain place d apart stands = apart_by_number (λ (h : HeartDataset). h.id) old.datasets place spot.place d step.dataset (datasets_ascend old plain) stands step.stands apart

  files_apart : IsPlain (pool_of old) → (at : ℕ) (n : Named HeartFile) → at ≢ step.at → StandsAt step.dataset.files at n → n.id ≢ spot.id
  files_apart plain at n apart stands same =
      apart_by_number id_of step.dataset.files at step.at n step.named
      (files_ascend (most_files (pool_of old)) (most_bytes (pool_of old)) step.dataset (dataset_is_plain old spot.place step.dataset plain step.stands))
      stands step.there apart (same ∙ sym step.numbered)

  below_dataset : IsPlain (pool_of old) → step.dataset.id < old.next_dataset
  below_dataset plain = plain.numbered.below_next spot.place (plain_dataset step.dataset) (stands_in_map plain_dataset old.datasets spot.place step.dataset step.stands)

  below_file : IsPlain (pool_of old) → spot.id < step.dataset.next_file
  below_file plain =
      let is = dataset_is_plain old spot.place step.dataset plain step.stands in
      subst (λ (n : ℕ). n < step.dataset.next_file) step.numbered (is.numbered.below_next step.at (plain_file step.named) (stands_in_map plain_file step.dataset.files step.at step.named step.there))

  -- the block was made now, where it was before or is one of the new ones
  made_now_after : (tally : Tally) (first count d f k : ℕ)
      → made_now (with_blocks (blocks_made tally step.dataset.id spot.id first count) tally) d f k ≡ (made_now tally d f k || is_among step.dataset.id spot.id first count d f k)
  made_now_after tally first count d f k = any_more tally.made (length tally.sealed) step.dataset.id spot.id first count d f k

  unmade_is : (tally : Tally) (first count : ℕ) → Agrees tally old → fresh tally.made (length tally.sealed) step.dataset.id spot.id first count ≡ unmade_in first count step.named.value
  unmade_is tally first count agrees =
      ap (count_by (λ (was : Bool). not was))
      (each_same count (λ k. made_now tally step.dataset.id spot.id (first + k)) (λ k. is_made (first + k) step.named.value)
      (λ k within. ap (λ (id : ℕ). made_now tally step.dataset.id id (first + k)) (sym step.numbered) ∙ sym (agrees.marks spot.place step.dataset step.at step.named (first + k) step.stands step.there)))

  marks_after : (tally : Tally) (first count : ℕ) → IsPlain (pool_of old) → ((k : ℕ) → makes k ≡ is_within first (first + count) k) → Agrees tally old
      → (place : ℕ) (d : HeartDataset) (at : ℕ) (n : Named HeartFile) (k : ℕ) → StandsAt new.datasets place d → StandsAt d.files at n
      → is_made k n.value ≡ made_now (with_blocks (blocks_made tally step.dataset.id spot.id first count) tally) d.id n.id k
  marks_after tally first count plain within agrees place d at n k stands file_stands =
      ⊎_elim
      (λ (other : (place ≢ spot.place) × StandsAt old.datasets place d).
      let apart : (d.id == step.dataset.id) ≡ false = ne_eqb d.id step.dataset.id (ids_apart plain place d other.0 other.1) in
      agrees.marks place d at n k other.1 file_stands ∙ only_before (made_now tally d.id n.id k) _ (rw apart refl) ∙ sym (made_now_after tally first count d.id n.id k))
      (λ (here : (place ≡ spot.place) × (d ≡ step.behind)).
      let id : d.id ≡ step.dataset.id = ap (λ (h : HeartDataset). h.id) here.1 ∙ step.id in
      let there : StandsAt (change_at (λ _. with_value step.file step.named) step.at step.dataset.files) at n =
      subst (λ (fs : List (Named HeartFile)). StandsAt fs at n) (ap (λ (h : HeartDataset). h.files) here.1 ∙ step.files) file_stands in
      ⊎_elim
      (λ (other : (at ≢ step.at) × StandsAt step.dataset.files at n).
      let apart : (n.id == spot.id) ≡ false = ne_eqb n.id spot.id (files_apart plain at n other.0 other.1) in
      agrees.marks spot.place step.dataset at n k step.stands other.1 ∙ only_before (made_now tally step.dataset.id n.id k) _ (rw apart (none_among (step.dataset.id == step.dataset.id)))
      ∙ sym (made_now_after tally first count step.dataset.id n.id k) ∙ ap (λ (i : ℕ). made_now (with_blocks (blocks_made tally step.dataset.id spot.id first count) tally) i n.id k) (sym id))
      (λ (changed : (at ≡ step.at) × (n ≡ with_value step.file step.named)).
      let file_id : n.id ≡ spot.id = ap (λ (m : Named HeartFile). m.id) changed.1 ∙ step.numbered in
      let same_dataset : (step.dataset.id == step.dataset.id) ≡ true = eq-eqb step.dataset.id step.dataset.id refl in
      let same_file : (spot.id == spot.id) ≡ true = eq-eqb spot.id spot.id refl in
      let among : is_among step.dataset.id spot.id first count step.dataset.id spot.id k ≡ makes k = rw (same_dataset, same_file) (sym (within k)) in
      let before : is_made k step.named.value ≡ made_now tally step.dataset.id spot.id k =
      agrees.marks spot.place step.dataset step.at step.named k step.stands step.there ∙ ap (λ (i : ℕ). made_now tally step.dataset.id i k) step.numbered in
      ap (λ (m : Named HeartFile). is_made k m.value) changed.1 ∙ step.marks.made k
      ∙ ap (λ (b : Bool). b || makes k) before ∙ ap (λ (b : Bool). made_now tally step.dataset.id spot.id k || b) (sym among)
      ∙ sym (made_now_after tally first count step.dataset.id spot.id k)
      ∙ ap (λ (i : ℕ). made_now (with_blocks (blocks_made tally step.dataset.id spot.id first count) tally) i spot.id k) (sym id)
      ∙ ap (λ (i : ℕ). made_now (with_blocks (blocks_made tally step.dataset.id spot.id first count) tally) d.id i k) (sym file_id))
      (stands_changed (with_value step.file step.named) step.at step.dataset.files at n there))
      (stands_changed step.behind spot.place old.datasets place d (subst (λ (ds : List HeartDataset). StandsAt ds place d) step.datasets stands))

  no_file_after : (tally : Tally) (first count : ℕ) → IsPlain (pool_of old) → Agrees tally old → (place : ℕ) (d : HeartDataset) → StandsAt new.datasets place d
      → AllByRecursion (λ (b : MadeBlock). (b.dataset == d.id) ≡ true → b.file < d.next_file) (with_blocks (blocks_made tally step.dataset.id spot.id first count) tally).made
  no_file_after tally first count plain agrees place d stands =
      ⊎_elim
      (λ (other : (place ≢ spot.place) × StandsAt old.datasets place d).
      all_more tally.made (length tally.sealed) step.dataset.id spot.id first (λ (b : MadeBlock). (b.dataset == d.id) ≡ true → b.file < d.next_file) count
      (agrees.no_file place d other.1)
      (λ k same. absurd (ids_apart plain place d other.0 other.1 (sym (eqb-true step.dataset.id d.id same)))))
      (λ (here : (place ≡ spot.place) × (d ≡ step.behind)).
      subst (λ (h : HeartDataset). AllByRecursion (λ (b : MadeBlock). (b.dataset == h.id) ≡ true → b.file < h.next_file) (with_blocks (blocks_made tally step.dataset.id spot.id first count) tally).made) (sym here.1)
      (rw (step.id, step.next_file)
      (all_more tally.made (length tally.sealed) step.dataset.id spot.id first (λ (b : MadeBlock). (b.dataset == step.dataset.id) ≡ true → b.file < step.dataset.next_file) count
      (agrees.no_file spot.place step.dataset step.stands)
      (λ k same. below_file plain))))
      (stands_changed step.behind spot.place old.datasets place d (subst (λ (ds : List HeartDataset). StandsAt ds place d) step.datasets stands))

  pub agrees_after_step : (tally : Tally) (first count : ℕ) → IsPlain (pool_of old) → ((k : ℕ) → makes k ≡ is_within first (first + count) k) → new.made ≡ old.made + unmade_in first count step.named.value → Agrees tally old
      → Agrees (with_blocks (blocks_made tally step.dataset.id spot.id first count) tally) new
  agrees_after_step tally first count plain within more agrees =
      let unmade = unmade_is tally first count agrees in
      let long = length_more tally.made (length tally.sealed) step.dataset.id spot.id first count in
      let seals : length agrees.finished + length old.waiting ≡ length tally.sealed =
      sym (ap length agrees.sealed ∙ length-append agrees.finished (map (λ (one : WaitingGroup). one.group) old.waiting) ∙ ap (λ (n : ℕ). length agrees.finished + n) (length-map old.waiting (λ (one : WaitingGroup). one.group))) in
      let made = made_more tally.made (length tally.sealed) step.dataset.id spot.id first count (length agrees.finished) old.waiting old.made seals agrees.made in
      let whole = agrees.whole in
      record {
        held = agrees.held ∙ sym step.held;
        finished = agrees.finished;
        sealed = rw step.waiting agrees.sealed;
        apart = agrees.apart;
        below = rw step.group agrees.below;
        made = rw (step.waiting, more, ← unmade) made;
        whole = rw step.waiting (omega (arith, long, unmade, whole, more));
        marks = marks_after tally first count plain within agrees;
        no_dataset = rw step.next_dataset (all_more tally.made (length tally.sealed) step.dataset.id spot.id first (λ (b : MadeBlock). b.dataset < old.next_dataset) count agrees.no_dataset (λ k. below_dataset plain));
        no_file = no_file_after tally first count plain agrees;
      }
