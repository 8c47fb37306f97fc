-- The changes that a seal hands out are of what stands, cover what the open group touched, and no two put at one block.
use Rattle.std.proofs.Common.{◌≡◌, ◌∙◌, ℕ, ◌<◌, ◌≤◌, Bool, true, false, true≢false, ◌&&◌, ◌==◌, cond, List, [], ◌∷◌, ◌++◌, map, length, Option, Some, None, refl, sym, ap, subst, ⊎_elim, arith}
use Rattle.std.specs.Prelude.{find, filter, flat_map}
use Rattle.std.specs.List.{AllByRecursion, list_any}
use Rattle.std.specs.List.Sorted.{IsStrictlySortedBy}
use Rattle.std.specs.Map.{keys_of}
use Rattle.std.specs.Ordering.{nat_cmp}
use Rattle.std.specs.BTreeMap.{is_at}
use Rattle.std.proofs.lemmas.Bool.{eqb-true, eq-eqb, ne_eqb, and_from, and_left, and_right, or_left, cases_lt, true_from_ne_false}
use Rattle.std.proofs.lemmas.List.{map-append, append_assoc, get_or_past}
use Rattle.zc_num.specs.Words.{each}
use Rattle.zc_num.specs.Ordered.{value_at, Ascends}
use Rattle.zc_num.proofs.Each.{length_each, item_of_each}
use Rattle.zc_blkptr.specs.declared.ptr.Ptr.{Ptr}
use Rattle.zc_plain.specs.declared.plain_pool.PlainBlock.{PlainBlock}
use Rattle.zc_plain.specs.declared.plain_pool.PlainBlock.TheVariants.{Hole}
use Rattle.zc_plain.specs.declared.plain_pool.PlainFile.{PlainFile}
use Rattle.zc_plain.specs.declared.plain_pool.PlainDataset.{PlainDataset}
use Rattle.zc_plain.specs.declared.plain_pool.PlainPool.{PlainPool}
use Rattle.zc_plain.specs.PlainPool.{blocks_of_size, block_at}
use Rattle.zc_plain.specs.Answer.{most_files, most_bytes}
use Rattle.zc_plain.specs.IsPlain.{StandsAt, IsPlainDataset}
use Rattle.zc_plain.proofs.Together.{block_by_place}
use Rattle.zc_heart.specs.declared.changes.Now.{Now}
use Rattle.zc_heart.specs.declared.changes.Change.{Change}
use Rattle.zc_heart.specs.declared.changes.Change.TheVariants.{MakeDataset, DropDataset, MakeFile, DropFile, Size, Put}
use Rattle.zc_heart.specs.declared.stamps.Stamp.{Stamp}
use Rattle.zc_heart.specs.declared.file.HeldBlock.{HeldBlock}
use Rattle.zc_heart.specs.declared.file.Mark.{Mark}
use Rattle.zc_heart.specs.declared.file.HeartFile.{HeartFile}
use Rattle.zc_heart.specs.declared.directory.Named.{Named}
use Rattle.zc_heart.specs.declared.pool_core.HeartDataset.{HeartDataset}
use Rattle.zc_heart.specs.declared.pool_core.Core.{Core}
use Rattle.zc_heart.specs.Changes.{Placing, Where, by_stamp, is_noted}
use Rattle.zc_heart.specs.Stamps.{holds_number}
use Rattle.zc_heart.specs.Core.{plain_block, plain_blocks, plain_file, plain_dataset, pool_of, is_touched_by, is_touched, IsUntouched, IsHeartFile, IsDatasetOfCore, IsCore}
use Rattle.zc_heart.specs.Directory.{id_of, is_numbered}
use Rattle.zc_heart.specs.Meaning.{files_with, block_in, IsNow, Stands, is_twice, AreOnce, stamp_placed, placed_by, placed_by_all, placed_at}
use Rattle.zc_heart.specs.Noted.{now_of, stamp_of_held, put_of, stamp_put, puts_of, sizes_of, noted_in_file, stamps_in_file, noted_in_files, noted_in_dataset, stamps_in_dataset, noted_in, stamps_in_all, HasMarks, AreMarked, IsMarked}
use Rattle.zc_heart.proofs.SlotLaws.{at_means, keys_above}
use Rattle.zc_heart.proofs.ListLaws.{each_of, all_append, all_flat, all_flat_free, all_standing, all_at, all_back, stands_mapped, found_has, any_left, any_right, any_flat, any_number, none_append, none_of, Rises, rises_from, rises_back, find_is, flat_only, filter_flat}
use Rattle.zc_heart.proofs.MadeLaws.{StandsNow, is_put_at, is_size_of}

-- ---- what is known of each file

-- the file is the only one of the pool with its numbers, and has at each block what it holds there
pub record Fact (pool : PlainPool) (dataset : ℕ) (named : Named HeartFile) : Type 0 where
  pub only : files_with dataset named.id pool ≡ plain_file named ∷ []
  pub at : (k : ℕ) → block_at k (plain_blocks named.value) ≡ plain_block (value_at k named.value.blocks)

abbrev pub Facts : PlainPool → List HeartDataset → Type 0
Facts pool datasets = AllByRecursion (λ (dataset : HeartDataset). AllByRecursion (Fact pool dataset.id) dataset.files) datasets

-- what a heart file holds at a block
pub held_at : (file : HeartFile) → IsHeartFile file → (k : ℕ) → block_at k (plain_blocks file) ≡ plain_block (value_at k file.blocks)
held_at file is k =
    let f : ℕ → PlainBlock = λ n. plain_block (value_at n file.blocks) in
    let count = blocks_of_size file.size in
    block_by_place (plain_blocks file) k
    ∙ ⊎_elim
    (λ (within : k < count). item_of_each count f k Hole within)
    (λ (past : count ≤ k). get_or_past (each count f) k Hole (let long : length (each count f) ≡ count = length_each count f in omega (arith, long)) ∙ sym (is.ends k past))
    (cases_lt k count)

-- the numbers of the datasets, and of the files of each
pub datasets_rise : (core : Core) → IsCore core → Rises (λ (dataset : HeartDataset). dataset.id) core.datasets
datasets_rise core is = rises_back (λ (dataset : PlainDataset). dataset.id) plain_dataset core.datasets (rises_from (λ (dataset : PlainDataset). dataset.id) (pool_of core).datasets is.plain.numbered.ascending)

pub files_rise : (core : Core) → IsCore core → AllByRecursion (λ (dataset : HeartDataset). Rises id_of dataset.files) core.datasets
files_rise core is =
    each_of (λ (dataset : HeartDataset). IsPlainDataset (most_files (pool_of core)) (most_bytes (pool_of core)) (plain_dataset dataset)) (λ (dataset : HeartDataset). Rises id_of dataset.files) core.datasets
    (λ dataset plain. rises_back (λ (file : PlainFile). file.id) plain_file dataset.files (rises_from (λ (file : PlainFile). file.id) (map plain_file dataset.files) plain.numbered.ascending))
    (all_back (IsPlainDataset (most_files (pool_of core)) (most_bytes (pool_of core))) plain_dataset core.datasets
    (all_standing (IsPlainDataset (most_files (pool_of core)) (most_bytes (pool_of core))) (pool_of core).datasets is.plain.datasets))

-- the files with the numbers of one that stands are that one
only_file : (core : Core) → IsCore core → (place : ℕ) (dataset : HeartDataset) (at : ℕ) (named : Named HeartFile) → StandsAt core.datasets place dataset → StandsAt dataset.files at named
    → files_with dataset.id named.id (pool_of core) ≡ plain_file named ∷ []
only_file core is place dataset at named stands there =
    let pool = pool_of core in
    let plain = is.plain.datasets place (plain_dataset dataset) (stands_mapped plain_dataset core.datasets place dataset stands) in
    flat_only (λ (one : PlainDataset). one.id) (λ (one : PlainDataset). filter (λ (other : PlainFile). other.id == named.id) one.files) pool.datasets place (plain_dataset dataset)
    (rises_from (λ (one : PlainDataset). one.id) pool.datasets is.plain.numbered.ascending) (stands_mapped plain_dataset core.datasets place dataset stands)
    ∙ filter_flat (λ (other : PlainFile). other.id == named.id) (map plain_file dataset.files)
    ∙ flat_only (λ (other : PlainFile). other.id) (λ (other : PlainFile). other ∷ []) (map plain_file dataset.files) at (plain_file named)
    (rises_from (λ (other : PlainFile). other.id) (map plain_file dataset.files) plain.numbered.ascending) (stands_mapped plain_file dataset.files at named there)

pub facts : (core : Core) → IsCore core → Facts (pool_of core) core.datasets
facts core is =
    all_standing (λ (dataset : HeartDataset). AllByRecursion (Fact (pool_of core) dataset.id) dataset.files) core.datasets (λ place dataset stands.
    all_standing (Fact (pool_of core) dataset.id) dataset.files (λ at named there. record {
      only = only_file core is place dataset at named stands there;
      at = held_at named.value (all_at (λ (file : Named HeartFile). IsHeartFile file.value) dataset.files at named (all_at IsDatasetOfCore core.datasets place dataset is.datasets stands).files there);
    }))

-- ---- the changes are of what stands

now_is : (there : Option (Option HeldBlock)) → IsNow (now_of there) (plain_block there)
now_is None = tt
now_is (Some None) = tt
now_is (Some (Some held)) = refl

file_stands : (pool : PlainPool) (dataset : ℕ) (named : Named HeartFile) → Fact pool dataset named → AllByRecursion (StandsNow pool) (noted_in_file dataset (Some named))
file_stands pool dataset named fact = all_append (StandsNow pool) (sizes_of dataset named.id named.value) (puts_of dataset named.id named.value named.value.marks) (size named.value.sized) (all_flat_free (StandsNow pool) (put_of dataset named.id named.value) named.value.marks (λ marked. put marked.0 (is_touched_by (Some marked.1))))
  where
    size : (sized : Bool) → AllByRecursion (StandsNow pool) (cond sized (Size dataset named.id named.value.size ∷ []) [])
    size true = ((plain_file named, fact.only, refl), tt)
    size false = tt

    put : (k : ℕ) (touched : Bool) → AllByRecursion (StandsNow pool) (cond touched (Put dataset named.id k (now_of (value_at k named.value.blocks)) ∷ []) [])
    put k true = ((plain_file named, fact.only, subst (IsNow (now_of (value_at k named.value.blocks))) (sym (fact.at k)) (now_is (value_at k named.value.blocks))), tt)
    put k false = tt

-- what holds of what is noted of a file that is found, where it holds of each that stands
of_found : {A : Type 0} (P : A → Type 0) (give : Option (Named HeartFile) → List A) (pool : PlainPool) (dataset number : ℕ) (files : List (Named HeartFile)) → give None ≡ [] → ((named : Named HeartFile) → Fact pool dataset named → (named.id == number) ≡ true → AllByRecursion P (give (Some named)))
    → AllByRecursion (Fact pool dataset) files → AllByRecursion P (give (find (is_numbered number) files))
of_found P give pool dataset number files none some known = by (find (is_numbered number) files) refl where
  by : (found : Option (Named HeartFile)) → find (is_numbered number) files ≡ found → AllByRecursion P (give found)
  by None is = subst (AllByRecursion P) (sym none) tt
  by (Some named) is = let has = found_has (Fact pool dataset) (is_numbered number) files named known is in some named has.0 has.1

pub noted_stand : (pool : PlainPool) (datasets : List HeartDataset) → Facts pool datasets → AllByRecursion (StandsNow pool) (noted_in datasets)
noted_stand pool datasets known =
    all_flat (StandsNow pool) (λ (dataset : HeartDataset). AllByRecursion (Fact pool dataset.id) dataset.files) noted_in_dataset datasets
    (λ dataset files. all_flat_free (StandsNow pool) (λ number. noted_in_file dataset.id (find (is_numbered number) dataset.files)) dataset.changed
    (λ number. of_found (StandsNow pool) (noted_in_file dataset.id) pool dataset.id number dataset.files refl (λ named fact same. file_stands pool dataset.id named fact) files))
    known

-- ---- the changes cover what was touched

-- a marked block is put
mark_put : (dataset file k : ℕ) (held : HeartFile) (marks : List (ℕ × Mark)) → is_touched_by (value_at k marks) ≡ true → list_any (is_put_at dataset file k) (puts_of dataset file held marks) ≡ true
mark_put dataset file k held [] touched = absurd (true≢false (sym touched))
mark_put dataset file k held (e ∷ marks) touched = by (λ there. mark_put dataset file k held marks there) (is_at (nat_cmp k) e.0) refl touched where
  here_put : (touched : Bool) → touched ≡ true → k ≡ e.0 → list_any (is_put_at dataset file k) (cond touched (Put dataset file e.0 (now_of (value_at e.0 held.blocks)) ∷ []) []) ≡ true
  here_put true is same =
      or_left (((dataset == dataset) && (file == file)) && (k == e.0)) false
      (and_from ((dataset == dataset) && (file == file)) (k == e.0) (and_from (dataset == dataset) (file == file) (eq-eqb dataset dataset refl) (eq-eqb file file refl)) (eq-eqb k e.0 same))
  here_put false is same = absurd (true≢false (sym is))

  by : (is_touched_by (value_at k marks) ≡ true → list_any (is_put_at dataset file k) (puts_of dataset file held marks) ≡ true) → (here : Bool) → is_at (nat_cmp k) e.0 ≡ here → is_touched_by (cond here (Some e.1) (value_at k marks)) ≡ true → list_any (is_put_at dataset file k) (puts_of dataset file held (e ∷ marks)) ≡ true
  by rest true is there = any_left (is_put_at dataset file k) (put_of dataset file held e) (puts_of dataset file held marks) (here_put (is_touched_by (Some e.1)) there (at_means k e.0 is))
  by rest false is there = any_right (is_put_at dataset file k) (put_of dataset file held e) (puts_of dataset file held marks) (rest there)

-- the changes that a file is covered by
pub record Covers (changes : List Change) (dataset : ℕ) (named : Named HeartFile) : Type 0 where
  pub puts : (k : ℕ) → is_touched k named.value ≡ true → list_any (is_put_at dataset named.id k) changes ≡ true
  pub sizes : named.value.sized ≡ true → list_any (is_size_of dataset named.id) changes ≡ true

size_noted : (dataset file : ℕ) (held : HeartFile) → held.sized ≡ true → list_any (is_size_of dataset file) (sizes_of dataset file held) ≡ true
size_noted dataset file held sized =
    ap (λ (b : Bool). list_any (is_size_of dataset file) (cond b (Size dataset file held.size ∷ []) [])) sized
    ∙ or_left ((dataset == dataset) && (file == file)) false (and_from (dataset == dataset) (file == file) (eq-eqb dataset dataset refl) (eq-eqb file file refl))

-- what is noted of a changed file is among all that is
among_noted : (test : Change → Bool) (datasets : List HeartDataset) (place : ℕ) (dataset : HeartDataset) (at : ℕ) (named : Named HeartFile) → StandsAt datasets place dataset → StandsAt dataset.files at named → Rises id_of dataset.files
    → holds_number named.id dataset.changed ≡ true → list_any test (noted_in_file dataset.id (Some named)) ≡ true → list_any test (noted_in datasets) ≡ true
among_noted test datasets place dataset at named stands there rises among some =
    any_flat test noted_in_dataset datasets place dataset stands
    (any_number test (λ number. noted_in_file dataset.id (find (is_numbered number) dataset.files)) named.id dataset.changed among
    (ap (λ (found : Option (Named HeartFile)). list_any test (noted_in_file dataset.id found)) (find_is id_of dataset.files at named rises there) ∙ some))

covered : (core : Core) → IsCore core → (place : ℕ) (dataset : HeartDataset) (at : ℕ) (named : Named HeartFile) → StandsAt core.datasets place dataset → StandsAt dataset.files at named → Covers (noted_in core.datasets) dataset.id named
covered core is place dataset at named stands there =
    let rises = all_at (λ (one : HeartDataset). Rises id_of one.files) core.datasets place dataset (files_rise core is) stands in
    let listed : holds_number named.id dataset.changed ≡ false → IsUntouched named =
    all_at (λ (file : Named HeartFile). holds_number file.id dataset.changed ≡ false → IsUntouched file) dataset.files at named (all_at IsDatasetOfCore core.datasets place dataset is.datasets stands).listed there in
    record {
      puts = λ k touched.
          let among : holds_number named.id dataset.changed ≡ true = true_from_ne_false (holds_number named.id dataset.changed) (λ past. true≢false (sym touched ∙ (listed past).1 k)) in
          among_noted (is_put_at dataset.id named.id k) core.datasets place dataset at named stands there rises among
          (any_right (is_put_at dataset.id named.id k) (sizes_of dataset.id named.id named.value) (puts_of dataset.id named.id named.value named.value.marks) (mark_put dataset.id named.id k named.value named.value.marks touched));
      sizes = λ sized.
          let among : holds_number named.id dataset.changed ≡ true = true_from_ne_false (holds_number named.id dataset.changed) (λ past. true≢false (sym sized ∙ (listed past).0)) in
          among_noted (is_size_of dataset.id named.id) core.datasets place dataset at named stands there rises among
          (any_left (is_size_of dataset.id named.id) (sizes_of dataset.id named.id named.value) (puts_of dataset.id named.id named.value named.value.marks) (size_noted dataset.id named.id named.value sized));
    }

pub all_covered : (core : Core) → IsCore core → AllByRecursion (λ (dataset : HeartDataset). AllByRecursion (Covers (noted_in core.datasets) dataset.id) dataset.files) core.datasets
all_covered core is =
    all_standing (λ (dataset : HeartDataset). AllByRecursion (Covers (noted_in core.datasets) dataset.id) dataset.files) core.datasets (λ place dataset stands.
    all_standing (Covers (noted_in core.datasets) dataset.id) dataset.files (λ at named there. covered core is place dataset at named stands there))

-- ---- no two put at one block

once_append : (xs ys : List Change) → AreOnce xs → AreOnce ys → AllByRecursion (λ (change : Change). list_any (is_twice change) ys ≡ false) xs → AreOnce (xs ++ ys)
once_append [] ys once also apart = also
once_append (x ∷ xs) ys once also apart = (none_append (is_twice x) xs ys once.0 apart.0, once_append xs ys once.1 also apart.1)

-- a test that tells the one changes from the others
apart_by : (test : Change → Bool) → ((x y : Change) → test x ≡ true → test y ≡ false → is_twice x y ≡ false) → (xs ys : List Change) → AllByRecursion (λ (x : Change). test x ≡ true) xs → AllByRecursion (λ (y : Change). test y ≡ false) ys
    → AllByRecursion (λ (x : Change). list_any (is_twice x) ys ≡ false) xs
apart_by test tells xs ys all others =
    each_of (λ (x : Change). test x ≡ true) (λ (x : Change). list_any (is_twice x) ys ≡ false) xs
    (λ x passes. none_of (is_twice x) ys (each_of (λ (y : Change). test y ≡ false) (λ (y : Change). is_twice x y ≡ false) ys (λ y fails. tells x y passes fails) others)) all

-- by dataset, by file, by block
abbrev of_dataset : ℕ → Change → Bool
of_dataset d (MakeDataset id slot name) = false
of_dataset d (DropDataset id) = false
of_dataset d (MakeFile dataset file name) = false
of_dataset d (DropFile dataset file) = false
of_dataset d (Size dataset file size) = dataset == d
of_dataset d (Put dataset file block now) = dataset == d

abbrev of_file : ℕ → Change → Bool
of_file f (MakeDataset id slot name) = false
of_file f (DropDataset id) = false
of_file f (MakeFile dataset file name) = false
of_file f (DropFile dataset file) = false
of_file f (Size dataset file size) = file == f
of_file f (Put dataset file block now) = file == f

abbrev of_block : ℕ → Change → Bool
of_block k (MakeDataset id slot name) = false
of_block k (DropDataset id) = false
of_block k (MakeFile dataset file name) = false
of_block k (DropFile dataset file) = false
of_block k (Size dataset file size) = false
of_block k (Put dataset file block now) = block == k

apart_numbers : (a b n : ℕ) → (a == n) ≡ true → (b == n) ≡ false → (a == b) ≡ false
apart_numbers a b n same other = ne_eqb a b (λ one. true≢false (sym (eq-eqb b n (sym one ∙ eqb-true a n same)) ∙ other))

tells_dataset : (d : ℕ) (x y : Change) → of_dataset d x ≡ true → of_dataset d y ≡ false → is_twice x y ≡ false
tells_dataset d (MakeDataset id slot name) y passes fails = refl
tells_dataset d (DropDataset id) y passes fails = refl
tells_dataset d (MakeFile dataset file name) y passes fails = refl
tells_dataset d (DropFile dataset file) y passes fails = refl
tells_dataset d (Size dataset file size) y passes fails = refl
tells_dataset d (Put dataset file block now) (MakeDataset id slot name) passes fails = refl
tells_dataset d (Put dataset file block now) (DropDataset id) passes fails = refl
tells_dataset d (Put dataset file block now) (MakeFile other_dataset other_file name) passes fails = refl
tells_dataset d (Put dataset file block now) (DropFile other_dataset other_file) passes fails = refl
tells_dataset d (Put dataset file block now) (Size other_dataset other_file size) passes fails = refl
tells_dataset d (Put dataset file block now) (Put other_dataset other_file other_block other_now) passes fails = and_left (dataset == other_dataset) ((file == other_file) && (block == other_block)) (apart_numbers dataset other_dataset d passes fails)

tells_file : (f : ℕ) (x y : Change) → of_file f x ≡ true → of_file f y ≡ false → is_twice x y ≡ false
tells_file f (MakeDataset id slot name) y passes fails = refl
tells_file f (DropDataset id) y passes fails = refl
tells_file f (MakeFile dataset file name) y passes fails = refl
tells_file f (DropFile dataset file) y passes fails = refl
tells_file f (Size dataset file size) y passes fails = refl
tells_file f (Put dataset file block now) (MakeDataset id slot name) passes fails = refl
tells_file f (Put dataset file block now) (DropDataset id) passes fails = refl
tells_file f (Put dataset file block now) (MakeFile other_dataset other_file name) passes fails = refl
tells_file f (Put dataset file block now) (DropFile other_dataset other_file) passes fails = refl
tells_file f (Put dataset file block now) (Size other_dataset other_file size) passes fails = refl
tells_file f (Put dataset file block now) (Put other_dataset other_file other_block other_now) passes fails =
    and_right (dataset == other_dataset) ((file == other_file) && (block == other_block)) (and_left (file == other_file) (block == other_block) (apart_numbers file other_file f passes fails))

tells_block : (k : ℕ) (x y : Change) → of_block k x ≡ true → of_block k y ≡ false → is_twice x y ≡ false
tells_block k (MakeDataset id slot name) y passes fails = refl
tells_block k (DropDataset id) y passes fails = refl
tells_block k (MakeFile dataset file name) y passes fails = refl
tells_block k (DropFile dataset file) y passes fails = refl
tells_block k (Size dataset file size) y passes fails = refl
tells_block k (Put dataset file block now) (MakeDataset id slot name) passes fails = refl
tells_block k (Put dataset file block now) (DropDataset id) passes fails = refl
tells_block k (Put dataset file block now) (MakeFile other_dataset other_file name) passes fails = refl
tells_block k (Put dataset file block now) (DropFile other_dataset other_file) passes fails = refl
tells_block k (Put dataset file block now) (Size other_dataset other_file size) passes fails = refl
tells_block k (Put dataset file block now) (Put other_dataset other_file other_block other_now) passes fails =
    and_right (dataset == other_dataset) ((file == other_file) && (block == other_block)) (and_right (file == other_file) (block == other_block) (apart_numbers block other_block k passes fails))

-- the puts of one file
put_is : (P : Change → Type 0) (dataset file : ℕ) (held : HeartFile) (marked : ℕ × Mark) → P (Put dataset file marked.0 (now_of (value_at marked.0 held.blocks))) → AllByRecursion P (put_of dataset file held marked)
put_is P dataset file held marked holds = by (is_touched_by (Some marked.1)) where
  by : (touched : Bool) → AllByRecursion P (cond touched (Put dataset file marked.0 (now_of (value_at marked.0 held.blocks)) ∷ []) [])
  by true = (holds, tt)
  by false = tt

put_once : (dataset file : ℕ) (held : HeartFile) (marked : ℕ × Mark) → AreOnce (put_of dataset file held marked)
put_once dataset file held marked = by (is_touched_by (Some marked.1)) where
  by : (touched : Bool) → AreOnce (cond touched (Put dataset file marked.0 (now_of (value_at marked.0 held.blocks)) ∷ []) [])
  by true = (refl, tt)
  by false = tt

past_block : (dataset file k : ℕ) (held : HeartFile) (marks : List (ℕ × Mark)) → AllByRecursion (λ n. k < n) (keys_of marks) → AllByRecursion (λ (change : Change). of_block k change ≡ false) (puts_of dataset file held marks)
past_block dataset file k held [] above = tt
past_block dataset file k held (e ∷ marks) above =
    all_append (λ (change : Change). of_block k change ≡ false) (put_of dataset file held e) (puts_of dataset file held marks)
    (put_is (λ (change : Change). of_block k change ≡ false) dataset file held e (ne_eqb e.0 k (λ same. absurd (omega (arith, above.0)))))
    (past_block dataset file k held marks above.1)

puts_once : (dataset file : ℕ) (held : HeartFile) (marks : List (ℕ × Mark)) → Ascends marks → AreOnce (puts_of dataset file held marks)
unfolding IsStrictlySortedBy
puts_once dataset file held [] rise = tt
puts_once dataset file held (e ∷ marks) rise =
    once_append (put_of dataset file held e) (puts_of dataset file held marks) (put_once dataset file held e) (puts_once dataset file held marks rise.1)
    (apart_by (of_block e.0) (tells_block e.0) (put_of dataset file held e) (puts_of dataset file held marks)
    (put_is (λ (change : Change). of_block e.0 change ≡ true) dataset file held e (eq-eqb e.0 e.0 refl))
    (past_block dataset file e.0 held marks (keys_above e.0 (keys_of marks) rise.0)))

-- what is noted of one file
file_is : (P : Change → Type 0) (dataset : ℕ) (named : Named HeartFile) → P (Size dataset named.id named.value.size) → ((block : ℕ) (now : Now) → P (Put dataset named.id block now)) → AllByRecursion P (noted_in_file dataset (Some named))
file_is P dataset named size put =
    all_append P (sizes_of dataset named.id named.value) (puts_of dataset named.id named.value named.value.marks) (by named.value.sized)
    (all_flat_free P (put_of dataset named.id named.value) named.value.marks (λ marked. put_is P dataset named.id named.value marked (put marked.0 (now_of (value_at marked.0 named.value.blocks)))))
  where
    by : (sized : Bool) → AllByRecursion P (cond sized (Size dataset named.id named.value.size ∷ []) [])
    by true = (size, tt)
    by false = tt

found_once : (dataset : ℕ) (found : Option (Named HeartFile)) → HasMarks found → AreOnce (noted_in_file dataset found)
found_once dataset None marks = tt
found_once dataset (Some named) marks =
    once_append (sizes_of dataset named.id named.value) (puts_of dataset named.id named.value named.value.marks) (once named.value.sized) (puts_once dataset named.id named.value named.value.marks marks) (apart named.value.sized)
  where
    once : (sized : Bool) → AreOnce (cond sized (Size dataset named.id named.value.size ∷ []) [])
    once true = (refl, tt)
    once false = tt

    none : (ys : List Change) → list_any (is_twice (Size dataset named.id named.value.size)) ys ≡ false
    none [] = refl
    none (y ∷ ys) = none ys

    apart : (sized : Bool) → AllByRecursion (λ (change : Change). list_any (is_twice change) (puts_of dataset named.id named.value named.value.marks) ≡ false) (cond sized (Size dataset named.id named.value.size ∷ []) [])
    apart true = (none (puts_of dataset named.id named.value named.value.marks), tt)
    apart false = tt

-- what is noted of the file with a number
found_is : (dataset number : ℕ) (files : List (Named HeartFile)) (P : Change → Type 0) → ((size : ℕ) → P (Size dataset number size)) → ((block : ℕ) (now : Now) → P (Put dataset number block now))
    → AllByRecursion P (noted_in_file dataset (find (is_numbered number) files))
found_is dataset number files P size put = by (find (is_numbered number) files) refl where
  all_there : (files : List (Named HeartFile)) → AllByRecursion (λ (named : Named HeartFile). Unit {0}) files
  all_there [] = tt
  all_there (named ∷ files) = (tt, all_there files)

  by : (found : Option (Named HeartFile)) → find (is_numbered number) files ≡ found → AllByRecursion P (noted_in_file dataset found)
  by None is = tt
  by (Some named) is =
      let has = found_has (λ (one : Named HeartFile). Unit {0}) (is_numbered number) files named (all_there files) is in
      let same : named.id ≡ number = eqb-true named.id number has.1 in
      file_is P dataset named (subst (λ n. P (Size dataset n named.value.size)) (sym same) (size named.value.size)) (λ block now. subst (λ n. P (Put dataset n block now)) (sym same) (put block now))

files_once : (dataset : ℕ) (files : List (Named HeartFile)) (numbers : List ℕ) → AreMarked files numbers → IsStrictlySortedBy nat_cmp numbers → AreOnce (noted_in_files dataset files numbers)
unfolding IsStrictlySortedBy
files_once dataset files [] marked rise = tt
files_once dataset files (number ∷ numbers) marked rise =
    let one = noted_in_file dataset (find (is_numbered number) files) in
    let rest = noted_in_files dataset files numbers in
    once_append one rest (found_once dataset (find (is_numbered number) files) marked.0) (files_once dataset files numbers marked.1 rise.1)
    (apart_by (of_file number) (tells_file number) one rest
    (found_is dataset number files (λ (change : Change). of_file number change ≡ true) (λ size. eq-eqb number number refl) (λ block now. eq-eqb number number refl))
    (all_flat (λ (change : Change). of_file number change ≡ false) (λ other. number < other) (λ other. noted_in_file dataset (find (is_numbered other) files)) numbers
    (λ other above. found_is dataset other files (λ (change : Change). of_file number change ≡ false) (λ size. ne_eqb other number (λ same. absurd (omega arith))) (λ block now. ne_eqb other number (λ same. absurd (omega arith))))
    (keys_above number numbers rise.0)))

-- what is noted of a dataset is of it
dataset_is : (P : Change → Type 0) (dataset : HeartDataset) → ((file size : ℕ) → P (Size dataset.id file size)) → ((file block : ℕ) (now : Now) → P (Put dataset.id file block now)) → AllByRecursion P (noted_in_dataset dataset)
dataset_is P dataset size put = all_flat_free P (λ number. noted_in_file dataset.id (find (is_numbered number) dataset.files)) dataset.changed (λ number. found_is dataset.id number dataset.files P (λ bytes. size number bytes) (λ block now. put number block now))

pub noted_once : (datasets : List HeartDataset) → Rises (λ (dataset : HeartDataset). dataset.id) datasets → AllByRecursion IsMarked datasets → AreOnce (noted_in datasets)
noted_once [] rises marked = tt
noted_once (dataset ∷ datasets) rises marked =
    once_append (noted_in_dataset dataset) (noted_in datasets) (files_once dataset.id dataset.files dataset.changed marked.0.0 marked.0.1) (noted_once datasets rises.1 marked.1)
    (apart_by (of_dataset dataset.id) (tells_dataset dataset.id) (noted_in_dataset dataset) (noted_in datasets)
    (dataset_is (λ (change : Change). of_dataset dataset.id change ≡ true) dataset (λ file size. eq-eqb dataset.id dataset.id refl) (λ file block now. eq-eqb dataset.id dataset.id refl))
    (all_flat (λ (change : Change). of_dataset dataset.id change ≡ false) (λ (other : HeartDataset). dataset.id < other.id) noted_in_dataset datasets
    (λ other above. dataset_is (λ (change : Change). of_dataset dataset.id change ≡ false) other (λ file size. ne_eqb other.id dataset.id (λ same. absurd (omega arith))) (λ file block now. ne_eqb other.id dataset.id (λ same. absurd (omega arith))))
    rises.0))

-- a log in front puts nothing
pub once_after_log : (log changes : List Change) → AllByRecursion (λ (change : Change). is_noted change ≡ false) log → AreOnce changes → AreOnce (log ++ changes)
once_after_log [] changes free once = once
once_after_log (change ∷ log) changes free once = (none change (log ++ changes) free.0, once_after_log log changes free.1 once) where
  none : (change : Change) (ys : List Change) → is_noted change ≡ false → list_any (is_twice change) ys ≡ false
  none change [] free = refl
  none (MakeDataset id slot name) (y ∷ ys) free = none (MakeDataset id slot name) ys free
  none (DropDataset id) (y ∷ ys) free = none (DropDataset id) ys free
  none (MakeFile dataset file name) (y ∷ ys) free = none (MakeFile dataset file name) ys free
  none (DropFile dataset file) (y ∷ ys) free = none (DropFile dataset file) ys free
  none (Size dataset file size) (y ∷ ys) free = absurd (true≢false free)
  none (Put dataset file block now) (y ∷ ys) free = absurd (true≢false free)

-- ---- what stands

pub stand_as_told : (pool : PlainPool) (change : Change) → StandsNow pool change → Stands pool change
stand_as_told pool (MakeDataset id slot name) stands = tt
stand_as_told pool (DropDataset id) stands = tt
stand_as_told pool (MakeFile dataset file name) stands = tt
stand_as_told pool (DropFile dataset file) stands = tt
stand_as_told pool (Size dataset file size) stands = tt
stand_as_told pool (Put dataset file block now) stands = stands

pub log_stands : (pool : PlainPool) (change : Change) → is_noted change ≡ false → Stands pool change
log_stands pool (MakeDataset id slot name) free = tt
log_stands pool (DropDataset id) free = tt
log_stands pool (MakeFile dataset file name) free = tt
log_stands pool (DropFile dataset file) free = tt
log_stands pool (Size dataset file size) free = tt
log_stands pool (Put dataset file block now) free = absurd (true≢false free)

-- ---- the stamps of what is put

placed_append : (placing : Placing) (pool : PlainPool) (xs ys : List Change) → placed_by_all placing pool (xs ++ ys) ≡ placed_by_all placing pool xs ++ placed_by_all placing pool ys
placed_append placing pool xs ys = flat_append xs where
  flat_append : (xs : List Change) → placed_by_all placing pool (xs ++ ys) ≡ placed_by_all placing pool xs ++ placed_by_all placing pool ys
  flat_append [] = refl
  flat_append (x ∷ xs) = ap (λ (rest : List Ptr). placed_by placing pool x ++ rest) (flat_append xs) ∙ sym (append_assoc (placed_by placing pool x) (placed_by_all placing pool xs) (placed_by_all placing pool ys))

-- where stamps and changes go together item by item, they do in all
flat_together : {X : Type 0} (places : Where) (pool : PlainPool) (f : X → List Stamp) (g : X → List Change) (xs : List X) → AllByRecursion (λ x. placed_at places (f x) ≡ placed_by_all (by_stamp places) pool (g x)) xs
    → placed_at places (flat_map f xs) ≡ placed_by_all (by_stamp places) pool (flat_map g xs)
flat_together places pool f g [] all = refl
flat_together places pool f g (x ∷ xs) all =
    map-append (λ (stamp : Stamp). places stamp.entry stamp.index) (f x) (flat_map f xs)
    ∙ (λ i. all.0 i ++ flat_together places pool f g xs all.1 i)
    ∙ sym (placed_append (by_stamp places) pool (g x) (flat_map g xs))

all_free : {X : Type 0} (P : X → Type 0) (xs : List X) → ((x : X) → P x) → AllByRecursion P xs
all_free P [] step = tt
all_free P (x ∷ xs) step = (step x, all_free P xs step)

-- one put
put_placed : (places : Where) (pool : PlainPool) (dataset : ℕ) (named : Named HeartFile) (marked : ℕ × Mark) → Fact pool dataset named → placed_at places (stamp_put named.value marked) ≡ placed_by_all (by_stamp places) pool (put_of dataset named.id named.value marked)
put_placed places pool dataset named marked fact = by (is_touched_by (Some marked.1)) where
  there : (held : Option (Option HeldBlock)) → plain_block held ≡ block_in (files_with dataset named.id pool) marked.0
      → placed_at places (stamp_of_held held) ≡ placed_by_all (by_stamp places) pool (Put dataset named.id marked.0 (now_of held) ∷ [])
  there None is = refl
  there (Some None) is = refl
  there (Some (Some held)) is = ap (λ (block : PlainBlock). stamp_placed (by_stamp places) block ++ []) is

  by : (touched : Bool) → placed_at places (cond touched (stamp_of_held (value_at marked.0 named.value.blocks)) []) ≡ placed_by_all (by_stamp places) pool (cond touched (Put dataset named.id marked.0 (now_of (value_at marked.0 named.value.blocks)) ∷ []) [])
  by true = there (value_at marked.0 named.value.blocks) (sym (fact.at marked.0) ∙ ap (λ (files : List PlainFile). block_in files marked.0) (sym fact.only))
  by false = refl

-- one file
file_placed : (places : Where) (pool : PlainPool) (dataset : ℕ) (named : Named HeartFile) → Fact pool dataset named → placed_at places (stamps_in_file (Some named)) ≡ placed_by_all (by_stamp places) pool (noted_in_file dataset (Some named))
file_placed places pool dataset named fact =
    flat_together places pool (stamp_put named.value) (put_of dataset named.id named.value) named.value.marks
    (all_free (λ (marked : ℕ × Mark). placed_at places (stamp_put named.value marked) ≡ placed_by_all (by_stamp places) pool (put_of dataset named.id named.value marked)) named.value.marks (λ marked. put_placed places pool dataset named marked fact))
    ∙ ap (λ (front : List Ptr). front ++ placed_by_all (by_stamp places) pool (puts_of dataset named.id named.value named.value.marks)) (by named.value.sized)
    ∙ sym (placed_append (by_stamp places) pool (sizes_of dataset named.id named.value) (puts_of dataset named.id named.value named.value.marks))
  where
    by : (sized : Bool) → [] ≡ placed_by_all (by_stamp places) pool (cond sized (Size dataset named.id named.value.size ∷ []) [])
    by true = refl
    by false = refl

pub noted_placed : (places : Where) (pool : PlainPool) (datasets : List HeartDataset) → Facts pool datasets → placed_at places (stamps_in_all datasets) ≡ placed_by_all (by_stamp places) pool (noted_in datasets)
noted_placed places pool datasets known =
    flat_together places pool stamps_in_dataset noted_in_dataset datasets
    (each_of (λ (dataset : HeartDataset). AllByRecursion (Fact pool dataset.id) dataset.files) (λ (dataset : HeartDataset). placed_at places (stamps_in_dataset dataset) ≡ placed_by_all (by_stamp places) pool (noted_in_dataset dataset)) datasets
    (λ dataset files. flat_together places pool (λ number. stamps_in_file (find (is_numbered number) dataset.files)) (λ number. noted_in_file dataset.id (find (is_numbered number) dataset.files)) dataset.changed
    (all_free (λ number. placed_at places (stamps_in_file (find (is_numbered number) dataset.files)) ≡ placed_by_all (by_stamp places) pool (noted_in_file dataset.id (find (is_numbered number) dataset.files))) dataset.changed
    (λ number. at dataset number files)))
    known)
  where
    at : (dataset : HeartDataset) (number : ℕ) → AllByRecursion (Fact pool dataset.id) dataset.files
        → placed_at places (stamps_in_file (find (is_numbered number) dataset.files)) ≡ placed_by_all (by_stamp places) pool (noted_in_file dataset.id (find (is_numbered number) dataset.files))
    at dataset number files = by (find (is_numbered number) dataset.files) refl where
      by : (found : Option (Named HeartFile)) → find (is_numbered number) dataset.files ≡ found → placed_at places (stamps_in_file found) ≡ placed_by_all (by_stamp places) pool (noted_in_file dataset.id found)
      by None is = refl
      by (Some named) is = file_placed places pool dataset.id named (found_has (Fact pool dataset.id) (is_numbered number) dataset.files named files is).0
