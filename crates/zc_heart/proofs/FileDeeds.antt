-- What a heart becomes once bytes were put into a file or its size was set, and what it is where memory was wanting.
use Rattle.std.proofs.Common.{◌≡◌, ◌≢◌, ℕ, zero, suc, ◌+◌, ◌*◌, ◌/◌, ◌<◌, ◌≤◌, ◌&&◌, ◌||◌, nat_le, nat_lt, max, Bool, true, false, List, [], ◌∷◌, length, map, Some, refl, sym, ap, subst, ◌∙◌, ⊎_elim, arith}
use Rattle.std.specs.Prelude.{not, find, flat_map, count_by, if◌then◌else◌}
use Rattle.std.specs.List.{AllByRecursion}
use Rattle.std.proofs.lemmas.Bool.{cases_Bool, cases_lt, cases_eq, eqb-true, le-leb, lt-leb, lt-ltb, le-ltb, ltb-true, and_parts}
use Rattle.std.proofs.lemmas.Option.{slice_get_within}
use Rattle.zc_num.specs.Words.{each, change_at}
use Rattle.zc_num.proofs.Changes.{set_as_change_at, get_of_change_at}
use Rattle.zc_num.proofs.Each.{length_each, get_of_each, each_none}
use Rattle.zc_plain.proofs.Counted.{added_none}
use Rattle.zc_plain.specs.declared.finding.Path.{Path}
use Rattle.zc_plain.specs.declared.plain_pool.PlainBlock.{PlainBlock}
use Rattle.zc_plain.specs.declared.plain_pool.PlainFile.{PlainFile}
use Rattle.zc_plain.specs.declared.plain_pool.PlainDataset.{PlainDataset}
use Rattle.zc_plain.specs.declared.tally.MadeBlock.{MadeBlock}
use Rattle.zc_plain.specs.declared.tally.Tally.{Tally}
use Rattle.zc_plain.specs.PlainPool.{blocks_of_size, block_at, dataset_at, in_dataset, in_files}
use Rattle.zc_plain.specs.Putting.{first_touched, touched_count}
use Rattle.zc_plain.specs.Written.{touches, made_block, written_block, written}
use Rattle.zc_plain.specs.Truncated.{is_inside, is_trimmed, trimmed_block, truncated_block, truncated}
use Rattle.zc_plain.specs.Charge.{is_stamp, stamp_of, is_block, with_each, block_made, blocks_made, with_blocks}
use Rattle.zc_plain.specs.IsPlain.{StandsAt, IsPlainFile, IsPlain}
use Rattle.zc_plain.specs.Answer.{most_files, most_bytes, most_charge}
use Rattle.zc_plain.proofs.NumberedLaws.{one_item, no_item}
use Rattle.zc_plain.proofs.Together.{touched, untouched_before, untouched_after}
use Rattle.zc_plain.proofs.WrittenLaws.{plain_once_written, id_of_written, name_of_written}
use Rattle.zc_plain.proofs.TruncatedLaws.{plain_once_truncated, id_of_truncated, name_of_truncated}
use Rattle.zc_plain.proofs.PlainLaws.{plain_in_file, short_once_written, short_once_truncated}
use Rattle.zc_heart.specs.declared.file.HeartFile.{HeartFile}
use Rattle.zc_heart.specs.declared.directory.Named.{Named}
use Rattle.zc_heart.specs.declared.dataset.Spot.{Spot}
use Rattle.zc_heart.specs.declared.pool_core.HeartDataset.{HeartDataset}
use Rattle.zc_heart.specs.declared.pool_core.Core.{Core}
use Rattle.zc_heart.specs.declared.stamps.Stamps.{Stamps}
use Rattle.zc_heart.specs.Directory.{id_of, is_numbered, with_value}
use Rattle.zc_heart.specs.Stamps.{holds_number}
use Rattle.zc_heart.specs.Changes.{change_by}
use Rattle.zc_heart.specs.File.{bare, unmade_in, StaysFile, StaysCounted, Marks, CountsChange}
use Rattle.zc_heart.specs.Steps.{is_within}
use Rattle.zc_heart.specs.Core.{plain_file, plain_dataset, plain_blocks, pool_of, charge, made_waiting, is_made, Agrees, IsUntouched, IsMadeBy, IsStamped, IsDatasetOfCore, IsCore}
use Rattle.zc_heart.specs.Meaning.{Commands}
use Rattle.zc_heart.specs.Deeds.{said_of, unmade_on, trimmed_count, trimmed_on, with_file_changed, blocks_there, Becomes, IsLeft, ChangesFileAt, IsNoted, Puts, Cuts, Keeps}
use Rattle.zc_heart.specs.Deeds.{PutBytes, SetSize}
use Rattle.std.specs.Option.{option_map}
use Rattle.zc_heart.proofs.Listing.{holds_there, holds_of_each, stands_in_map, found_by_number, FindsAt, FindsNone, finds, changed_by_number, changed_to}
use Rattle.zc_heart.proofs.LogLaws.{changed_to_itself}
use Rattle.zc_heart.proofs.Spots.{dataset_is, dataset_is_plain, files_ascend, IsAt, file_on_is}
use Rattle.zc_heart.proofs.FileSteps.{Step, pool_after_step, areas_after_step, core_after_step, leads_after_step, knows_after_step, agrees_after_step, later_file}
use Rattle.zc_heart.proofs.AnswerLaws.{changed_same}

-- ---- what is found stands somewhere

pub record Stands {X : Type 0} (test : X → Bool) (xs : List X) (x : X) : Type 0 where
  pub at : ℕ
  pub there : StandsAt xs at x
  pub passes : test x ≡ true

pub found_stands : {X : Type 0} (test : X → Bool) (xs : List X) (x : X) → find test xs ≡ Some x → Stands test xs x
found_stands {X} test xs x found =
    ⊎_elim
    (λ (one : FindsAt test 0 xs).
    let same = one_item one.item x (sym one.found ∙ found) in
    record { at = one.at; there = subst (λ (y : X). StandsAt xs one.at y) same one.stands; passes = subst (λ (y : X). test y ≡ true) same one.passes })
    (λ (none : FindsNone test 0 xs). no_item x (sym none.found ∙ found))
    (finds test 0 xs)

-- ---- the steps

module _ (spot : Spot) (change : PlainFile → PlainFile) (makes : ℕ → Bool) (Change : HeartFile → HeartFile → Type 0) (old new : Core) (is : IsCore old)
    (changes : ChangesFileAt spot Change old.datasets new.datasets)
    (changed : plain_file (with_value changes.changes.file changes.changes.was) ≡ change (plain_file changes.changes.was))
    (marks : Marks makes changes.changes.was.value changes.changes.file)
    (counts : CountsChange old.stamps new.stamps changes.changes.was.value changes.changes.file)
    (listed : holds_number spot.id changes.behind.changed ≡ false → (holds_number spot.id changes.was.changed ≡ false → IsUntouched changes.changes.was) → IsUntouched (with_value changes.changes.file changes.changes.was))
    (limits : new.limits ≡ old.limits) (group : new.group ≡ old.group) (next_dataset : new.next_dataset ≡ old.next_dataset) (log : new.log ≡ old.log) (held : new.held ≡ old.held) (waiting : new.waiting ≡ old.waiting) where
  abbrev pub step_of : Step spot change makes old new
  step_of =
      let one = changes.changes in
      let found = found_stands (is_numbered spot.id) changes.was.files one.was one.there in
      let numbered = eqb-true one.was.id spot.id found.passes in
      let dataset = holds_there IsDatasetOfCore old.datasets spot.place changes.was is.datasets changes.there in
      let ascend = files_ascend (most_files (pool_of old)) (most_bytes (pool_of old)) changes.was (dataset_is_plain old spot.place changes.was is.plain changes.there) in
      record {
        dataset = changes.was;
        stands = changes.there;
        at = found.at;
        named = one.was;
        there = found.there;
        numbered = numbered;
        file = one.file;
        is = one.is;
        changed = changed;
        marks = marks;
        counts = counts;
        behind = changes.behind;
        id = ap (λ (d : HeartDataset). d.id) one.dataset;
        area = ap (λ (d : HeartDataset). d.area) one.dataset;
        name = ap (λ (d : HeartDataset). d.name) one.dataset;
        next_file = ap (λ (d : HeartDataset). d.next_file) one.dataset;
        files =
            ap (λ (d : HeartDataset). d.files) one.dataset
            ∙ ap (λ (id : ℕ). change_by id_of id (with_value one.file) changes.was.files) (sym numbered)
            ∙ changed_by_number id_of (with_value one.file) changes.was.files found.at one.was ascend found.there
            ∙ changed_to (with_value one.file) found.at changes.was.files one.was found.there;
        pointers = one.pointers;
        noted = one.noted;
        listed = λ missing. listed missing
            (λ was_missing. holds_there (λ (n : Named HeartFile). holds_number n.id changes.was.changed ≡ false → IsUntouched n) changes.was.files found.at one.was dataset.listed found.there
            (ap (λ (id : ℕ). holds_number id changes.was.changed) numbered ∙ was_missing));
        datasets = changes.datasets ∙ set_as_change_at (λ _. changes.behind) spot.place old.datasets changes.was changes.behind changes.there refl;
        limits = limits;
        group = group;
        next_dataset = next_dataset;
        log = log;
        held = held;
        waiting = waiting;
      }

-- ---- what it becomes

-- the path of a step's file
abbrev pub path_of_step : (spot : Spot) (change : PlainFile → PlainFile) (makes : ℕ → Bool) (old new : Core) → Step spot change makes old new → Path
path_of_step spot change makes old new step = record { dataset = spot.place; file = step.at }

module _ (spot : Spot) (change : PlainFile → PlainFile) (makes : ℕ → Bool) (old new : Core) (step : Step spot change makes old new) (is : IsCore old) where
  abbrev pub at_step : IsAt (path_of_step spot change makes old new step) spot old
  at_step = record {
    dataset = step.dataset;
    stands = step.stands;
    file = step.named;
    there = step.there;
    place = refl;
    id = sym step.numbered;
    found =
        ap (λ (id : ℕ). find (is_numbered id) step.dataset.files) (sym step.numbered)
        ∙ found_by_number id_of step.dataset.files step.at step.named (files_ascend (most_files (pool_of old)) (most_bytes (pool_of old)) step.dataset (dataset_is_plain old spot.place step.dataset is.plain step.stands)) step.there;
  }

  pool_by_number : pool_of new ≡ in_dataset spot.place (with_file_changed spot.id change) (pool_of old)
  pool_by_number = pool_after_step spot change makes old new step ∙ changed_same (path_of_step spot change makes old new step) spot old is at_step change

  plain_later : ((file : PlainFile) → (change file).id ≡ file.id) → ((file : PlainFile) → (change file).name ≡ file.name) → ((file : PlainFile) → IsPlainFile file → IsPlainFile (change file))
      → ((file : PlainFile) → file.size ≤ most_bytes (pool_of old) → (change file).size ≤ most_bytes (pool_of old)) → IsPlain (pool_of new)
  plain_later keeps_id keeps_name keeps_plain keeps_short =
      rw (pool_after_step spot change makes old new step) (plain_in_file (path_of_step spot change makes old new step) change (pool_of old) keeps_id keeps_name keeps_plain keeps_short is.plain)

  dataset_id : (dataset_at spot.place (pool_of old)).id ≡ step.dataset.id
  dataset_id = ap (λ (d : PlainDataset). d.id) (dataset_is old spot.place step.dataset step.stands)

  unmade_there : (first count : ℕ) → unmade_on first count spot old ≡ unmade_in first count step.named.value
  unmade_there first count = ap (said_of 0 (unmade_in first count)) (file_on_is (path_of_step spot change makes old new step) spot old at_step)

  few_later : (more : ℕ) → new.made ≡ old.made + more → charge old + more ≤ most_charge (pool_of old) → made_waiting new + new.made ≤ 131072
  few_later more made fits = rw (step.waiting, made) (omega (arith, fits, old.limits.are_limits.few_places))

  agrees_there : (tally : Tally) (first count : ℕ) → ((k : ℕ) → makes k ≡ is_within first (first + count) k) → new.made ≡ old.made + unmade_on first count spot old → Agrees tally old → Agrees (with_blocks (blocks_there tally first count spot old) tally) new
  agrees_there tally first count within more agrees =
      subst (λ (id : ℕ). Agrees (with_blocks (blocks_made tally id spot.id first count) tally) new) (sym dataset_id)
      (agrees_after_step spot change makes old new step tally first count is.plain within (more ∙ ap (λ (n : ℕ). old.made + n) (unmade_there first count)) agrees)

  commands_after : Commands old new
  commands_after = record { leads = leads_after_step spot change makes old new step; knows = knows_after_step spot change makes old new step; group = step.group; waiting = step.waiting; limits = step.limits }

-- ---- a write

-- which blocks the bytes touch
touches_within : (offset len k : ℕ) → 0 < len → touches offset len k ≡ is_within (first_touched offset) (first_touched offset + touched_count offset len) k
touches_within offset len k some =
    let first = first_touched offset in
    let ends : first + touched_count offset len ≡ blocks_of_size (offset + len) = omega arith in
    rw ends
    (⊎_elim
    (λ (before : k < first).
    let none : nat_le first k ≡ false = lt-leb first k before in
    rw none (untouched_before offset len k before))
    (λ (from : first ≤ k).
    let some_first : nat_le first k ≡ true = le-leb first k from in
    ⊎_elim
    (λ (until : k < blocks_of_size (offset + len)). let inside : nat_lt k (blocks_of_size (offset + len)) ≡ true = lt-ltb k (blocks_of_size (offset + len)) until in rw (some_first, inside) (touched offset len k some from until))
    (λ (behind : blocks_of_size (offset + len) ≤ k). let outside : nat_lt k (blocks_of_size (offset + len)) ≡ false = le-ltb k (blocks_of_size (offset + len)) behind in rw (some_first, outside) (untouched_after offset len k behind))
    (cases_lt k (blocks_of_size (offset + len))))
    (cases_lt k first))

-- what holds of each item holds of the list of them
all_of_each : {X : Type 0} (P : X → Type 0) (n : ℕ) (f : ℕ → X) → ((k : ℕ) → P (f k)) → AllByRecursion P (each n f)
all_of_each {X} P n f holds =
    holds_of_each P (each n f)
    (λ at x stands.
    let within : at < n = let inside = slice_get_within (each n f) at x stands in let long = length_each n f in omega (arith, inside, long) in
    subst P (one_item (f at) x (sym (get_of_each n f at within) ∙ stands)) (holds at))

-- the block at a place was made by a command that made one of the blocks
block_made_by : (last : ℕ) (blocks : List PlainBlock) (k : ℕ) → AllByRecursion (IsMadeBy last) blocks → IsMadeBy last (block_at k blocks)
block_made_by last [] k are = tt
block_made_by last (block ∷ blocks) zero are = are.0
block_made_by last (block ∷ blocks) (suc k) are = block_made_by last blocks k are.1

written_made_by : (number offset : ℕ) (bytes : List ℕ) (blocks : List PlainBlock) (k : ℕ) → AllByRecursion (IsMadeBy number) blocks → IsMadeBy number (written_block number offset bytes blocks k)
unfolding written_block made_block
written_made_by number offset bytes blocks k are =
    ⊎_elim
    (λ (here : touches offset (length bytes) k ≡ true). rw here (omega arith))
    (λ (beside : touches offset (length bytes) k ≡ false). rw beside (block_made_by number blocks k are))
    (cases_Bool (touches offset (length bytes) k))

-- a file with bytes written into it, under its number and its name
pub written_named : (number offset : ℕ) (bytes : List ℕ) (named : Named HeartFile) (file : HeartFile) → bare file ≡ written number offset bytes (bare named.value) → plain_file (with_value file named) ≡ written number offset bytes (plain_file named)
unfolding written
written_named number offset bytes named file is =
    ap (λ (size : ℕ). record { id = named.id; name = named.name; size = size; blocks = plain_blocks file }) (ap (λ (f : PlainFile). f.size) is)
    ∙ ap (λ (blocks : List PlainBlock). record { id = named.id; name = named.name; size = max named.value.size (offset + length bytes); blocks = blocks }) (ap (λ (f : PlainFile). f.blocks) is)

-- its blocks were made by the command, or before
written_made : (number offset : ℕ) (bytes : List ℕ) (was file : HeartFile) → bare file ≡ written number offset bytes (bare was) → AllByRecursion (IsMadeBy number) (plain_blocks was) → AllByRecursion (IsMadeBy number) (plain_blocks file)
unfolding written
written_made number offset bytes was file is are =
    subst (AllByRecursion (IsMadeBy number)) (sym (ap (λ (f : PlainFile). f.blocks) is))
    (all_of_each (IsMadeBy number) (blocks_of_size (max was.size (offset + length bytes))) (written_block number offset bytes (plain_blocks was)) (λ k. written_made_by number offset bytes (plain_blocks was) k are))

-- the file was changed, and its dataset says so
pub not_missing : {X : Type 0} (spot : Spot) (datasets : List HeartDataset) (dataset : HeartDataset) → IsNoted spot datasets → StandsAt datasets spot.place dataset → holds_number spot.id dataset.changed ≡ false → X
not_missing spot datasets dataset noted stands missing = let both : true ≡ false = sym (noted dataset stands) ∙ missing in absurd (no_truth both)
  where
    no_truth : true ≡ false → ⊥
    no_truth e = cc

-- the dataset that was changed stands where it stood
pub after_stands : (spot : Spot) (Change : HeartFile → HeartFile → Type 0) (old new : List HeartDataset) (changes : ChangesFileAt spot Change old new) → StandsAt new spot.place changes.behind
after_stands spot Change old new changes =
    subst (λ (ds : List HeartDataset). StandsAt ds spot.place changes.behind)
    (sym (changes.datasets ∙ set_as_change_at (λ _. changes.behind) spot.place old changes.was changes.behind changes.there refl))
    (get_of_change_at (λ _. changes.behind) spot.place old ∙ ap (option_map (λ _. changes.behind)) changes.there)

-- the heart with these datasets and counts, and so many more made blocks, the last by this command
abbrev pub with_changed : List HeartDataset → Stamps → (made last : ℕ) → Core → Core
with_changed datasets stamps made last core = record core { datasets = datasets; stamps = stamps; made = made; last = last }

module _ (spot : Spot) (number offset : ℕ) (bytes : List ℕ) (datasets : List HeartDataset) (stamps : Stamps) (old : Core) (is : IsCore old) where
  abbrev pub put_after : Core
  put_after = with_changed datasets stamps (old.made + unmade_on (first_touched offset) (touched_count offset (length bytes)) spot old) number old

  abbrev pub put_step : ChangesFileAt spot (Puts number offset bytes old.stamps stamps) old.datasets datasets → IsNoted spot datasets → Step spot (written number offset bytes) (touches offset (length bytes)) old put_after
  put_step changes noted =
      step_of spot (written number offset bytes) (touches offset (length bytes)) (Puts number offset bytes old.stamps stamps) old put_after is changes
      (written_named number offset bytes changes.changes.was changes.changes.file changes.changes.change.0.file) changes.changes.change.0.marks changes.changes.change.1
      (λ missing before. not_missing spot datasets changes.behind noted (after_stands spot (Puts number offset bytes old.stamps stamps) old.datasets datasets changes) missing)
      refl refl refl refl refl refl

  put_made_by : (changes : ChangesFileAt spot (Puts number offset bytes old.stamps stamps) old.datasets datasets) → old.last ≤ number → (at : ℕ) → StandsAt changes.was.files at changes.changes.was → AllByRecursion (IsMadeBy number) (plain_blocks changes.changes.file)
  put_made_by changes later at there =
      let stamped = holds_there (IsStamped old.last) (map plain_dataset old.datasets) spot.place (plain_dataset changes.was) is.stamped (stands_in_map plain_dataset old.datasets spot.place changes.was changes.there) in
      let file = holds_there (λ (f : PlainFile). AllByRecursion (IsMadeBy old.last) f.blocks) (map plain_file changes.was.files) at (plain_file changes.changes.was) stamped (stands_in_map plain_file changes.was.files at changes.changes.was there) in
      written_made number offset bytes changes.changes.was.value changes.changes.file changes.changes.change.0.file (later_file old.last number later (plain_file changes.changes.was) file)

  pub becomes_put : ChangesFileAt spot (Puts number offset bytes old.stamps stamps) old.datasets datasets → IsNoted spot datasets → old.last < number → 0 < length bytes → offset + length bytes ≤ most_bytes (pool_of old)
      → charge old + unmade_on (first_touched offset) (touched_count offset (length bytes)) spot old ≤ most_charge (pool_of old) → Becomes (PutBytes number spot offset bytes) old put_after
  becomes_put changes noted later some ends fits =
      let step = put_step changes noted in
      let found = found_stands (is_numbered spot.id) changes.was.files changes.changes.was changes.changes.there in
      record {
        is = core_after_step spot (written number offset bytes) (touches offset (length bytes)) old put_after step
            (plain_later spot (written number offset bytes) (touches offset (length bytes)) old put_after step is (id_of_written number offset bytes) (name_of_written number offset bytes) (plain_once_written number offset bytes)
            (λ file short. short_once_written (most_bytes (pool_of old)) number offset bytes file short ends))
            is.held
            (few_later spot (written number offset bytes) (touches offset (length bytes)) old put_after step is (unmade_on (first_touched offset) (touched_count offset (length bytes)) spot old) refl fits)
            (omega (arith, later)) (put_made_by changes (omega (arith, later)) found.at found.there) is;
        pool = pool_by_number spot (written number offset bytes) (touches offset (length bytes)) old put_after step is;
        agrees = λ tally agrees. agrees_there spot (written number offset bytes) (touches offset (length bytes)) old put_after step is tally (first_touched offset) (touched_count offset (length bytes))
            (λ k. touches_within offset (length bytes) k some) refl agrees;
        commands = commands_after spot (written number offset bytes) (touches offset (length bytes)) old put_after step is;
        last = refl;
      }

-- ---- a truncation

-- which block is trimmed
trimmed_within : (old size : ℕ) (blocks : List PlainBlock) (k : ℕ) → is_trimmed old size blocks k ≡ is_within (size / 4096) (size / 4096 + (if is_trimmed old size blocks (size / 4096) then 1 else 0)) k
trimmed_within old size blocks k =
    ⊎_elim
    (λ (here : k ≡ size / 4096).
    let at_first : nat_le (size / 4096) k ≡ true = le-leb (size / 4096) k (omega (arith, here)) in
    subst (λ (n : ℕ). is_trimmed old size blocks n ≡ is_within (size / 4096) (size / 4096 + (if is_trimmed old size blocks (size / 4096) then 1 else 0)) n) (sym here) (at_place (is_trimmed old size blocks (size / 4096)) refl))
    (λ (apart : k ≢ size / 4096).
    let not_trimmed : is_trimmed old size blocks k ≡ false = elsewhere apart in
    rw not_trimmed (sym (no_other (is_trimmed old size blocks (size / 4096)) apart)))
    (cases_eq k (size / 4096))
  where
    at_place : (trimmed : Bool) → is_trimmed old size blocks (size / 4096) ≡ trimmed → is_trimmed old size blocks (size / 4096) ≡ is_within (size / 4096) (size / 4096 + (if trimmed then 1 else 0)) (size / 4096)
    at_place true is =
        let first : nat_le (size / 4096) (size / 4096) ≡ true = le-leb (size / 4096) (size / 4096) (omega arith) in
        let inside : nat_lt (size / 4096) (size / 4096 + 1) ≡ true = lt-ltb (size / 4096) (size / 4096 + 1) (omega arith) in
        is ∙ sym (rw (first, inside) refl)
    at_place false is =
        let first : nat_le (size / 4096) (size / 4096) ≡ true = le-leb (size / 4096) (size / 4096) (omega arith) in
        let outside : nat_lt (size / 4096) (size / 4096 + 0) ≡ false = le-ltb (size / 4096) (size / 4096 + 0) (omega arith) in
        is ∙ sym (rw (first, outside) refl)

    no_other : (trimmed : Bool) → k ≢ size / 4096 → is_within (size / 4096) (size / 4096 + (if trimmed then 1 else 0)) k ≡ false
    no_other true apart =
        ⊎_elim
        (λ (before : k < size / 4096). let none : nat_le (size / 4096) k ≡ false = lt-leb (size / 4096) k before in rw none refl)
        (λ (from : size / 4096 ≤ k).
        let first : nat_le (size / 4096) k ≡ true = le-leb (size / 4096) k from in
        let outside : nat_lt k (size / 4096 + 1) ≡ false = le-ltb k (size / 4096 + 1) (omega (arith, apart, from)) in
        rw (first, outside) refl)
        (cases_lt k (size / 4096))
    no_other false apart =
        ⊎_elim
        (λ (before : k < size / 4096). let none : nat_le (size / 4096) k ≡ false = lt-leb (size / 4096) k before in rw none refl)
        (λ (from : size / 4096 ≤ k).
        let first : nat_le (size / 4096) k ≡ true = le-leb (size / 4096) k from in
        let outside : nat_lt k (size / 4096 + 0) ≡ false = le-ltb k (size / 4096 + 0) (omega (arith, from)) in
        rw (first, outside) refl)
        (cases_lt k (size / 4096))

    elsewhere : k ≢ size / 4096 → is_trimmed old size blocks k ≡ false
    elsewhere apart =
        ⊎_elim
        (λ (trimmed : is_trimmed old size blocks k ≡ true).
        let parts = and_parts (nat_lt size old) _ trimmed in
        let inside = and_parts (is_inside size k) _ parts.1 in
        let ends = and_parts (nat_lt (k * 4096) size) _ inside.0 in
        let from = ltb-true (k * 4096) size ends.0 in
        let until = ltb-true size (k * 4096 + 4096) ends.1 in
        absurd (omega (arith, apart, from, until)))
        (λ (whole : is_trimmed old size blocks k ≡ false). whole)
        (cases_Bool (is_trimmed old size blocks k))

pub truncated_named : (number size : ℕ) (named : Named HeartFile) (file : HeartFile) → bare file ≡ truncated number size (bare named.value) → plain_file (with_value file named) ≡ truncated number size (plain_file named)
unfolding truncated
truncated_named number size named file is =
    ap (λ (n : ℕ). record { id = named.id; name = named.name; size = n; blocks = plain_blocks file }) (ap (λ (f : PlainFile). f.size) is)
    ∙ ap (λ (blocks : List PlainBlock). record { id = named.id; name = named.name; size = size; blocks = blocks }) (ap (λ (f : PlainFile). f.blocks) is)

truncated_made_by : (number old size : ℕ) (blocks : List PlainBlock) (k : ℕ) → AllByRecursion (IsMadeBy number) blocks → IsMadeBy number (truncated_block number old size blocks k)
unfolding truncated_block trimmed_block
truncated_made_by number old size blocks k are =
    ⊎_elim
    (λ (here : is_trimmed old size blocks k ≡ true). rw here (omega arith))
    (λ (beside : is_trimmed old size blocks k ≡ false). rw beside (block_made_by number blocks k are))
    (cases_Bool (is_trimmed old size blocks k))

truncated_made : (number size : ℕ) (was file : HeartFile) → bare file ≡ truncated number size (bare was) → AllByRecursion (IsMadeBy number) (plain_blocks was) → AllByRecursion (IsMadeBy number) (plain_blocks file)
unfolding truncated
truncated_made number size was file is are =
    subst (AllByRecursion (IsMadeBy number)) (sym (ap (λ (f : PlainFile). f.blocks) is))
    (all_of_each (IsMadeBy number) (blocks_of_size size) (truncated_block number was.size size (plain_blocks was)) (λ k. truncated_made_by number was.size size (plain_blocks was) k are))

module _ (spot : Spot) (number size : ℕ) (datasets : List HeartDataset) (stamps : Stamps) (old : Core) (is : IsCore old)
    (changes : ChangesFileAt spot (Cuts number size old.stamps stamps) old.datasets datasets) where
  abbrev pub trimmed_after : Core
  trimmed_after = with_changed datasets stamps (old.made + unmade_on (size / 4096) (trimmed_on size spot old) spot old) number old

  abbrev pub trims : ℕ → Bool
  trims = is_trimmed changes.changes.was.value.size size (plain_blocks changes.changes.was.value)

  abbrev pub trimmed_step : IsNoted spot datasets → Step spot (truncated number size) trims old trimmed_after
  trimmed_step noted =
      step_of spot (truncated number size) trims (Cuts number size old.stamps stamps) old trimmed_after is changes
      (truncated_named number size changes.changes.was changes.changes.file changes.changes.change.0.file) changes.changes.change.0.marks changes.changes.change.1
      (λ missing before. not_missing spot datasets changes.behind noted (after_stands spot (Cuts number size old.stamps stamps) old.datasets datasets changes) missing)
      refl refl refl refl refl refl

  trimmed_made_by : old.last ≤ number → (at : ℕ) → StandsAt changes.was.files at changes.changes.was → AllByRecursion (IsMadeBy number) (plain_blocks changes.changes.file)
  trimmed_made_by later at there =
      let stamped = holds_there (IsStamped old.last) (map plain_dataset old.datasets) spot.place (plain_dataset changes.was) is.stamped (stands_in_map plain_dataset old.datasets spot.place changes.was changes.there) in
      let file = holds_there (λ (f : PlainFile). AllByRecursion (IsMadeBy old.last) f.blocks) (map plain_file changes.was.files) at (plain_file changes.changes.was) stamped (stands_in_map plain_file changes.was.files at changes.changes.was there) in
      truncated_made number size changes.changes.was.value changes.changes.file changes.changes.change.0.file (later_file old.last number later (plain_file changes.changes.was) file)

  pub becomes_trimmed : IsNoted spot datasets → old.last < number → size ≤ most_bytes (pool_of old) → charge old + unmade_on (size / 4096) (trimmed_on size spot old) spot old ≤ most_charge (pool_of old) → Becomes (SetSize number spot size) old trimmed_after
  becomes_trimmed noted later ends fits =
      let step = trimmed_step noted in
      let found = found_stands (is_numbered spot.id) changes.was.files changes.changes.was changes.changes.there in
      let count : trimmed_on size spot old ≡ trimmed_count size changes.changes.was.value =
      ap (said_of 0 (trimmed_count size)) (file_on_is (path_of_step spot (truncated number size) trims old trimmed_after step) spot old (at_step spot (truncated number size) trims old trimmed_after step is)) in
      record {
        is = core_after_step spot (truncated number size) trims old trimmed_after step
            (plain_later spot (truncated number size) trims old trimmed_after step is (id_of_truncated number size) (name_of_truncated number size) (plain_once_truncated number size)
            (λ file short. short_once_truncated (most_bytes (pool_of old)) number size file ends))
            is.held
            (few_later spot (truncated number size) trims old trimmed_after step is (unmade_on (size / 4096) (trimmed_on size spot old) spot old) refl fits)
            (omega (arith, later)) (trimmed_made_by (omega (arith, later)) found.at found.there) is;
        pool = pool_by_number spot (truncated number size) trims old trimmed_after step is;
        agrees = λ tally agrees. agrees_there spot (truncated number size) trims old trimmed_after step is tally (size / 4096) (trimmed_on size spot old)
            (λ k. trimmed_within changes.changes.was.value.size size (plain_blocks changes.changes.was.value) k ∙ ap (λ (n : ℕ). is_within (size / 4096) (size / 4096 + n) k) (sym count)) refl agrees;
        commands = commands_after spot (truncated number size) trims old trimmed_after step is;
        last = refl;
      }

-- ---- want of memory

-- a change that changes nothing
changed_to_same : {X : Type 0} (f : X → X) (place : ℕ) (xs : List X) → ((x : X) → f x ≡ x) → change_at f place xs ≡ xs
changed_to_same f place [] same = refl
changed_to_same {X} f zero (x ∷ xs) same = ap (λ (y : X). y ∷ xs) (same x)
changed_to_same f (suc place) (x ∷ xs) same = ap (λ rest. x ∷ rest) (changed_to_same f place xs same)

pub stays_named : (named : Named HeartFile) (file : HeartFile) → bare file ≡ bare named.value → plain_file (with_value file named) ≡ plain_file named
stays_named named file is =
    ap (λ (n : ℕ). record { id = named.id; name = named.name; size = n; blocks = plain_blocks file }) (ap (λ (f : PlainFile). f.size) is)
    ∙ ap (λ (blocks : List PlainBlock). record { id = named.id; name = named.name; size = named.value.size; blocks = blocks }) (ap (λ (f : PlainFile). f.blocks) is)

pub or_false : (a : Bool) → a ≡ (a || false)
or_false true = refl
or_false false = refl

pub stays_marked : (old new : HeartFile) → StaysFile old new → Marks (λ _. false) old new
stays_marked old new stays = record {
  kept = λ k untouched. (sym (stays.touched k) ∙ untouched, ap (λ (f : PlainFile). block_at k f.blocks) stays.file);
  made = λ k. stays.made k ∙ or_false (is_made k old);
  sized = λ unsized. (sym stays.sized ∙ unsized, ap (λ (f : PlainFile). f.size) stays.file);
}

pub stays_counted : (before behind : Stamps) (old new : HeartFile) → StaysFile old new → StaysCounted before behind → CountsChange before behind old new
stays_counted before behind old new stays counted = record {
  moves = λ stamp. let files = counted.files stamp in let same = ap (λ (f : PlainFile). count_by (is_stamp stamp) (flat_map stamp_of f.blocks)) stays.file in omega (arith, files, same);
  learns = λ stamp ptr is. sym (counted.placed stamp) ∙ is;
}

-- the heart with these datasets and counts
abbrev pub with_room : List HeartDataset → Stamps → Core → Core
with_room datasets stamps core = record core { datasets = datasets; stamps = stamps }

module _ (spot : Spot) (datasets : List HeartDataset) (stamps : Stamps) (old : Core) (is : IsCore old) (changes : ChangesFileAt spot (Keeps old.stamps stamps) old.datasets datasets) where
  abbrev pub room_after : Core
  room_after = with_room datasets stamps old

  abbrev pub room_step : Step spot (λ file. file) (λ _. false) old room_after
  room_step =
      let stays = changes.changes.change.0 in
      step_of spot (λ file. file) (λ _. false) (Keeps old.stamps stamps) old room_after is changes
      (stays_named changes.changes.was changes.changes.file stays.file)
      (stays_marked changes.changes.was.value changes.changes.file stays)
      (stays_counted old.stamps stamps changes.changes.was.value changes.changes.file stays changes.changes.change.1)
      (λ missing before. let was = before (changes.changes.noted spot.id missing) in (stays.sized ∙ was.0, λ k. stays.touched k ∙ was.1 k))
      refl refl refl refl refl refl

  room_pool : pool_of room_after ≡ pool_of old
  room_pool =
      pool_after_step spot (λ file. file) (λ _. false) old room_after room_step
      ∙ ap (λ (ds : List PlainDataset). record { limits = old.limits; next_dataset = old.next_dataset; datasets = ds })
      (changed_to_same (in_files room_step.at (λ file. file)) spot.place (map plain_dataset old.datasets)
      (λ d. ap (λ (files : List PlainFile). record { id = d.id; name = d.name; next_file = d.next_file; files = files }) (changed_to_itself room_step.at d.files)))

  room_made_by : AllByRecursion (IsMadeBy old.last) (plain_blocks changes.changes.file)
  room_made_by =
      let found = found_stands (is_numbered spot.id) changes.was.files changes.changes.was changes.changes.there in
      let stamped = holds_there (IsStamped old.last) (map plain_dataset old.datasets) spot.place (plain_dataset changes.was) is.stamped (stands_in_map plain_dataset old.datasets spot.place changes.was changes.there) in
      let file = holds_there (λ (f : PlainFile). AllByRecursion (IsMadeBy old.last) f.blocks) (map plain_file changes.was.files) found.at (plain_file changes.changes.was) stamped (stands_in_map plain_file changes.was.files found.at changes.changes.was found.there) in
      subst (AllByRecursion (IsMadeBy old.last)) (sym (ap (λ (f : PlainFile). f.blocks) changes.changes.change.0.file)) file

  -- no block more is made
  room_agrees : (tally : Tally) → Agrees tally old → Agrees tally room_after
  room_agrees tally agrees =
      let none : unmade_in 0 0 room_step.named.value ≡ 0 = ap (count_by (λ (made : Bool). not made)) (each_none (λ k. is_made (0 + k) room_step.named.value)) in
      let behind = agrees_after_step spot (λ file. file) (λ _. false) old room_after room_step tally 0 0 is.plain (λ k. none_within k) (omega (arith, none)) agrees in
      subst (λ (made : List MadeBlock). Agrees (record tally { made = made }) room_after)
      (ap (with_each is_block tally.made) (each_none (λ k. block_made tally room_step.dataset.id spot.id (0 + k))) ∙ added_none is_block tally.made) behind
    where
      none_within : (k : ℕ) → false ≡ is_within 0 (0 + 0) k
      none_within k = let outside : nat_lt k (0 + 0) ≡ false = le-ltb k (0 + 0) (omega arith) in sym (rw outside (and_none (nat_le 0 k)))
        where
          and_none : (a : Bool) → (a && false) ≡ false
          and_none true = refl
          and_none false = refl

  pub left_with_room : IsLeft old room_after
  left_with_room = record {
    is = core_after_step spot (λ file. file) (λ _. false) old room_after room_step (rw room_pool is.plain) is.held is.few (omega arith) room_made_by is;
    stays = record {
      pool = room_pool;
      areas = areas_after_step spot (λ file. file) (λ _. false) old room_after room_step;
      agrees = room_agrees;
      leads = leads_after_step spot (λ file. file) (λ _. false) old room_after room_step;
      knows = knows_after_step spot (λ file. file) (λ _. false) old room_after room_step;
      group = refl;
      waiting = refl;
      last = refl;
    };
  }

-- a heart that is left as it was
pub left_same : (core : Core) → IsCore core → IsLeft core core
left_same core is = record {
  is = is;
  stays = record { pool = refl; areas = refl; agrees = λ tally agrees. agrees; leads = λ base leads. leads; knows = λ placing knows. knows; group = refl; waiting = refl; last = refl };
}
