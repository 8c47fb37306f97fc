-- A seal hands out what the open group changed, and the next group begins with nothing touched.
use Rattle.std.proofs.Common.{◌≡◌, ◌∙◌, ℕ, ◌+◌, ◌<◌, ◌≤◌, true, false, ◌==◌, List, [], ◌∷◌, ◌++◌, map, length, Option, Some, None, Result, Ok, Err, IfOk, OnErr, refl, sym, ap, subst, arith}
use Rattle.std.specs.Prelude.{sum_by}
use Rattle.std.specs.List.{AllByRecursion}
use Rattle.std.specs.declared.alloc.AllocError.{AllocError}
use Rattle.std.proofs.lemmas.List.{append_assoc, map-append, length-append, length-map}
use Rattle.std.proofs.lemmas.List.Sums.{sum_by-cons, sum_by-append}
use Rattle.zc_num.specs.Ordered.{value_at}
use Rattle.zc_plain.specs.declared.plain_pool.PlainPool.{PlainPool}
use Rattle.zc_plain.specs.declared.tally.MadeBlock.{MadeBlock}
use Rattle.zc_plain.specs.declared.tally.Tally.{Tally}
use Rattle.zc_plain.specs.PlainPool.{pointers_in}
use Rattle.zc_plain.specs.Charge.{is_stamp, with_each, stamps_of, held_by, with_seal}
use Rattle.zc_plain.specs.IsPlain.{IsPlain}
use Rattle.zc_heart.specs.declared.changes.Change.{Change}
use Rattle.zc_heart.specs.declared.changes.Sealed.{Sealed}
use Rattle.zc_heart.specs.declared.file.Mark.{Mark}
use Rattle.zc_heart.specs.declared.file.Mark.TheVariants as mark
use Rattle.zc_heart.specs.declared.file.HeartFile.{HeartFile}
use Rattle.zc_heart.specs.declared.directory.Named.{Named}
use Rattle.zc_heart.specs.declared.pool_core.HeartDataset.{HeartDataset}
use Rattle.zc_heart.specs.declared.pool_core.Core.{Core}
use Rattle.zc_heart.specs.Changes.{by_stamp, is_noted, tree_of}
use Rattle.zc_heart.specs.Stamps.{AreCounted, holds_number}
use Rattle.zc_heart.specs.Core.{plain_dataset, pool_of, is_touched_by, is_made_by, made_waiting, Agrees, AreApart, base_of, Leads, IsUntouched, IsHeartFile, IsDatasetOfCore, IsStamped, IsCore}
use Rattle.zc_heart.specs.Directory.{id_of}
use Rattle.zc_heart.specs.Meaning.{Stays, Stands, IsSealed}
use Rattle.zc_heart.specs.Noted.{noted_in, IsMarked, settled_files, settled_dataset, sealed_of, waiting_of, sealed_core}
use Rattle.zc_heart.proofs.ListLaws.{each_of, each_of_two, all_append, all_standing, all_at, all_mapped, Rises}
use Rattle.zc_heart.proofs.MadeLaws.{StandsNow, none_placed}
use Rattle.zc_heart.proofs.NotedLaws.{datasets_rise, files_rise, facts, noted_stand, noted_once, once_after_log, stand_as_told, log_stands, noted_placed}
use Rattle.zc_heart.proofs.LeadLaws.{leads}
use Rattle.zc_heart.proofs.SettledLaws.{settled_plain, settled_all, none_touched, heart_file_settled, datasets_before_themselves}
use Rattle.zc_heart.proofs.TallyLaws.{made_of, group_of, all_in_range, made_pushed, apart_pushed, below_pushed, none_at}

-- ---- what stays

-- a heart that is as it was
pub stays_itself : (core : Core) → Stays core core
stays_itself core = record {
  pool = refl;
  areas = refl;
  agrees = λ tally agrees. agrees;
  leads = λ base led. led;
  knows = λ placing knows. knows;
  group = refl;
  waiting = refl;
  last = refl;
}

pub stays : (old new : Core) → new ≡ old → Stays old new
stays old new same = subst (Stays old) (sym same) (stays_itself old)

-- ---- the heart in its next group

-- the datasets whose numbers of files ascend stand as they stood
datasets_settled : (datasets : List HeartDataset) → AllByRecursion (λ (dataset : HeartDataset). Rises id_of dataset.files) datasets → map plain_dataset (map settled_dataset datasets) ≡ map plain_dataset datasets
datasets_settled [] rise = refl
datasets_settled (dataset ∷ datasets) rise =
    λ i. record { id = dataset.id; name = dataset.name; next_file = dataset.next_file; files = settled_plain dataset.changed dataset.files rise.0 i } ∷ datasets_settled datasets rise.1 i

areas_settled : (datasets : List HeartDataset) → map (λ (dataset : HeartDataset). dataset.area) (map settled_dataset datasets) ≡ map (λ (dataset : HeartDataset). dataset.area) datasets
areas_settled [] = refl
areas_settled (dataset ∷ datasets) = ap (λ (areas : List ℕ). dataset.area ∷ areas) (areas_settled datasets)

pool_sealed : (held : ℕ) (core : Core) → IsCore core → pool_of (sealed_core held core) ≡ pool_of core
pool_sealed held core is = λ i. record { limits = core.limits; next_dataset = core.next_dataset; datasets = datasets_settled core.datasets (files_rise core is) i }

-- no file is touched
untouched_all : (core : Core) → IsCore core → AllByRecursion (λ (dataset : HeartDataset). AllByRecursion IsUntouched dataset.files) (map settled_dataset core.datasets)
untouched_all core is =
    all_mapped (λ (dataset : HeartDataset). AllByRecursion IsUntouched dataset.files) settled_dataset core.datasets
    (each_of_two IsDatasetOfCore (λ (dataset : HeartDataset). Rises id_of dataset.files) (λ (dataset : HeartDataset). AllByRecursion IsUntouched (settled_files dataset.changed dataset.files)) core.datasets
    (λ dataset of rises. none_touched dataset.changed dataset.files rises of.listed) is.datasets (files_rise core is))

dataset_settled : (dataset : HeartDataset) → IsDatasetOfCore dataset → Rises id_of dataset.files → IsDatasetOfCore (settled_dataset dataset)
dataset_settled dataset of rises =
    let plain : plain_dataset (settled_dataset dataset) ≡ plain_dataset dataset =
    λ i. record { id = dataset.id; name = dataset.name; next_file = dataset.next_file; files = settled_plain dataset.changed dataset.files rises i } in
    record {
      area = of.area;
      pointers = of.pointers ∙ ap pointers_in (sym plain);
      listed = each_of IsUntouched (λ (file : Named HeartFile). holds_number file.id [] ≡ false → IsUntouched file) (settled_files dataset.changed dataset.files) (λ file untouched none. untouched) (none_touched dataset.changed dataset.files rises of.listed);
      files = settled_all (λ (file : Named HeartFile). IsHeartFile file.value) heart_file_settled dataset.changed dataset.files rises of.files;
    }

made_sealed : (held : ℕ) (core : Core) → made_waiting (sealed_core held core) ≡ made_waiting core + core.made
made_sealed held core =
    let waits = waiting_of held core in
    let none : sum_by made_of [] ≡ 0 = refl in
    sum_by-append made_of core.waiting (waits ∷ []) ∙ omega (arith, sum_by-cons made_of waits [], none)

pub sealed_is_core : (held : ℕ) (core : Core) → IsCore core → IsCore (sealed_core held core)
sealed_is_core held core is =
    let pool = pool_sealed held core is in
    record {
      plain = subst IsPlain (sym pool) is.plain;
      datasets = all_mapped IsDatasetOfCore settled_dataset core.datasets
          (each_of_two IsDatasetOfCore (λ (dataset : HeartDataset). Rises id_of dataset.files) (λ (dataset : HeartDataset). IsDatasetOfCore (settled_dataset dataset)) core.datasets (λ dataset of rises. dataset_settled dataset of rises) is.datasets (files_rise core is));
      apart = subst AreApart (sym (areas_settled core.datasets)) is.apart;
      counted = subst (λ (stood : PlainPool). AreCounted core.stamps (stamps_of stood)) (sym pool) is.counted;
      stamped = subst (λ (stood : PlainPool). AllByRecursion (IsStamped core.last) stood.datasets) (sym pool) is.stamped;
      logged = tt;
      held = is.held;
      few = let few = is.few in omega (arith, few, made_sealed held core);
    }

-- the next group begins where this one ended
begins : (held : ℕ) (core : Core) → IsCore core → Leads (base_of core) (sealed_core held core)
begins held core is = record {
  before = pool_of (sealed_core held core);
  next_dataset = refl;
  datasets = datasets_before_themselves (map settled_dataset core.datasets);
  made = λ group placing i. tree_of group placing (sym (areas_settled core.datasets) i) (sym (pool_sealed held core is) i);
}

-- ---- the charge

pub not_made : (found : Option Mark) → is_touched_by found ≡ false → is_made_by found ≡ false
not_made None untouched = refl
not_made (Some mark.Room) untouched = refl
not_made (Some mark.Holed) untouched = refl
not_made (Some mark.Made) untouched = untouched

agrees_sealed : (held : ℕ) (core : Core) → IsCore core → (tally : Tally) → Agrees tally core → Agrees (with_seal core.group tally) (sealed_core held core)
agrees_sealed held core is tally agrees =
    let waits = waiting_of held core in
    let range = all_in_range (length agrees.finished) core.waiting core.made tally.made agrees.made agrees.whole in
    let long : length tally.sealed ≡ length agrees.finished + length core.waiting = ap length agrees.sealed ∙ length-append agrees.finished (map group_of core.waiting) ∙ ap (λ (n : ℕ). length agrees.finished + n) (length-map core.waiting group_of) in
    let longer : length (tally.sealed ++ core.group ∷ []) ≡ length tally.sealed + 1 = length-append tally.sealed (core.group ∷ []) in
    record {
      held = agrees.held;
      finished = agrees.finished;
      sealed = ap (λ (sealed : List ℕ). sealed ++ core.group ∷ []) agrees.sealed ∙ append_assoc agrees.finished (map group_of core.waiting) (core.group ∷ [])
          ∙ ap (λ (groups : List ℕ). agrees.finished ++ groups) (sym (map-append group_of core.waiting (waits ∷ [])));
      apart = apart_pushed tally.sealed core.group agrees.apart agrees.below;
      below = below_pushed tally.sealed core.group agrees.below;
      made = made_pushed (length agrees.finished) core.waiting core.made tally.made waits agrees.made
          (each_of (λ (block : MadeBlock). (length agrees.finished ≤ block.seals) × (block.seals ≤ length agrees.finished + length core.waiting)) (λ (block : MadeBlock). block.seals ≤ length agrees.finished + length core.waiting) tally.made (λ block within. within.1) range) refl;
      whole = let whole = agrees.whole in omega (arith, whole, made_sealed held core);
      marks = λ place dataset at file k stands there.
          let untouched = all_at IsUntouched dataset.files at file (all_at (λ (one : HeartDataset). AllByRecursion IsUntouched one.files) (map settled_dataset core.datasets) place dataset (untouched_all core is) stands) there in
          not_made (value_at k file.value.marks) (untouched.1 k)
          ∙ sym (none_at (length (tally.sealed ++ core.group ∷ [])) dataset.id file.id k tally.made
          (each_of (λ (block : MadeBlock). (length agrees.finished ≤ block.seals) × (block.seals ≤ length agrees.finished + length core.waiting)) (λ (block : MadeBlock). block.seals < length (tally.sealed ++ core.group ∷ [])) tally.made
          (λ block within. let high = within.1 in omega (arith, high, long, longer)) range));
      no_dataset = agrees.no_dataset;
      no_file = λ place dataset stands.
          all_at (λ (one : HeartDataset). AllByRecursion (λ (block : MadeBlock). (block.dataset == one.id) ≡ true → block.file < one.next_file) tally.made) (map settled_dataset core.datasets) place dataset
          (all_mapped (λ (one : HeartDataset). AllByRecursion (λ (block : MadeBlock). (block.dataset == one.id) ≡ true → block.file < one.next_file) tally.made) settled_dataset core.datasets
          (all_standing (λ (one : HeartDataset). AllByRecursion (λ (block : MadeBlock). (block.dataset == one.id) ≡ true → block.file < one.next_file) tally.made) core.datasets agrees.no_file)) stands;
    }

-- ---- what is handed out

sealing : (held : ℕ) (core : Core) → IsCore core → AllByRecursion IsMarked core.datasets → held ≡ held_by (pool_of core) → IsSealed core (sealed_core held core) (sealed_of held core)
sealing held core is marked held_is =
    let pool = pool_of core in
    let stand = noted_stand pool core.datasets (facts core is) in
    record {
      group_is = refl;
      held_is = held_is;
      leads = λ base placing group led. leads core is base placing group led;
      once = once_after_log core.log (noted_in core.datasets) is.logged (noted_once core.datasets (datasets_rise core is) marked);
      stand = all_append (Stands pool) core.log (noted_in core.datasets)
          (each_of (λ (change : Change). is_noted change ≡ false) (Stands pool) core.log (λ change free. log_stands pool change free) is.logged)
          (each_of (StandsNow pool) (Stands pool) (noted_in core.datasets) (λ change stands. stand_as_told pool change stands) stand);
      pool = pool_sealed held core is;
      areas = areas_settled core.datasets;
      begins = begins held core is;
      agrees = agrees_sealed held core is;
      knows = λ placing knows. knows;
      next_group = refl;
      waits = waiting_of held core;
      waiting = refl;
      waits_group = refl;
      waits_held = refl;
      last = refl;
      stamps = λ places. noted_placed places pool core.datasets (facts core is) ∙ sym (none_placed (by_stamp places) pool core.log (noted_in core.datasets) is.logged);
    }

-- the whole, by what a call handed out

pub core_kept : (result : Result Sealed AllocError) (old new : Core) → IsCore old → IfOk result (λ sealed. new ≡ sealed_core sealed.held old) → OnErr result (new ≡ old) → IsCore new
core_kept (Ok sealed) old new is next same = subst IsCore (sym next) (sealed_is_core sealed.held old is)
core_kept (Err fault) old new is next same = subst IsCore (sym same) is

pub is_sealed : (result : Result Sealed AllocError) (old new : Core) → IsCore old → IfOk result (λ sealed. sealed ≡ sealed_of sealed.held old) → IfOk result (λ sealed. new ≡ sealed_core sealed.held old)
    → IfOk result (λ sealed. AllByRecursion IsMarked old.datasets) → IfOk result (λ sealed. sealed.held ≡ length (with_each is_stamp [] (stamps_of (pool_of old)))) → IfOk result (λ sealed. IsSealed old new sealed)
unfolding held_by
is_sealed (Ok sealed) old new is handed next marked held =
    subst (λ (core : Core). IsSealed old core sealed) (sym next) (subst (IsSealed old (sealed_core sealed.held old)) (sym handed) (sealing sealed.held old is marked held))
is_sealed (Err fault) old new is handed next marked held = tt
