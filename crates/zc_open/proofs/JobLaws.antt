-- A sealed group as a job, and the groups that wait in the heart as the jobs say.
use Rattle.std.proofs.Common.{◌≡◌, ℕ, ◌+◌, List, [], ◌∷◌, ◌++◌, length, drop, refl, sym, ap, subst, ◌∙◌, arith}
use Rattle.std.specs.Prelude.{count_by, cond, flat_map}
use Rattle.std.specs.List.{AllByRecursion}
use Rattle.std.proofs.lemmas.List.{length-append, length-map}
use Rattle.std.proofs.lemmas.List.Sums.{sum_by-cons}
use Rattle.zc_plain.specs.declared.plain_pool.PlainBlock.{PlainBlock}
use Rattle.zc_plain.specs.declared.plain_pool.PlainBlock.TheVariants.{Hole, Made}
use Rattle.zc_plain.specs.declared.plain_pool.PlainFile.{PlainFile}
use Rattle.zc_plain.specs.declared.plain_pool.PlainPool.{PlainPool}
use Rattle.zc_heart.specs.declared.changes.Now.TheVariants as now
use Rattle.zc_heart.specs.declared.changes.Change.{Change}
use Rattle.zc_heart.specs.declared.changes.Change.TheVariants.{MakeDataset, DropDataset, MakeFile, DropFile, Size, Put}
use Rattle.zc_heart.specs.declared.changes.Sealed.{Sealed}
use Rattle.zc_heart.specs.declared.changes.GroupDone.{GroupDone}
use Rattle.zc_heart.specs.declared.stamps.Stamp.{Stamp}
use Rattle.zc_heart.specs.declared.pool_core.WaitingGroup.{WaitingGroup}
use Rattle.zc_heart.specs.declared.pool_core.Core.{Core}
use Rattle.zc_heart.specs.Changes.{Placing, Where, by_stamp, is_made, nowhere}
use Rattle.zc_heart.specs.Core.{pool_of, Base, base_of, Leads}
use Rattle.zc_heart.specs.Meaning.{block_in, IsNow, Stands, stamp_placed, placed_by, placed_by_all, IsSealed, MayAbsorb}
use Rattle.zc_apply.specs.Jobs.{IsJob}
use Rattle.zc_open.specs.Points.{IsJobOf, AreJobsOf}

-- a seal hands out the job from the base to what the heart stands for
pub job_of_seal : (base : Base) (old new : Core) (sealed : Sealed) → IsSealed old new sealed → Leads base old → IsJob base (base_of old) sealed
job_of_seal base old new sealed is leads = record { leads = λ placing group. is.leads base placing group leads; stand = is.stand; held = is.held_is }

-- ---- as many pointers as blocks that are made

-- a block whose bytes stand has one
one_placed : (placing : Placing) (bytes : List ℕ) (block : PlainBlock) → IsNow (now.Made bytes) block → length (stamp_placed placing block) ≡ 1
one_placed placing bytes Hole is = absurd is
one_placed placing bytes (Made entry index held) is = refl

-- a change that makes a block has one, and no other has any
placed_of : (placing : Placing) (pool : PlainPool) (change : Change) → Stands pool change → length (placed_by placing pool change) ≡ cond (is_made change) 1 0
placed_of placing pool (MakeDataset id slot name) stands = refl
placed_of placing pool (DropDataset id) stands = refl
placed_of placing pool (MakeFile dataset file name) stands = refl
placed_of placing pool (DropFile dataset file) stands = refl
placed_of placing pool (Size dataset file size) stands = refl
placed_of placing pool (Put dataset file block now.Hole) stands = refl
placed_of placing pool (Put dataset file block (now.Made bytes)) stands =
    ap (λ (files : List PlainFile). length (stamp_placed placing (block_in files block))) stands.1 ∙ one_placed placing bytes (block_in (stands.0 ∷ []) block) stands.2

pub as_many_placed : (placing : Placing) (pool : PlainPool) (changes : List Change) → AllByRecursion (Stands pool) changes → length (placed_by_all placing pool changes) ≡ count_by is_made changes
as_many_placed placing pool [] stand = refl
as_many_placed placing pool (change ∷ changes) stand =
    let first = placed_of placing pool change stand.0 in
    let rest = as_many_placed placing pool changes stand.1 in
    let more : count_by is_made (change ∷ changes) ≡ cond (is_made change) 1 0 + count_by is_made changes = sum_by-cons (λ (one : Change). cond (is_made one) 1 0) change changes in
    length-append (placed_by placing pool change) (flat_map (placed_by placing pool) changes) ∙ omega (arith, first, rest, more)

-- ---- the groups that wait

-- one more group, and its job
jobs_of_more : (waiting : List WaitingGroup) (jobs : List Sealed) (waits : WaitingGroup) (job : Sealed) → IsJobOf waits job → AreJobsOf waiting jobs → AreJobsOf (waiting ++ waits ∷ []) (jobs ++ job ∷ [])
jobs_of_more [] [] waits job is are = (is, tt)
jobs_of_more [] (first ∷ jobs) waits job is are = absurd are
jobs_of_more (first ∷ waiting) [] waits job is are = absurd are
jobs_of_more (first ∷ waiting) (one ∷ jobs) waits job is are = (are.0, jobs_of_more waiting jobs waits job is are.1)

-- without the first group and its job
pub jobs_of_rest : (waiting : List WaitingGroup) (job : Sealed) (others : List Sealed) → AreJobsOf waiting (job ∷ others) → AreJobsOf (drop 1 waiting) others
jobs_of_rest [] job others are = absurd are
jobs_of_rest (waits ∷ waiting) job others are = are.1

-- a seal adds one
pub jobs_of_seal : (old new : Core) (jobs : List Sealed) (sealed : Sealed) → AreJobsOf old.waiting jobs → IsSealed old new sealed → AreJobsOf new.waiting (jobs ++ sealed ∷ [])
jobs_of_seal old new jobs sealed are is =
    let places : Where = λ entry index. nowhere in
    let stamps : length is.waits.stamps ≡ count_by is_made sealed.changes =
    sym (length-map is.waits.stamps (λ (stamp : Stamp). places stamp.entry stamp.index)) ∙ ap length (is.stamps places) ∙ as_many_placed (by_stamp places) (pool_of old) sealed.changes is.stand in
    subst (λ (waiting : List WaitingGroup). AreJobsOf waiting (jobs ++ sealed ∷ [])) (sym is.waiting)
    (jobs_of_more old.waiting jobs is.waits sealed (is.waits_group ∙ sym is.group_is, is.waits_held, stamps) are)

-- the first group may be taken in once its job is done
may_absorb_first : (core : Core) (waiting : List WaitingGroup) (job : Sealed) (others : List Sealed) (done : GroupDone) → core.waiting ≡ waiting → AreJobsOf waiting (job ∷ others) → done.group ≡ job.group → done.held ≡ job.held
    → length done.placed ≡ count_by is_made job.changes → MayAbsorb done core
may_absorb_first core [] job others done waits_are are group held placed = absurd are
may_absorb_first core (waits ∷ waiting) job others done waits_are are group held placed = record {
  waits = waits;
  others = waiting;
  first = waits_are;
  group = group ∙ sym are.0.0;
  held = held ∙ sym are.0.1;
  placed = placed ∙ sym are.0.2;
}

pub may_absorb : (heart : Core) (job : Sealed) (others : List Sealed) (done : GroupDone) → AreJobsOf heart.waiting (job ∷ others) → done.group ≡ job.group → done.held ≡ job.held
    → length done.placed ≡ count_by is_made job.changes → MayAbsorb done heart
may_absorb heart job others done are group held placed = may_absorb_first heart heart.waiting job others done refl are group held placed
