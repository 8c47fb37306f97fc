-- From which pool of the history the jobs lead to which, after each call on a pool in memory.
use Rattle.std.proofs.Common.{◌≡◌, ℕ, ◌+◌, ◌-◌, ◌^◌, ◌≤◌, List, [], ◌∷◌, ◌++◌, length, drop, Option, Some, None, refl, sym, ap, subst, ◌∙◌, arith}
use Rattle.std.specs.List.{AllByRecursion}
use Rattle.std.proofs.lemmas.List.{length-append, take_all}
use Rattle.std.proofs.lemmas.List.Sums.{fold-append}
use Rattle.std.proofs.lemmas.Option.{slice_get_within}
use Rattle.zc_num.specs.declared.limits.Limits.{Limits}
use Rattle.zc_command.specs.declared.command.Command.{Command}
use Rattle.zc_command.specs.declared.command.Command.TheVariants.{Commit}
use Rattle.zc_command.specs.declared.reply.Reply.{Reply}
use Rattle.zc_command.specs.declared.reply.Reply.TheVariants.{Done}
use Rattle.zc_plain.specs.declared.plain_pool.PlainPool.{PlainPool}
use Rattle.zc_plain.specs.declared.entry.Entry.{Entry}
use Rattle.zc_plain.specs.declared.entry.Entry.TheVariants as entry
use Rattle.zc_plain.specs.History.{PlainState, next_number, step, begun, state_after}
use Rattle.zc_plain.proofs.HistoryLaws.{waiting_changes_nothing}
use Rattle.zc_heart.specs.declared.changes.Sealed.{Sealed}
use Rattle.zc_heart.specs.declared.changes.GroupDone.{GroupDone}
use Rattle.zc_heart.specs.declared.pool_core.WaitingGroup.{WaitingGroup}
use Rattle.zc_heart.specs.declared.pool_core.Core.{Core}
use Rattle.zc_heart.specs.Core.{pool_of, base_of, Leads, IsCore}
use Rattle.zc_heart.proofs.ListLaws.{each_of, all_append}
use Rattle.zc_heart.proofs.Listing.{all_more_items}
use Rattle.zc_apply.specs.Jobs.{IsJob, IsBase}
use Rattle.zc_open.specs.declared.ack.Ack.{Ack}
use Rattle.zc_open.specs.declared.ack.Waiting.{Waiting}
use Rattle.zc_open.specs.declared.open_pool.OpenPool.{OpenPool}
use Rattle.zc_open.specs.Events.{begun_pool, waiting_of, IsAsBefore, Asks, AsksCommit, ack_of, ended, EndsWait, HasJob, Finishes, failed_after}
use Rattle.zc_open.specs.Heard.{IsStart, IsAskedBy, IsHeard}
use Rattle.zc_open.specs.Points.{Point, IsPoint, AreCovered, AreAcked, AreJobs, AreJobsOf, IsLined}
use Rattle.zc_open.proofs.PastLaws.{sealed_by, point_stays, covered_more, covered_fewer, covered_one, covered_all, acked_later, numbered_below, jobs_same, jobs_fewer, jobs_more, jobs_then}
use Rattle.zc_open.proofs.BaseLaws.{heard_pool, heard_base}
use Rattle.zc_open.proofs.HeardLaws.{next_after}
use Rattle.zc_open.proofs.JobLaws.{job_of_seal, jobs_of_rest, jobs_of_seal}

-- ---- the beginning

-- after an import no job is there, and the pool at the root is the one that was found
pub lined_begun : (limits : Limits) (start : PlainPool) (heart : Core) (group calls : ℕ) → IsStart limits start → pool_of heart ≡ start → IsBase limits (base_of heart) → Leads (base_of heart) heart → heart.waiting ≡ [] → heart.limits ≡ limits
    → IsLined start group limits (record { entries = 0; group = group; base = base_of heart }) (begun_pool heart group calls)
lined_begun limits start heart group calls is found base leads none same =
    let root : Point = record { entries = 0; group = group; base = base_of heart } in
    let point : IsPoint start group [] limits root = record { within = omega arith; sealed = refl; pool_is = found; base_is = base } in
    record {
      limits_are = same;
      at_root = point;
      root_group = refl;
      acked = tt;
      covered = tt;
      to = root;
      jobs = refl;
      last = point;
      leads = leads;
      waiting = subst (λ (waiting : List WaitingGroup). AreJobsOf waiting []) (sym none) tt;
    }

-- ---- what is asked

-- a command that is answered at once changes what the files are now alone
pub lined_asks : (limits : Limits) (start : PlainPool) (claim : ℕ) (root : Point) (old new : OpenPool) (session : ℕ) (command : Command) (reply : Reply)
    → IsLined start claim limits root old → Asks old new session command reply → IsLined start claim limits root new
lined_asks limits start claim root old new session command reply lined asks =
    let more : List Entry = entry.Ask session command ∷ entry.Answer session reply ∷ [] in
    subst (λ (pool : OpenPool). IsLined start claim limits root pool) (sym asks.rest) (record {
      limits_are = asks.heart.limits ∙ lined.limits_are;
      at_root = point_stays start claim old.history more limits root lined.at_root;
      root_group = lined.root_group;
      acked = lined.acked;
      covered = lined.covered;
      to = lined.to;
      jobs = jobs_same start claim old.history more limits old.waits root old.jobs lined.to lined.jobs;
      last = point_stays start claim old.history more limits lined.to lined.last;
      leads = asks.heart.leads lined.to.base lined.leads;
      waiting = subst (λ (waiting : List WaitingGroup). AreJobsOf waiting old.jobs) (sym asks.heart.waiting) lined.waiting;
    })

-- ---- a commit

-- its two entries change no pool
same_after_commit : (state : PlainState) (session group : ℕ) → (step (step state (entry.Ask session Commit)) (entry.Seal group)).pool ≡ state.pool
unfolding step
same_after_commit state session group = waiting_changes_nothing (next_number state) state.tally state.pool Commit refl

pool_after_commit : (start : PlainPool) (history : List Entry) (session group : ℕ) → (state_after start (history ++ entry.Ask session Commit ∷ entry.Seal group ∷ [])).pool ≡ (state_after start history).pool
pool_after_commit start history session group =
    ap (λ (state : PlainState). state.pool) (fold-append step (begun start) history (entry.Ask session Commit ∷ entry.Seal group ∷ [])) ∙ same_after_commit (state_after start history) session group

-- what the files are as a commit is asked is the pool after its two entries
point_of_commit : (limits : Limits) (start : PlainPool) (claim : ℕ) (pool : OpenPool) (session group : ℕ) → IsStart limits start → IsHeard start claim pool → IsCore pool.heart → length pool.history + 2 ≤ 2 ^ 62
    → IsPoint start claim (pool.history ++ entry.Ask session Commit ∷ entry.Seal group ∷ []) limits (record { entries = length pool.history + 2; group = group; base = base_of pool.heart })
point_of_commit limits start claim pool session group is heard core few =
    let two : List Entry = entry.Ask session Commit ∷ entry.Seal group ∷ [] in
    let count : length (pool.history ++ two) ≡ length pool.history + 2 = length-append pool.history two in
    record {
      within = omega (arith, count);
      sealed = sealed_by claim (pool.history ++ two) group (length pool.history + 1) (length pool.history + 2) (omega arith) (next_after pool.history (entry.Ask session Commit) (entry.Seal group) []);
      pool_is =
          heard_pool start claim pool heard ∙ sym (pool_after_commit start pool.history session group)
          ∙ ap (λ (front : List Entry). (state_after start front).pool) (sym (take_all (length pool.history + 2) (pool.history ++ two) (omega (arith, count))));
      base_is = heard_base limits start claim pool is heard core (omega arith);
    }

-- all who wait asked within the history, and so does one more
asked_within : (history : List Entry) (group most : ℕ) (waits : List Waiting) (waiting : Waiting) → length history + 1 ≤ most → waiting.ask ≡ length history + 1 → AllByRecursion (IsAskedBy history group) waits
    → AllByRecursion (λ (one : Waiting). one.ask ≤ most) (waits ++ waiting ∷ [])
asked_within history group most waits waiting fits last asked =
    all_more_items (λ (one : Waiting). one.ask ≤ most) waits waiting
    (each_of (IsAskedBy history group) (λ (one : Waiting). one.ask ≤ most) waits
    (λ one its. let inside = slice_get_within history (one.ask - 1) (entry.Ask one.session Commit) its.2 in omega (arith, inside, its.0)) asked)
    (omega (arith, last))

-- the sealed group leads from the last point to what the files are, which is the last point from then on
pub lined_commit : (limits : Limits) (start : PlainPool) (claim : ℕ) (root : Point) (old new : OpenPool) (session : ℕ) → IsStart limits start → IsHeard start claim old → IsCore old.heart → length old.history + 2 ≤ 2 ^ 62
    → IsLined start claim limits root old → AsksCommit old new session → IsLined start claim limits root new
lined_commit limits start claim root old new session is heard core few lined asks =
    let two : List Entry = entry.Ask session Commit ∷ entry.Seal old.heart.group ∷ [] in
    let waiting : Waiting = record { session = session; ask = length old.history + 1; group = old.heart.group } in
    let next : Point = record { entries = length old.history + 2; group = old.heart.group; base = base_of old.heart } in
    let point = point_of_commit limits start claim old session old.heart.group is heard core few in
    let below = numbered_below (old.group + 1) old.jobs old.heart.group heard.numbered in
    let asked = asked_within old.history old.heart.group (length old.history + 2) old.waits waiting (omega arith) refl heard.asked in
    subst (λ (pool : OpenPool). IsLined start claim limits root pool) (sym asks.rest) (record {
      limits_are = ap (λ (p : PlainPool). p.limits) asks.is_sealed.pool ∙ lined.limits_are;
      at_root = point_stays start claim old.history two limits root lined.at_root;
      root_group = lined.root_group;
      acked = lined.acked;
      covered = covered_more old.group root old.waits waiting (omega (arith, below.0)) lined.covered;
      to = next;
      jobs = jobs_then start claim (old.history ++ two) limits (old.waits ++ waiting ∷ []) root old.jobs lined.to asks.sealed next (omega (arith, lined.last.within)) (sym asks.is_sealed.group_is) point
          (covered_all asks.sealed.group next (old.waits ++ waiting ∷ []) asked) (job_of_seal lined.to.base old.heart new.heart asks.sealed asks.is_sealed lined.leads)
          (jobs_more start claim old.history two limits old.waits waiting root old.jobs lined.to below.1 lined.jobs);
      last = point;
      leads = asks.is_sealed.begins;
      waiting = jobs_of_seal old.heart new.heart old.jobs asks.sealed lined.waiting asks.is_sealed;
    })

-- ---- the end of a wait

lined_ended : (limits : Limits) (start : PlainPool) (claim : ℕ) (root : Point) (old : OpenPool) (waiting : Waiting) (reply : Reply) (acks : List Ack) → IsLined start claim limits root old → AreAcked root acks → IsLined start claim limits root (ended old waiting reply acks)
lined_ended limits start claim root old waiting reply acks lined acked =
    let more : List Entry = entry.Answer waiting.session reply ∷ [] in
    record {
      limits_are = lined.limits_are;
      at_root = point_stays start claim old.history more limits root lined.at_root;
      root_group = lined.root_group;
      acked = all_append (λ (ack : Ack). ack.ask ≤ root.entries) old.acks acks lined.acked acked;
      covered = covered_fewer old.group root old.waits waiting.session lined.covered;
      to = lined.to;
      jobs = jobs_fewer start claim old.history more limits old.waits waiting.session root old.jobs lined.to lined.jobs;
      last = point_stays start claim old.history more limits lined.to lined.last;
      leads = lined.leads;
      waiting = lined.waiting;
    }

-- the commit that is acknowledged was asked before the pool at the root
pub lined_ends : (limits : Limits) (start : PlainPool) (claim : ℕ) (root : Point) (old new : OpenPool) (session : ℕ) (waiting : Waiting) (reply : Reply)
    → IsLined start claim limits root old → waiting_of session old.waits ≡ Some waiting → EndsWait old new waiting reply old.failed → IsLined start claim limits root new
lined_ends limits start claim root old new session waiting reply lined found ends = by old.failed ends
  where
    by : (failed : Option ℕ) → EndsWait old new waiting reply failed → IsLined start claim limits root new
    by (Some call) its = subst (λ (pool : OpenPool). IsLined start claim limits root pool) (sym its.1) (lined_ended limits start claim root old waiting reply [] lined tt)
    by None its =
        subst (λ (pool : OpenPool). IsLined start claim limits root pool) (sym its.2)
        (lined_ended limits start claim root old waiting Done (ack_of old waiting ∷ []) lined (covered_one old.group root old.waits session waiting found its.1 lined.covered, tt))

-- ---- what changes no job

-- a call that failed changes none
pub lined_fails : (limits : Limits) (start : PlainPool) (claim : ℕ) (root : Point) (old : OpenPool) (made : ℕ) → IsLined start claim limits root old → IsLined start claim limits root (failed_after old made)
lined_fails limits start claim root old made lined = record {
  limits_are = lined.limits_are;
  at_root = lined.at_root;
  root_group = lined.root_group;
  acked = lined.acked;
  covered = lined.covered;
  to = lined.to;
  jobs = lined.jobs;
  last = lined.last;
  leads = lined.leads;
  waiting = lined.waiting;
}

-- nor does a call that left the files as they were
pub lined_before : (limits : Limits) (start : PlainPool) (claim : ℕ) (root : Point) (old new : OpenPool) → IsLined start claim limits root old → IsAsBefore old new → IsLined start claim limits root new
lined_before limits start claim root old new lined before =
    subst (λ (pool : OpenPool). IsLined start claim limits root pool) (sym before.1) (record {
      limits_are = ap (λ (p : PlainPool). p.limits) before.0.pool ∙ lined.limits_are;
      at_root = lined.at_root;
      root_group = lined.root_group;
      acked = lined.acked;
      covered = lined.covered;
      to = lined.to;
      jobs = lined.jobs;
      last = lined.last;
      leads = before.0.leads lined.to.base lined.leads;
      waiting = subst (λ (waiting : List WaitingGroup). AreJobsOf waiting old.jobs) (sym before.0.waiting) lined.waiting;
    })

-- ---- a job

-- two lists are one
same_first : (job other : Sealed) (jobs others : List Sealed) → job ∷ jobs ≡ other ∷ others → job ≡ other
same_first job other jobs others same = cc

same_others : (job other : Sealed) (jobs others : List Sealed) → job ∷ jobs ≡ other ∷ others → jobs ≡ others
same_others job other jobs others same = cc

-- the first job is done: the next point is that of the root
lined_finishes : (limits : Limits) (start : PlainPool) (claim : ℕ) (root next to : Point) (old new : OpenPool) (job : Sealed) (others : List Sealed) (made : ℕ) (done : GroupDone)
    → root.entries ≤ next.entries → next.group ≡ job.group → IsPoint start claim old.history limits next → AreCovered job.group next old.waits → AreJobs start claim old.history limits old.waits next others to → IsPoint start claim old.history limits to → Leads to.base old.heart
    → AreJobsOf old.heart.waiting (job ∷ others) → old.jobs ≡ job ∷ others → IsLined start claim limits root old → Finishes old new made done → IsLined start claim limits next new
lined_finishes limits start claim root next to old new job others made done later its point covered jobs last leads waiting jobs_are lined finishes =
    let same : job ∷ others ≡ finishes.job ∷ finishes.others = sym jobs_are ∙ finishes.first.jobs_are in
    let same_job : job ≡ finishes.job = same_first job finishes.job others finishes.others same in
    let same_rest : others ≡ finishes.others = same_others job finishes.job others finishes.others same in
    let more : List Entry = entry.Finish finishes.job.group finishes.job.held ∷ [] in
    subst (λ (pool : OpenPool). IsLined start claim limits next pool) (sym finishes.rest) (record {
      limits_are = ap (λ (p : PlainPool). p.limits) finishes.absorbs.pool ∙ lined.limits_are;
      at_root = point_stays start claim old.history more limits next point;
      root_group = its ∙ ap (λ (one : Sealed). one.group) same_job;
      acked = acked_later root next old.acks later lined.acked;
      covered = subst (λ (one : Sealed). AreCovered one.group next old.waits) same_job covered;
      to = to;
      jobs = subst (λ (rest : List Sealed). AreJobs start claim (old.history ++ more) limits old.waits next rest to) same_rest (jobs_same start claim old.history more limits old.waits next others to jobs);
      last = point_stays start claim old.history more limits to last;
      leads = finishes.absorbs.leads to.base leads;
      waiting = subst (λ (groups : List WaitingGroup). AreJobsOf groups finishes.others) (sym finishes.absorbs.waiting)
          (subst (λ (rest : List Sealed). AreJobsOf (drop 1 old.heart.waiting) rest) same_rest (jobs_of_rest old.heart.waiting job others waiting));
    })

-- The first job leads from the pool at the root to the one at the next point, and that is the root's once the job is done.
pub lined_step : (limits : Limits) (start : PlainPool) (claim : ℕ) (root : Point) (old : OpenPool) (job : Sealed) (others : List Sealed) → IsLined start claim limits root old → HasJob old job others
    → (next : Point) × (root.entries ≤ next.entries) × IsPoint start claim old.history limits next × IsJob root.base next.base job × AreJobsOf old.heart.waiting old.jobs
    × ((made : ℕ) (new : OpenPool) (done : GroupDone) → IsHeard start claim old → Finishes old new made done → IsLined start claim limits next new)
lined_step limits start claim root old job others lined has =
    let jobs = subst (λ (all : List Sealed). AreJobs start claim old.history limits old.waits root all lined.to) has.jobs_are lined.jobs in
    let waiting = subst (λ (all : List Sealed). AreJobsOf old.heart.waiting all) has.jobs_are lined.waiting in (
      jobs.0,
      jobs.1,
      jobs.3,
      jobs.5,
      lined.waiting,
      λ made new done heard finishes.
          lined_finishes limits start claim root jobs.0 lined.to old new job others made done jobs.1 jobs.2 jobs.3 jobs.4 jobs.6 lined.last lined.leads waiting has.jobs_are lined finishes,
    )
