-- What each event leaves of a pool, in memory and on its disks.
use Rattle.std.proofs.Common.{◌≡◌, ◌∙◌, ℕ, ◌+◌, ◌-◌, ◌^◌, ◌<◌, ◌≤◌, Bool, List, [], ◌∷◌, ◌++◌, length, drop, slice_get, Option, Some, None, IsTrue, refl, sym, ap, subst, subst₂, arith, append-nil, lit<}
use Rattle.zc_num.specs.declared.limits.Limits.{Limits}
use Rattle.zc_tape.specs.Tape.{Shape, Tape}
use Rattle.zc_tape.specs.Crash.{May}
use Rattle.zc_tape.proofs.Extends.{Extends}
use Rattle.zc_plan.specs.Counted.{AllMade, AllButLast}
use Rattle.zc_state.specs.State.{State}
use Rattle.zc_command.specs.declared.command.Command.{Command}
use Rattle.zc_command.specs.declared.command.Command.TheVariants.{Commit}
use Rattle.zc_command.specs.declared.reply.Reply.{Reply}
use Rattle.zc_command.specs.Names.{AreConditions}
use Rattle.zc_plain.specs.declared.entry.Entry.{Entry}
use Rattle.zc_plain.specs.declared.entry.Entry.TheVariants as entry
use Rattle.zc_plain.specs.IsPlain.{AreNextUpTo}
use Rattle.zc_heart.specs.declared.changes.Sealed.{Sealed}
use Rattle.zc_heart.specs.declared.changes.GroupDone.{GroupDone}
use Rattle.zc_heart.specs.Core.{Base, IsCore, pool_of}
use Rattle.zc_apply.specs.Jobs.{IsJob, IsBase}
use Rattle.zc_group.specs.declared.root.Root.{Root}
use Rattle.zc_group.specs.Kept.{HasPlaces}
use Rattle.zc_lane.specs.Jobs.{HasTreeOf, MayWrite, IsRooted, LeavesJob, IsJobDone}
use Rattle.zc_open.specs.declared.ack.Ack.{Ack}
use Rattle.zc_open.specs.declared.ack.Waiting.{Waiting}
use Rattle.zc_open.specs.declared.open_pool.OpenPool.{OpenPool}
use Rattle.zc_open.specs.declared.asking.Asked.{Asked}
use Rattle.zc_open.specs.declared.asking.Asked.TheVariants as asked
use Rattle.zc_open.specs.Events.{waiting_of, IsAsBefore, Asks, AsksCommit, IsAsked, ack_of, EndsWait, Settles, HasJob, Finishes, failed_after}
use Rattle.zc_open.specs.Heard.{IsStart, IsHeard, AreNumbered}
use Rattle.zc_open.specs.Points.{Point, IsPoint, AreAcked, AreJobsOf, IsLined}
use Rattle.zc_open.proofs.HeardLaws.{heard_asks, heard_commit, heard_ends, heard_finishes, heard_fails, heard_before, heard_numbers, heard_group, heard_calls}
use Rattle.zc_open.proofs.BaseLaws.{held_small}
use Rattle.zc_open.proofs.PointLaws.{lined_asks, lined_commit, lined_ends, lined_fails, lined_before, lined_step}
use Rattle.zc_pool.specs.Running.{Run, IsKept, IsPool, Survives, StandsUnlessFailed, IsOnDisks, IsRunning}
use Rattle.zc_pool.specs.Carried.{Carries, IsSomePool}
use Rattle.zc_pool.proofs.SurvivesLaws.{acked_within, survives_longer, survives_acked, survives_job, still_none_failed, now_failed}

-- ---- from what is carried to what runs

pub goes_on : (shape : Shape) (t u : Tape) (root next : Root) (old new : OpenPool) → Carries shape t u root next old new → u.told ≡ t.told
    → (run : Run) → IsRunning shape t run root old → IsRunning shape u run next new
goes_on shape t u root next old new is same run (point, kept, disks) =
    let on = is.carries run point kept in
    (on.0, on.1, λ told. let told_before : IsTrue t.told = subst (λ (flag : Bool). IsTrue flag) same told in on.2 told_before (disks told_before))

pub is_pool_still : (shape : Shape) (t u : Tape) (root next : Root) (old new : OpenPool) → Carries shape t u root next old new → IsPool shape root old → IsPool shape next new
is_pool_still shape t u root next old new is (run, point, kept) = let on = is.carries run point kept in (run, on.0, on.1)

pub carries_same : (shape : Shape) (t : Tape) (root : Root) (kept : OpenPool) → Carries shape t t root root kept kept
carries_same shape t root kept = record { carries = λ run point is. (point, is, λ told disks. disks) }

pub carries_nothing : (shape : Shape) (t u : Tape) (root next : Root) (old new : OpenPool) → u ≡ t → next ≡ root → new ≡ old → Carries shape t u root next old new
carries_nothing shape t u root next old new tape_is root_is kept_is =
    subst (λ (tape : Tape). Carries shape t tape root next old new) (sym tape_is)
    (subst₂ (λ (one : Root) (kept : OpenPool). Carries shape t t root one old kept) (sym root_is) (sym kept_is) (carries_same shape t root old))

-- one event after another
pub carries_then : (shape : Shape) (t u v : Tape) (root mid next : Root) (old between new : OpenPool) → u.told ≡ t.told
    → Carries shape t u root mid old between → Carries shape u v mid next between new → Carries shape t v root next old new
carries_then shape t u v root mid next old between new same one other = record {
  carries = λ run point kept.
      let first = one.carries run point kept in
      let second = other.carries run first.0 first.1 in
      (second.0, second.1, λ told disks. second.2 (subst (λ (flag : Bool). IsTrue flag) (sym same) told) (first.2 told disks));
}

-- a run goes on over one event more
pub goes_further : (shape other : Shape) (t u v : Tape) (root mid next : Root) (old between new : OpenPool) → other ≡ shape
    → ((run : Run) → IsRunning shape t run root old → IsRunning shape u run mid between)
    → ((run : Run) → IsRunning other u run mid between → IsRunning other v run next new)
    → (run : Run) → IsRunning shape t run root old → IsRunning shape v run next new
goes_further shape other t u v root mid next old between new same one more run is =
    subst (λ (of : Shape). IsRunning of v run next new) same (more run (subst (λ (of : Shape). IsRunning of u run mid between) (sym same) (one run is)))

-- ---- an event that makes no call

-- the root is the same
kept_with : (shape : Shape) (run : Run) (root : Root) (old new : OpenPool) (point : Point) → IsKept shape run root old point → IsHeard run.start run.claim new
    → IsLined run.start run.claim root.limits point new → new.group ≡ old.group → IsKept shape run root new point
kept_with shape run root old new point is heard lined group_is = record {
  start_is = is.start_is;
  claim = is.claim;
  heard = heard;
  lined = lined;
  size = is.size;
  places = is.places;
  tree = is.tree;
  group = group_is ∙ is.group;
  body_group = is.body_group;
}

-- no call was made, and none has failed since
disks_with : (shape : Shape) (t : Tape) (run : Run) (root : Root) (old new : OpenPool) (point : Point) → IsOnDisks shape t run root old point → new.calls ≡ old.calls → new.failed ≡ old.failed
    → Survives May shape t run.begun root.limits run.start new.history new.acks → IsOnDisks shape t run root new point
disks_with shape t run root old new point is calls failed survives = record {
  calls = ap (λ (calls : ℕ). run.begun + calls) calls ∙ is.calls;
  first_failed = failed ∙ is.first_failed;
  stands = subst (λ (call : Option ℕ). StandsUnlessFailed shape t root point call) (sym failed) is.stands;
  survives = survives;
}

-- as its history grows, with the same acknowledgements
survives_with : (shape : Shape) (t : Tape) (run : Run) (root : Root) (old new : OpenPool) (point : Point) (more : List Entry) → IsLined run.start run.claim root.limits point old
    → IsOnDisks shape t run root old point → new.history ≡ old.history ++ more → new.acks ≡ old.acks → Survives May shape t run.begun root.limits run.start new.history new.acks
survives_with shape t run root old new point more lined is history acks =
    subst₂ (λ (entries : List Entry) (acks : List Ack). Survives May shape t run.begun root.limits run.start entries acks) (sym history) (sym acks)
    (survives_longer May shape t run.begun root.limits run.start old.history more old.acks (acked_within run.start run.claim old.history root.limits point old.acks lined.at_root lined.acked) is.survives)

-- nothing has changed but how the files are kept
pub carries_before : (shape : Shape) (t : Tape) (root : Root) (old new : OpenPool) → IsAsBefore old new → Carries shape t t root root old new
carries_before shape t root old new before = record {
  carries = λ run point kept. (
    point,
    kept_with shape run root old new point kept (heard_before run.start run.claim old new kept.heard before) (lined_before root.limits run.start run.claim point old new kept.lined before)
        (ap (λ (pool : OpenPool). pool.group) before.1),
    λ told disks. disks_with shape t run root old new point disks (ap (λ (pool : OpenPool). pool.calls) before.1) (ap (λ (pool : OpenPool). pool.failed) before.1)
        (subst₂ (λ (entries : List Entry) (acks : List Ack). Survives May shape t run.begun root.limits run.start entries acks)
        (sym (ap (λ (pool : OpenPool). pool.history) before.1)) (sym (ap (λ (pool : OpenPool). pool.acks) before.1)) disks.survives),
  );
}

-- ---- an ask

-- what an ask needs of the numbers
pub may_be_asked : (kept : OpenPool) → IsSomePool kept → length kept.history + 2 ≤ 2 ^ 62 → (kept.heart.last ≤ length kept.history) × AreNextUpTo (2 ^ 64 - 2) (pool_of kept.heart) × (kept.heart.group < 2 ^ 64 - 1)
may_be_asked kept (shape, root, pool) few =
    let run : Run = pool.0 in
    let is : IsKept shape run root kept pool.1 = pool.2 in
    let within : length kept.history ≤ 2 ^ 62 = omega arith in
    (is.heard.last, heard_numbers root.limits run.start run.claim kept is.start_is is.heard within, heard_group run.start run.claim kept is.claim is.heard within)

carries_asks : (shape : Shape) (t : Tape) (root : Root) (old new : OpenPool) (session : ℕ) (command : Command) (reply : Reply) → AreConditions command → waiting_of session old.waits ≡ None
    → Asks old new session command reply → Carries shape t t root root old new
carries_asks shape t root old new session command reply meets free asks = record {
  carries = λ run point kept. (
    point,
    kept_with shape run root old new point kept (heard_asks run.start run.claim old new session command reply meets free kept.heard asks)
        (lined_asks root.limits run.start run.claim point old new session command reply kept.lined asks) (ap (λ (pool : OpenPool). pool.group) asks.rest),
    λ told disks. disks_with shape t run root old new point disks (ap (λ (pool : OpenPool). pool.calls) asks.rest) (ap (λ (pool : OpenPool). pool.failed) asks.rest)
        (survives_with shape t run root old new point (entry.Ask session command ∷ entry.Answer session reply ∷ []) kept.lined disks
        (ap (λ (pool : OpenPool). pool.history) asks.rest) (ap (λ (pool : OpenPool). pool.acks) asks.rest)),
  );
}

carries_commit : (shape : Shape) (t : Tape) (root : Root) (old new : OpenPool) (session : ℕ) → waiting_of session old.waits ≡ None → IsCore old.heart → length old.history + 2 ≤ 2 ^ 62
    → AsksCommit old new session → Carries shape t t root root old new
carries_commit shape t root old new session free core few asks = record {
  carries = λ run point kept. (
    point,
    kept_with shape run root old new point kept (heard_commit run.start run.claim old new session free kept.heard asks)
        (lined_commit root.limits run.start run.claim point old new session kept.start_is kept.heard core few kept.lined asks) (ap (λ (pool : OpenPool). pool.group) asks.rest),
    λ told disks. disks_with shape t run root old new point disks (ap (λ (pool : OpenPool). pool.calls) asks.rest) (ap (λ (pool : OpenPool). pool.failed) asks.rest)
        (survives_with shape t run root old new point (entry.Ask session Commit ∷ entry.Seal old.heart.group ∷ []) kept.lined disks
        (ap (λ (pool : OpenPool). pool.history) asks.rest) (ap (λ (pool : OpenPool). pool.acks) asks.rest)),
  );
}

pub carries_ask : (shape : Shape) (t : Tape) (root : Root) (old new : OpenPool) (session : ℕ) (command : Command) (outcome : Asked) → AreConditions command → waiting_of session old.waits ≡ None
    → IsCore old.heart → length old.history + 2 ≤ 2 ^ 62 → IsAsked old new session command outcome → Carries shape t t root root old new
carries_ask shape t root old new session command (asked.Answered reply) meets free core few asks = carries_asks shape t root old new session command reply meets free asks
carries_ask shape t root old new session command asked.Waiting meets free core few asks = carries_commit shape t root old new session free core few asks.1

-- ---- a settle

carries_failed : (shape : Shape) (t : Tape) (run : Run) (root : Root) (old new : OpenPool) (waiting : Waiting) (reply : Reply) (point : Point) (call : ℕ) → IsLined run.start run.claim root.limits point old → IsOnDisks shape t run root old point
    → EndsWait old new waiting reply (Some call) → IsOnDisks shape t run root new point
carries_failed shape t run root old new waiting reply point call lined disks ends =
    disks_with shape t run root old new point disks (ap (λ (pool : OpenPool). pool.calls) ends.1) (ap (λ (pool : OpenPool). pool.failed) ends.1)
    (survives_with shape t run root old new point (entry.Answer waiting.session reply ∷ []) lined disks
    (ap (λ (pool : OpenPool). pool.history) ends.1) (ap (λ (pool : OpenPool). pool.acks) ends.1 ∙ append-nil old.acks))

carries_done : (shape : Shape) (t : Tape) (run : Run) (root : Root) (old new : OpenPool) (waiting : Waiting) (reply : Reply) (point : Point) → IsOnDisks shape t run root old point
    → IsLined run.start run.claim root.limits point old → IsLined run.start run.claim root.limits point new → old.failed ≡ None → EndsWait old new waiting reply None → IsOnDisks shape t run root new point
carries_done shape t run root old new waiting reply point disks before lined none ends =
    let ack : Ack = ack_of old waiting in
    let more : List Entry = entry.Answer waiting.session reply ∷ [] in
    let history : new.history ≡ old.history ++ more =
    ap (λ (pool : OpenPool). pool.history) ends.2 ∙ ap (λ (said : Reply). old.history ++ entry.Answer waiting.session said ∷ []) (sym ends.0) in
    let acks : new.acks ≡ old.acks ++ ack ∷ [] = ap (λ (pool : OpenPool). pool.acks) ends.2 in
    let root_stands : StandsUnlessFailed shape t root point None = subst (λ (call : Option ℕ). StandsUnlessFailed shape t root point call) none disks.stands in
    let acked : Survives May shape t run.begun root.limits run.start old.history (old.acks ++ ack ∷ []) =
    survives_acked shape t run.begun root.limits run.start run.claim old.history old.acks ack point root_stands.0 root disks.survives disks.calls before.at_root
    (subst (AreAcked point) acks lined.acked) root_stands.1 root_stands.2 in
    disks_with shape t run root old new point disks (ap (λ (pool : OpenPool). pool.calls) ends.2) (ap (λ (pool : OpenPool). pool.failed) ends.2)
    (subst₂ (λ (entries : List Entry) (acks : List Ack). Survives May shape t run.begun root.limits run.start entries acks) (sym history) (sym acks)
    (survives_longer May shape t run.begun root.limits run.start old.history more (old.acks ++ ack ∷ [])
    (acked_within run.start run.claim old.history root.limits point (old.acks ++ ack ∷ []) before.at_root (subst (AreAcked point) acks lined.acked)) acked))

disks_ended : (shape : Shape) (t : Tape) (run : Run) (root : Root) (old new : OpenPool) (waiting : Waiting) (reply : Reply) (point : Point) (failed : Option ℕ) → old.failed ≡ failed
    → IsOnDisks shape t run root old point → IsLined run.start run.claim root.limits point old → IsLined run.start run.claim root.limits point new → EndsWait old new waiting reply failed
    → IsOnDisks shape t run root new point
disks_ended shape t run root old new waiting reply point None is disks before lined ends = carries_done shape t run root old new waiting reply point disks before lined is ends
disks_ended shape t run root old new waiting reply point (Some call) is disks before lined ends = carries_failed shape t run root old new waiting reply point call before disks ends

group_ended : (old new : OpenPool) (waiting : Waiting) (reply : Reply) (failed : Option ℕ) → EndsWait old new waiting reply failed → new.group ≡ old.group
group_ended old new waiting reply None ends = ap (λ (pool : OpenPool). pool.group) ends.2
group_ended old new waiting reply (Some call) ends = ap (λ (pool : OpenPool). pool.group) ends.1

pub carries_settle : (shape : Shape) (t : Tape) (root : Root) (old new : OpenPool) (session : ℕ) (ended : Option Reply) → Settles old new session ended → Carries shape t t root root old new
carries_settle shape t root old new session None settles = carries_nothing shape t t root root old new refl refl settles.4
carries_settle shape t root old new session (Some reply) (waiting, found, ends) = record {
  carries = λ run point kept.
      let lined : IsLined run.start run.claim root.limits point new = lined_ends root.limits run.start run.claim point old new session waiting reply kept.lined found ends in (
        point,
        kept_with shape run root old new point kept (heard_ends run.start run.claim old new session waiting reply kept.heard found ends) lined
            (group_ended old new waiting reply old.failed ends),
        λ told disks. disks_ended shape t run root old new waiting reply point old.failed refl disks kept.lined lined ends,
      );
}

-- ---- a step

-- the first of the jobs
pub has_job : (kept : OpenPool) (job : Sealed) → slice_get kept.jobs 0 ≡ Some job → HasJob kept job (drop 1 kept.jobs)
has_job kept job found = record { jobs_are = first_is kept.jobs found } where
  first_is : (jobs : List Sealed) → slice_get jobs 0 ≡ Some job → jobs ≡ job ∷ drop 1 jobs
  first_is [] found = absurd cc
  first_is (one ∷ others) found = let same : one ≡ job = cc in ap (λ (first : Sealed). first ∷ others) same

-- what is known of the first job, before it is written
pub record IsFirst (root : Root) (kept : OpenPool) (job : Sealed) : Type 0 where
  pub next_group : job.group ≡ root.body.group + 1
  pub may : MayWrite root job
  pub waiting : AreJobsOf kept.heart.waiting (job ∷ drop 1 kept.jobs)
  pub held : job.held ≤ 2 ^ 62

first_number : (from : ℕ) (jobs others : List Sealed) (to : ℕ) (job : Sealed) → AreNumbered from jobs to → jobs ≡ job ∷ others → job.group ≡ from
first_number from jobs others to job numbered is = (subst (λ (all : List Sealed). AreNumbered from all to) is numbered).0

first_held : (run : Run) (limits : Limits) (old : OpenPool) (root : Point) (job : Sealed) (others : List Sealed) → IsLined run.start run.claim limits root old → HasJob old job others → job.held ≤ 2 ^ 62
first_held run limits old root job others lined first =
    let step = lined_step limits run.start run.claim root old job others lined first in
    subst (λ (held : ℕ). held ≤ 2 ^ 62) (sym step.3.held) (held_small limits step.0.base step.2.base_is)

pub first_of_pool : (shape : Shape) (root : Root) (kept : OpenPool) (job : Sealed) → IsPool shape root kept → slice_get kept.jobs 0 ≡ Some job → IsFirst root kept job
first_of_pool shape root kept job (run, point, is) found =
    let first : HasJob kept job (drop 1 kept.jobs) = has_job kept job found in
    let step = lined_step root.limits run.start run.claim point kept job (drop 1 kept.jobs) is.lined first in
    let number : job.group ≡ kept.group + 1 = first_number (kept.group + 1) kept.jobs (drop 1 kept.jobs) kept.heart.group job is.heard.numbered first.jobs_are in
    record {
      next_group = number ∙ ap (λ (group : ℕ). group + 1) (is.group ∙ sym is.body_group);
      may = record { from = point.base; to = step.0.base; has_tree = is.tree; base = step.2.base_is; leads = step.3 };
      waiting = subst (λ (jobs : List Sealed). AreJobsOf kept.heart.waiting jobs) first.jobs_are step.4;
      held = first_held run root.limits kept point job (drop 1 kept.jobs) is.lined first;
    }

-- and the numbers have room for its calls
pub room_for_calls : (shape : Shape) (root : Root) (kept : OpenPool) → IsPool shape root kept → kept.failed ≡ None → length kept.history + 2 ≤ 2 ^ 62 → kept.calls + 2 ^ 64 ≤ 2 ^ 128
room_for_calls shape root kept (run, point, is) none few =
    let within : length kept.history ≤ 2 ^ 62 = omega arith in
    let most : kept.calls + (2 ^ 64 - 1) < 2 ^ 128 = heard_calls run.start run.claim kept (2 ^ 64 - 1) is.heard none within (lit< tt) in
    omega arith

-- what writing a job came to, whatever the disks told
pub record IsWritten (shape : Shape) (t u : Tape) (root next : Root) (job : Sealed) (made : ℕ) : Type 0 where
  pub extends : IsTrue t.told → Extends t u
  pub any_moment : (s : State) (from to : Base) → IsRooted shape t s root from → IsBase root.limits to → IsJob from to job → LeavesJob shape s to t u
  pub done : (s : State) (from to : Base) → IsRooted shape t s root from → IsBase root.limits to → IsJob from to job → (after : State) × IsJobDone shape u s after next to
  pub tree : (from to : Base) → IsBase root.limits to → HasTreeOf from root → IsJob from to job → HasTreeOf to next
  pub body_group : next.body.group ≡ job.group
  pub tree_group : next.tree.group ≡ job.group
  pub limits : next.limits ≡ root.limits
  pub places : HasPlaces next
  pub counted : IsTrue t.told → length u.calls ≡ length t.calls + made
  pub all_made : IsTrue t.told → AllMade (drop (length t.calls) u.calls)

-- the same where a call failed
pub record IsCutShort (shape : Shape) (t u : Tape) (root : Root) (job : Sealed) (made : ℕ) : Type 0 where
  pub extends : IsTrue t.told → Extends t u
  pub any_moment : (s : State) (from to : Base) → IsRooted shape t s root from → IsBase root.limits to → IsJob from to job → LeavesJob shape s to t u
  pub counted : IsTrue t.told → length u.calls ≡ length t.calls + made
  pub first_failed : IsTrue t.told → AllButLast (drop (length t.calls) u.calls)

-- while a job is written, from the point of the root to the next, a crash leaves a survivor
job_survives : (shape : Shape) (t u : Tape) (run : Run) (root : Root) (old : OpenPool) (job : Sealed) (point to : Point) → IsKept shape run root old point
    → IsPoint run.start run.claim old.history root.limits to → point.entries ≤ to.entries → IsJob point.base to.base job → old.failed ≡ None → Extends t u
    → ((s : State) (from to : Base) → IsRooted shape t s root from → IsBase root.limits to → IsJob from to job → LeavesJob shape s to t u)
    → IsOnDisks shape t run root old point → Survives May shape u run.begun root.limits run.start old.history old.acks
job_survives shape t u run root old job point to kept is later leads none longer any_moment disks =
    let stands : StandsUnlessFailed shape t root point None = subst (λ (call : Option ℕ). StandsUnlessFailed shape t root point call) none disks.stands in
    survives_job shape t u run.begun root.limits run.start run.claim old.history old.acks point to stands.0 root longer disks.survives kept.lined.at_root is later kept.lined.acked stands.1
    (any_moment stands.0 point.base to.base stands.1 is.base_is leads)

-- what is kept in memory once the job is written
kept_written : (shape : Shape) (t u : Tape) (run : Run) (root next : Root) (old new : OpenPool) (job : Sealed) (made : ℕ) (done : GroupDone) (point to : Point) → IsKept shape run root old point
    → IsWritten shape t u root next job made → IsPoint run.start run.claim old.history root.limits to → IsJob point.base to.base job → IsHeard run.start run.claim new → IsLined run.start run.claim root.limits to new
    → new.group ≡ job.group → IsKept shape run next new to
kept_written shape t u run root next old new job made done point to kept written is leads heard lined group_is = record {
  start_is = subst (λ (limits : Limits). IsStart limits run.start) (sym written.limits) kept.start_is;
  claim = kept.claim;
  heard = heard;
  lined = subst (λ (limits : Limits). IsLined run.start run.claim limits to new) (sym written.limits) lined;
  size = record { devices = ap (λ (limits : Limits). limits.devices) written.limits ∙ kept.size.devices; places = ap (λ (limits : Limits). limits.places) written.limits ∙ kept.size.places };
  places = written.places;
  tree = written.tree point.base to.base is.base_is kept.tree leads;
  group = group_is ∙ sym written.tree_group;
  body_group = written.body_group ∙ sym written.tree_group;
}

-- and what the disks hold then
disks_written : (shape : Shape) (t u : Tape) (run : Run) (root next : Root) (old new : OpenPool) (job : Sealed) (made : ℕ) (done : GroupDone) (point to : Point) → IsKept shape run root old point
    → IsWritten shape t u root next job made → IsPoint run.start run.claim old.history root.limits to → point.entries ≤ to.entries → IsJob point.base to.base job → old.failed ≡ None
    → Finishes old new made done → IsTrue t.told → IsOnDisks shape t run root old point → IsOnDisks shape u run next new to
disks_written shape t u run root next old new job made done point to kept written is later leads none finishes told disks =
    let longer : Extends t u = written.extends told in
    let counted : length u.calls ≡ length t.calls + made = written.counted told in
    let calls : new.calls ≡ old.calls + made = ap (λ (pool : OpenPool). pool.calls) finishes.rest in
    let all : run.begun + old.calls ≡ length t.calls = disks.calls in
    let before : run.begun ≤ length t.calls = omega arith in
    let failed : new.failed ≡ None = ap (λ (pool : OpenPool). pool.failed) finishes.rest ∙ none in
    let stood : StandsUnlessFailed shape t root point None = subst (λ (call : Option ℕ). StandsUnlessFailed shape t root point call) none disks.stands in
    let after : (next_state : State) × IsJobDone shape u stood.0 next_state next to.base = written.done stood.0 point.base to.base stood.1 is.base_is leads in
    let stands : StandsUnlessFailed shape u next to None = (after.0, after.1.rooted, after.1.only) in
    let survives : Survives May shape u run.begun root.limits run.start old.history old.acks =
    job_survives shape t u run root old job point to kept is later leads none longer written.any_moment disks in
    let longer_history : Survives May shape u run.begun root.limits run.start (old.history ++ entry.Finish finishes.job.group finishes.job.held ∷ []) old.acks =
    survives_longer May shape u run.begun root.limits run.start old.history (entry.Finish finishes.job.group finishes.job.held ∷ []) old.acks
    (acked_within run.start run.claim old.history root.limits point old.acks kept.lined.at_root kept.lined.acked) survives in
    let of_new : Survives May shape u run.begun root.limits run.start new.history new.acks =
    subst₂ (λ (entries : List Entry) (acks : List Ack). Survives May shape u run.begun root.limits run.start entries acks)
    (sym (ap (λ (pool : OpenPool). pool.history) finishes.rest)) (sym (ap (λ (pool : OpenPool). pool.acks) finishes.rest)) longer_history in
    record {
      calls = omega arith;
      first_failed = failed ∙ still_none_failed run.begun t u before longer (sym none ∙ disks.first_failed) (written.all_made told);
      stands = subst (λ (call : Option ℕ). StandsUnlessFailed shape u next to call) (sym failed) stands;
      survives = subst (λ (limits : Limits). Survives May shape u run.begun limits run.start new.history new.acks) (sym written.limits) of_new;
    }

-- the job that a finish speaks of is the first
same_first : (old : OpenPool) (one job : Sealed) (others rest : List Sealed) → HasJob old one others → HasJob old job rest → one ≡ job
same_first old one job others rest first also = let same : one ∷ others ≡ job ∷ rest = sym first.jobs_are ∙ also.jobs_are in cc

-- the first job is written, and finished
pub carries_written : (shape : Shape) (t u : Tape) (root next : Root) (old new : OpenPool) (job : Sealed) (made : ℕ) (done : GroupDone) → slice_get old.jobs 0 ≡ Some job → old.failed ≡ None
    → made < 2 ^ 64 → Finishes old new made done → IsWritten shape t u root next job made → Carries shape t u root next old new
carries_written shape t u root next old new job made done found none small finishes written = record {
  carries = λ run point kept.
      let first : HasJob old job (drop 1 old.jobs) = has_job old job found in
      let step = lined_step root.limits run.start run.claim point old job (drop 1 old.jobs) kept.lined first in
      let heard : IsHeard run.start run.claim new =
      heard_finishes run.start run.claim old new made done kept.heard none small (λ one others has. first_held run root.limits old point one others kept.lined has) step.4 finishes in
      let lined : IsLined run.start run.claim root.limits step.0 new = step.5 made new done kept.heard finishes in
      let same : finishes.job ≡ job = same_first old finishes.job job finishes.others (drop 1 old.jobs) finishes.first first in
      let group : new.group ≡ job.group = ap (λ (pool : OpenPool). pool.group) finishes.rest ∙ ap (λ (one : Sealed). one.group) same in (
        step.0,
        kept_written shape t u run root next old new job made done point step.0 kept written step.2 step.3 heard lined group,
        λ told disks. disks_written shape t u run root next old new job made done point step.0 kept written step.2 step.1 step.3 none finishes told disks,
      );
}

-- what the disks hold where a call failed
disks_failed : (shape : Shape) (t u : Tape) (run : Run) (root : Root) (old : OpenPool) (job : Sealed) (made : ℕ) (point to : Point) → IsKept shape run root old point
    → IsCutShort shape t u root job made → IsPoint run.start run.claim old.history root.limits to → point.entries ≤ to.entries → IsJob point.base to.base job → old.failed ≡ None
    → IsTrue t.told → IsOnDisks shape t run root old point → IsOnDisks shape u run root (failed_after old made) point
disks_failed shape t u run root old job made point to kept cut is later leads none told disks =
    let longer : Extends t u = cut.extends told in
    let counted : length u.calls ≡ length t.calls + made = cut.counted told in
    let all : run.begun + old.calls ≡ length t.calls = disks.calls in
    record {
      calls = omega arith;
      first_failed = now_failed run.begun old.calls made t u all longer (sym none ∙ disks.first_failed) (cut.first_failed told) counted;
      stands = tt;
      survives = job_survives shape t u run root old job point to kept is later leads none longer cut.any_moment disks;
    }

-- a call failed, and the root is what it was
pub carries_cut_short : (shape : Shape) (t u : Tape) (root : Root) (old : OpenPool) (job : Sealed) (made : ℕ) → slice_get old.jobs 0 ≡ Some job → old.failed ≡ None
    → made < 2 ^ 64 → IsCutShort shape t u root job made → Carries shape t u root root old (failed_after old made)
carries_cut_short shape t u root old job made found none small cut = record {
  carries = λ run point kept.
      let first : HasJob old job (drop 1 old.jobs) = has_job old job found in
      let step = lined_step root.limits run.start run.claim point old job (drop 1 old.jobs) kept.lined first in (
        point,
        kept_with shape run root old (failed_after old made) point kept (heard_fails run.start run.claim old made kept.heard none small)
            (lined_fails root.limits run.start run.claim point old made kept.lined) refl,
        λ told disks. disks_failed shape t u run root old job made point step.0 kept cut step.2 step.1 step.3 none told disks,
      );
}

-- the same, as the function that writes it tells it
pub carries_failed_at : (shape : Shape) (t u : Tape) (root next : Root) (old new : OpenPool) (job : Sealed) (made : ℕ) → slice_get old.jobs 0 ≡ Some job → old.failed ≡ None
    → made < 2 ^ 64 → next ≡ root → new ≡ failed_after old made → IsCutShort shape t u root job made → Carries shape t u root next old new
carries_failed_at shape t u root next old new job made found none small root_is kept_is cut =
    subst₂ (λ (one : Root) (kept : OpenPool). Carries shape t u root one old kept) (sym root_is) (sym kept_is) (carries_cut_short shape t u root old job made found none small cut)
