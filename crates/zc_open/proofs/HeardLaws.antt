-- What is kept in memory is what the history says, whatever a call adds to it.
use Rattle.std.proofs.Common.{◌≡◌, ℕ, zero, suc, ◌+◌, ◌*◌, ◌-◌, ◌^◌, ◌<◌, ◌≤◌, ◌==◌, Bool, true, false, cond, not, ◌||◌, nat_lt, List, [], ◌∷◌, ◌++◌, take, drop, length, map, filter, fold, slice_get, option_map, Option, Some, None, IsSome, is_some, Ok, refl, sym, ap, subst, ◌∙◌, ⊎_elim, arith}
use Rattle.std.specs.List.{AllByRecursion}
use Rattle.std.proofs.lemmas.Bool.{false≢true, and_from, or_cases, lt-ltb, eqb-true, false_from_ne_true}
use Rattle.std.proofs.lemmas.List.{length-append, map_push, take_at, take_all}
use Rattle.std.proofs.lemmas.Option.{none-some, same_Some}
use Rattle.zc_num.specs.declared.limits.Limits.{Limits}
use Rattle.zc_command.specs.declared.command.Command.{Command}
use Rattle.zc_command.specs.declared.command.Command.TheVariants.{Commit}
use Rattle.zc_command.specs.declared.reply.Reply.{Reply}
use Rattle.zc_command.specs.declared.reply.Reply.TheVariants.{Done, No}
use Rattle.zc_command.specs.declared.refusal.Refusal.TheVariants.{Eio}
use Rattle.zc_command.specs.Names.{Each, AreConditions}
use Rattle.zc_plain.specs.declared.plain_pool.PlainPool.{PlainPool}
use Rattle.zc_plain.specs.declared.tally.Tally.{Tally}
use Rattle.zc_plain.specs.declared.entry.Entry.{Entry}
use Rattle.zc_plain.specs.declared.entry.Entry.TheVariants.{Ask, Answer, Seal, Finish}
use Rattle.zc_plain.specs.Charge.{held_by, tally_of, with_finish}
use Rattle.zc_plain.specs.Answer.{answer, settled}
use Rattle.zc_plain.specs.History.{PlainState, MeetsConditions, tally_after, next_number, step, state_after, pool_after}
use Rattle.zc_plain.specs.IsPlain.{AreNextUpTo, IsState}
use Rattle.zc_plain.specs.Legal.{Nothing, Wait, Unfinished, Progress, at_start, is_eio, is_over, without_wait, MayEnd, AreLegal, IsLegal, progress}
use Rattle.zc_plain.specs.Legal.{wait_of as found_wait}
use Rattle.zc_plain.proofs.HistoryLaws.{state_is_state, entries_are_counted}
use Rattle.zc_heart.specs.declared.changes.Sealed.{Sealed}
use Rattle.zc_heart.specs.declared.changes.GroupDone.{GroupDone}
use Rattle.zc_heart.specs.declared.pool_core.WaitingGroup.{WaitingGroup}
use Rattle.zc_heart.specs.declared.pool_core.Core.{Core}
use Rattle.zc_heart.specs.Core.{pool_of, Agrees}
use Rattle.zc_heart.specs.Meaning.{Replies, IsSealed, MayAbsorb, Absorbs}
use Rattle.zc_open.specs.declared.ack.Ack.{Ack}
use Rattle.zc_open.specs.declared.ack.Waiting.{Waiting}
use Rattle.zc_open.specs.declared.open_pool.OpenPool.{OpenPool}
use Rattle.zc_open.specs.Since.{Since, is_changed_by, since_after}
use Rattle.zc_open.specs.Events.{begun_pool, waiting_of, without_waiting, IsAsBefore, Asks, AsksCommit, ack_of, ended, EndsWait, HasJob, Notes, forgotten, FinishesNoted, Finishes, failed_after}
use Rattle.zc_open.specs.Heard.{IsStart, progress_after, wait_of, unfinished_of, IsAskedBy, AreNumbered, calls_left, IsHeard}
use Rattle.zc_open.specs.Points.{AreJobsOf}
use Rattle.zc_open.proofs.PastLaws.{item_before}
use Rattle.zc_open.proofs.SinceLaws.{settled_since, since_asked, since_sealed, since_answered, since_finished}
use Rattle.zc_open.proofs.ProgressLaws.{progress_append, legal_append, state_of_progress, number_of_progress, reply_at_once, pool_asked, tally_asked, pool_sealed, tally_sealed, pool_answered, tally_answered, pool_finished, tally_finished, progress_asked, legal_asked, sealed_after, progress_sealed, legal_sealed, progress_answered, legal_answered, progress_finished, legal_finished, legal_failed}

-- ---- lists

each_append : {X : Type 0} (P : X → Type 0) (front back : List X) → Each P front → Each P back → Each P (front ++ back)
each_append P [] back all more = more
each_append P (x ∷ front) back all more = (all.0, each_append P front back all.1 more)

all_and_one : {X : Type 0} (P : X → Type 0) (xs : List X) (x : X) → AllByRecursion P xs → P x → AllByRecursion P (xs ++ x ∷ [])
all_and_one P [] x all one = (one, tt)
all_and_one P (first ∷ xs) x all one = (all.0, all_and_one P xs x all.1 one)

all_kept : {X : Type 0} (P : X → Type 0) (test : X → Bool) (xs : List X) → AllByRecursion P xs → AllByRecursion P (filter test xs)
all_kept P test [] all = tt
all_kept P test (x ∷ xs) all = by_test (test x) (all_kept P test xs all.1) where
  by_test : (kept : Bool) → AllByRecursion P (filter test xs) → AllByRecursion P (cond kept (x ∷ filter test xs) (filter test xs))
  by_test true others = (all.0, others)
  by_test false others = others

-- the item after a front, and the next
item_after : {X : Type 0} (front : List X) (x : X) (back : List X) → slice_get (front ++ x ∷ back) (length front) ≡ Some x
item_after [] x back = refl
item_after (y ∷ front) x back = item_after front x back

pub next_after : {X : Type 0} (front : List X) (one two : X) (back : List X) → slice_get (front ++ one ∷ two ∷ back) (length front + 1) ≡ Some two
next_after [] one two back = refl
next_after (y ∷ front) one two back =
    let place : suc (length front + 1) ≡ suc (length front) + 1 = omega arith in
    subst (λ (n : ℕ). slice_get (y ∷ front ++ one ∷ two ∷ back) n ≡ Some two) place (next_after front one two back)

-- ---- who waits

found_as : (found : Bool) (waiting : Waiting) (waits : Option Wait) (others : Option Waiting) → waits ≡ option_map wait_of others
    → cond found (Some (wait_of waiting)) waits ≡ option_map wait_of (cond found (Some waiting) others)
found_as true waiting waits others same = refl
found_as false waiting waits others same = same

-- what a session waits for is what is kept of it
pub wait_found : (session : ℕ) (waits : List Waiting) → found_wait session (map wait_of waits) ≡ option_map wait_of (waiting_of session waits)
wait_found session [] = refl
wait_found session (waiting ∷ waits) = found_as (waiting.session == session) waiting (found_wait session (map wait_of waits)) (waiting_of session waits) (wait_found session waits)

kept_as : (kept : Bool) (waiting : Waiting) (waits : List Wait) (others : List Waiting) → waits ≡ map wait_of others
    → cond kept (wait_of waiting ∷ waits) waits ≡ map wait_of (cond kept (waiting ∷ others) others)
kept_as true waiting waits others same = ap (λ (them : List Wait). wait_of waiting ∷ them) same
kept_as false waiting waits others same = same

pub waits_without : (session : ℕ) (waits : List Waiting) → without_wait session (map wait_of waits) ≡ map wait_of (without_waiting session waits)
waits_without session [] = refl
waits_without session (waiting ∷ waits) = kept_as (not (waiting.session == session)) waiting (without_wait session (map wait_of waits)) (without_waiting session waits) (waits_without session waits)

-- what is found for a session is its own
pub own_wait : (session : ℕ) (waits : List Waiting) (found : Waiting) → waiting_of session waits ≡ Some found → found.session ≡ session
own_wait session [] found is = absurd (none-some found is)
own_wait session (waiting ∷ waits) found is = by_test (waiting.session == session) (own_wait session waits found) refl is where
  by_test : (test : Bool) → (waiting_of session waits ≡ Some found → found.session ≡ session) → (waiting.session == session) ≡ test → cond test (Some waiting) (waiting_of session waits) ≡ Some found → found.session ≡ session
  by_test true behind same here = ap (λ (it : Waiting). it.session) (sym (same_Some waiting found here)) ∙ eqb-true waiting.session session same
  by_test false behind other there = behind there

waits_and_one : (waits : List Waiting) (before : List Wait) (one : Waiting) → before ≡ map wait_of waits → before ++ wait_of one ∷ [] ≡ map wait_of (waits ++ one ∷ [])
waits_and_one waits before one same = ap (λ (them : List Wait). them ++ wait_of one ∷ []) same ∙ sym (map_push wait_of waits one)

-- the commits that are waited for stand where they stood
asked_longer : (history more : List Entry) (group next : ℕ) (waits : List Waiting) → group ≤ next → AllByRecursion (IsAskedBy history group) waits → AllByRecursion (IsAskedBy (history ++ more) next) waits
asked_longer history more group next [] later asked = tt
asked_longer history more group next (waiting ∷ waits) later asked =
    let one = asked.0 in
    ((one.0, omega (arith, one.1), item_before history more (waiting.ask - 1) (Ask waiting.session Commit) one.2, item_before history more waiting.ask (Seal waiting.group) one.3), asked_longer history more group next waits later asked.1)

-- and so does the one that is asked now
asked_now : (history : List Entry) (session group next : ℕ) → group < next → IsAskedBy (history ++ Ask session Commit ∷ Seal group ∷ []) next (record { session = session; ask = length history + 1; group = group })
asked_now history session group next later =
    let place : length history + 1 - 1 ≡ length history = omega arith in
    (omega arith, later, ap (λ (n : ℕ). slice_get (history ++ Ask session Commit ∷ Seal group ∷ []) n) place ∙ item_after history (Ask session Commit) (Seal group ∷ []), next_after history (Ask session Commit) (Seal group) [])

-- ---- the groups that aren't finished

pub numbered_and_one : (from : ℕ) (jobs : List Sealed) (to : ℕ) (job : Sealed) → AreNumbered from jobs to → job.group ≡ to → AreNumbered from (jobs ++ job ∷ []) (to + 1)
numbered_and_one from [] to job numbered is = (is ∙ sym numbered, ap (λ (n : ℕ). n + 1) numbered)
numbered_and_one from (first ∷ jobs) to job numbered is = (numbered.0, numbered_and_one (from + 1) jobs to job numbered.1 is)

pub numbered_count : (from : ℕ) (jobs : List Sealed) (to : ℕ) → AreNumbered from jobs to → from + length jobs ≡ to
numbered_count from [] to numbered = omega arith
numbered_count from (job ∷ jobs) to numbered = let behind = numbered_count (from + 1) jobs to numbered.1 in omega arith

jobs_and_one : (jobs : List Sealed) (before : List Unfinished) (one : Sealed) (group held : ℕ) → before ≡ map unfinished_of jobs → one.group ≡ group → one.held ≡ held
    → before ++ record { group = group; held = held } ∷ [] ≡ map unfinished_of (jobs ++ one ∷ [])
jobs_and_one jobs before one group held same is_group is_held = rw (same, ← is_group, ← is_held) (sym (map_push unfinished_of jobs one))

-- a wait is over where every group that is left is after its own
over_before : (session group from : ℕ) (jobs : List Sealed) (to : ℕ) → group < from → AreNumbered from jobs to → is_over (record { session = session; group = group }) (map unfinished_of jobs) ≡ true
over_before session group from [] to before numbered = refl
over_before session group from (job ∷ jobs) to before numbered =
    and_from (nat_lt group job.group) (is_over (record { session = session; group = group }) (map unfinished_of jobs))
    (lt-ltb group job.group (omega (arith, numbered.0))) (over_before session group (from + 1) jobs to (omega arith) numbered.1)

none_left : (jobs : List Sealed) → map unfinished_of jobs ≡ [] → jobs ≡ []
none_left [] none = refl
none_left (job ∷ jobs) none = cc

-- ---- by the progress of the history

-- what is kept in memory is this progress
record Hears (start : PlainPool) (claim : ℕ) (pool : OpenPool) (p : Progress) : Type 0 where
  conditions : Each MeetsConditions pool.history
  legal : IsLegal start claim pool.failed pool.history
  due : p.due ≡ Nothing
  pool_is : pool_of pool.heart ≡ p.state.pool
  tally : Agrees p.state.tally pool.heart
  waits : p.waits ≡ map wait_of pool.waits
  unfinished : p.unfinished ≡ map unfinished_of pool.jobs
  next_group : pool.heart.group ≡ p.last + 1
  failed : p.failed ≡ true → IsSome pool.failed
  numbered : AreNumbered (pool.group + 1) pool.jobs pool.heart.group
  asked : AllByRecursion (IsAskedBy pool.history pool.heart.group) pool.waits
  since : since_after pool.history ≡ settled_since pool.changed
  last : pool.heart.last ≤ length pool.history
  groups : pool.heart.group ≤ claim + 1 + length pool.history
  calls : pool.calls + calls_left pool.failed ≤ 2 ^ 64 * (length pool.history + 2)

heard_from : (start : PlainPool) (claim : ℕ) (pool : OpenPool) → Hears start claim pool (progress_after start claim pool.history) → IsHeard start claim pool
heard_from start claim pool hears = record {
  conditions = hears.conditions;
  legal = hears.legal;
  due = hears.due;
  pool_is = hears.pool_is;
  tally = hears.tally;
  waits = hears.waits;
  unfinished = hears.unfinished;
  next_group = hears.next_group;
  failed = hears.failed;
  numbered = hears.numbered;
  asked = hears.asked;
  since = hears.since;
  last = hears.last;
  groups = hears.groups;
  calls = hears.calls;
}

-- once it is known what more entries leave
heard_after : (start : PlainPool) (claim : ℕ) (old : OpenPool) (more : List Entry) (new : OpenPool) (q : Progress) → new.history ≡ old.history ++ more
    → fold progress (progress_after start claim old.history) more ≡ q → Hears start claim new q → IsHeard start claim new
heard_after start claim old more new q longer behind hears =
    let same : progress_after start claim new.history ≡ q = ap (progress_after start claim) longer ∙ progress_append start claim old.history more ∙ behind in
    heard_from start claim new (subst (λ (p : Progress). Hears start claim new p) (sym same) hears)

-- ---- the beginning

pub heard_begun : (limits : Limits) (start : PlainPool) (heart : Core) (group calls : ℕ) → IsStart limits start → pool_of heart ≡ start → Agrees (tally_of start) heart → heart.group ≡ group + 1
    → heart.last ≡ 0 → calls ≤ 2 ^ 64 → IsHeard start group (begun_pool heart group calls)
heard_begun limits start heart group calls is same agrees next none few = record {
  conditions = tt;
  legal = tt;
  due = refl;
  pool_is = same;
  tally = agrees;
  waits = refl;
  unfinished = refl;
  next_group = next;
  failed = λ failed. absurd (false≢true failed);
  numbered = sym next;
  asked = tt;
  since = refl;
  last = omega (arith, none);
  groups = omega (arith, next);
  calls = omega (arith, few);
}

-- ---- a command that is answered at once

-- what plain files answer, at the progress of the history
replies_after : (number : ℕ) (command : Command) (reply : Reply) (old new : Core) (state : PlainState) → Replies number command old new (Ok reply) → pool_of old ≡ state.pool
    → Agrees state.tally old → next_number state ≡ number
    → (settled state.pool (answer (next_number state) state.tally state.pool command) ≡ (reply, pool_of new)) × Agrees (tally_after (next_number state) state.tally state.pool command) new
replies_after number command reply old new state replies same agrees counted =
    let P = λ (n : ℕ) (pool : PlainPool). (settled pool (answer n state.tally pool command) ≡ (reply, pool_of new)) × Agrees (tally_after n state.tally pool command) new in
    subst (λ (n : ℕ). P n state.pool) (sym counted) (subst (λ (pool : PlainPool). P number pool) same (replies state.tally agrees))

-- the pool once the command is answered
abbrev asked_pool : (old : OpenPool) → Core → (session : ℕ) → Command → Reply → OpenPool
asked_pool old heart session command reply = record old {
  heart = heart;
  history = old.history ++ Ask session command ∷ Answer session reply ∷ [];
  changed = old.changed || is_changed_by (Some command) reply;
}

asks_heard : (start : PlainPool) (claim : ℕ) (old new : OpenPool) (session : ℕ) (command : Command) (reply : Reply)
    → AreConditions command → waiting_of session old.waits ≡ None → IsHeard start claim old → Asks old new session command reply
    → Hears start claim (asked_pool old new.heart session command reply)
    (record (progress_after start claim old.history) { due = Nothing; state = fold step (progress_after start claim old.history).state (Ask session command ∷ Answer session reply ∷ []) })
asks_heard start claim old new session command reply meets free is asks =
    let p = progress_after start claim old.history in
    let more : List Entry = Ask session command ∷ Answer session reply ∷ [] in
    let behind = replies_after (length old.history + 1) command reply old.heart new.heart p.state asks.replies is.pool_is is.tally (number_of_progress start claim old.history) in
    let told = reply_at_once p.state session command reply (pool_of new.heart) asks.at_once behind.0 in
    let nobody : found_wait session p.waits ≡ None = ap (found_wait session) is.waits ∙ wait_found session old.waits ∙ ap (option_map wait_of) free in
    let longer : length (old.history ++ more) ≡ length old.history + 2 = length-append old.history more in
    let last = asks.last in
    let group = asks.heart.group in
    let groups = is.groups in
    let calls = is.calls in
    record {
      conditions = each_append MeetsConditions old.history more is.conditions (meets, (tt, tt));
      legal = legal_append old.failed (at_start start claim) old.history more is.legal (legal_asked old.failed p session command reply is.due nobody told);
      due = refl;
      pool_is = sym (pool_asked p.state session command reply (pool_of new.heart) behind.0);
      tally = subst (λ (tally : Tally). Agrees tally new.heart) (sym (tally_asked p.state session command reply)) behind.1;
      waits = is.waits;
      unfinished = is.unfinished;
      next_group = group ∙ is.next_group;
      failed = is.failed;
      numbered = subst (AreNumbered (old.group + 1) old.jobs) (sym group) is.numbered;
      asked = asked_longer old.history more old.heart.group new.heart.group old.waits (omega arith) is.asked;
      since = since_asked old.history old.changed session command reply is.since;
      last = omega arith;
      groups = omega arith;
      calls = omega arith;
    }

pub heard_asks : (start : PlainPool) (claim : ℕ) (old new : OpenPool) (session : ℕ) (command : Command) (reply : Reply)
    → AreConditions command → waiting_of session old.waits ≡ None → IsHeard start claim old → Asks old new session command reply → IsHeard start claim new
heard_asks start claim old new session command reply meets free is asks =
    let p = progress_after start claim old.history in
    let more : List Entry = Ask session command ∷ Answer session reply ∷ [] in
    let behind = replies_after (length old.history + 1) command reply old.heart new.heart p.state asks.replies is.pool_is is.tally (number_of_progress start claim old.history) in
    let told = reply_at_once p.state session command reply (pool_of new.heart) asks.at_once behind.0 in
    subst (IsHeard start claim) (sym asks.rest)
    (heard_after start claim old more (asked_pool old new.heart session command reply) (record p { due = Nothing; state = fold step p.state more }) refl
    (progress_asked p session command reply told) (asks_heard start claim old new session command reply meets free is asks))

-- ---- a commit

abbrev sealed_pool : (old : OpenPool) → Core → (session : ℕ) → Sealed → OpenPool
sealed_pool old heart session sealed = record old {
  heart = heart;
  history = old.history ++ Ask session Commit ∷ Seal old.heart.group ∷ [];
  jobs = old.jobs ++ sealed ∷ [];
  waits = old.waits ++ record { session = session; ask = length old.history + 1; group = old.heart.group } ∷ [];
  changed = false;
}

commit_heard : (start : PlainPool) (claim : ℕ) (old : OpenPool) (heart : Core) (session : ℕ) (sealed : Sealed)
    → waiting_of session old.waits ≡ None → IsHeard start claim old → IsSealed old.heart heart sealed
    → Hears start claim (sealed_pool old heart session sealed)
    (sealed_after (progress_after start claim old.history) session old.heart.group (held_by (progress_after start claim old.history).state.pool)
    (fold step (progress_after start claim old.history).state (Ask session Commit ∷ Seal old.heart.group ∷ [])))
commit_heard start claim old heart session sealed free is is_sealed =
    let p = progress_after start claim old.history in
    let more : List Entry = Ask session Commit ∷ Seal old.heart.group ∷ [] in
    let nobody : found_wait session p.waits ≡ None = ap (found_wait session) is.waits ∙ wait_found session old.waits ∙ ap (option_map wait_of) free in
    let longer : length (old.history ++ more) ≡ length old.history + 2 = length-append old.history more in
    let next = is_sealed.next_group in
    let last_is = is_sealed.last in
    let last = is.last in
    let groups = is.groups in
    let calls = is.calls in
    record {
      conditions = each_append MeetsConditions old.history more is.conditions (record { numbers = tt; names = tt }, (tt, tt));
      legal = legal_append old.failed (at_start start claim) old.history more is.legal (legal_sealed old.failed p session old.heart.group is.due nobody is.next_group);
      due = refl;
      pool_is = is_sealed.pool ∙ is.pool_is ∙ sym (pool_sealed p.state session old.heart.group);
      tally = subst (λ (tally : Tally). Agrees tally heart) (sym (tally_sealed p.state session old.heart.group)) (is_sealed.agrees p.state.tally is.tally);
      waits = waits_and_one old.waits p.waits (record { session = session; ask = length old.history + 1; group = old.heart.group }) is.waits;
      unfinished = jobs_and_one old.jobs p.unfinished sealed old.heart.group (held_by p.state.pool) is.unfinished is_sealed.group_is (is_sealed.held_is ∙ ap held_by is.pool_is);
      next_group = next;
      failed = is.failed;
      numbered = subst (AreNumbered (old.group + 1) (old.jobs ++ sealed ∷ [])) (sym next) (numbered_and_one (old.group + 1) old.jobs old.heart.group sealed is.numbered is_sealed.group_is);
      asked = all_and_one (IsAskedBy (old.history ++ more) heart.group) old.waits (record { session = session; ask = length old.history + 1; group = old.heart.group })
          (asked_longer old.history more old.heart.group heart.group old.waits (omega arith) is.asked)
          (asked_now old.history session old.heart.group heart.group (omega arith));
      since = since_sealed old.history old.changed session old.heart.group Commit is.since;
      last = omega arith;
      groups = omega arith;
      calls = omega arith;
    }

pub heard_commit : (start : PlainPool) (claim : ℕ) (old new : OpenPool) (session : ℕ)
    → waiting_of session old.waits ≡ None → IsHeard start claim old → AsksCommit old new session → IsHeard start claim new
heard_commit start claim old new session free is asks =
    let p = progress_after start claim old.history in
    let more : List Entry = Ask session Commit ∷ Seal old.heart.group ∷ [] in
    subst (IsHeard start claim) (sym asks.rest)
    (heard_after start claim old more (sealed_pool old new.heart session asks.sealed) (sealed_after p session old.heart.group (held_by p.state.pool) (fold step p.state more)) refl
    (progress_sealed p session old.heart.group) (commit_heard start claim old new.heart session asks.sealed free is asks.is_sealed))

-- ---- the end of a wait

-- no answer said that a call failed where none did
none_failed : (start : PlainPool) (claim : ℕ) (pool : OpenPool) → IsHeard start claim pool → pool.failed ≡ None → (progress_after start claim pool.history).failed ≡ false
none_failed start claim pool is none =
    false_from_ne_true (progress_after start claim pool.history).failed (λ told. let some : IsSome pool.failed = is.failed told in absurd (false≢true (sym (ap is_some none) ∙ some)))

ended_heard : (start : PlainPool) (claim : ℕ) (old : OpenPool) (waiting : Waiting) (reply : Reply) (acks : List Ack)
    → IsHeard start claim old → waiting_of waiting.session old.waits ≡ Some waiting → MayEnd old.failed (progress_after start claim old.history) (wait_of waiting) reply
    → (is_eio reply ≡ true → IsSome old.failed) → IsHeard start claim (ended old waiting reply acks)
ended_heard start claim old waiting reply acks is found may failed =
    let p = progress_after start claim old.history in
    let more : List Entry = Answer waiting.session reply ∷ [] in
    let here : found_wait waiting.session p.waits ≡ Some (wait_of waiting) = ap (found_wait waiting.session) is.waits ∙ wait_found waiting.session old.waits ∙ ap (option_map wait_of) found in
    let longer : length (old.history ++ more) ≡ length old.history + 1 = length-append old.history more in
    let last = is.last in
    let groups = is.groups in
    let calls = is.calls in
    heard_after start claim old more (ended old waiting reply acks)
    (record p { waits = without_wait waiting.session p.waits; failed = p.failed || is_eio reply; state = step p.state (Answer waiting.session reply) }) refl
    (progress_answered p waiting.session reply is.due)
    (record {
      conditions = each_append MeetsConditions old.history more is.conditions (tt, tt);
      legal = legal_append old.failed (at_start start claim) old.history more is.legal (legal_answered old.failed p waiting.session reply (wait_of waiting) is.due here may);
      due = is.due;
      pool_is = is.pool_is ∙ sym (pool_answered p.state waiting.session reply);
      tally = subst (λ (tally : Tally). Agrees tally old.heart) (sym (tally_answered p.state waiting.session reply)) is.tally;
      waits = ap (without_wait waiting.session) is.waits ∙ waits_without waiting.session old.waits;
      unfinished = is.unfinished;
      next_group = is.next_group;
      failed = λ told. ⊎_elim is.failed failed (or_cases p.failed (is_eio reply) told);
      numbered = is.numbered;
      asked = all_kept (IsAskedBy (old.history ++ more) old.heart.group) (λ (other : Waiting). not (other.session == waiting.session)) old.waits
          (asked_longer old.history more old.heart.group old.heart.group old.waits (omega arith) is.asked);
      since = since_answered old.history old.changed waiting.session reply is.since;
      last = omega arith;
      groups = omega arith;
      calls = omega arith;
    })

pub heard_ends : (start : PlainPool) (claim : ℕ) (old new : OpenPool) (session : ℕ) (waiting : Waiting) (reply : Reply)
    → IsHeard start claim old → waiting_of session old.waits ≡ Some waiting → EndsWait old new waiting reply old.failed → IsHeard start claim new
heard_ends start claim old new session waiting reply is found ends = by_failed old.failed refl ends where
  own : waiting_of waiting.session old.waits ≡ Some waiting
  own = ap (λ (n : ℕ). waiting_of n old.waits) (own_wait session old.waits waiting found) ∙ found

  over : waiting.group ≤ old.group → is_over (wait_of waiting) (progress_after start claim old.history).unfinished ≡ true
  over finished = ap (is_over (wait_of waiting)) is.unfinished ∙ over_before waiting.session waiting.group (old.group + 1) old.jobs old.heart.group (omega (arith, finished)) is.numbered

  by_failed : (failed : Option ℕ) → old.failed ≡ failed → EndsWait old new waiting reply failed → IsHeard start claim new
  by_failed None none done =
      let may : MayEnd old.failed (progress_after start claim old.history) (wait_of waiting) Done = (none_failed start claim old is none, over done.1) in
      subst (IsHeard start claim) (sym done.2) (ended_heard start claim old waiting Done (ack_of old waiting ∷ []) is own may (λ told. absurd (false≢true told)))
  by_failed (Some call) some failed =
      let may : MayEnd old.failed (progress_after start claim old.history) (wait_of waiting) (No (Eio call)) = some in
      let same : new ≡ ended old waiting (No (Eio call)) [] = failed.1 ∙ ap (λ (told : Reply). ended old waiting told []) failed.0 in
      subst (IsHeard start claim) (sym same) (ended_heard start claim old waiting (No (Eio call)) [] is own may (λ told. ap is_some some))

-- ---- a group that is finished

abbrev finished_pool : (old : OpenPool) → Core → Sealed → List Sealed → (made : ℕ) → OpenPool
finished_pool old heart job others made = record old {
  heart = heart;
  history = old.history ++ Finish job.group job.held ∷ [];
  jobs = others;
  group = job.group;
  calls = old.calls + made;
}

-- the group that the heart takes in is that of the first job
done_is : (done : GroupDone) (core : Core) (job : Sealed) (others jobs : List Sealed) → MayAbsorb done core → jobs ≡ job ∷ others → AreJobsOf core.waiting jobs → (done.group ≡ job.group) × (done.held ≡ job.held)
done_is done core job others jobs may first are =
    let here : AreJobsOf (may.waits ∷ may.others) (job ∷ others) = subst (λ (them : List Sealed). AreJobsOf (may.waits ∷ may.others) them) first (subst (λ (waiting : List WaitingGroup). AreJobsOf waiting jobs) may.first are) in
    (may.group ∙ here.0.0, may.held ∙ here.0.1)

finished_heard : (start : PlainPool) (claim : ℕ) (old : OpenPool) (heart : Core) (job : Sealed) (others : List Sealed) (made : ℕ) (done : GroupDone)
    → IsHeard start claim old → old.failed ≡ None → made < 2 ^ 64 → job.held ≤ 2 ^ 62 → old.jobs ≡ job ∷ others → (done.group ≡ job.group) × (done.held ≡ job.held)
    → Absorbs done old.heart heart → IsHeard start claim (finished_pool old heart job others made)
finished_heard start claim old heart job others made done is none few small jobs same absorbs =
    let p = progress_after start claim old.history in
    let more : List Entry = Finish job.group job.held ∷ [] in
    let first : p.unfinished ≡ map unfinished_of (job ∷ others) = is.unfinished ∙ ap (map unfinished_of) jobs in
    let longer : length (old.history ++ more) ≡ length old.history + 1 = length-append old.history more in
    let next = absorbs.group in
    let numbered : AreNumbered (old.group + 1) (job ∷ others) old.heart.group = subst (λ (them : List Sealed). AreNumbered (old.group + 1) them old.heart.group) jobs is.numbered in
    let last_is = absorbs.last in
    let last = is.last in
    let groups = is.groups in
    let calls : old.calls + 2 ^ 64 ≤ 2 ^ 64 * (length old.history + 2) = subst (λ (failed : Option ℕ). old.calls + calls_left failed ≤ 2 ^ 64 * (length old.history + 2)) none is.calls in
    let more_calls : old.calls + made + 2 ^ 64 ≤ 2 ^ 64 * (length (old.history ++ more) + 2) = omega arith in
    heard_after start claim old more (finished_pool old heart job others made)
    (record p { unfinished = drop 1 p.unfinished; state = step p.state (Finish job.group job.held) }) refl
    (progress_finished p job.group job.held)
    (record {
      conditions = each_append MeetsConditions old.history more is.conditions (small, tt);
      legal = legal_append old.failed (at_start start claim) old.history more is.legal
          (legal_finished old.failed p job.group job.held (map unfinished_of others) is.due (none_failed start claim old is none) first);
      due = is.due;
      pool_is = absorbs.pool ∙ is.pool_is ∙ sym (pool_finished p.state job.group job.held);
      tally =
          let there = absorbs.agrees p.state.tally is.tally in
          let here : Agrees (with_finish job.group job.held p.state.tally) heart =
          subst (λ (held : ℕ). Agrees (with_finish job.group held p.state.tally) heart) same.1 (subst (λ (group : ℕ). Agrees (with_finish group done.held p.state.tally) heart) same.0 there) in
          subst (λ (tally : Tally). Agrees tally heart) (sym (tally_finished p.state job.group job.held)) here;
      waits = is.waits;
      unfinished = ap (drop 1) first;
      next_group = next ∙ is.next_group;
      failed = is.failed;
      numbered = subst (AreNumbered (job.group + 1) others) (sym next) (subst (λ (from : ℕ). AreNumbered (from + 1) others old.heart.group) (sym numbered.0) numbered.1);
      asked = asked_longer old.history more old.heart.group heart.group old.waits (omega arith) is.asked;
      since = since_finished old.history old.changed job.group job.held is.since;
      last = omega arith;
      groups = omega arith;
      calls = subst (λ (failed : Option ℕ). old.calls + made + calls_left failed ≤ 2 ^ 64 * (length (old.history ++ more) + 2)) (sym none) more_calls;
    })

pub heard_finishes : (start : PlainPool) (claim : ℕ) (old new : OpenPool) (made : ℕ) (done : GroupDone)
    → IsHeard start claim old → old.failed ≡ None → made < 2 ^ 64 → ((job : Sealed) (others : List Sealed) → HasJob old job others → job.held ≤ 2 ^ 62) → AreJobsOf old.heart.waiting old.jobs
    → Finishes old new made done → IsHeard start claim new
heard_finishes start claim old new made done is none few small are finishes =
    let jobs : old.jobs ≡ finishes.job ∷ finishes.others = finishes.first.jobs_are in
    subst (IsHeard start claim) (sym finishes.rest)
    (finished_heard start claim old new.heart finishes.job finishes.others made done is none few (small finishes.job finishes.others finishes.first) jobs
    (done_is done old.heart finishes.job finishes.others old.jobs finishes.may jobs are) finishes.absorbs)

-- ---- a call that failed

-- what was legal where no call failed is legal where this one did
pub heard_fails : (start : PlainPool) (claim : ℕ) (old : OpenPool) (made : ℕ) → IsHeard start claim old → old.failed ≡ None → made < 2 ^ 64 → IsHeard start claim (failed_after old made)
heard_fails start claim old made is none few =
    let legal : AreLegal None (at_start start claim) old.history = subst (λ (failed : Option ℕ). AreLegal failed (at_start start claim) old.history) none is.legal in
    let calls : old.calls + 2 ^ 64 ≤ 2 ^ 64 * (length old.history + 2) = subst (λ (failed : Option ℕ). old.calls + calls_left failed ≤ 2 ^ 64 * (length old.history + 2)) none is.calls in
    record {
      conditions = is.conditions;
      legal = legal_failed (Some (old.calls + made)) (at_start start claim) old.history legal;
      due = is.due;
      pool_is = is.pool_is;
      tally = is.tally;
      waits = is.waits;
      unfinished = is.unfinished;
      next_group = is.next_group;
      failed = λ told. refl;
      numbered = is.numbered;
      asked = is.asked;
      since = is.since;
      last = is.last;
      groups = is.groups;
      calls = omega (arith, calls, few);
    }

-- ---- nothing at all

pub heard_before : (start : PlainPool) (claim : ℕ) (old new : OpenPool) → IsHeard start claim old → IsAsBefore old new → IsHeard start claim new
heard_before start claim old new is before =
    let stays = before.0 in
    let p = progress_after start claim old.history in
    let group = stays.group in
    let last_is = stays.last in
    let last = is.last in
    let groups = is.groups in
    let there : IsHeard start claim (record old { heart = new.heart }) = record {
      conditions = is.conditions;
      legal = is.legal;
      due = is.due;
      pool_is = stays.pool ∙ is.pool_is;
      tally = stays.agrees p.state.tally is.tally;
      waits = is.waits;
      unfinished = is.unfinished;
      next_group = group ∙ is.next_group;
      failed = is.failed;
      numbered = subst (AreNumbered (old.group + 1) old.jobs) (sym group) is.numbered;
      asked = subst (λ (next : ℕ). AllByRecursion (IsAskedBy old.history next) old.waits) (sym group) is.asked;
      since = is.since;
      last = omega arith;
      groups = omega arith;
      calls = is.calls;
    } in
    subst (IsHeard start claim) (sym before.1) there

-- ---- a finish that stands in the history before the job is done

same_first : (one other : Sealed) (ones others : List Sealed) → one ∷ ones ≡ other ∷ others → one ≡ other
same_first one other ones others same = cc

pub finishes_noted : (old noted new : OpenPool) (made : ℕ) (done : GroupDone) → Notes old noted → FinishesNoted noted new made done → Finishes old new made done
finishes_noted old noted new made done notes = subst (λ (pool : OpenPool). FinishesNoted pool new made done → Finishes old new made done) (sym notes.3) behind where
  behind : FinishesNoted (record old { history = old.history ++ Finish notes.0.group notes.0.held ∷ [] }) new made done → Finishes old new made done
  behind finishes =
      let same : notes.0 ≡ finishes.job = same_first notes.0 finishes.job notes.1 finishes.others (sym notes.2.jobs_are ∙ finishes.first.jobs_are) in
      record {
        job = finishes.job;
        others = finishes.others;
        first = record { jobs_are = finishes.first.jobs_are };
        may = finishes.may;
        absorbs = finishes.absorbs;
        rest = finishes.rest ∙ ap (λ (job : Sealed). record old {
          heart = new.heart;
          history = old.history ++ Finish job.group job.held ∷ [];
          jobs = finishes.others;
          group = finishes.job.group;
          calls = old.calls + made;
        }) same;
      }

pub forgotten_noted : (old noted : OpenPool) → Notes old noted → forgotten noted ≡ old
forgotten_noted old noted notes =
    let history : List Entry = old.history ++ Finish notes.0.group notes.0.held ∷ [] in
    let longer : length history ≡ length old.history + 1 = length-append old.history (Finish notes.0.group notes.0.held ∷ []) in
    let front : take (length history - 1) history ≡ old.history = take_at old.history (Finish notes.0.group notes.0.held ∷ []) (length history - 1) (omega arith) in
    ap forgotten notes.3 ∙ ap (λ (entries : List Entry). record old { history = entries }) front

-- ---- what follows

-- a greater number bounds the next numbers too
next_up_to : (most more : ℕ) (pool : PlainPool) → most ≤ more → AreNextUpTo most pool → AreNextUpTo more pool
next_up_to most more pool le are = record {
  dataset = omega (arith, are.dataset);
  file = λ place dataset stands. omega (arith, are.file place dataset stands);
}

-- the files are those of plain files
pub heard_state : (start : PlainPool) (claim : ℕ) (pool : OpenPool) → IsHeard start claim pool → pool_of pool.heart ≡ (state_after start pool.history).pool
heard_state start claim pool is = is.pool_is ∙ ap (λ (state : PlainState). state.pool) (state_of_progress start claim pool.history)

pub heard_now : (start : PlainPool) (claim : ℕ) (pool : OpenPool) → IsHeard start claim pool → pool_of pool.heart ≡ pool_after start pool.history (length pool.history)
heard_now start claim pool is =
    heard_state start claim pool is ∙ ap (λ (history : List Entry). (state_after start history).pool) (sym (take_all (length pool.history) pool.history (omega arith)))

-- no number that is given next is near the end
pub heard_numbers : (limits : Limits) (start : PlainPool) (claim : ℕ) (pool : OpenPool) → IsStart limits start → IsHeard start claim pool → length pool.history ≤ 2 ^ 62
    → AreNextUpTo (2 ^ 64 - 2) (pool_of pool.heart)
heard_numbers limits start claim pool is_start is few =
    let state : IsState (state_after start pool.history) = state_is_state start pool.history is.conditions is_start.state in
    let entries : (state_after start pool.history).entries ≡ length pool.history = entries_are_counted start pool.history in
    let counted : AreNextUpTo (2 ^ 62 + (state_after start pool.history).entries) (state_after start pool.history).pool = state.counted in
    subst (AreNextUpTo (2 ^ 64 - 2)) (sym (heard_state start claim pool is))
    (next_up_to (2 ^ 62 + (state_after start pool.history).entries) (2 ^ 64 - 2) (state_after start pool.history).pool (omega arith) counted)

-- nor is the next group's
pub heard_group : (start : PlainPool) (claim : ℕ) (pool : OpenPool) → claim ≤ 2 ^ 62 + 1 → IsHeard start claim pool → length pool.history ≤ 2 ^ 62 → pool.heart.group < 2 ^ 64 - 1
heard_group start claim pool low is few = omega (arith, is.groups)

-- nor is the number of calls
pub heard_calls : (start : PlainPool) (claim : ℕ) (pool : OpenPool) (made : ℕ) → IsHeard start claim pool → pool.failed ≡ None → length pool.history ≤ 2 ^ 62 → made < 2 ^ 64 → pool.calls + made < 2 ^ 128
heard_calls start claim pool made is none few small =
    let calls : pool.calls + 2 ^ 64 ≤ 2 ^ 64 * (length pool.history + 2) = subst (λ (failed : Option ℕ). pool.calls + calls_left failed ≤ 2 ^ 64 * (length pool.history + 2)) none is.calls in
    omega arith

-- what tells that a pool is settled: no job is left exactly where no group is unfinished, and whether files were changed since the last seal
pub settled_is : (start : PlainPool) (claim : ℕ) (pool : OpenPool) → IsHeard start claim pool
    → ((progress_after start claim pool.history).unfinished ≡ [] → pool.jobs ≡ []) × (pool.jobs ≡ [] → (progress_after start claim pool.history).unfinished ≡ []) × ((since_after pool.history).changed ≡ pool.changed)
settled_is start claim pool is = (
  λ none. none_left pool.jobs (sym is.unfinished ∙ none),
  λ none. is.unfinished ∙ ap (map unfinished_of) none,
  ap (λ (since : Since). since.changed) is.since,
)

-- the first job is of the group after that of the root
pub first_is_next : (start : PlainPool) (claim : ℕ) (pool : OpenPool) (job : Sealed) (others : List Sealed) → IsHeard start claim pool → HasJob pool job others → job.group ≡ pool.group + 1
first_is_next start claim pool job others is has =
    let numbered : AreNumbered (pool.group + 1) (job ∷ others) pool.heart.group = subst (λ (jobs : List Sealed). AreNumbered (pool.group + 1) jobs pool.heart.group) has.jobs_are is.numbered in
    numbered.0

found_among : (P : Waiting → Type 0) (session : ℕ) (waits : List Waiting) (found : Waiting) → AllByRecursion P waits → waiting_of session waits ≡ Some found → P found
found_among P session [] found all is = absurd (none-some found is)
found_among P session (waiting ∷ waits) found all is = by_test (waiting.session == session) (found_among P session waits found all.1) is where
  by_test : (test : Bool) → (waiting_of session waits ≡ Some found → P found) → cond test (Some waiting) (waiting_of session waits) ≡ Some found → P found
  by_test true behind here = subst P (same_Some waiting found here) all.0
  by_test false behind there = behind there

-- who waits asked by an entry of the history, for a group that was sealed
pub wait_is_asked : (start : PlainPool) (claim : ℕ) (pool : OpenPool) (session : ℕ) (waiting : Waiting) → IsHeard start claim pool → waiting_of session pool.waits ≡ Some waiting
    → IsAskedBy pool.history pool.heart.group waiting
wait_is_asked start claim pool session waiting is found = found_among (IsAskedBy pool.history pool.heart.group) session pool.waits waiting is.asked found

-- where no job is left, every group that is waited for is finished
pub wait_is_over : (start : PlainPool) (claim : ℕ) (pool : OpenPool) (session : ℕ) (waiting : Waiting) → IsHeard start claim pool → pool.jobs ≡ [] → waiting_of session pool.waits ≡ Some waiting
    → waiting.group ≤ pool.group
wait_is_over start claim pool session waiting is none found =
    let numbered : pool.group + 1 ≡ pool.heart.group = subst (λ (jobs : List Sealed). AreNumbered (pool.group + 1) jobs pool.heart.group) none is.numbered in
    let asked = wait_is_asked start claim pool session waiting is found in
    omega (arith, asked.1, numbered)

-- the group that is sealed next stands after that of the root and those of the jobs, and is the one that a seal may have
pub seal_is_next : (start : PlainPool) (claim : ℕ) (pool : OpenPool) → IsHeard start claim pool
    → (pool.heart.group ≡ (progress_after start claim pool.history).last + 1) × (pool.heart.group ≡ pool.group + 1 + length pool.jobs)
seal_is_next start claim pool is = (is.next_group, sym (numbered_count (pool.group + 1) pool.jobs pool.heart.group is.numbered))
