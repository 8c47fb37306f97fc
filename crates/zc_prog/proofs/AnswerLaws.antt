-- What the events of one command lead to, between two lines.
use Rattle.std.proofs.Common.{◌≡◌, ◌∙◌, ℕ, ◌+◌, ◌<◌, ◌≤◌, Bool, not, cond, List, [], ◌∷◌, ◌++◌, length, Option, Some, None, refl, sym, ap, subst, inl, inr, append-nil, append_assoc, arith, le_of_eq, IsSome}
use Rattle.std.proofs.lemmas.Bool.{false≢true, eq-eqb}
use Rattle.std.proofs.lemmas.Option.{none-some, same_Some}
use Rattle.zc_command.specs.declared.command.Command.{Command}
use Rattle.zc_command.specs.declared.command.Command.TheVariants.{Commit}
use Rattle.zc_command.specs.declared.reply.Reply.{Reply}
use Rattle.zc_plain.specs.declared.entry.Entry.{Entry}
use Rattle.zc_plain.specs.declared.entry.Entry.TheVariants.{Ask, Answer, Seal, Finish}
use Rattle.zc_plain.specs.History.{is_waiting}
use Rattle.zc_heart.specs.declared.changes.Sealed.{Sealed}
use Rattle.zc_heart.specs.declared.changes.GroupDone.{GroupDone}
use Rattle.zc_open.specs.declared.ack.Ack.{Ack}
use Rattle.zc_open.specs.declared.ack.Waiting.{Waiting}
use Rattle.zc_open.specs.declared.open_pool.OpenPool.{OpenPool}
use Rattle.zc_open.specs.Events.{waiting_of, without_waiting, IsAsBefore, Asks, AsksCommit, ack_of, ended, EndsWait, Finishes}
use Rattle.zc_pool.specs.declared.event.Event.TheVariants.{Settle}
use Rattle.zc_pool.specs.declared.event.Progress.{Progress}
use Rattle.zc_pool.specs.declared.event.Progress.TheVariants.{Answered, Waiting as StillWaits, NotYet, Stepped, Idle, Suspended}
use Rattle.zc_pool.specs.EventAnswers.{AnswersStep, AnswersSettle}
use Rattle.zc_prog.specs.Played.{Asking, askings_in, IsFinish, acknowledged_by, AddsAnswer, AddsCommand}
use Rattle.zc_prog.specs.Midway.{IsQuiet, HasSealed, HasWritten, EndsLast, IsAnswered, EndsBy, AddsReply, AddsEnd, AddsWhole, mark_of, asking, AsksSome}
use Rattle.zc_prog.proofs.EntryLaws.{askings_append, finish_asks_nothing, asks_all}

-- ---- memory was wanting

pub before_asks_nothing : (old new : OpenPool) → IsAsBefore old new → askings_in new.history ≡ askings_in old.history
before_asks_nothing old new before = ap (λ (kept : OpenPool). askings_in kept.history) before.1

-- ---- a wait ends

-- the session that waits alone
pub waits_alone : (session : ℕ) (waits : List Waiting) (waiting : Waiting) → waiting.session ≡ session → waits ≡ waiting ∷ [] → waiting_of session waits ≡ Some waiting
waits_alone session waits waiting its alone =
    subst (λ (of : List Waiting). waiting_of session of ≡ Some waiting) (sym alone)
    (ap (λ (test : Bool). cond test (Some waiting) (waiting_of session [])) (eq-eqb waiting.session session its))

pub may_settle : (kept : OpenPool) (session : ℕ) (waiting : Waiting) → HasWritten kept session waiting → IsSome (waiting_of session kept.waits)
may_settle kept session waiting has = subst (λ (found : Option Waiting). IsSome found) (sym (waits_alone session kept.waits waiting has.its has.alone)) refl

-- the one that is found is it
found_alone : (session : ℕ) (waits : List Waiting) (waiting found : Waiting) → waiting.session ≡ session → waits ≡ waiting ∷ [] → waiting_of session waits ≡ Some found → found ≡ waiting
found_alone session waits waiting found its alone is = same_Some found waiting (sym is ∙ waits_alone session waits waiting its alone)

-- its group was the last to be written
pub settles_last : (kept : OpenPool) (session : ℕ) (waiting : Waiting) → HasWritten kept session waiting → EndsLast kept (Settle session)
settles_last kept session waiting has = λ found found_is none.
    ap (λ (one : Waiting). one.group) (found_alone session kept.waits waiting found has.its has.alone found_is) ∙ has.written none

-- and none is left without it
none_left : (waits : List Waiting) (waiting : Waiting) → waits ≡ waiting ∷ [] → without_waiting waiting.session waits ≡ []
none_left waits waiting alone =
    ap (without_waiting waiting.session) alone ∙ ap (λ (test : Bool). cond (not test) (waiting ∷ []) []) (eq-eqb waiting.session waiting.session refl)

-- its group is written, so it is answered
pub settle_answers : (old new : OpenPool) (session : ℕ) (waiting : Waiting) (progress : Progress) → HasWritten old session waiting → AnswersSettle old new session progress → IsAnswered progress
settle_answers old new session waiting (Answered reply) has answers = tt
settle_answers old new session waiting NotYet has (found, found_is, none, later, same) =
    let is : found ≡ waiting = found_alone session old.waits waiting found has.its has.alone found_is in
    let by_then : waiting.group ≡ old.group = has.written none in
    let still : old.group < waiting.group = subst (λ (one : Waiting). old.group < one.group) is later in
    absurd (omega arith)
settle_answers old new session waiting StillWaits has answers = absurd answers
settle_answers old new session waiting Stepped has answers = absurd answers
settle_answers old new session waiting Idle has answers = absurd answers
settle_answers old new session waiting (Suspended call) has answers = absurd answers

-- what it leaves: nobody waits, the answer stands in the history and is acknowledged where it is Done, and it says whether a call failed
record IsSettled (old new : OpenPool) (waiting : Waiting) (reply : Reply) : Type 0 where
  waits : new.waits ≡ []
  jobs : new.jobs ≡ old.jobs
  failed : new.failed ≡ old.failed
  ends : EndsBy new.failed reply
  adds : AddsReply old new waiting reply

ended_settles : (old new : OpenPool) (session : ℕ) (waiting : Waiting) (reply : Reply) (acks : List Ack) → HasWritten old session waiting → EndsBy old.failed reply
    → acks ≡ acknowledged_by waiting.session waiting.ask reply old.calls → new ≡ ended old waiting reply acks → IsSettled old new waiting reply
ended_settles old new session waiting reply acks has ends are is =
    subst (λ (kept : OpenPool). IsSettled old kept waiting reply) (sym is) (record {
      waits = none_left old.waits waiting has.alone;
      jobs = refl;
      failed = refl;
      ends = ends;
      adds = record { history = refl; acks = ap (λ (more : List Ack). old.acks ++ more) are; calls = refl };
    })

wait_ends : (old new : OpenPool) (session : ℕ) (waiting : Waiting) (reply : Reply) (failed : Option ℕ) → old.failed ≡ failed → HasWritten old session waiting → EndsWait old new waiting reply failed
    → IsSettled old new waiting reply
wait_ends old new session waiting reply (Some call) is has (eio, rest) =
    ended_settles old new session waiting reply [] has (subst (λ (failed : Option ℕ). EndsBy failed reply) (sym is) eio)
    (sym (ap (λ (of : Reply). acknowledged_by waiting.session waiting.ask of old.calls) eio)) rest
wait_ends old new session waiting reply None is has (done, written, rest) =
    ended_settles old new session waiting reply (ack_of old waiting ∷ []) has (subst (λ (failed : Option ℕ). EndsBy failed reply) (sym is) done)
    (sym (ap (λ (of : Reply). acknowledged_by waiting.session waiting.ask of old.calls) done))
    (rest ∙ ap (λ (reply : Reply). ended old waiting reply (ack_of old waiting ∷ [])) (sym done))

settles : (old new : OpenPool) (session : ℕ) (waiting : Waiting) (progress : Progress) (reply : Reply) → HasWritten old session waiting → AnswersSettle old new session progress → progress ≡ Answered reply
    → IsSettled old new waiting reply
settles old new session waiting progress reply has answers is = at (subst (AnswersSettle old new session) is answers) where
  at : AnswersSettle old new session (Answered reply) → IsSettled old new waiting reply
  at (found, found_is, ends) =
      wait_ends old new session waiting reply old.failed refl has
      (subst (λ (one : Waiting). EndsWait old new one reply old.failed) (found_alone session old.waits waiting found has.its has.alone found_is) ends)

pub settle_quiet : (old new : OpenPool) (session : ℕ) (waiting : Waiting) (progress : Progress) (reply : Reply) → HasWritten old session waiting → AnswersSettle old new session progress
    → progress ≡ Answered reply → IsQuiet new
settle_quiet old new session waiting progress reply has answers is =
    let settled : IsSettled old new waiting reply = settles old new session waiting progress reply has answers is in
    record { no_waits = settled.waits; no_jobs = λ none. settled.jobs ∙ has.no_jobs (sym settled.failed ∙ none) }

pub settle_ends : (old new : OpenPool) (session : ℕ) (waiting : Waiting) (progress : Progress) (reply : Reply) → HasWritten old session waiting → AnswersSettle old new session progress
    → progress ≡ Answered reply → EndsBy new.failed reply
settle_ends old new session waiting progress reply has answers is = (settles old new session waiting progress reply has answers is).ends

pub settle_adds : (old new : OpenPool) (session : ℕ) (waiting : Waiting) (progress : Progress) (reply : Reply) → HasWritten old session waiting → AnswersSettle old new session progress
    → progress ≡ Answered reply → AddsReply old new waiting reply
settle_adds old new session waiting progress reply has answers is = (settles old new session waiting progress reply has answers is).adds

-- an answer asks nothing
pub reply_asks_nothing : (old new : OpenPool) (waiting : Waiting) (reply : Reply) → AddsReply old new waiting reply → askings_in new.history ≡ askings_in old.history
reply_asks_nothing old new waiting reply adds =
    ap askings_in adds.history ∙ askings_append old.history (Answer waiting.session reply ∷ []) ∙ append-nil (askings_in old.history)

-- ---- the group is written

-- one job alone is the first, and there are no others
only_job : (jobs others : List Sealed) (one job : Sealed) → jobs ≡ one ∷ [] → jobs ≡ job ∷ others → (job ≡ one) × (others ≡ [])
only_job jobs others one job are is = let same : job ∷ others ≡ one ∷ [] = sym is ∙ are in (cc, cc)

-- what a step leaves: its group is written, unless a call failed, and nothing is acknowledged
record IsStepped (old new : OpenPool) (session : ℕ) (waiting : Waiting) : Type 0 where
  writes : HasWritten new session waiting
  finish : List Entry
  is_finish : IsFinish waiting.group finish
  history : new.history ≡ old.history ++ finish
  acks : new.acks ≡ old.acks
  calls : old.calls ≤ new.calls

step_finished : (old new : OpenPool) (session : ℕ) (waiting : Waiting) (made : ℕ) (done : GroupDone) → HasSealed old session waiting → old.failed ≡ None → Finishes old new made done
    → IsStepped old new session waiting
step_finished old new session waiting made done has none finishes =
    let sealed : (job : Sealed) × (old.jobs ≡ job ∷ []) × (job.group ≡ waiting.group) = has.job none in
    let only : (finishes.job ≡ sealed.0) × (finishes.others ≡ []) = only_job old.jobs finishes.others sealed.0 finishes.job sealed.1 finishes.first.jobs_are in
    let group : finishes.job.group ≡ waiting.group = ap (λ (job : Sealed). job.group) only.0 ∙ sealed.2 in
    let rest = finishes.rest in
    let count : new.calls ≡ old.calls + made = ap (λ (kept : OpenPool). kept.calls) rest in
    record {
      writes = record {
        its = has.its;
        alone = ap (λ (kept : OpenPool). kept.waits) rest ∙ has.alone;
        no_jobs = λ _. ap (λ (kept : OpenPool). kept.jobs) rest ∙ only.1;
        written = λ _. sym (ap (λ (kept : OpenPool). kept.group) rest ∙ group);
      };
      finish = Finish finishes.job.group finishes.job.held ∷ [];
      is_finish = (finishes.job.held, ap (λ (number : ℕ). Finish number finishes.job.held) group, refl);
      history = ap (λ (kept : OpenPool). kept.history) rest;
      acks = ap (λ (kept : OpenPool). kept.acks) rest;
      calls = omega (arith, count);
    }

-- a call failed, in this step or before: nothing is written, and nothing is added
step_suspended : (old new : OpenPool) (session : ℕ) (waiting : Waiting) (call : ℕ) → HasSealed old session waiting → new.failed ≡ Some call → new.waits ≡ old.waits → new.history ≡ old.history
    → new.acks ≡ old.acks → old.calls ≤ new.calls → IsStepped old new session waiting
step_suspended old new session waiting call has failed waits history acks calls = record {
  writes = record {
    its = has.its;
    alone = waits ∙ has.alone;
    no_jobs = λ none. absurd (none-some call (sym none ∙ failed));
    written = λ none. absurd (none-some call (sym none ∙ failed));
  };
  finish = [];
  is_finish = tt;
  history = history ∙ sym (append-nil old.history);
  acks = acks;
  calls = calls;
}

step_leads : (old new : OpenPool) (session : ℕ) (waiting : Waiting) (progress : Progress) → HasSealed old session waiting → AnswersStep old new progress → IsStepped old new session waiting
step_leads old new session waiting Stepped has (none, made, done, finishes) = step_finished old new session waiting made done has none finishes
step_leads old new session waiting Idle has (none, no_jobs, same) =
    let sealed : (job : Sealed) × (old.jobs ≡ job ∷ []) × (job.group ≡ waiting.group) = has.job none in
    let some : [] ≡ sealed.0 ∷ [] = sym no_jobs ∙ sealed.1 in
    absurd cc
step_leads old new session waiting (Suspended call) has (inl (failed, same)) =
    step_suspended old new session waiting call has (ap (λ (kept : OpenPool). kept.failed) same ∙ failed) (ap (λ (kept : OpenPool). kept.waits) same)
    (ap (λ (kept : OpenPool). kept.history) same) (ap (λ (kept : OpenPool). kept.acks) same) (le_of_eq (sym (ap (λ (kept : OpenPool). kept.calls) same)))
step_leads old new session waiting (Suspended call) has (inr (none, made, call_is, cut)) =
    let count : new.calls ≡ old.calls + made = ap (λ (kept : OpenPool). kept.calls) cut in
    step_suspended old new session waiting (old.calls + made) has (ap (λ (kept : OpenPool). kept.failed) cut) (ap (λ (kept : OpenPool). kept.waits) cut)
    (ap (λ (kept : OpenPool). kept.history) cut) (ap (λ (kept : OpenPool). kept.acks) cut) (omega (arith, count))
step_leads old new session waiting (Answered reply) has answers = absurd answers
step_leads old new session waiting StillWaits has answers = absurd answers
step_leads old new session waiting NotYet has answers = absurd answers

pub step_writes : (old new : OpenPool) (session : ℕ) (waiting : Waiting) (progress : Progress) → HasSealed old session waiting → AnswersStep old new progress → HasWritten new session waiting
step_writes old new session waiting progress has answers = (step_leads old new session waiting progress has answers).writes

-- the answer stands after the finish, if there is one
pub step_adds : (old mid new : OpenPool) (session : ℕ) (waiting : Waiting) (progress : Progress) (reply : Reply) → HasSealed old session waiting → AnswersStep old mid progress
    → AddsReply mid new waiting reply → AddsEnd old new waiting reply
step_adds old mid new session waiting progress reply has answers adds =
    let stepped : IsStepped old mid session waiting = step_leads old mid session waiting progress has answers in
    let answer : List Entry = Answer waiting.session reply ∷ [] in
    record {
      finish = stepped.finish;
      is_finish = stepped.is_finish;
      history = adds.history ∙ ap (λ (front : List Entry). front ++ answer) stepped.history ∙ append_assoc old.history stepped.finish answer;
      acks = adds.acks ∙ ap (λ (acks : List Ack). acks ++ acknowledged_by waiting.session waiting.ask reply new.calls) stepped.acks;
      calls = subst (λ (calls : ℕ). old.calls ≤ calls) (sym adds.calls) stepped.calls;
    }

pub step_asks_nothing : (old new : OpenPool) (session : ℕ) (waiting : Waiting) (progress : Progress) → HasSealed old session waiting → AnswersStep old new progress
    → askings_in new.history ≡ askings_in old.history
step_asks_nothing old new session waiting progress has answers =
    let stepped : IsStepped old new session waiting = step_leads old new session waiting progress has answers in
    ap askings_in stepped.history
    ∙ askings_append old.history stepped.finish
    ∙ ap (λ (more : List Asking). askings_in old.history ++ more) (finish_asks_nothing waiting.group stepped.finish stepped.is_finish)
    ∙ append-nil (askings_in old.history)

-- ---- a command is asked

-- nobody waits between two lines
pub quiet_may_ask : (kept : OpenPool) (session : ℕ) → IsQuiet kept → waiting_of session kept.waits ≡ None
quiet_may_ask kept session quiet = ap (waiting_of session) quiet.no_waits

-- it was answered at once
pub ask_quiet : (old new : OpenPool) (session : ℕ) (command : Command) (reply : Reply) → IsQuiet old → Asks old new session command reply → IsQuiet new
ask_quiet old new session command reply quiet asks =
    let rest = asks.rest in
    record {
      no_waits = ap (λ (kept : OpenPool). kept.waits) rest ∙ quiet.no_waits;
      no_jobs = λ none. ap (λ (kept : OpenPool). kept.jobs) rest ∙ quiet.no_jobs (sym (ap (λ (kept : OpenPool). kept.failed) rest) ∙ none);
    }

pub ask_is_no_commit : (old new : OpenPool) (session : ℕ) (command : Command) (reply : Reply) → Asks old new session command reply → command ≡ Commit → EndsBy new.failed reply
ask_is_no_commit old new session command reply asks is = absurd (false≢true (sym asks.at_once ∙ ap is_waiting is))

pub ask_adds : (old new : OpenPool) (session : ℕ) (command : Command) (reply : Reply) → Asks old new session command reply → AddsWhole old new session command reply
ask_adds old new session command reply asks =
    let entries : List Entry = Ask session command ∷ Answer session reply ∷ [] in
    record {
      entries = entries;
      acks = [];
      are = subst (λ (waits : Bool). AddsAnswer waits session command reply (mark_of old) entries [] new.calls) (sym asks.at_once) (refl, refl, ap (λ (kept : OpenPool). kept.calls) asks.rest);
      history = ap (λ (kept : OpenPool). kept.history) asks.rest;
      acks_are = ap (λ (kept : OpenPool). kept.acks) asks.rest ∙ sym (append-nil old.acks);
    }

pub ask_asks : (old new : OpenPool) (session : ℕ) (command : Command) (reply : Reply) → Asks old new session command reply → AsksSome old.history new.history (asking session command ∷ [])
ask_asks old new session command reply asks =
    asks_all old.history new.history (Ask session command ∷ Answer session reply ∷ []) (asking session command ∷ []) (ap (λ (kept : OpenPool). kept.history) asks.rest) refl

-- the commit that waits
abbrev pub its_wait : OpenPool → (session : ℕ) → Waiting
its_wait old session = record { session = session; ask = length old.history + 1; group = old.heart.group }

pub commit_seals : (old new : OpenPool) (session : ℕ) → IsQuiet old → AsksCommit old new session → HasSealed new session (its_wait old session)
commit_seals old new session quiet asks =
    let rest = asks.rest in
    record {
      its = refl;
      alone = ap (λ (kept : OpenPool). kept.waits) rest ∙ ap (λ (waits : List Waiting). waits ++ its_wait old session ∷ []) quiet.no_waits;
      job = λ none. (
        asks.sealed,
        ap (λ (kept : OpenPool). kept.jobs) rest
            ∙ ap (λ (jobs : List Sealed). jobs ++ asks.sealed ∷ []) (quiet.no_jobs (sym (ap (λ (kept : OpenPool). kept.failed) rest) ∙ none)),
        asks.is_sealed.group_is,
      );
    }

pub commit_adds : (old mid new : OpenPool) (session : ℕ) (command : Command) (reply : Reply) → command ≡ Commit → AsksCommit old mid session
    → AddsEnd mid new (its_wait old session) reply → AddsWhole old new session command reply
commit_adds old mid new session command reply is asks adds =
    let later_on : List Entry = adds.finish ++ Answer session reply ∷ [] in
    let entries : List Entry = Ask session Commit ∷ Seal old.heart.group ∷ later_on in
    let acks : List Ack = acknowledged_by session (length old.history + 1) reply new.calls in
    let later : old.calls ≤ new.calls = subst (λ (calls : ℕ). calls ≤ new.calls) (ap (λ (kept : OpenPool). kept.calls) asks.rest) adds.calls in
    record {
      entries = entries;
      acks = acks;
      are = subst (λ (of : Command). AddsCommand session of reply (mark_of old) entries acks new.calls) (sym is) (old.heart.group, adds.finish, adds.is_finish, refl, refl, later);
      history =
          adds.history
          ∙ ap (λ (front : List Entry). front ++ later_on) (ap (λ (kept : OpenPool). kept.history) asks.rest)
          ∙ append_assoc old.history (Ask session Commit ∷ Seal old.heart.group ∷ []) later_on;
      acks_are = adds.acks ∙ ap (λ (front : List Ack). front ++ acks) (ap (λ (kept : OpenPool). kept.acks) asks.rest);
    }

pub commit_asks : (old new : OpenPool) (session : ℕ) (command : Command) → command ≡ Commit → AsksCommit old new session → AsksSome old.history new.history (asking session command ∷ [])
commit_asks old new session command is asks =
    asks_all old.history new.history (Ask session Commit ∷ Seal old.heart.group ∷ []) (asking session command ∷ []) (ap (λ (kept : OpenPool). kept.history) asks.rest)
    (ap (λ (of : Command). asking session of ∷ []) (sym is))
