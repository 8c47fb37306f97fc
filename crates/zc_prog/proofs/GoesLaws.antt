-- What is true of a pool whatever it is asked stays true, after one event and after several.
use Rattle.std.proofs.Common.{◌≡◌, ◌∙◌, ℕ, ◌≤◌, ◌⊎◌, Bool, List, Option, Some, None, Result, Ok, Err, refl, sym, ap, subst, inl, inr, arith, le_refl, le_trans, IsTrue, IfOk, OnErr}
use Rattle.std.specs.List.{AllByRecursion}
use Rattle.zc_tape.specs.Tape.{Shape, Tape}
use Rattle.zc_tape.specs.Cause.{Rose}
use Rattle.zc_tape.proofs.Extends.{Extends, extends_refl, extends_trans}
use Rattle.zc_group.specs.declared.root.Root.{Root}
use Rattle.zc_open.specs.declared.ack.Ack.{Ack}
use Rattle.zc_open.specs.declared.open_pool.OpenPool.{OpenPool}
use Rattle.zc_open.specs.Events.{IsAsBefore, EndsWait}
use Rattle.zc_open.specs.Acked.{AreAcks}
use Rattle.zc_open.specs.Heard.{IsAskedBy}
use Rattle.zc_pool.specs.declared.event.Event.{Event}
use Rattle.zc_pool.specs.declared.event.Event.TheVariants.{Ask, Step, Settle}
use Rattle.zc_pool.specs.declared.event.Progress.{Progress}
use Rattle.zc_pool.specs.declared.event.Progress.TheVariants.{Answered, Waiting as StillWaits, NotYet, Stepped, Idle, Suspended}
use Rattle.zc_pool.specs.declared.pool.Pool.{Pool}
use Rattle.zc_pool.specs.EventAnswers.{AnswersEvent}
use Rattle.zc_pool.specs.Carried.{IsLeftAlone, IsSuspended}
use Rattle.zc_pool.specs.Opened.{IsNew}
use Rattle.zc_pool.specs.Running.{Run, IsRunning}
use Rattle.zc_prog.specs.Execution.{IsAcknowledged}
use Rattle.zc_prog.specs.Midway.{IsUnderWay, Goes, EndsLast, execution_of}
use Rattle.zc_prog.proofs.AckedLaws.{Grows, acks_grow, grows_before, event_grows}

-- ---- counts of faults

-- a count that rose in a part of a call rose in the call
pub rose_within : (before from to now : ℕ) → before ≤ from → Rose from to → to ≤ now → Rose before now
rose_within before from to now sooner rose later = omega arith

-- ---- one event

-- a call that failed is told of
event_cause : (old new : OpenPool) (event : Event) (progress : Progress) (before now : ℕ) → AnswersEvent old new event progress → (IsSuspended progress → old.failed ≡ None → Rose before now)
    → old.failed ≡ None → (new.failed ≡ None) ⊎ Rose before now
event_cause old new (Ask session command) (Answered reply) before now asks cause none = inl (ap (λ (kept : OpenPool). kept.failed) asks.rest ∙ none)
event_cause old new (Ask session command) StillWaits before now (is, asks) cause none = inl (ap (λ (kept : OpenPool). kept.failed) asks.rest ∙ none)
event_cause old new (Ask session command) NotYet before now answers cause none = absurd answers
event_cause old new (Ask session command) Stepped before now answers cause none = absurd answers
event_cause old new (Ask session command) Idle before now answers cause none = absurd answers
event_cause old new (Ask session command) (Suspended call) before now answers cause none = absurd answers
event_cause old new Step Stepped before now (still, made, done, finishes) cause none = inl (ap (λ (kept : OpenPool). kept.failed) finishes.rest ∙ none)
event_cause old new Step Idle before now (still, no_jobs, same) cause none = inl (ap (λ (kept : OpenPool). kept.failed) same ∙ none)
event_cause old new Step (Suspended call) before now answers cause none = inr (cause tt none)
event_cause old new Step (Answered reply) before now answers cause none = absurd answers
event_cause old new Step StillWaits before now answers cause none = absurd answers
event_cause old new Step NotYet before now answers cause none = absurd answers
event_cause old new (Settle session) (Answered reply) before now (waiting, found, ends) cause none = inl (ended_failed old.failed ends ∙ none) where
  ended_failed : (failed : Option ℕ) → EndsWait old new waiting reply failed → new.failed ≡ old.failed
  ended_failed None (done, written, rest) = ap (λ (kept : OpenPool). kept.failed) rest
  ended_failed (Some call) (eio, rest) = ap (λ (kept : OpenPool). kept.failed) rest
event_cause old new (Settle session) NotYet before now (waiting, found, still, later, same) cause none = inl (ap (λ (kept : OpenPool). kept.failed) same ∙ none)
event_cause old new (Settle session) StillWaits before now answers cause none = absurd answers
event_cause old new (Settle session) Stepped before now answers cause none = absurd answers
event_cause old new (Settle session) Idle before now answers cause none = absurd answers
event_cause old new (Settle session) (Suspended call) before now answers cause none = absurd answers

-- what an event came to, with memory or without
pub left_as_before : {X E : Type 0} (t u : Tape) (root next : Root) (old new : OpenPool) (result : Result X E) → OnErr result (IsLeftAlone t u root next old new) → OnErr result (IsAsBefore old new)
left_as_before t u root next old new (Ok x) alone = tt
left_as_before t u root next old new (Err fault) alone = alone.as_before

result_grows : {E : Type 0} (old new : OpenPool) (event : Event) (result : Result Progress E) → EndsLast old event → AllByRecursion (IsAskedBy old.history old.heart.group) old.waits
    → IfOk result (AnswersEvent old new event) → OnErr result (IsAsBefore old new) → Grows old new
result_grows old new event (Ok progress) exact asked answers before = event_grows old new event progress exact asked answers
result_grows old new event (Err fault) exact asked answers before = grows_before old new before

result_cause : {E : Type 0} (old new : OpenPool) (event : Event) (result : Result Progress E) (before now : ℕ) → IfOk result (AnswersEvent old new event) → OnErr result (IsAsBefore old new)
    → IfOk result (λ progress. IsSuspended progress → old.failed ≡ None → Rose before now) → old.failed ≡ None → (new.failed ≡ None) ⊎ Rose before now
result_cause old new event (Ok progress) before now answers same cause none = event_cause old new event progress before now answers cause none
result_cause old new event (Err fault) before now answers same cause none = inl (ap (λ (kept : OpenPool). kept.failed) same.1 ∙ none)

pub event_goes : {D E : Type 0} (shape : D → Shape) (tape : D → Tape) (faults : D → ℕ) (old new : Pool D) (event : Event) (result : Result Progress E)
    → EndsLast old.kept event
    → IfOk result (AnswersEvent old.kept new.kept event)
    → OnErr result (IsAsBefore old.kept new.kept)
    → ((run : Run) → IsRunning (shape old.disks) (tape old.disks) run old.root old.kept → IsRunning (shape old.disks) (tape new.disks) run new.root new.kept)
    → (AreAcks old.kept → AreAcks new.kept)
    → shape new.disks ≡ shape old.disks
    → (tape new.disks).told ≡ (tape old.disks).told
    → (IsTrue (tape old.disks).told → Extends (tape old.disks) (tape new.disks))
    → faults old.disks ≤ faults new.disks
    → IfOk result (λ progress. IsSuspended progress → old.kept.failed ≡ None → Rose (faults old.disks) (faults new.disks))
    → Goes shape tape faults old new
event_goes shape tape faults old new event result exact answers before goes_on acks same_shape same_told longer later cause = record {
  same_shape = same_shape;
  same_told = same_told;
  extends = longer;
  later = later;
  cause = result_cause old.kept new.kept event result (faults old.disks) (faults new.disks) answers before cause;
  acks = acks;
  under_way = λ run way. onward run way;
} where
  onward : (run : Run) → IsUnderWay shape tape run old → IsUnderWay shape tape run new
  onward run way =
      let told : IsTrue (tape new.disks).told = subst (λ (told : Bool). IsTrue told) (sym same_told) way.told in
      let running : IsRunning (shape old.disks) (tape new.disks) run new.root new.kept = goes_on run way.running in
      record {
        told = told;
        from_first = way.from_first;
        running = subst (λ (of : Shape). IsRunning of (tape new.disks) run new.root new.kept) (sym same_shape) running;
        acknowledged =
            subst (λ (of : Shape). AllByRecursion (IsAcknowledged of (tape new.disks) (execution_of run new.kept)) new.kept.acks) (sym same_shape)
            (acks_grow (shape old.disks) (tape old.disks) (tape new.disks) run new.root old.kept new.kept told way.from_first (longer way.told) running
            (result_grows old.kept new.kept event result exact way.running.1.heard.asked answers before) way.acknowledged);
      }

-- ---- several

pub goes_nowhere : {D : Type 0} (shape : D → Shape) (tape : D → Tape) (faults : D → ℕ) (pool : Pool D) → Goes shape tape faults pool pool
goes_nowhere shape tape faults pool = record {
  same_shape = refl;
  same_told = refl;
  extends = λ told. extends_refl (tape pool.disks);
  later = le_refl (faults pool.disks);
  cause = λ none. inl none;
  acks = λ acks. acks;
  under_way = λ run way. way;
}

pub goes_then : {D : Type 0} (shape : D → Shape) (tape : D → Tape) (faults : D → ℕ) (old mid new : Pool D) → Goes shape tape faults old mid → Goes shape tape faults mid new → Goes shape tape faults old new
goes_then shape tape faults old mid new first second = record {
  same_shape = second.same_shape ∙ first.same_shape;
  same_told = second.same_told ∙ first.same_told;
  extends = λ told.
      extends_trans (tape old.disks) (tape mid.disks) (tape new.disks) (first.extends told) (second.extends (subst (λ (told : Bool). IsTrue told) (sym first.same_told) told));
  later = le_trans first.later second.later;
  cause = λ none. at (first.cause none);
  acks = λ acks. second.acks (first.acks acks);
  under_way = λ run way. second.under_way run (first.under_way run way);
} where
  whole : (mid.kept.failed ≡ None → (new.kept.failed ≡ None) ⊎ Rose (faults mid.disks) (faults new.disks)) → mid.kept.failed ≡ None → (new.kept.failed ≡ None) ⊎ Rose (faults old.disks) (faults new.disks)
  whole cause none = later (cause none) where
    later : (new.kept.failed ≡ None) ⊎ Rose (faults mid.disks) (faults new.disks) → (new.kept.failed ≡ None) ⊎ Rose (faults old.disks) (faults new.disks)
    later (inl still) = inl still
    later (inr rose) = inr (rose_within (faults old.disks) (faults mid.disks) (faults new.disks) (faults new.disks) first.later rose (le_refl (faults new.disks)))

  at : (mid.kept.failed ≡ None) ⊎ Rose (faults old.disks) (faults mid.disks) → (new.kept.failed ≡ None) ⊎ Rose (faults old.disks) (faults new.disks)
  at (inl none) = whole second.cause none
  at (inr rose) = inr (rose_within (faults old.disks) (faults old.disks) (faults mid.disks) (faults new.disks) (le_refl (faults old.disks)) rose second.later)

-- ---- the beginning

-- a pool that was taken up is under way
pub begins_under_way : {D : Type 0} (shape : D → Shape) (tape : D → Tape) (run : Run) (pool : Pool D) → IsTrue (tape pool.disks).told → run.begun ≡ 0
    → IsRunning (shape pool.disks) (tape pool.disks) run pool.root pool.kept → IsNew pool.kept → IsUnderWay shape tape run pool
begins_under_way shape tape run pool told first running begins = record {
  told = told;
  from_first = first;
  running = running;
  acknowledged = subst (λ (acks : List Ack). AllByRecursion (IsAcknowledged (shape pool.disks) (tape pool.disks) (execution_of run pool.kept)) acks) (sym begins.acks) tt;
}
