-- Commits that were acknowledged stay so as a run goes on, and one that is answered Done now is acknowledged.
use Rattle.std.proofs.Common.{◌≡◌, ◌∙◌, ℕ, zero, suc, ◌+◌, ◌<◌, ◌≤◌, ◌==◌, ◌⊎◌, Bool, true, false, cond, List, [], ◌∷◌, ◌++◌, length, take, drop, slice_get, Option, Some, None, refl, sym, ap, subst, inl, inr, append-nil, arith, le_of_eq, le_trans, IsTrue}
use Rattle.std.proofs.Math.Seq.{take-length}
use Rattle.std.proofs.lemmas.List.{take-append-le}
use Rattle.std.proofs.lemmas.Option.{none-some, same_Some, slice_get_within}
use Rattle.std.specs.List.{AllByRecursion}
use Rattle.zc_num.specs.declared.limits.Limits.{Limits}
use Rattle.zc_tape.specs.Tape.{Image, Made, Shape, Tape}
use Rattle.zc_tape.specs.Crash.{AtRest, reads}
use Rattle.zc_tape.proofs.Extends.{Extends, extends_length}
use Rattle.zc_state.specs.State.{State, StandsFor}
use Rattle.zc_command.specs.declared.command.Command.TheVariants.{Commit}
use Rattle.zc_command.specs.declared.reply.Reply.{Reply}
use Rattle.zc_command.specs.declared.reply.Reply.TheVariants.{Done}
use Rattle.zc_plain.specs.declared.plain_pool.PlainPool.{PlainPool}
use Rattle.zc_plain.specs.declared.entry.Entry.{Entry}
use Rattle.zc_plain.specs.declared.entry.Entry.TheVariants.{Ask, Answer, Seal, Finish}
use Rattle.zc_plain.specs.History.{state_after, pool_after}
use Rattle.zc_apply.specs.Jobs.{IsBase}
use Rattle.zc_root.specs.declared.body.Body.{Body}
use Rattle.zc_group.specs.declared.root.Root.{Root}
use Rattle.zc_lane.specs.Found.{found_in, HoldSame}
use Rattle.zc_lane.specs.Jobs.{IsRooted}
use Rattle.zc_lane.proofs.FoundLaws.{found_same}
use Rattle.zc_open.specs.declared.ack.Ack.{Ack}
use Rattle.zc_open.specs.declared.ack.Waiting.{Waiting}
use Rattle.zc_open.specs.declared.open_pool.OpenPool.{OpenPool}
use Rattle.zc_open.specs.Events.{waiting_of, IsAsBefore, ack_of, EndsWait}
use Rattle.zc_open.specs.Heard.{IsAskedBy}
use Rattle.zc_open.specs.Points.{Point, IsPoint}
use Rattle.zc_open.proofs.SealLaws.{point_of_seal}
use Rattle.zc_pool.specs.declared.event.Event.{Event}
use Rattle.zc_pool.specs.declared.event.Event.TheVariants.{Ask as AskEvent, Step, Settle}
use Rattle.zc_pool.specs.declared.event.Progress.{Progress}
use Rattle.zc_pool.specs.declared.event.Progress.TheVariants.{Answered, Waiting as StillWaits, NotYet, Stepped, Idle, Suspended}
use Rattle.zc_pool.specs.EventAnswers.{AnswersEvent}
use Rattle.zc_pool.specs.Running.{Run, IsOnDisks, IsRunning, StandsUnlessFailed, first_failed_from}
use Rattle.zc_prog.specs.Execution.{front, IsAcknowledged}
use Rattle.zc_prog.specs.Midway.{execution_of, EndsLast}

-- ---- lists

all_and_one : {X : Type 0} (P : X → Type 0) (xs : List X) (x : X) → AllByRecursion P xs → P x → AllByRecursion P (xs ++ x ∷ [])
all_and_one P [] x all one = (one, tt)
all_and_one P (first ∷ xs) x all one = (all.0, all_and_one P xs x all.1 one)

all_weaker : {X : Type 0} (P Q : X → Type 0) (xs : List X) → ((x : X) → P x → Q x) → AllByRecursion P xs → AllByRecursion Q xs
all_weaker P Q [] weaker all = tt
all_weaker P Q (x ∷ xs) weaker all = (weaker x all.0, all_weaker P Q xs weaker all.1)

pub all_last : {X : Type 0} (P : X → Type 0) (xs : List X) (x : X) → AllByRecursion P (xs ++ x ∷ []) → P x
all_last P [] x all = all.0
all_last P (first ∷ xs) x all = all_last P xs x all.1

-- the entries of a history stay as it grows
entry_stays : (xs ys : List Entry) (i : ℕ) → i < length xs → slice_get (xs ++ ys) i ≡ slice_get xs i
entry_stays [] ys i within = absurd (omega arith)
entry_stays (x ∷ xs) ys zero within = refl
entry_stays (x ∷ xs) ys (suc i) within = entry_stays xs ys i (omega arith)

-- ---- the tape

-- the first calls of a tape that has gone on are those of the shorter one
pub front_extends : (t u : Tape) (calls : ℕ) → Extends t u → calls ≤ length t.calls → front calls u ≡ front calls t
front_extends t u calls longer within =
    ap (λ (told : Bool). tape_of told u.start (take calls u.calls)) longer.told
    ∙ ap (λ (start : Image). tape_of t.told start (take calls u.calls)) longer.start
    ∙ ap (λ (made : List Made). tape_of t.told t.start (take calls made)) longer.calls
    ∙ ap (λ (made : List Made). tape_of t.told t.start made) (take-append-le calls t.calls longer.more within) where
      tape_of : Bool → Image → List Made → Tape
      tape_of told start made = record { told = told; start = start; calls = made }

pub front_whole : (u : Tape) → front (length u.calls) u ≡ u
front_whole u = ap (λ (made : List Made). record u { calls = made }) (take-length u.calls)

-- ---- a commit that was acknowledged

-- the first entries of a history stay as it grows
past_stays : (start : PlainPool) (history more : List Entry) (entries : ℕ) → entries ≤ length history → pool_after start (history ++ more) entries ≡ pool_after start history entries
past_stays start history more entries within = ap (λ (past : List Entry). (state_after start past).pool) (take-append-le entries history more within)

acknowledged_stays : (shape : Shape) (t u : Tape) (run : Run) (old new : OpenPool) (more : List Entry) (ack : Ack) → Extends t u → new.history ≡ old.history ++ more
    → IsAcknowledged shape t (execution_of run old) ack → IsAcknowledged shape u (execution_of run new) ack
acknowledged_stays shape t u run old new more ack longer grown is =
    let same : front ack.calls u ≡ front ack.calls t = front_extends t u ack.calls longer is.within in
    let sealed : ack.ask < length old.history = slice_get_within old.history ack.ask (Seal is.group) is.sealed in
    let by_then : ack.ask + 1 ≤ length old.history = omega (arith, sealed) in
    record {
      within = le_trans is.within (extends_length t u longer);
      none_failed = ap (λ (v : Tape). first_failed_from 0 v.calls) same ∙ is.none_failed;
      at_rest = subst AtRest (sym same) is.at_rest;
      group = is.group;
      sealed = ap (λ (history : List Entry). slice_get history ack.ask) grown ∙ entry_stays old.history more ack.ask sealed ∙ is.sealed;
      state = is.state;
      stands = subst (λ (v : Tape). StandsFor shape (reads v) is.state) (sym same) is.stands;
      group_is = is.group_is;
      holds =
          subst (λ (pool : PlainPool). HoldSame (found_in run.start.limits is.state) pool)
          (sym (ap (λ (history : List Entry). pool_after run.start history (ack.ask + 1)) grown ∙ past_stays run.start old.history more (ack.ask + 1) by_then)) is.holds;
    }

-- the root's state has the files at its point of the history
rooted_files : (shape : Shape) (u : Tape) (limits : Limits) (start : PlainPool) (claim : ℕ) (history : List Entry) (point : Point) (s : State) (root : Root) → IsPoint start claim history limits point
    → IsRooted shape u s root point.base → HoldSame (found_in limits s) (pool_after start history point.entries)
rooted_files shape u limits start claim history point s root is rooted =
    let base : IsBase limits point.base = is.base_is in
    subst (λ (of : Limits). HoldSame (found_in of s) (pool_after start history point.entries)) base.limits_are
    (subst (λ (pool : PlainPool). HoldSame (found_in point.base.pool.limits s) pool) is.pool_is
    (found_same s point.base.areas point.base.pool base.plain (le_of_eq (sym base.areas.count)) rooted.holds))

-- an acknowledgement of this very moment: no call has failed, and the group that its commit sealed is the one that was written last
pub record IsNewAck (kept : OpenPool) (ack : Ack) : Type 0 where
  pub calls : ack.calls ≡ kept.calls
  pub none : kept.failed ≡ None
  pub sealed : slice_get kept.history ack.ask ≡ Some (Seal kept.group)

-- so the disks stand for a state of its group, with the files at its seal
acknowledged_now : (shape : Shape) (u : Tape) (run : Run) (root : Root) (kept : OpenPool) (ack : Ack) → IsTrue u.told → run.begun ≡ 0 → IsRunning shape u run root kept → IsNewAck kept ack
    → IsAcknowledged shape u (execution_of run kept) ack
acknowledged_now shape u run root kept ack told first (point, is, disks) new = at (disks told) where
  at : IsOnDisks shape u run root kept point → IsAcknowledged shape u (execution_of run kept) ack
  at on = with_root (subst (StandsUnlessFailed shape u root point) new.none on.stands) where
    now : ack.calls ≡ length u.calls
    now = let all = on.calls in let its = new.calls in omega arith

    same : front ack.calls u ≡ u
    same = ap (λ (count : ℕ). front count u) now ∙ front_whole u

    there : point.entries ≡ ack.ask + 1
    there =
        point_of_seal run.start run.claim kept.failed kept.history root.limits point ack.ask is.heard.legal is.lined.at_root
        (new.sealed ∙ ap (λ (group : ℕ). Some (Seal group)) (sym is.lined.root_group))

    with_root : StandsUnlessFailed shape u root point None → IsAcknowledged shape u (execution_of run kept) ack
    with_root (s, rooted, only) = record {
      within = le_of_eq now;
      none_failed =
          ap (λ (v : Tape). first_failed_from 0 v.calls) same
          ∙ ap (λ (begun : ℕ). first_failed_from 0 (drop begun u.calls)) (sym first)
          ∙ sym on.first_failed
          ∙ new.none;
      at_rest = subst AtRest (sym same) rooted.at_rest;
      group = kept.group;
      sealed = new.sealed;
      state = s;
      stands = subst (λ (v : Tape). StandsFor shape (reads v) s) (sym same) rooted.keeps.stands;
      group_is = ap (λ (body : Body). body.group) (sym rooted.keeps.body_is) ∙ is.body_group ∙ sym is.group;
      holds =
          subst (λ (entries : ℕ). HoldSame (found_in run.start.limits s) (pool_after run.start kept.history entries)) there
          (subst (λ (of : Limits). HoldSame (found_in of s) (pool_after run.start kept.history point.entries)) (sym is.start_is.limits_are)
          (rooted_files shape u root.limits run.start run.claim kept.history point s root is.lined.at_root rooted));
    }

-- ---- what an event adds

-- the history grows, and an acknowledgement that is new is of this very moment
pub record Grows (old new : OpenPool) : Type 0 where
  pub more : List Entry
  pub history : new.history ≡ old.history ++ more
  pub acks : (new.acks ≡ old.acks) ⊎ ((ack : Ack) × (new.acks ≡ old.acks ++ ack ∷ []) × IsNewAck new ack)

pub acks_grow : (shape : Shape) (t u : Tape) (run : Run) (root : Root) (old new : OpenPool) → IsTrue u.told → run.begun ≡ 0 → Extends t u → IsRunning shape u run root new → Grows old new
    → AllByRecursion (IsAcknowledged shape t (execution_of run old)) old.acks
    → AllByRecursion (IsAcknowledged shape u (execution_of run new)) new.acks
acks_grow shape t u run root old new told first longer running grows before = at grows.acks where
  still : AllByRecursion (IsAcknowledged shape u (execution_of run new)) old.acks
  still =
      all_weaker (IsAcknowledged shape t (execution_of run old)) (IsAcknowledged shape u (execution_of run new)) old.acks
      (λ ack is. acknowledged_stays shape t u run old new grows.more ack longer grows.history is) before

  at : (new.acks ≡ old.acks) ⊎ ((ack : Ack) × (new.acks ≡ old.acks ++ ack ∷ []) × IsNewAck new ack) → AllByRecursion (IsAcknowledged shape u (execution_of run new)) new.acks
  at (inl same) = subst (λ (acks : List Ack). AllByRecursion (IsAcknowledged shape u (execution_of run new)) acks) (sym same) still
  at (inr (ack, are, is_new)) =
      subst (λ (acks : List Ack). AllByRecursion (IsAcknowledged shape u (execution_of run new)) acks) (sym are)
      (all_and_one (IsAcknowledged shape u (execution_of run new)) old.acks ack still (acknowledged_now shape u run root new ack told first running is_new))

-- as many entries as there were, and no acknowledgement
grows_nothing : (old new : OpenPool) → new.history ≡ old.history → new.acks ≡ old.acks → Grows old new
grows_nothing old new history acks = record { more = []; history = history ∙ sym (append-nil old.history); acks = inl acks }

pub grows_before : (old new : OpenPool) → IsAsBefore old new → Grows old new
grows_before old new before = grows_nothing old new (ap (λ (kept : OpenPool). kept.history) before.1) (ap (λ (kept : OpenPool). kept.acks) before.1)

grows_same : (old new : OpenPool) → new ≡ old → Grows old new
grows_same old new same = grows_nothing old new (ap (λ (kept : OpenPool). kept.history) same) (ap (λ (kept : OpenPool). kept.acks) same)

-- who waits for what is found of those who wait
met_by_test : (P : Waiting → Type 0) (test : Bool) (one waiting : Waiting) (rest : Option Waiting) → cond test (Some one) rest ≡ Some waiting → P one → (rest ≡ Some waiting → P waiting) → P waiting
met_by_test P true one waiting rest is meets more = subst P (same_Some one waiting is) meets
met_by_test P false one waiting rest is meets more = more is

found_meets : (P : Waiting → Type 0) (session : ℕ) (waits : List Waiting) (waiting : Waiting) → AllByRecursion P waits → waiting_of session waits ≡ Some waiting → P waiting
found_meets P session [] waiting all is = absurd (none-some waiting is)
found_meets P session (one ∷ waits) waiting all is =
    met_by_test P (one.session == session) one waiting (waiting_of session waits) is all.0 (λ later. found_meets P session waits waiting all.1 later)

grows_ends : (old new : OpenPool) (waiting : Waiting) (reply : Reply) (failed : Option ℕ) → old.failed ≡ failed → (old.failed ≡ None → waiting.group ≡ old.group)
    → IsAskedBy old.history old.heart.group waiting → EndsWait old new waiting reply failed → Grows old new
grows_ends old new waiting reply None is exact asked (done, written, rest) =
    let answer : List Entry = Answer waiting.session Done ∷ [] in
    let history : new.history ≡ old.history ++ answer = ap (λ (kept : OpenPool). kept.history) rest in
    let group : waiting.group ≡ new.group = exact is ∙ sym (ap (λ (kept : OpenPool). kept.group) rest) in
    record {
      more = answer;
      history = history;
      acks = inr (
        ack_of old waiting,
        ap (λ (kept : OpenPool). kept.acks) rest,
        record {
          calls = sym (ap (λ (kept : OpenPool). kept.calls) rest);
          none = ap (λ (kept : OpenPool). kept.failed) rest ∙ is;
          sealed =
              ap (λ (entries : List Entry). slice_get entries waiting.ask) history
              ∙ entry_stays old.history answer waiting.ask (slice_get_within old.history waiting.ask (Seal waiting.group) asked.3)
              ∙ asked.3
              ∙ ap (λ (number : ℕ). Some (Seal number)) group;
        },
      );
    }
grows_ends old new waiting reply (Some call) is exact asked (eio, rest) = record {
  more = Answer waiting.session reply ∷ [];
  history = ap (λ (kept : OpenPool). kept.history) rest;
  acks = inl (ap (λ (kept : OpenPool). kept.acks) rest ∙ append-nil old.acks);
}

pub event_grows : (old new : OpenPool) (event : Event) (progress : Progress) → EndsLast old event → AllByRecursion (IsAskedBy old.history old.heart.group) old.waits → AnswersEvent old new event progress
    → Grows old new
event_grows old new (AskEvent session command) (Answered reply) exact asked asks =
    record { more = Ask session command ∷ Answer session reply ∷ []; history = ap (λ (kept : OpenPool). kept.history) asks.rest; acks = inl (ap (λ (kept : OpenPool). kept.acks) asks.rest) }
event_grows old new (AskEvent session command) StillWaits exact asked (is, asks) =
    record { more = Ask session Commit ∷ Seal old.heart.group ∷ []; history = ap (λ (kept : OpenPool). kept.history) asks.rest; acks = inl (ap (λ (kept : OpenPool). kept.acks) asks.rest) }
event_grows old new (AskEvent session command) NotYet exact asked answers = absurd answers
event_grows old new (AskEvent session command) Stepped exact asked answers = absurd answers
event_grows old new (AskEvent session command) Idle exact asked answers = absurd answers
event_grows old new (AskEvent session command) (Suspended call) exact asked answers = absurd answers
event_grows old new Step Stepped exact asked (none, made, done, finishes) =
    record { more = Finish finishes.job.group finishes.job.held ∷ []; history = ap (λ (kept : OpenPool). kept.history) finishes.rest; acks = inl (ap (λ (kept : OpenPool). kept.acks) finishes.rest) }
event_grows old new Step Idle exact asked (none, no_jobs, same) = grows_same old new same
event_grows old new Step (Suspended call) exact asked (inl (failed, same)) = grows_same old new same
event_grows old new Step (Suspended call) exact asked (inr (none, made, call_is, cut)) =
    grows_nothing old new (ap (λ (kept : OpenPool). kept.history) cut) (ap (λ (kept : OpenPool). kept.acks) cut)
event_grows old new Step (Answered reply) exact asked answers = absurd answers
event_grows old new Step StillWaits exact asked answers = absurd answers
event_grows old new Step NotYet exact asked answers = absurd answers
event_grows old new (Settle session) (Answered reply) exact asked (waiting, found, ends) =
    grows_ends old new waiting reply old.failed refl (λ none. exact waiting found none) (found_meets (IsAskedBy old.history old.heart.group) session old.waits waiting asked found) ends
event_grows old new (Settle session) NotYet exact asked (waiting, found, none, later, same) = grows_same old new same
event_grows old new (Settle session) StillWaits exact asked answers = absurd answers
event_grows old new (Settle session) Stepped exact asked answers = absurd answers
event_grows old new (Settle session) Idle exact asked answers = absurd answers
event_grows old new (Settle session) (Suspended call) exact asked answers = absurd answers
