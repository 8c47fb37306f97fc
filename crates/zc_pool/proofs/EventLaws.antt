-- What the functions that make events know of each other's answers.
use Rattle.std.proofs.Common.{◌≡◌, ◌∙◌, ℕ, ◌+◌, ◌^◌, ◌<◌, ◌≤◌, List, [], ◌∷◌, ◌++◌, length, drop, take, slice_get, count_by, Option, Some, None, Result, Ok, Err, inl, inr, IfOk, OnErr, ◌↔◌, IsTrue, not, is_some, append-nil, refl, sym, ap, subst, arith}
use Rattle.std.proofs.Math.Seq.{take-append_seam}
use Rattle.std.proofs.lemmas.List.{length-append}
use Rattle.std.proofs.lemmas.Result.{IfOk-weaker, on_err_weaker}
use Rattle.std.specs.declared.alloc.AllocError.{AllocError}
use Rattle.zc_tape.specs.Tape.{Shape, Tape}
use Rattle.zc_command.specs.declared.command.Command.{Command}
use Rattle.zc_command.specs.declared.reply.Reply.{Reply}
use Rattle.zc_heart.specs.declared.changes.Sealed.{Sealed}
use Rattle.zc_heart.specs.declared.changes.GroupDone.{GroupDone}
use Rattle.zc_heart.specs.declared.pool_core.Core.{Core}
use Rattle.zc_heart.specs.Changes.{is_made}
use Rattle.zc_heart.specs.Meaning.{Stays, MayAbsorb}
use Rattle.zc_group.specs.declared.root.Root.{Root}
use Rattle.zc_group.specs.Kept.{HasSize, HasPlaces}
use Rattle.zc_open.specs.declared.open_pool.OpenPool.{OpenPool}
use Rattle.zc_open.specs.declared.asking.Asked.{Asked}
use Rattle.zc_open.specs.declared.asking.Asked.TheVariants as asked
use Rattle.zc_open.specs.Events.{IsAsBefore, IsAsked, Settles, Notes, forgotten, failed_after}
use Rattle.zc_open.specs.Acked.{AreAcks}
use Rattle.zc_open.proofs.AckLaws.{acks_before, acks_asks, acks_commit, acks_ends, acks_finishes, acks_fails}
use Rattle.zc_open.proofs.HeardLaws.{forgotten_noted}
use Rattle.zc_open.proofs.JobLaws.{may_absorb}
use Rattle.zc_pool.specs.declared.event.Event.{Event}
use Rattle.zc_pool.specs.declared.event.Event.TheVariants as kind
use Rattle.zc_pool.specs.declared.event.Progress.{Progress}
use Rattle.zc_pool.specs.declared.event.Progress.TheVariants as progress
use Rattle.zc_pool.specs.EventAnswers.{MayAsk, AnswersEvent}
use Rattle.zc_pool.specs.Running.{IsPool}
use Rattle.zc_pool.specs.Carried.{IsLeftAlone, IsSuspended, progress_of_ask, progress_of_settle}
use Rattle.zc_pool.specs.declared.events.Ran.TheVariants.{Whole, Stopped}
use Rattle.zc_pool.specs.Ran.{Makes, MakesAll, RanTo}
use Rattle.zc_pool.proofs.RunningLaws.{IsFirst, first_of_pool, room_for_calls}

-- ---- what is asked before an event

pub none_is : {X : Type 0} (found : Option X) → IsTrue (not (is_some found)) ↔ (found ≡ None)
none_is None = (λ yes. refl, λ same. refl)
none_is (Some x) = (λ yes. absurd cc, λ same. absurd cc)

-- ---- nothing has changed

stays_same : (heart : Core) → Stays heart heart
stays_same heart = record {
  pool = refl;
  areas = refl;
  agrees = λ tally agrees. agrees;
  leads = λ base leads. leads;
  knows = λ places knows. knows;
  group = refl;
  waiting = refl;
  last = refl;
}

pub as_before_same : (kept : OpenPool) → IsAsBefore kept kept
as_before_same kept = (stays_same kept.heart, refl)

pub as_before_is : (old new : OpenPool) → new ≡ old → IsAsBefore old new
as_before_is old new same = subst (λ (kept : OpenPool). IsAsBefore old kept) (sym same) (as_before_same old)

pub left_alone_same : (t : Tape) (root : Root) (kept : OpenPool) → IsLeftAlone t t root root kept kept
left_alone_same t root kept = record { as_before = as_before_same kept; same_root = refl; same_tape = refl }

pub left_alone_is : (t u : Tape) (root next : Root) (old new : OpenPool) → u ≡ t → next ≡ root → new ≡ old → IsLeftAlone t u root next old new
left_alone_is t u root next old new tape_is root_is kept_is = record { as_before = as_before_is old new kept_is; same_root = root_is; same_tape = tape_is }

-- ---- what is told

pub asked_is : (old new : OpenPool) (session : ℕ) (command : Command) (outcome : Asked) (told : Progress) → IsAsked old new session command outcome → told ≡ progress_of_ask outcome
    → AnswersEvent old new (kind.Ask session command) told
asked_is old new session command (asked.Answered reply) told is same = subst (λ (told : Progress). AnswersEvent old new (kind.Ask session command) told) (sym same) is
asked_is old new session command asked.Waiting told is same = subst (λ (told : Progress). AnswersEvent old new (kind.Ask session command) told) (sym same) is

pub ask_is_no_failure : (outcome : Asked) (told : Progress) → told ≡ progress_of_ask outcome → IsSuspended told → ⊥
ask_is_no_failure (asked.Answered reply) told same suspended = subst IsSuspended same suspended
ask_is_no_failure asked.Waiting told same suspended = subst IsSuspended same suspended

pub settle_is : (old new : OpenPool) (session : ℕ) (ended : Option Reply) (told : Progress) → Settles old new session ended → told ≡ progress_of_settle ended
    → AnswersEvent old new (kind.Settle session) told
settle_is old new session None told is same = subst (λ (told : Progress). AnswersEvent old new (kind.Settle session) told) (sym same) is
settle_is old new session (Some reply) told is same = subst (λ (told : Progress). AnswersEvent old new (kind.Settle session) told) (sym same) is

pub settle_is_no_failure : (ended : Option Reply) (told : Progress) → told ≡ progress_of_settle ended → IsSuspended told → ⊥
settle_is_no_failure None told same suspended = subst IsSuspended same suspended
settle_is_no_failure (Some reply) told same suspended = subst IsSuspended same suspended

-- ---- the first job, once its finish is noted

pub noted_jobs : (old noted : OpenPool) → Notes old noted → noted.jobs ≡ old.jobs
noted_jobs old noted notes = ap (λ (pool : OpenPool). pool.jobs) notes.3

pub noted_heart : (old noted : OpenPool) → Notes old noted → noted.heart ≡ old.heart
noted_heart old noted notes = ap (λ (pool : OpenPool). pool.heart) notes.3

-- with room for its calls
pub noted_room : (shape : Shape) (root : Root) (old noted : OpenPool) → IsPool shape root old → Notes old noted → old.failed ≡ None → length old.history + 2 ≤ 2 ^ 62 → noted.calls + 2 ^ 64 ≤ 2 ^ 128
noted_room shape root old noted is notes none few =
    subst (λ (calls : ℕ). calls + 2 ^ 64 ≤ 2 ^ 128) (sym (ap (λ (pool : OpenPool). pool.calls) notes.3)) (room_for_calls shape root old is none few)

pub noted_some : (old noted : OpenPool) → Notes old noted → 0 < length noted.history
noted_some old noted notes = omega (arith, ap (λ (pool : OpenPool). length pool.history) notes.3, length-append old.history)

pub found_before : (old noted : OpenPool) (job : Sealed) → Notes old noted → slice_get noted.jobs 0 ≡ Some job → slice_get old.jobs 0 ≡ Some job
found_before old noted job notes found = subst (λ (jobs : List Sealed). slice_get jobs 0 ≡ Some job) (noted_jobs old noted notes) found

pub first_noted : (shape : Shape) (root : Root) (old noted : OpenPool) (job : Sealed) → IsPool shape root old → Notes old noted → slice_get noted.jobs 0 ≡ Some job → IsFirst root old job
first_noted shape root old noted job is notes found = first_of_pool shape root old job is (found_before old noted job notes found)

pub may_take_in : (root : Root) (old noted : OpenPool) (job : Sealed) (done : GroupDone) → Notes old noted → IsFirst root old job → done.group ≡ job.group → done.held ≡ job.held
    → length done.placed ≡ count_by is_made job.changes → MayAbsorb done noted.heart
may_take_in root old noted job done notes first group held placed =
    subst (MayAbsorb done) (sym (noted_heart old noted notes)) (may_absorb old.heart job (drop 1 old.jobs) done first.waiting group held placed)

pub held_few : (root : Root) (old : OpenPool) (job : Sealed) (done : GroupDone) → IsFirst root old job → done.held ≡ job.held → done.held ≤ 2 ^ 62
held_few root old job done first held = subst (λ (n : ℕ). n ≤ 2 ^ 62) (sym held) first.held

pub pool_size : (shape : Shape) (root : Root) (kept : OpenPool) → IsPool shape root kept → HasSize shape root
pool_size shape root kept (run, point, is) = is.size

pub pool_places : (shape : Shape) (root : Root) (kept : OpenPool) → IsPool shape root kept → HasPlaces root
pool_places shape root kept (run, point, is) = is.places

-- the finish is forgotten, and the call that failed is kept
pub failed_from : (old noted new : OpenPool) (made : ℕ) → Notes old noted → new ≡ failed_after (forgotten noted) made → new ≡ failed_after old made
failed_from old noted new made notes fails = fails ∙ ap (λ (kept : OpenPool). failed_after kept made) (forgotten_noted old noted notes)

-- ---- what is told of the disks

pub still_alone : (t : Tape) (root : Root) (old new : OpenPool) (result : Result Progress AllocError) → OnErr result (IsAsBefore old new) → OnErr result (IsLeftAlone t t root root old new)
still_alone t root old new result =
    on_err_weaker {P = IsAsBefore old new} {Q = IsLeftAlone t t root root old new} result (λ before. record { as_before = before; same_root = refl; same_tape = refl })

pub no_cause : (result : Result Progress AllocError) (none : Type 0) (rose : Type 0) → IfOk result (λ told. IsSuspended told → ⊥) → IfOk result (λ told. IsSuspended told → none → rose)
no_cause result none rose =
    IfOk-weaker result (λ told. IsSuspended told → ⊥) (λ told. IsSuspended told → none → rose) (λ told not_failed suspended before. absurd (not_failed suspended))

-- ---- the acknowledgements

acks_same : (old new : OpenPool) → new ≡ old → AreAcks old → AreAcks new
acks_same old new same acks = subst AreAcks (sym same) acks

-- whatever was answered, they are those of the history still
acks_answered : (old new : OpenPool) (event : Event) (told : Progress) → MayAsk old event → AnswersEvent old new event told → AreAcks old → AreAcks new
acks_answered old new (kind.Ask session command) (progress.Answered reply) may asks acks = acks_asks old new session command reply may.1 acks asks
acks_answered old new (kind.Ask session command) progress.Waiting may asks acks = acks_commit old new session may.1 acks asks.1
acks_answered old new (kind.Ask session command) progress.NotYet may asks acks = absurd asks
acks_answered old new (kind.Ask session command) progress.Stepped may asks acks = absurd asks
acks_answered old new (kind.Ask session command) progress.Idle may asks acks = absurd asks
acks_answered old new (kind.Ask session command) (progress.Suspended call) may asks acks = absurd asks
acks_answered old new kind.Step (progress.Answered reply) may steps acks = absurd steps
acks_answered old new kind.Step progress.Waiting may steps acks = absurd steps
acks_answered old new kind.Step progress.NotYet may steps acks = absurd steps
acks_answered old new kind.Step progress.Stepped may (none, made, done, finishes) acks = acks_finishes old new made done acks finishes
acks_answered old new kind.Step progress.Idle may (none, empty, same) acks = acks_same old new same acks
acks_answered old new kind.Step (progress.Suspended call) may (inl before) acks = acks_same old new before.1 acks
acks_answered old new kind.Step (progress.Suspended call) may (inr (none, made, number, fails)) acks = acks_same (failed_after old made) new fails (acks_fails old made acks)
acks_answered old new (kind.Settle session) (progress.Answered reply) may (waiting, found, ends) acks = acks_ends old new session waiting reply old.failed acks found ends
acks_answered old new (kind.Settle session) progress.Waiting may settles acks = absurd settles
acks_answered old new (kind.Settle session) progress.NotYet may (waiting, found, none, later, same) acks = acks_same old new same acks
acks_answered old new (kind.Settle session) progress.Stepped may settles acks = absurd settles
acks_answered old new (kind.Settle session) progress.Idle may settles acks = absurd settles
acks_answered old new (kind.Settle session) (progress.Suspended call) may settles acks = absurd settles

-- and so they are where it wanted memory
pub acks_made : (old new : OpenPool) (event : Event) (result : Result Progress AllocError) → MayAsk old event → IfOk result (λ told. AnswersEvent old new event told)
    → OnErr result (IsAsBefore old new) → AreAcks old → AreAcks new
acks_made old new event (Ok told) may answers memory acks = acks_answered old new event told may answers acks
acks_made old new event (Err fault) may answers memory acks = acks_before old new acks memory

pub acks_stepped : (t u : Tape) (root next : Root) (old new : OpenPool) (result : Result Progress AllocError) → IfOk result (λ told. AnswersEvent old new kind.Step told)
    → OnErr result (IsLeftAlone t u root next old new) → AreAcks old → AreAcks new
acks_stepped t u root next old new (Ok told) answers memory acks = acks_answered old new kind.Step told tt answers acks
acks_stepped t u root next old new (Err fault) answers memory acks = acks_before old new acks memory.as_before

-- ---- a run

-- one event more
pub makes_more : (old mid new : OpenPool) (events : List Event) (event : Event) → MakesAll old mid events → Makes mid new event → MakesAll old new (events ++ event ∷ [])
makes_more old mid new [] event made makes = (new, subst (λ (kept : OpenPool). Makes kept new event) made makes, refl)
makes_more old mid new (first ∷ events) event (between, one, made) makes = (between, one, makes_more between mid new events event made makes)

pub first_events : (events rest : List Event) → take (length events) (events ++ rest) ≡ events
first_events events rest = take-append_seam events rest

pub event_there : (events rest : List Event) (event : Event) → slice_get (events ++ event ∷ rest) (length events) ≡ Some event
event_there [] rest event = refl
event_there (first ∷ events) rest event = event_there events rest event

-- all events were made
pub ran_whole : (old new : OpenPool) (made rest events : List Event) → made ++ rest ≡ events → rest ≡ [] → MakesAll old new made → RanTo old new events Whole
ran_whole old new made rest events parts none makes =
    let all : made ≡ events = sym (append-nil made) ∙ ap (λ (behind : List Event). made ++ behind) (sym none) ∙ parts in
    subst (λ (events : List Event). MakesAll old new events) all makes

-- those before the first that may not be made
pub ran_to : (old new : OpenPool) (made rest events : List Event) (event : Event) (at : ℕ) → made ++ event ∷ rest ≡ events → at ≡ length made → MakesAll old new made → (MayAsk new event → ⊥)
    → RanTo old new events (Stopped at)
ran_to old new made rest events event at parts place makes none =
    subst (λ (events : List Event). RanTo old new events (Stopped at)) parts
    (subst (λ (n : ℕ). RanTo old new (made ++ event ∷ rest) (Stopped n)) (sym place)
    (subst (λ (events : List Event). MakesAll old new events) (sym (first_events made (event ∷ rest))) makes, event, event_there made rest event, none))
