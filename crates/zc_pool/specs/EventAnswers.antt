-- What each event answers.
use Rattle.std.specs.Prelude.{◌≡◌, ◌⊎◌, ℕ, ◌+◌, [], Some, None, IsSome}
use Rattle.zc_command.specs.Names.{AreConditions}
use Rattle.zc_heart.specs.declared.changes.GroupDone.{GroupDone}
use Rattle.zc_open.specs.declared.asking.Asked.TheVariants as asked
use Rattle.zc_open.specs.declared.open_pool.OpenPool.{OpenPool}
use Rattle.zc_open.specs.Events.{waiting_of, IsAsked, Settles, Finishes, failed_after}
use Rattle.zc_pool.specs.declared.event.Event.{Event}
use Rattle.zc_pool.specs.declared.event.Event.TheVariants.{Ask, Step, Settle}
use Rattle.zc_pool.specs.declared.event.Progress.{Progress}
use Rattle.zc_pool.specs.declared.event.Progress.TheVariants.{Answered, Waiting, NotYet, Stepped, Idle, Suspended}

-- what whoever makes an event meets: the conditions of the command, a session that waits asks nothing, and only one that waits settles
abbrev pub MayAsk : OpenPool → Event → Type 0
MayAsk kept (Ask session command) = AreConditions command × (waiting_of session kept.waits ≡ None)
MayAsk kept Step = Unit {0}
MayAsk kept (Settle session) = IsSome (waiting_of session kept.waits)

-- an ask is answered at once, or waits
abbrev pub AnswersAsk : (old new : OpenPool) → (event : Event) → Progress → Type 0
AnswersAsk old new (Ask session command) (Answered reply) = IsAsked old new session command (asked.Answered reply)
AnswersAsk old new (Ask session command) Waiting = IsAsked old new session command asked.Waiting
AnswersAsk old new event other = ⊥

-- a step wrote the first job; or none waits; or a call failed, now or before
abbrev pub AnswersStep : (old new : OpenPool) → Progress → Type 0
AnswersStep old new Stepped = (old.failed ≡ None) × (made : ℕ) × (done : GroupDone) × Finishes old new made done
AnswersStep old new Idle = (old.failed ≡ None) × (old.jobs ≡ []) × (new ≡ old)
AnswersStep old new (Suspended call) = ((old.failed ≡ Some call) × (new ≡ old)) ⊎ ((old.failed ≡ None) × (made : ℕ) × (call ≡ old.calls + made) × (new ≡ failed_after old made))
AnswersStep old new other = ⊥

-- a wait has ended, or not yet
abbrev pub AnswersSettle : (old new : OpenPool) → (session : ℕ) → Progress → Type 0
AnswersSettle old new session (Answered reply) = Settles old new session (Some reply)
AnswersSettle old new session NotYet = Settles old new session None
AnswersSettle old new session other = ⊥

-- what an event answers, and what it adds to what is kept
abbrev pub AnswersEvent : (old new : OpenPool) → Event → Progress → Type 0
AnswersEvent old new (Ask session command) progress = AnswersAsk old new (Ask session command) progress
AnswersEvent old new Step progress = AnswersStep old new progress
AnswersEvent old new (Settle session) progress = AnswersSettle old new session progress

-- the event makes calls of the disks
abbrev pub IsStep : Event → Type 0
IsStep (Ask session command) = ⊥
IsStep Step = Unit {0}
IsStep (Settle session) = ⊥
