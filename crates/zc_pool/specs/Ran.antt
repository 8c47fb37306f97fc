-- What a run of events came to.
use Rattle.std.specs.Prelude.{◌≡◌, List, [], ◌∷◌, take, slice_get, Some}
use Rattle.zc_open.specs.declared.open_pool.OpenPool.{OpenPool}
use Rattle.zc_pool.specs.declared.event.Event.{Event}
use Rattle.zc_pool.specs.declared.event.Progress.{Progress}
use Rattle.zc_pool.specs.declared.events.Ran.{Ran}
use Rattle.zc_pool.specs.declared.events.Ran.TheVariants.{Whole, Stopped}
use Rattle.zc_pool.specs.EventAnswers.{MayAsk, AnswersEvent}

-- the event may be made, and was
abbrev pub Makes : (old new : OpenPool) → Event → Type 0
Makes old new event = MayAsk old event × (progress : Progress) × AnswersEvent old new event progress

-- the events were made in order, each after those before it
abbrev pub MakesAll : (old new : OpenPool) → List Event → Type 0
MakesAll old new [] = new ≡ old
MakesAll old new (event ∷ events) = (mid : OpenPool) × Makes old mid event × MakesAll mid new events

-- all events were made; or those before the first that may not be made
abbrev pub RanTo : (old new : OpenPool) → List Event → Ran → Type 0
RanTo old new events Whole = MakesAll old new events
RanTo old new events (Stopped at) = MakesAll old new (take at events) × (event : Event) × (slice_get events at ≡ Some event) × (MayAsk new event → ⊥)
