-- What each call on a pool in memory adds to it.
use Rattle.std.specs.Prelude.{◌≡◌, ℕ, ◌+◌, ◌-◌, ◌<◌, ◌≤◌, ◌==◌, ◌||◌, false, not, List, [], ◌∷◌, ◌++◌, length, take, filter, find, Option, Some, None, Ok}
use Rattle.zc_command.specs.declared.command.Command.{Command}
use Rattle.zc_command.specs.declared.command.Command.TheVariants.{Commit}
use Rattle.zc_command.specs.declared.reply.Reply.{Reply}
use Rattle.zc_command.specs.declared.reply.Reply.TheVariants.{Done, No}
use Rattle.zc_command.specs.declared.refusal.Refusal.TheVariants.{Eio}
use Rattle.zc_plain.specs.declared.entry.Entry.TheVariants.{Ask, Answer, Seal, Finish}
use Rattle.zc_plain.specs.History.{is_waiting}
use Rattle.zc_heart.specs.declared.changes.Sealed.{Sealed}
use Rattle.zc_heart.specs.declared.changes.GroupDone.{GroupDone}
use Rattle.zc_heart.specs.declared.pool_core.Core.{Core}
use Rattle.zc_heart.specs.Meaning.{Replies, Commands, Stays, IsSealed, MayAbsorb, Absorbs}
use Rattle.zc_open.specs.declared.ack.Ack.{Ack}
use Rattle.zc_open.specs.declared.ack.Waiting.{Waiting}
use Rattle.zc_open.specs.declared.open_pool.OpenPool.{OpenPool}
use Rattle.zc_open.specs.declared.asking.Asked.{Asked}
use Rattle.zc_open.specs.declared.asking.Asked.TheVariants as asked
use Rattle.zc_open.specs.Since.{is_changed_by}

-- a pool in memory after an import: nothing was asked
abbrev pub begun_pool : Core → (group calls : ℕ) → OpenPool
begun_pool heart group calls =
    record { heart = heart; history = []; acks = []; jobs = []; waits = []; changed = false; group = group; calls = calls; failed = None }

-- what the session waits for
abbrev pub waiting_of : (session : ℕ) → List Waiting → Option Waiting
waiting_of session waits = find (λ (waiting : Waiting). waiting.session == session) waits

-- the others, which still wait
abbrev pub without_waiting : (session : ℕ) → List Waiting → List Waiting
without_waiting session waits = filter (λ (waiting : Waiting). not (waiting.session == session)) waits

-- no file has changed, and nothing else at all
abbrev pub IsAsBefore : (old new : OpenPool) → Type 0
IsAsBefore old new = Stays old.heart new.heart × (new ≡ record old { heart = new.heart })

-- a command was asked and answered at once, as plain files answer it
pub record Asks (old new : OpenPool) (session : ℕ) (command : Command) (reply : Reply) : Type 0 where
  pub at_once : is_waiting command ≡ false
  pub replies : Replies (length old.history + 1) command old.heart new.heart (Ok reply)
  pub heart : Commands old.heart new.heart
  pub last : new.heart.last ≤ length old.history + 1
  pub rest : new ≡ record old {
    heart = new.heart;
    history = old.history ++ Ask session command ∷ Answer session reply ∷ [];
    changed = old.changed || is_changed_by (Some command) reply;
  }

-- a commit was asked: the open group is sealed, and the session waits for it
pub record AsksCommit (old new : OpenPool) (session : ℕ) : Type 0 where
  pub sealed : Sealed
  pub is_sealed : IsSealed old.heart new.heart sealed
  pub rest : new ≡ record old {
    heart = new.heart;
    history = old.history ++ Ask session Commit ∷ Seal old.heart.group ∷ [];
    jobs = old.jobs ++ sealed ∷ [];
    waits = old.waits ++ record { session = session; ask = length old.history + 1; group = old.heart.group } ∷ [];
    changed = false;
  }

-- what an ask came to
abbrev pub IsAsked : (old new : OpenPool) → (session : ℕ) → Command → Asked → Type 0
IsAsked old new session command (asked.Answered reply) = Asks old new session command reply
IsAsked old new session command asked.Waiting = (command ≡ Commit) × AsksCommit old new session

-- the acknowledgement of a wait that ends now
abbrev pub ack_of : OpenPool → Waiting → Ack
ack_of pool waiting = record { session = waiting.session; ask = waiting.ask; dataset = None; calls = pool.calls }

-- the pool once the wait has ended with this reply, and with these acknowledgements more
abbrev pub ended : OpenPool → Waiting → Reply → List Ack → OpenPool
ended old waiting reply acks = record old {
  history = old.history ++ Answer waiting.session reply ∷ [];
  acks = old.acks ++ acks;
  waits = without_waiting waiting.session old.waits;
}

-- a wait ends in the number of the call that failed, or in Done once its group is finished, and that is an acknowledgement
abbrev pub EndsWait : (old new : OpenPool) → Waiting → Reply → Option ℕ → Type 0
EndsWait old new waiting reply (Some call) = (reply ≡ No (Eio call)) × (new ≡ ended old waiting reply [])
EndsWait old new waiting reply None = (reply ≡ Done) × (waiting.group ≤ old.group) × (new ≡ ended old waiting Done (ack_of old waiting ∷ []))

-- what a settle came to: the wait has ended with a reply; or no call failed, its group isn't finished, and nothing has changed
abbrev pub Settles : (old new : OpenPool) → (session : ℕ) → Option Reply → Type 0
Settles old new session (Some reply) = (waiting : Waiting) × (waiting_of session old.waits ≡ Some waiting) × EndsWait old new waiting reply old.failed
Settles old new session None =
    (waiting : Waiting) × (waiting_of session old.waits ≡ Some waiting) × (old.failed ≡ None) × (old.group < waiting.group) × (new ≡ old)

-- the first job, and those after it
pub record HasJob (pool : OpenPool) (job : Sealed) (others : List Sealed) : Type 0 where
  pub jobs_are : pool.jobs ≡ job ∷ others

-- the finish of the first job stands in the history already
abbrev pub Notes : (old new : OpenPool) → Type 0
Notes old new = (job : Sealed) × (others : List Sealed) × HasJob old job others × (new ≡ record old { history = old.history ++ Finish job.group job.held ∷ [] })

-- the last entry is taken out of the history
abbrev pub forgotten : OpenPool → OpenPool
forgotten old = record old { history = take (length old.history - 1) old.history }

-- the first job is finished, whose finish stands in the history: so many calls were made for it, and its blocks are where it says
pub record FinishesNoted (old new : OpenPool) (made : ℕ) (done : GroupDone) : Type 0 where
  pub job : Sealed
  pub others : List Sealed
  pub first : HasJob old job others
  pub may : MayAbsorb done old.heart
  pub absorbs : Absorbs done old.heart new.heart
  pub rest : new ≡ record old { heart = new.heart; jobs = others; group = job.group; calls = old.calls + made }

-- the first job is finished
pub record Finishes (old new : OpenPool) (made : ℕ) (done : GroupDone) : Type 0 where
  pub job : Sealed
  pub others : List Sealed
  pub first : HasJob old job others
  pub may : MayAbsorb done old.heart
  pub absorbs : Absorbs done old.heart new.heart
  pub rest : new ≡ record old {
    heart = new.heart;
    history = old.history ++ Finish job.group job.held ∷ [];
    jobs = others;
    group = job.group;
    calls = old.calls + made;
  }

-- so many calls were made for a job, and the last of them failed
abbrev pub failed_after : OpenPool → (made : ℕ) → OpenPool
failed_after old made = record old { calls = old.calls + made; failed = Some (old.calls + made) }
