-- What is true of a run's pool between two calls, and what each call keeps and adds.
use Rattle.std.specs.Prelude.{◌≡◌, ◌⊎◌, ℕ, ◌≤◌, Bool, List, [], ◌∷◌, ◌++◌, length, codes, Option, Some, None, IsTrue}
use Rattle.std.specs.List.{AllByRecursion}
use Rattle.zc_tape.specs.Tape.{Shape, Tape}
use Rattle.zc_tape.specs.Cause.{Rose}
use Rattle.zc_tape.proofs.Extends.{Extends}
use Rattle.zc_command.specs.declared.command.Command.{Command}
use Rattle.zc_command.specs.declared.command.Command.TheVariants.{Commit}
use Rattle.zc_command.specs.declared.reply.Reply.{Reply}
use Rattle.zc_command.specs.declared.reply.Reply.TheVariants.{Done, No}
use Rattle.zc_command.specs.declared.refusal.Refusal.TheVariants.{Eio}
use Rattle.zc_command.specs.Names.{AreConditions}
use Rattle.zc_script.specs.declared.act.Act.{Act}
use Rattle.zc_script.specs.declared.act.Act.TheVariants.{Pool as PoolAct, NoSuchPool}
use Rattle.zc_script.specs.declared.act.Line.{Line}
use Rattle.zc_plain.specs.declared.entry.Entry.{Entry}
use Rattle.zc_plain.specs.declared.entry.Entry.TheVariants.{Answer}
use Rattle.zc_heart.specs.declared.changes.Sealed.{Sealed}
use Rattle.zc_open.specs.declared.ack.Ack.{Ack}
use Rattle.zc_open.specs.declared.ack.Waiting.{Waiting}
use Rattle.zc_open.specs.declared.open_pool.OpenPool.{OpenPool}
use Rattle.zc_open.specs.Acked.{AreAcks}
use Rattle.zc_open.specs.Events.{waiting_of}
use Rattle.zc_pool.specs.declared.event.Event.{Event}
use Rattle.zc_pool.specs.declared.event.Event.TheVariants.{Ask as AskEvent, Step, Settle}
use Rattle.zc_pool.specs.declared.event.Progress.{Progress}
use Rattle.zc_pool.specs.declared.event.Progress.TheVariants.{Answered, Waiting as StillWaits, NotYet, Stepped, Idle, Suspended}
use Rattle.zc_pool.specs.declared.pool.Pool.{Pool}
use Rattle.zc_pool.specs.Running.{Run, IsRunning}
use Rattle.zc_prog.specs.Played.{Asking, Mark, askings_in, IsFinish, acknowledged_by, AddsCommand, AddsAct, AddsLines, last_session, is_done, end_line}
use Rattle.zc_prog.specs.Execution.{Execution, IsAcknowledged}

-- ---- at any time

-- the execution so far of a pool that began so
abbrev pub execution_of : Run → OpenPool → Execution
execution_of run kept = record { start = run.start; claim = run.claim; failed = kept.failed; history = kept.history; acks = kept.acks }

-- Whatever it was asked, and wherever that was cut short: the pool is of this run, whose tape is told from its first call on; and each
-- acknowledgement came in time.
pub record IsUnderWay {D : Type 0} (shape : D → Shape) (tape : D → Tape) (run : Run) (pool : Pool D) : Type 0 where
  pub told : IsTrue (tape pool.disks).told
  pub from_first : run.begun ≡ 0
  pub running : IsRunning (shape pool.disks) (tape pool.disks) run pool.root pool.kept
  pub acknowledged : AllByRecursion (IsAcknowledged (shape pool.disks) (tape pool.disks) (execution_of run pool.kept)) pool.kept.acks

-- what a call keeps of a pool, whatever run it is of
pub record Goes {D : Type 0} (shape : D → Shape) (tape : D → Tape) (faults : D → ℕ) (old new : Pool D) : Type 0 where
  pub same_shape : shape new.disks ≡ shape old.disks
  pub same_told : (tape new.disks).told ≡ (tape old.disks).told
  pub extends : IsTrue (tape old.disks).told → Extends (tape old.disks) (tape new.disks)
  pub later : faults old.disks ≤ faults new.disks
  pub cause : old.kept.failed ≡ None → (new.kept.failed ≡ None) ⊎ Rose (faults old.disks) (faults new.disks)
  pub acks : AreAcks old.kept → AreAcks new.kept
  pub under_way : (run : Run) → IsUnderWay shape tape run old → IsUnderWay shape tape run new

-- ---- between two lines

-- no session waits, and no group either as long as no call failed
pub record IsQuiet (kept : OpenPool) : Type 0 where
  pub no_waits : kept.waits ≡ []
  pub no_jobs : kept.failed ≡ None → kept.jobs ≡ []

-- the session alone waits, for the one group that is to be written, unless a call failed
pub record HasSealed (kept : OpenPool) (session : ℕ) (waiting : Waiting) : Type 0 where
  pub its : waiting.session ≡ session
  pub alone : kept.waits ≡ waiting ∷ []
  pub job : kept.failed ≡ None → (job : Sealed) × (kept.jobs ≡ job ∷ []) × (job.group ≡ waiting.group)

-- the session alone waits, and its group is the one that was written last, unless a call failed
pub record HasWritten (kept : OpenPool) (session : ℕ) (waiting : Waiting) : Type 0 where
  pub its : waiting.session ≡ session
  pub alone : kept.waits ≡ waiting ∷ []
  pub no_jobs : kept.failed ≡ None → kept.jobs ≡ []
  pub written : kept.failed ≡ None → waiting.group ≡ kept.group

-- the session waits for some group that it sealed
abbrev pub Waits : OpenPool → (session : ℕ) → Type 0
Waits kept session = (waiting : Waiting) × HasSealed kept session waiting

-- the session waits for the group that was written last
abbrev pub MayBeAnswered : OpenPool → (session : ℕ) → Type 0
MayBeAnswered kept session = (waiting : Waiting) × HasWritten kept session waiting

-- where a wait is to end and no call failed, it is for the group that was written last
abbrev pub EndsLast : OpenPool → Event → Type 0
EndsLast kept (AskEvent session command) = Unit {0}
EndsLast kept Step = Unit {0}
EndsLast kept (Settle session) = (waiting : Waiting) → waiting_of session kept.waits ≡ Some waiting → kept.failed ≡ None → waiting.group ≡ kept.group

-- an event that answered a command
abbrev pub IsAnswered : Progress → Type 0
IsAnswered (Answered reply) = Unit {0}
IsAnswered StillWaits = ⊥
IsAnswered NotYet = ⊥
IsAnswered Stepped = ⊥
IsAnswered Idle = ⊥
IsAnswered (Suspended call) = ⊥

-- a commit is done where no call failed, and else its reply tells which did
abbrev pub EndsBy : (failed : Option ℕ) → Reply → Type 0
EndsBy None reply = reply ≡ Done
EndsBy (Some call) reply = reply ≡ No (Eio call)

-- ---- what is added

-- where the pool stands
abbrev pub mark_of : OpenPool → Mark
mark_of kept = record { entries = length kept.history; calls = kept.calls }

-- after the old history stands the answer of the wait, which is acknowledged where it is Done, and no call was made
pub record AddsReply (old new : OpenPool) (waiting : Waiting) (reply : Reply) : Type 0 where
  pub history : new.history ≡ old.history ++ Answer waiting.session reply ∷ []
  pub acks : new.acks ≡ old.acks ++ acknowledged_by waiting.session waiting.ask reply new.calls
  pub calls : new.calls ≡ old.calls

-- the same, with the finish of its group before it, or not, and some calls
pub record AddsEnd (old new : OpenPool) (waiting : Waiting) (reply : Reply) : Type 0 where
  pub finish : List Entry
  pub is_finish : IsFinish waiting.group finish
  pub history : new.history ≡ old.history ++ (finish ++ Answer waiting.session reply ∷ [])
  pub acks : new.acks ≡ old.acks ++ acknowledged_by waiting.session waiting.ask reply new.calls
  pub calls : old.calls ≤ new.calls

-- after the old history stand the entries of the command, and after the old acknowledgements its own
pub record AddsWhole (old new : OpenPool) (session : ℕ) (command : Command) (reply : Reply) : Type 0 where
  pub entries : List Entry
  pub acks : List Ack
  pub are : AddsCommand session command reply (mark_of old) entries acks new.calls
  pub history : new.history ≡ old.history ++ entries
  pub acks_are : new.acks ≡ old.acks ++ acks

-- the same of a line, and after the old text stands that of its reply
pub record AddsLine (line : Line) (old new : OpenPool) (out text : List ℕ) : Type 0 where
  pub entries : List Entry
  pub said : List ℕ
  pub acks : List Ack
  pub are : AddsAct line.session line.act (mark_of old) entries said acks new.calls
  pub history : new.history ≡ old.history ++ entries
  pub text_is : text ≡ out ++ (said ++ codes "\n")
  pub acks_are : new.acks ≡ old.acks ++ acks

-- where a run begins whose claim group took so many calls
abbrev pub first_mark : (claimed : ℕ) → Mark
first_mark claimed = record { entries = 0; calls = claimed }

-- a session and its command
abbrev pub asking : ℕ → Command → Asking
asking session command = record { session = session; command = command }

-- of what was to be asked, some first part was
pub record AsksSome (old new : List Entry) (askings : List Asking) : Type 0 where
  pub asked : List Asking
  pub rest : List Asking
  pub parts : asked ++ rest ≡ askings
  pub are : askings_in new ≡ askings_in old ++ asked

-- the conditions of a line's command
abbrev pub MeetsAct : Act → Type 0
MeetsAct (PoolAct at command) = AreConditions command
MeetsAct NoSuchPool = Unit {0}

-- ---- the end

-- after the old history stands the last commit, and after the old text the line that tells how it came out
pub record AddsEndLine (name : List ℕ) (group : ℕ) (old new : OpenPool) (out text : List ℕ) (good : Bool) : Type 0 where
  pub reply : Reply
  pub last : AddsWhole old new last_session Commit reply
  pub ends : EndsBy new.failed reply
  pub text_is : text ≡ out ++ end_line name reply group
  pub good_is : good ≡ is_done reply

-- A run is at its end, whose claim group took so many calls: its history, its acknowledgements, its calls and its text are those of its
-- lines and of its last commit.
pub record HasEnded (name : List ℕ) (lines : List Line) (group claimed : ℕ) (kept : OpenPool) (text : List ℕ) (good : Bool) : Type 0 where
  pub mid : OpenPool
  pub said : List ℕ
  pub lines_are : AddsLines lines (first_mark claimed) mid.history said mid.acks mid.calls
  pub end : AddsEndLine name group mid kept said text good
  pub quiet : IsQuiet kept
