-- What a run on a disk set came to.
use Rattle.std.specs.Prelude.{◌≡◌, ◌⊎◌, ℕ, Bool, List, [], ◌++◌, length, Result, Ok, Err, IsTrue}
use Rattle.std.specs.List.{All}
use Rattle.zc_num.specs.Limits.{AreLimits}
use Rattle.zc_tape.specs.Tape.{Shape, Tape}
use Rattle.zc_root.specs.declared.body.Body.{Body}
use Rattle.zc_root.specs.Root.{IsRoot}
use Rattle.zc_layout.specs.Standing.{HasNoRoot}
use Rattle.zc_damage.specs.declared.damage.Damage.{Damage}
use Rattle.zc_command.specs.declared.reply.Reply.{Reply}
use Rattle.zc_command.specs.declared.command.Command.TheVariants.{Commit}
use Rattle.zc_script.specs.declared.act.Line.{Line}
use Rattle.zc_script.specs.Spelling.{IsActOf}
use Rattle.zc_state.specs.State.{State, StandsFor, IsFresh}
use Rattle.zc_state.specs.Reading.{read_state}
use Rattle.zc_plain.specs.declared.entry.Entry.{Entry}
use Rattle.zc_group.specs.declared.import.ImportFault.{ImportFault}
use Rattle.zc_group.specs.declared.import.ImportFault.TheVariants as import
use Rattle.zc_group.specs.Imported.{WritesClaim, StopsAtFailure}
use Rattle.zc_open.specs.declared.ack.Ack.{Ack}
use Rattle.zc_prog.specs.declared.fault.SessionFault.{SessionFault}
use Rattle.zc_prog.specs.declared.fault.SessionFault.TheVariants.{NoMemory, NoPool, Failed, Damaged}
use Rattle.zc_prog.specs.declared.session.Played.{Played}
use Rattle.zc_prog.specs.Played.{Asking, AddsLines, AddsCommand, mark_after, run_of, askings_in, last_session, is_done, end_line}
use Rattle.zc_prog.specs.Execution.{Execution, IsExecution, IsOnTape, IsAtEnd, last_group, front}

-- the lines are of a script over some pools
abbrev pub AreActs : List Line → Type 0
AreActs lines = (pools : List (List ℕ)) × All (λ (line : Line). IsActOf pools line.act) lines

-- the asks are some first ones of these
abbrev pub IsFront : List Asking → List Asking → Type 0
IsFront askings all = (rest : List Asking) × (askings ++ rest ≡ all)

-- the tape before its calls
abbrev pub before_calls : Tape → Tape
before_calls u = record u { calls = [] }

-- ---- a run that was played

-- The execution is of these lines and of the last commit, whose reply this is: from the calls of the claim group on each line adds its
-- entries, its acknowledgement and its calls, and the text is their replies.
pub record IsOfLines (run : Execution) (lines : List Line) (said : List ℕ) (reply : Reply) (claimed calls : ℕ) : Type 0 where
  pub entries : List Entry
  pub last : List Entry
  pub acks : List Ack
  pub last_acks : List Ack
  pub between : ℕ
  pub lines_are : AddsLines lines (record { entries = 0; calls = claimed }) entries said acks between
  pub last_is : AddsCommand last_session Commit reply (mark_after (record { entries = 0; calls = claimed }) entries between) last last_acks calls
  pub history_is : run.history ≡ entries ++ last
  pub acks_are : run.acks ≡ acks ++ last_acks

-- One legal execution of the lines and the last commit; the text is its replies and the line that tells how the last commit came out.
-- Where the disk set tells its tape it stood for a state as it was handed out, and the execution is that tape's, call by call; and where
-- the last commit was done, the disks hold the group that the text names, with the files after the whole history.
pub record IsPlayed (shape : Shape) (u : Tape) (name : List ℕ) (lines : List Line) (text : List ℕ) (good : Bool) : Type 0 where
  pub run : Execution
  pub is_run : IsExecution run
  pub said : List ℕ
  pub reply : Reply
  pub claimed : ℕ
  pub calls : ℕ
  pub of_lines : IsOfLines run lines said reply claimed calls
  pub text_is : text ≡ said ++ end_line name reply (last_group run)
  pub good_is : good ≡ is_done reply
  pub claim_calls : IsTrue u.told → WritesClaim shape (before_calls u) (front claimed u)
  pub calls_are : IsTrue u.told → calls ≡ length u.calls
  pub on_tape : IsTrue u.told → (s : State) × StandsFor shape u.start s × IsFresh s × IsOnTape shape u s run
  pub at_end : IsTrue good → IsTrue u.told → IsAtEnd shape u run

-- ---- a run that was cut short

-- an execution whose asks are some first ones of what the run asks, on the tape
pub record IsCutShort (shape : Shape) (u : Tape) (s : State) (lines : List Line) : Type 0 where
  pub run : Execution
  pub is_run : IsExecution run
  pub front_of : IsFront (askings_in run.history) (run_of lines)
  pub on_tape : IsOnTape shape u s run

-- nothing was written, or a pool stood there as the disk set was handed out
abbrev pub WritesOverPool : Shape → Tape → Type 0
WritesOverPool shape u = (u.calls ≡ []) ⊎ ((s : State) × StandsFor shape u.start s)

-- Where the disk set tells its tape, nothing was written but to a pool that stood there, and whatever stood there, an execution of some
-- first asks of the run is on the tape.
pub record WasCutShort (shape : Shape) (u : Tape) (lines : List Line) : Type 0 where
  pub writes : IsTrue u.told → WritesOverPool shape u
  pub came : IsTrue u.told → (s : State) → StandsFor shape u.start s → IsCutShort shape u s lines

-- an execution in which nothing was asked, on the tape
pub record IsUnasked (shape : Shape) (u : Tape) (s : State) : Type 0 where
  pub run : Execution
  pub is_run : IsExecution run
  pub none : run.history ≡ []
  pub on_tape : IsOnTape shape u s run

-- the same of whatever the disk set stood for
abbrev pub WasUnasked : Shape → Tape → Type 0
WasUnasked shape u = IsTrue u.told → (s : State) → StandsFor shape u.start s → IsUnasked shape u s

-- the disk set holds a pool of this damage, and has the size of one
pub record HasDamage (shape : Shape) (u : Tape) (damage : Damage) : Type 0 where
  pub size : AreLimits shape.devices shape.places
  pub read : IsTrue u.told → (body : Body) × IsRoot u.start body × (read_state shape u.start body ≡ Err damage)

-- the disk set holds no pool, or has the size of none
abbrev pub HasNoPool : Shape → Tape → Type 0
HasNoPool shape u = IsTrue u.told → AreLimits shape.devices shape.places → HasNoRoot u.start

-- A call failed as the pool was taken up: no call is on the tape, since a read failed; or a pool stood there, the calls are a front of
-- those of its claim group, and the last of them failed.
pub record FailsImport (shape : Shape) (u : Tape) : Type 0 where
  pub writes : IsTrue u.told → WritesClaim shape (before_calls u) u
  pub stops : IsTrue u.told → StopsAtFailure (before_calls u) u

-- What a run of the lines on a disk set came to, by the set as it is given back, with the tape since it was handed out.
abbrev pub CameTo : Shape → Tape → (name : List ℕ) → List Line → Result Played SessionFault → Type 0
CameTo shape u name lines (Ok played) = IsPlayed shape u name lines played.text.items played.good
CameTo shape u name lines (Err NoMemory) = WasCutShort shape u lines
CameTo shape u name lines (Err NoPool) = (u.calls ≡ []) × HasNoPool shape u
CameTo shape u name lines (Err (Damaged damage)) = (u.calls ≡ []) × HasDamage shape u damage
CameTo shape u name lines (Err Failed) = FailsImport shape u × WasUnasked shape u

-- ---- answers

-- a fault that says nothing of the image: memory was wanting, or a call of the import failed
abbrev pub IsNoAnswer : SessionFault → Type 0
IsNoAnswer NoMemory = Unit {0}
IsNoAnswer NoPool = ⊥
IsNoAnswer Failed = Unit {0}
IsNoAnswer (Damaged damage) = ⊥

-- a fault of an import, as a run tells it
abbrev pub fault_of : ImportFault → SessionFault
fault_of import.NoMemory = NoMemory
fault_of import.NoPool = NoPool
fault_of import.DiskFault = Failed
fault_of (import.Damaged damage) = Damaged damage
