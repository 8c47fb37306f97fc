-- What the program promises of a run.
use Rattle.std.specs.Prelude.{◌≡◌, ◌⊎◌, ℕ, ◌<◌, ◌≤◌, ◌∷◌, ◌++◌, true, List, [], length, Option, Some, None, IsTrue}
use Rattle.zc_tape.specs.Cause.{Rose}
use Rattle.zc_tape.specs.Tape.{Shape}
use Rattle.zc_io.specs.Stock.{Stock, Gave}
use Rattle.zc_io.specs.Stream.{Stream, Keeps}
use Rattle.zc_script.specs.declared.act.Line.{Line}
use Rattle.zc_script.specs.Lines.{texts_of, first_bad, lines_of}
use Rattle.zc_state.specs.State.{State, StandsFor, IsFresh}
use Rattle.zc_prog.specs.declared.words.Task.{Task}
use Rattle.zc_prog.specs.declared.words.Task.TheVariants.{Play, Create}
use Rattle.zc_prog.specs.declared.ended.Ended.{Ended}
use Rattle.zc_prog.specs.declared.ended.Ended.TheVariants.{Usage, ReadFault, TooLarge, BadLine, Missing, DiskFault, NoPool, Damaged, PoolExists, OtherSize, Played, Created}
use Rattle.zc_prog.specs.Input.{WasRead, most_bytes}
use Rattle.zc_prog.specs.Output.{IsReported}
use Rattle.zc_prog.specs.Ended.{code_of, text_of}
use Rattle.zc_prog.specs.Words.{task_of, name_in}
use Rattle.zc_prog.specs.Session.{WasCutShort}
use Rattle.zc_prog.specs.Pooled.{IsPooled, IsCreated, CreatesWhole, HoldsOfGiven}

-- the source and the shelf as a run finds or leaves them, with their counts of faults
pub record Outside : Type 0 where
  pub left : Stream
  pub read_faults : ℕ
  pub stock : Stock
  pub shelf_faults : ℕ

-- the lines of a script that say something
abbrev pub lines_in : List ℕ → List ℕ → List Line
lines_in name script = lines_of (name ∷ []) (texts_of script)

-- the script was read to its end, no line of it is bad, and this came of its lines on the pool
pub record WasPlayed (old new : Outside) (name script : List ℕ) (ended : Ended) : Type 0 where
  pub read : WasRead old.left new.left script
  pub good : first_bad (name ∷ []) (texts_of script) ≡ None
  pub pooled : IsPooled old.stock new.stock old.shelf_faults new.shelf_faults name (lines_in name script) ended

-- the script was read to its end, this line is its first bad one, and the shelf is as it was
pub record WasBad (old new : Outside) (name script : List ℕ) (line : ℕ) : Type 0 where
  pub read : WasRead old.left new.left script
  pub session : ℕ
  pub first : first_bad (name ∷ []) (texts_of script) ≡ Some (session, line)
  pub stock : new.stock ≡ old.stock

-- why a run of `play` came to what it came to
abbrev pub IsCause : Outside → Outside → List ℕ → Ended → Type 0
IsCause old new name Usage = ⊥
IsCause old new name ReadFault = Rose old.read_faults new.read_faults × (new.stock ≡ old.stock)
IsCause old new name TooLarge = (IsTrue old.left.told → most_bytes < length old.left.bytes) × (new.stock ≡ old.stock)
IsCause old new name (BadLine line) = (script : List ℕ) × WasBad old new name script line
IsCause old new name Missing = (script : List ℕ) × WasPlayed old new name script Missing
IsCause old new name DiskFault = (script : List ℕ) × WasPlayed old new name script DiskFault
IsCause old new name NoPool = (script : List ℕ) × WasPlayed old new name script NoPool
IsCause old new name (Damaged damage) = (script : List ℕ) × WasPlayed old new name script (Damaged damage)
IsCause old new name PoolExists = ⊥
IsCause old new name OtherSize = ⊥
IsCause old new name (Played text good) = (script : List ℕ) × WasPlayed old new name script (Played text good)
IsCause old new name (Created given) = ⊥

-- the words ask nothing: nothing is read and the shelf is as it was
pub record IsUsage (old new : Outside) (ended : Ended) : Type 0 where
  pub usage : ended ≡ Usage
  pub left : new.left ≡ old.left
  pub stock : new.stock ≡ old.stock

-- what a run of `create` came to; no script is read
pub record IsCreation (old new : Outside) (name : List ℕ) (shape : Shape) (ended : Ended) : Type 0 where
  pub left : new.left ≡ old.left
  pub created : IsCreated old.stock new.stock old.shelf_faults new.shelf_faults name shape ended

-- what a run came to, by what its words ask
abbrev pub IsEnded : Outside → Outside → Option Task → Ended → Type 0
IsEnded old new None ended = IsUsage old new ended
IsEnded old new (Some (Play name)) ended = IsCause old new name ended
IsEnded old new (Some (Create name devices places)) ended = IsCreation old new name (record { devices = devices; places = places }) ended

-- ---- want of memory

-- the disk set was handed back after some first part of a run of this script
pub record IsScriptCutShort (old new : Outside) (name : List ℕ) (gave : Gave) : Type 0 where
  pub script : List ℕ
  pub read : WasRead old.left new.left script
  pub good : first_bad (name ∷ []) (texts_of script) ≡ None
  pub cut_short : WasCutShort gave.shape gave.tape (lines_in name script)

-- No disk set was handed back; or the one that was went through some first part of what the words ask: of the script's run for `play`,
-- which writes nothing where no pool stood; of the creation for `create`, which leaves the pool whole or not at all, and writes nothing
-- where a root was open.
abbrev pub IsStopped : Outside → Outside → Option Task → Type 0
IsStopped old new None = HoldsOfGiven (λ gave. ⊥) old.stock new.stock []
IsStopped old new (Some (Play name)) = HoldsOfGiven (IsScriptCutShort old new name) old.stock new.stock name
IsStopped old new (Some (Create name devices places)) = HoldsOfGiven (CreatesWhole name) old.stock new.stock name

-- ---- a run

-- A run came to an end that has its cause, and its text was reported with its status; or memory was wanting, the sink is as it was, and
-- what was done is some first part of what the words ask.
abbrev pub IsRunOf : Option Task → Outside → Outside → Stream → Stream → ℕ → ℕ → ℕ → Type 0
IsRunOf task old new taken taken_after write_faults write_faults_after code =
    ((ended : Ended) × IsEnded old new task ended × IsReported taken taken_after write_faults write_faults_after (text_of (name_in task) ended) (code_of ended) code)
    ⊎ ((code ≡ 1) × Keeps taken taken_after × IsStopped old new task)

-- the same of what the words ask
abbrev pub IsRun : List (List ℕ) → Outside → Outside → Stream → Stream → ℕ → ℕ → ℕ → Type 0
IsRun words = IsRunOf (task_of words)

-- ---- completeness

-- each disk set that was handed back told its tape, and held a sound pool with low numbers as it was handed out
abbrev pub WasSound : Gave → Type 0
WasSound gave = IsTrue gave.tape.told × ((s : State) × StandsFor gave.shape gave.tape.start s × IsFresh s)

-- all is in order for a run of `play`: what is told of the outside, the script, the name, the pool; and nothing failed
pub record IsOrderly (old new : Outside) (name : List ℕ) (write_faults write_faults_after : ℕ) : Type 0 where
  pub source_told : IsTrue old.left.told
  pub few_bytes : length old.left.bytes ≤ most_bytes
  pub good : first_bad (name ∷ []) (texts_of old.left.bytes) ≡ None
  pub shelf_told : IsTrue old.stock.told
  pub there : old.stock.here name ≡ true
  pub sound : (gave : Gave) → new.stock.gives ≡ old.stock.gives ++ gave ∷ [] → WasSound gave
  pub no_read_fault : Rose old.read_faults new.read_faults → ⊥
  pub no_shelf_fault : Rose old.shelf_faults new.shelf_faults → ⊥
  pub no_write_fault : Rose write_faults write_faults_after → ⊥

-- then the status is 0, or memory was wanting
abbrev pub IsComplete : List (List ℕ) → Outside → Outside → ℕ → ℕ → ℕ → Type 0
IsComplete words old new write_faults write_faults_after code =
    (name : List ℕ) → task_of words ≡ Some (Play name) → IsOrderly old new name write_faults write_faults_after → (code ≡ 0) ⊎ (code ≡ 1)
