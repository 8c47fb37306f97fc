-- What an import takes up, and what it leaves wherever it is cut short.
use Rattle.std.specs.Prelude.{◌≡◌, ℕ, ◌+◌, [], length, None, IsTrue}
use Rattle.zc_num.specs.declared.limits.Limits.{Limits}
use Rattle.zc_tape.specs.Tape.{Shape, Tape}
use Rattle.zc_tape.specs.Crash.{reads}
use Rattle.zc_state.specs.State.{State, StandsFor, IsFresh}
use Rattle.zc_group.specs.declared.root.Root.{Root}
use Rattle.zc_group.specs.declared.import.ImportFault.{ImportFault}
use Rattle.zc_group.specs.declared.import.ImportFault.TheVariants.{NoMemory, NoPool, DiskFault, Damaged}
use Rattle.zc_lane.specs.Found.{found_in}
use Rattle.zc_open.specs.declared.open_pool.OpenPool.{OpenPool}
use Rattle.zc_pool.specs.Running.{Run, IsRunning}

-- the run of a pool that was found in this state, on a tape of so many calls
abbrev pub run_from : Limits → State → (begun : ℕ) → Run
run_from limits s begun = record { start = found_in limits s; claim = s.body.group + 1; begun = begun }

-- nothing was asked of it, and no call failed
pub record IsNew (kept : OpenPool) : Type 0 where
  pub history : kept.history ≡ []
  pub acks : kept.acks ≡ []
  pub jobs : kept.jobs ≡ []
  pub waits : kept.waits ≡ []
  pub changed : IsTrue kept.changed → ⊥
  pub failed : kept.failed ≡ None

-- the pool that stood there was taken up, and runs from it on
pub record IsOpenedFrom (shape : Shape) (t u : Tape) (root : Root) (kept : OpenPool) : Type 0 where
  pub state : State
  pub stood : StandsFor shape (reads t) state
  pub fresh : IsFresh state
  pub running : IsRunning shape u (run_from root.limits state (length t.calls)) root kept

-- a fault that comes before anything is written
abbrev pub IsBeforeClaim : ImportFault → Type 0
IsBeforeClaim NoMemory = ⊥
IsBeforeClaim NoPool = Unit {0}
IsBeforeClaim DiskFault = ⊥
IsBeforeClaim (Damaged damage) = Unit {0}
