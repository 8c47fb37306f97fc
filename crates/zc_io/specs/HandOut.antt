-- How a shelf in memory hands a disk set out.
use Rattle.std.specs.Prelude.{◌≡◌, true, [], Some, None}
use Rattle.zc_io.specs.declared.slots.Stored.{Stored}
use Rattle.zc_tape.specs.Crash.{reads}
use Rattle.zc_tape.specs.Memory.{shape_of, faults_of, tape_of, failing_of, asked_of}
use Rattle.zc_tape.specs.declared.memory.MemoryDisks.{MemoryDisks}

-- a set that was laid on the shelf, as it is handed out: its count of faults begins anew
pub record IsForgiven (before after : MemoryDisks) : Type 0 where
  pub tape : tape_of after ≡ tape_of before
  pub shape : shape_of after ≡ shape_of before
  pub failing : failing_of after ≡ failing_of before
  pub asked : asked_of after ≡ asked_of before
  pub faults : faults_of after ≡ 0

-- a set that was given back, as it is handed out: its bytes as they read, and no call that is to fail
pub record IsAnew (before after : MemoryDisks) : Type 0 where
  pub tape : tape_of after ≡ record { told = true; start = reads (tape_of before); calls = [] }
  pub shape : shape_of after ≡ shape_of before
  pub failing : failing_of after ≡ []
  pub faults : faults_of after ≡ 0

-- the set that is handed out is the one that lay there
abbrev pub IsHandedOut : Stored → MemoryDisks → Type 0
IsHandedOut held disks = elim held.laid [
  | Some unused ↦ IsForgiven unused.disks disks
  | None ↦ elim held.given [ Some before ↦ IsAnew before disks | None ↦ ⊥ ]
]
