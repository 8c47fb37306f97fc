-- What a reader of an image answers, beside what the image holds.
use Rattle.std.specs.Prelude.{◌≡◌, ℕ, false, Result, Ok, Err, IsTrue}
use Rattle.zc_tape.specs.Tape.{Tape}
use Rattle.zc_tape.specs.Crash.{is_spoilt}
use Rattle.zc_damage.specs.declared.damage.Damage.{Damage}
use Rattle.zc_image.specs.declared.fault.ImageFault.{ImageFault}
use Rattle.zc_image.specs.declared.fault.ImageFault.TheVariants.{NoMemory, NoPool, DiskFault, Damaged}

-- the tape is told, and no write has failed: what is read is what stands there
pub record IsWhole (t : Tape) : Type 0 where
  pub told : IsTrue t.told
  pub unspoilt : (device place : ℕ) → is_spoilt t device place ≡ false

-- A fault that a reader answered is what the image holds, unless memory was wanting or a read failed. That there is no pool is no
-- answer after a root.
abbrev pub ReadFails : {Y : Type 0} → ImageFault → Result Y Damage → Type 0
ReadFails NoMemory read = Unit {0}
ReadFails NoPool read = ⊥
ReadFails DiskFault read = Unit {0}
ReadFails (Damaged damage) read = read ≡ Err damage

-- what a reader answered, seen by view, is what the image holds, unless memory was wanting or a read failed
abbrev pub ReadAnswers : {X Y : Type 0} → (X → Y) → Result X ImageFault → Result Y Damage → Type 0
ReadAnswers view (Ok x) read = read ≡ Ok (view x)
ReadAnswers view (Err fault) read = ReadFails fault read

-- a fault is this damage, unless memory was wanting to tell it
abbrev pub Tells : ImageFault → Damage → Type 0
Tells NoMemory damage = Unit {0}
Tells NoPool damage = ⊥
Tells DiskFault damage = ⊥
Tells (Damaged told) damage = told ≡ damage

-- the fault tells a damage
abbrev pub IsDamage : ImageFault → Type 0
IsDamage NoMemory = ⊥
IsDamage NoPool = ⊥
IsDamage DiskFault = ⊥
IsDamage (Damaged damage) = Unit {0}
