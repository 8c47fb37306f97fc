-- What was found after a root, and what was answered.
use Rattle.std.specs.Prelude.{◌≡◌, Result, Ok, Err}
use Rattle.zc_tape.specs.Tape.{Image, Shape}
use Rattle.zc_root.specs.declared.body.Body.{Body}
use Rattle.zc_root.specs.Root.{IsRoot}
use Rattle.zc_state.specs.State.{State}
use Rattle.zc_state.specs.Reading.{read_state}
use Rattle.zc_image.specs.declared.fault.ImageFault.{ImageFault}
use Rattle.zc_image.specs.declared.fault.ImageFault.TheVariants.{NoMemory, NoPool, DiskFault, Damaged}
use Rattle.zc_image.specs.declared.found.Found.{Found}

-- the state that was found
abbrev pub state_of : Found → State
state_of found = record { body = found.body; chain = found.catalogue; parts = found.parts; blocks = found.blocks }

-- a damage is the one that is read after the root of the image; the other faults are told apart
abbrev pub IsFault : Shape → Image → ImageFault → Type 0
IsFault shape image NoMemory = Unit {0}
IsFault shape image NoPool = Unit {0}
IsFault shape image DiskFault = Unit {0}
IsFault shape image (Damaged damage) = (body : Body) × (IsRoot image body × (read_state shape image body ≡ Err damage))

-- what was answered is what is read after the root of the image
abbrev pub IsAnswer : Shape → Image → Result Found ImageFault → Type 0
IsAnswer shape image (Ok found) = read_state shape image found.body ≡ Ok (state_of found)
IsAnswer shape image (Err fault) = IsFault shape image fault

-- a fault that may be told of a disk set that holds a pool
abbrev pub IsOutside : ImageFault → Type 0
IsOutside NoMemory = Unit {0}
IsOutside NoPool = ⊥
IsOutside DiskFault = Unit {0}
IsOutside (Damaged damage) = ⊥

-- the state was found, unless memory was wanting or a read failed
abbrev pub Finds : State → Result Found ImageFault → Type 0
Finds s (Ok found) = state_of found ≡ s
Finds s (Err fault) = IsOutside fault
