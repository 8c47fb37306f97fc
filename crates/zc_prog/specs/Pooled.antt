-- What a run does to its pool on the shelf.
use Rattle.std.specs.Prelude.{◌≡◌, ◌≢◌, ◌⊎◌, ℕ, ◌∷◌, ◌++◌, ◌&&◌, Bool, true, false, List, [], IsTrue}
use Rattle.zc_tape.specs.Cause.{Rose}
use Rattle.zc_tape.specs.Tape.{Shape}
use Rattle.zc_io.specs.Stock.{Stock, Gave, handed_out, handed_back, HandsBack, IsHere}
use Rattle.zc_root.specs.declared.body.Body.{Body}
use Rattle.zc_root.specs.Root.{IsOpenRoot}
use Rattle.zc_layout.specs.Standing.{HasNoRoot}
use Rattle.zc_script.specs.declared.act.Line.{Line}
use Rattle.zc_group.specs.Created.{IsFirst, LeavesFirst, IsCreationWhole, WritesCreation}
use Rattle.zc_group.specs.Imported.{StopsAtFailure}
use Rattle.zc_group.specs.Rooted.{HasRootThere}
use Rattle.zc_prog.specs.Session.{IsPlayed, WasCutShort, WasUnasked, HasDamage, HasNoPool, FailsImport, before_calls}
use Rattle.zc_prog.specs.declared.ended.Ended.{Ended}
use Rattle.zc_prog.specs.declared.ended.Ended.TheVariants.{Usage, ReadFault, TooLarge, BadLine, Missing, DiskFault, NoPool, Damaged, PoolExists, OtherSize, Played, Created}

-- The pool's disk set was handed out and then handed back, as it is told here.
pub record IsReturn (old new : Stock) (name : List ℕ) (gave : Gave) : Type 0 where
  pub name_is : gave.name ≡ name
  pub stock : IsTrue old.told → new ≡ handed_back (handed_out old name) gave

-- no name is handed out that wasn't before
abbrev pub IsAllBack : Stock → Stock → Type 0
IsAllBack old new = IsTrue old.told → (n : List ℕ) → new.out n ≡ true → old.out n ≡ true

-- a disk set is handed back under the name, and this holds of it
abbrev pub GivesBack : (Gave → Type 0) → Stock → Stock → List ℕ → Type 0
GivesBack P old new name = (gave : Gave) × (gave.name ≡ name) × HandsBack old new gave × P gave

-- the one disk set that was handed back, if any was, is such a one, where the shelf tells that
abbrev pub HoldsOfGiven : (Gave → Type 0) → Stock → Stock → List ℕ → Type 0
HoldsOfGiven P old new name = IsTrue old.told → (new.gives ≡ old.gives) ⊎ ((gave : Gave) × (gave.name ≡ name) × (new.gives ≡ old.gives ++ gave ∷ []) × P gave)

-- no disk set is handed back, where the shelf tells that
abbrev pub GivesNothing : Stock → Stock → Type 0
GivesNothing old new = IsTrue old.told → new.gives ≡ old.gives

-- ---- a script on a pool

-- what a run of the lines on a disk set came to, by the set as it was handed back and by the counts of faults of the shelf
abbrev pub IsPlayedAs : ℕ → ℕ → List ℕ → List Line → Ended → Gave → Type 0
IsPlayedAs before now name lines Usage gave = ⊥
IsPlayedAs before now name lines ReadFault gave = ⊥
IsPlayedAs before now name lines TooLarge gave = ⊥
IsPlayedAs before now name lines (BadLine line) gave = ⊥
IsPlayedAs before now name lines Missing gave = ⊥
IsPlayedAs before now name lines PoolExists gave = ⊥
IsPlayedAs before now name lines OtherSize gave = ⊥
IsPlayedAs before now name lines (Created given) gave = ⊥
-- a call failed as the pool was taken up, and nothing was asked
IsPlayedAs before now name lines DiskFault gave = FailsImport gave.shape gave.tape × WasUnasked gave.shape gave.tape
-- the disk set holds no pool, or has the size of none; no call was made
IsPlayedAs before now name lines NoPool gave = (gave.tape.calls ≡ []) × HasNoPool gave.shape gave.tape
-- the pool is damaged; no call was made
IsPlayedAs before now name lines (Damaged damage) gave = (gave.tape.calls ≡ []) × HasDamage gave.shape gave.tape damage
-- the script was played on the pool that was found there; it was good where its last commit was done and the set was taken back
IsPlayedAs before now name lines (Played text good) gave =
    (done : Bool) × (good ≡ (done && gave.ok)) × (good ≡ false → Rose before now) × IsPlayed gave.shape gave.tape name lines text done

-- the name was there, and its disk set was handed back with this
abbrev pub IsPooledWith : Stock → Stock → List ℕ → (Gave → Type 0) → Type 0
IsPooledWith old new name P = (gave : Gave) × IsHere old name true × IsReturn old new name gave × P gave

-- what a run of the lines came to on the pool of a name
abbrev pub IsPooled : Stock → Stock → ℕ → ℕ → List ℕ → List Line → Ended → Type 0
-- the name isn't there, and nothing changed
IsPooled old new before now name lines Missing = IsHere old name false × (IsTrue old.told → new ≡ old)
-- The shelf's count of faults rose: the set couldn't be taken, and none was handed back; or its pool couldn't be taken up.
IsPooled old new before now name lines DiskFault = Rose before now × (GivesNothing old new ⊎ IsPooledWith old new name (IsPlayedAs before now name lines DiskFault))
IsPooled old new before now name lines Usage = ⊥
IsPooled old new before now name lines ReadFault = ⊥
IsPooled old new before now name lines TooLarge = ⊥
IsPooled old new before now name lines (BadLine line) = ⊥
IsPooled old new before now name lines PoolExists = ⊥
IsPooled old new before now name lines OtherSize = ⊥
IsPooled old new before now name lines (Created given) = ⊥
IsPooled old new before now name lines NoPool = IsPooledWith old new name (IsPlayedAs before now name lines NoPool)
IsPooled old new before now name lines (Damaged damage) = IsPooledWith old new name (IsPlayedAs before now name lines (Damaged damage))
IsPooled old new before now name lines (Played text good) = IsPooledWith old new name (IsPlayedAs before now name lines (Played text good))

-- the disk set went through some first part of a run of the lines
abbrev pub WasStopped : List Line → Gave → Type 0
WasStopped lines gave = WasCutShort gave.shape gave.tape lines

-- ---- the creation of a pool

-- Where a root was open, nothing was written. Where there was none, what was written is a front of the calls of the creation, and a crash
-- at any moment leaves no root, or the pool that was just made.
pub record CreatesWhole (name : List ℕ) (gave : Gave) : Type 0 where
  pub rooted : IsTrue gave.tape.told → (body : Body) → IsOpenRoot gave.tape.start body → gave.tape.calls ≡ []
  pub writes : IsTrue gave.tape.told → HasNoRoot gave.tape.start → WritesCreation gave.shape name (before_calls gave.tape) gave.tape
  pub leaves : IsTrue gave.tape.told → HasNoRoot gave.tape.start → LeavesFirst gave.shape name (before_calls gave.tape) gave.tape

-- the pool is there, on a set of the size that was asked, which had no root
pub record IsMadePool (shape : Shape) (name : List ℕ) (gave : Gave) : Type 0 where
  pub shape_is : gave.shape ≡ shape
  pub none : IsTrue gave.tape.told → HasNoRoot gave.tape.start
  pub first : IsTrue gave.tape.told → IsFirst gave.shape name gave.tape
  pub calls : IsTrue gave.tape.told → IsCreationWhole gave.shape name (before_calls gave.tape) gave.tape
  pub whole : CreatesWhole name gave

-- A call failed as the pool was made: the last of those that were made, if any was.
pub record FailsCreation (name : List ℕ) (gave : Gave) : Type 0 where
  pub stops : IsTrue gave.tape.told → StopsAtFailure (before_calls gave.tape) gave.tape
  pub whole : CreatesWhole name gave

-- what the creation of a pool on a disk set came to
abbrev pub IsMadeAs : ℕ → ℕ → List ℕ → Shape → Ended → Gave → Type 0
IsMadeAs before now name shape Usage gave = ⊥
IsMadeAs before now name shape ReadFault gave = ⊥
IsMadeAs before now name shape TooLarge gave = ⊥
IsMadeAs before now name shape (BadLine line) gave = ⊥
IsMadeAs before now name shape Missing gave = ⊥
IsMadeAs before now name shape NoPool gave = ⊥
IsMadeAs before now name shape (Damaged damage) gave = ⊥
IsMadeAs before now name shape (Played text given) gave = ⊥
IsMadeAs before now name shape DiskFault gave = FailsCreation name gave
-- an open root is there; no call was made
IsMadeAs before now name shape PoolExists gave = (gave.tape.calls ≡ []) × (IsTrue gave.tape.told → HasRootThere gave.shape gave.tape.start)
-- the set has another size, and no open root is there; no call was made
IsMadeAs before now name shape OtherSize gave = (gave.tape.calls ≡ []) × (gave.shape ≢ shape) × (IsTrue gave.tape.told → HasRootThere gave.shape gave.tape.start → ⊥)
IsMadeAs before now name shape (Created given) gave = (gave.ok ≡ given) × (given ≡ false → Rose before now) × IsMadePool shape name gave

-- the disk set of the name, which was there or was made, was handed back with this
abbrev pub IsCreatedWith : Stock → Stock → List ℕ → (Gave → Type 0) → Type 0
IsCreatedWith old new name P = (gave : Gave) × IsReturn old new name gave × P gave

-- what the creation of a pool came to
abbrev pub IsCreated : Stock → Stock → ℕ → ℕ → List ℕ → Shape → Ended → Type 0
IsCreated old new before now name shape Usage = ⊥
IsCreated old new before now name shape ReadFault = ⊥
IsCreated old new before now name shape TooLarge = ⊥
IsCreated old new before now name shape (BadLine line) = ⊥
IsCreated old new before now name shape Missing = ⊥
IsCreated old new before now name shape NoPool = ⊥
IsCreated old new before now name shape (Damaged damage) = ⊥
IsCreated old new before now name shape (Played text given) = ⊥
IsCreated old new before now name shape DiskFault = Rose before now × (GivesNothing old new ⊎ IsCreatedWith old new name (IsMadeAs before now name shape DiskFault))
IsCreated old new before now name shape PoolExists = IsCreatedWith old new name (IsMadeAs before now name shape PoolExists)
IsCreated old new before now name shape OtherSize = IsCreatedWith old new name (IsMadeAs before now name shape OtherSize)
IsCreated old new before now name shape (Created given) = IsCreatedWith old new name (IsMadeAs before now name shape (Created given))
