-- What an import takes up, and what it answers.
use Rattle.std.specs.Prelude.{◌≡◌, ◌⊎◌, ◌+◌, ◌^◌, ◌≤◌, ◌==◌, ◌&&◌, true, List, [], length, drop, None, Result, Ok, Err, IfOk, IfErr, IsTrue}
use Rattle.std.specs.List.{AllByRecursion, Contains, list_any}
use Rattle.zc_num.specs.Limits.{AreLimits}
use Rattle.zc_num.specs.declared.limits.Limits.{Limits}
use Rattle.zc_blkptr.specs.declared.ptr.Ptr.{Ptr}
use Rattle.zc_tape.specs.Tape.{Image, Shape, Tape}
use Rattle.zc_tape.specs.Crash.{AtRest, reads}
use Rattle.zc_root.specs.declared.body.Body.{Body}
use Rattle.zc_root.specs.Body.{IsBody}
use Rattle.zc_root.specs.Root.{IsRoot, AreGates}
use Rattle.zc_tree.specs.Reach.{pointers_of_tree}
use Rattle.zc_tree.specs.Catalogue.{AreParts, AreDatasets}
use Rattle.zc_tree.specs.declared.tree.Tree.{Tree}
use Rattle.zc_tree.specs.declared.tree.Dataset.{Dataset}
use Rattle.zc_layout.specs.Standing.{HasNoRoot}
use Rattle.zc_damage.specs.declared.block.FoundBlock.{FoundBlock}
use Rattle.zc_damage.specs.Places.{ChainPlaces, bytes_in}
use Rattle.zc_damage.specs.Checks.{worn_hit, log_hit, tail_hit}
use Rattle.zc_state.specs.State.{State, StandsFor, IsFresh}
use Rattle.zc_state.specs.Reading.{read_state}
use Rattle.zc_next.specs.Next.{later_tree}
use Rattle.zc_image.specs.ReadAnswers.{IsWhole}
use Rattle.zc_image.specs.Checked.{IsChecked}
use Rattle.zc_image.specs.Found.{state_of}
use Rattle.zc_image.specs.declared.found.Found.{Found}
use Rattle.zc_image.specs.declared.fault.ImageFault.{ImageFault}
use Rattle.zc_image.specs.declared.fault.ImageFault.TheVariants.{NoMemory as ReadNoMemory, NoPool as ReadNoPool, DiskFault as ReadFault, Damaged as ReadDamaged}
use Rattle.zc_plan.specs.Counted.{AllButLast}
use Rattle.zc_group.specs.Committed.{state_after, LeavesEither, IsCommitted, IsGroupBegun}
use Rattle.zc_group.specs.declared.import.Imported.{Imported}
use Rattle.zc_group.specs.declared.import.ImportFault.{ImportFault}
use Rattle.zc_group.specs.declared.import.ImportFault.TheVariants.{NoMemory, NoPool, DiskFault, Damaged}

-- ---- what is taken up

-- the state that the claim group leads to: the same tree, committed by the next group
abbrev pub claimed_state : Shape → State → State
claimed_state shape s = state_after shape s (later_tree s) []

-- the state was taken up, and its claim group is committed
pub record IsTakenUp (shape : Shape) (u : Tape) (s : State) (imported : Imported) : Type 0 where
  pub fresh : IsFresh s
  pub blocks_are : imported.blocks ≡ s.blocks
  pub committed : IsCommitted shape u (claimed_state shape s) imported.root

-- The tree of a pool that was taken up fits the size, and its numbers are low; no dataset has a claimed log. Two pointers to one
-- place are of one block. There is a block at the place of each pointer, and after the size of a file the blocks have zeros.
pub record IsTaken (limits : Limits) (tree : Tree) (blocks : List FoundBlock) : Type 0 where
  pub few_datasets : length tree.datasets ≤ 8
  pub datasets : AreDatasets limits.devices limits.places tree.group tree.next_dataset [] tree.datasets
  pub some_group : 1 ≤ tree.group
  pub group : tree.group ≤ 2 ^ 62 + 1
  pub some_next_dataset : 1 ≤ tree.next_dataset
  pub next_dataset : tree.next_dataset ≤ 2 ^ 62
  pub next_files : AllByRecursion (λ (dataset : Dataset). dataset.next_file ≤ 2 ^ 62) tree.datasets
  pub no_logs : log_hit limits.devices limits.places tree.datasets ≡ None
  pub one_block : (a b : Ptr) → Contains (pointers_of_tree tree) a → Contains (pointers_of_tree tree) b → a.device ≡ b.device → a.place ≡ b.place
      → (a.physical ≡ b.physical) × (a.digest ≡ b.digest)
  pub there : AllByRecursion (λ (ptr : Ptr). list_any (λ (block : FoundBlock). (block.device == ptr.device) && (block.place == ptr.place)) blocks ≡ true) (pointers_of_tree tree)
  pub tails : tail_hit (bytes_in blocks) tree.datasets ≡ None

-- ---- answers

-- the disk set that is given back, with what was taken up or with the fault
abbrev pub taken_back : {D A E : Type 0} → Result (D × A) (E × D) → D
taken_back (Ok taken) = taken.0
taken_back (Err refused) = refused.1

-- a fault that says nothing of the image: memory was wanting, or a call failed
abbrev pub IsNoAnswer : ImportFault → Type 0
IsNoAnswer NoMemory = Unit {0}
IsNoAnswer NoPool = ⊥
IsNoAnswer DiskFault = Unit {0}
IsNoAnswer (Damaged damage) = ⊥

-- a fault that comes before anything is written
abbrev pub IsBeforeWrites : ImportFault → Type 0
IsBeforeWrites NoMemory = Unit {0}
IsBeforeWrites NoPool = Unit {0}
IsBeforeWrites DiskFault = ⊥
IsBeforeWrites (Damaged damage) = Unit {0}

-- a damage is the one that is read after the root of the image; the other faults are told apart
abbrev pub IsDamageOf : Shape → Image → ImportFault → Type 0
IsDamageOf shape image NoMemory = Unit {0}
IsDamageOf shape image NoPool = Unit {0}
IsDamageOf shape image DiskFault = Unit {0}
IsDamageOf shape image (Damaged damage) = (body : Body) × (IsRoot image body × (read_state shape image body ≡ Err damage))

-- the fault tells a damage
abbrev pub IsDamage : ImportFault → Type 0
IsDamage NoMemory = ⊥
IsDamage NoPool = ⊥
IsDamage DiskFault = ⊥
IsDamage (Damaged damage) = Unit {0}

-- ---- calls

-- nothing was written; or a pool stood there, and what was written is a front of the calls of its claim group
abbrev pub WritesClaim : Shape → (t u : Tape) → Type 0
WritesClaim shape t u = (u ≡ t) ⊎ ((s : State) × StandsFor shape (reads t) s × IsGroupBegun shape t u s (later_tree s) [])

-- nothing was written; or of the calls that were made the last failed, and none before it
abbrev pub StopsAtFailure : (t u : Tape) → Type 0
StopsAtFailure t u = (u ≡ t) ⊎ AllButLast (drop (length t.calls) u.calls)

-- ---- on the way

-- a reader's fault, as an import tells it
abbrev pub fault_of : ImageFault → ImportFault
fault_of ReadNoMemory = NoMemory
fault_of ReadNoPool = NoPool
fault_of ReadFault = DiskFault
fault_of (ReadDamaged damage) = Damaged damage

-- what was found stands in the image, after its root
pub record IsFoundIn (shape : Shape) (image : Image) (found : Found) : Type 0 where
  pub root : IsRoot image found.body
  pub gates_are : AreGates image found.gates
  pub read : read_state shape image found.body ≡ Ok (state_of found)
  pub stands : StandsFor shape image (state_of found)

-- what was found fits a pool of this size and passed the checks, its numbers are low, and if no write has failed it stands there
pub record IsFoundOn (shape : Shape) (t : Tape) (found : Found) : Type 0 where
  pub size : AreLimits shape.devices shape.places
  pub body_fits : IsBody found.body
  pub chain_places : ChainPlaces shape.devices shape.places found.catalogue
  pub parts_fit : AreParts shape.devices shape.places found.body.group found.body.next_dataset found.parts
  pub fresh : worn_hit found.parts.tree ≡ None
  pub checked : IsChecked shape.devices shape.places found.parts found.catalogue found.blocks
  pub there : IsWhole t → IsFoundIn shape (reads t) found

-- what an import that began on the tape t answered, and what its calls left
pub record IsImport (shape : Shape) (t u : Tape) (result : Result Imported ImportFault) : Type 0 where
  pub any_moment : (s : State) → IsTrue t.told → AtRest t → StandsFor shape (reads t) s → LeavesEither shape s (claimed_state shape s) t u
  pub made : IfOk result (λ imported. (s : State) → IsTrue t.told → AtRest t → StandsFor shape (reads t) s → IsTakenUp shape u s imported)
  pub stood : IfOk result (λ imported. IsTrue t.told → AtRest t → (s : State) × StandsFor shape (reads t) s)
  pub only : (s : State) → IsWhole t → StandsFor shape (reads t) s → IsFresh s → IfErr result IsNoAnswer
  pub damaged : IfErr result (λ fault. IsWhole t → IsDamageOf shape (reads t) fault)
  pub sized : IfErr result (λ fault. IsDamage fault → AreLimits shape.devices shape.places)
  pub none : IfErr result (λ fault. fault ≡ NoPool → IsWhole t → AreLimits shape.devices shape.places → HasNoRoot (reads t))
  pub writes : IsTrue t.told → AtRest t → WritesClaim shape t u
  pub stops : IfErr result (λ fault. fault ≡ DiskFault → IsTrue t.told → StopsAtFailure t u)
