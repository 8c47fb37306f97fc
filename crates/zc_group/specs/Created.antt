-- What a creation makes, and what it leaves wherever it is cut short.
use Rattle.std.specs.Prelude.{◌≡◌, ◌⊎◌, ◌*◌, ℕ, Bool, true, false, List, [], length, slice_index_or, Result, Ok, Err, IsTrue}
use Rattle.sha2.specs.Sha256.{sha256}
use Rattle.zc_num.specs.Limits.{log_places_of}
use Rattle.zc_num.specs.declared.numbers.PlaceAt.{PlaceAt}
use Rattle.zc_wire.specs.Numbers.{u64_of}
use Rattle.zc_tape.specs.Tape.{Shape, Call, Tape}
use Rattle.zc_tape.specs.DiskCall.{AreThere}
use Rattle.zc_tape.specs.Crash.{May, EachCrash, AtRest, reads}
use Rattle.zc_tape.specs.Plays.{Plays, Begun}
use Rattle.zc_root.specs.Root.{IsOpenGate, slot_of, AreGates}
use Rattle.zc_tree.specs.declared.tree.Tree.{Tree}
use Rattle.zc_catalog.specs.Chain.{chain_length, links}
use Rattle.zc_layout.specs.Layout.{Put, at_places}
use Rattle.zc_layout.specs.Creation.{creation_calls}
use Rattle.zc_layout.specs.Standing.{HasNoRoot}
use Rattle.zc_layout.specs.Outcomes.{HasZeroLogs}
use Rattle.zc_state.specs.State.{State, StandsFor}
use Rattle.zc_next.specs.Exact.{exact_state}
use Rattle.zc_next.specs.Next.{next_bytes}
use Rattle.zc_group.specs.Chosen.{chain_for}

-- the tree of a pool that was just made: no dataset
abbrev pub first_tree : Tree
first_tree = record { group = 1; next_dataset = 1; datasets = [] }

-- the number of a pool with this name: the first eight bytes of the SHA-256 of the name
abbrev pub pool_number : List ℕ → ℕ
pool_number name = u64_of (sha256 name)

-- the places of its catalogue: the first that aren't fixed
abbrev pub first_chain : Shape → List PlaceAt
first_chain shape = chain_for shape [] [] first_tree

-- the state of a pool of this name that was just made
abbrev pub first_state : Shape → List ℕ → State
first_state shape name = exact_state (pool_number name) shape (first_chain shape) first_tree []

-- the places of all eight logs
abbrev pub all_log_places : Shape → ℕ
all_log_places shape = 8 * log_places_of shape.devices shape.places

-- the tape is told and at rest, and there is no root
pub record HoldsNothing (t : Tape) : Type 0 where
  pub told : IsTrue t.told
  pub at_rest : AtRest t
  pub none : HasNoRoot (reads t)

-- at each moment since the tape t there is no root, or the first state stands over logs of zeros
pub record LeavesFirst (shape : Shape) (name : List ℕ) (t u : Tape) : Type 0 where
  pub each : EachCrash May u (length t.calls) (λ _ image. HasNoRoot image ⊎ (StandsFor shape image (first_state shape name) × HasZeroLogs (all_log_places shape) image))

-- the pool is made: the first state alone stands, over logs of zeros, and the gate of the next group's slot isn't open
pub record IsFirst (shape : Shape) (name : List ℕ) (u : Tape) : Type 0 where
  pub at_rest : AtRest u
  pub stands : StandsFor shape (reads u) (first_state shape name)
  pub logs_are : HasZeroLogs (all_log_places shape) (reads u)
  pub only_first : EachCrash May u (length u.calls) (λ _ image. StandsFor shape image (first_state shape name) × HasZeroLogs (all_log_places shape) image)
  pub next_gate : IsOpenGate (reads u) (slot_of 2) → ⊥

-- the bytes that a creation writes to the places of the catalogue
abbrev pub first_puts : Shape → List Put
first_puts shape = at_places (first_chain shape) (links (first_chain shape) (next_bytes shape (first_chain shape) first_tree))

-- the calls of the creation of a pool of this name, where the flags say which gates are open
abbrev pub first_calls : Shape → (name : List ℕ) → (gates : List Bool) → List Call
first_calls shape name gates =
    creation_calls (slice_index_or gates 0 false) (slice_index_or gates 1 false) (all_log_places shape) (first_puts shape) (first_state shape name).body

-- a front of them was made, in order, of which only the last may have failed
pub record IsCreationBegun (shape : Shape) (name : List ℕ) (t u : Tape) : Type 0 where
  pub gates : List Bool
  pub gates_are : AreGates (reads t) gates
  pub begun : Begun t (first_calls shape name gates) u

-- all of them were made, in order, each once, and each was Ok
pub record IsCreationWhole (shape : Shape) (name : List ℕ) (t u : Tape) : Type 0 where
  pub gates : List Bool
  pub gates_are : AreGates (reads t) gates
  pub made : Plays t (first_calls shape name gates) u true

-- nothing was written, or a front of the calls of the creation
abbrev pub WritesCreation : Shape → (name : List ℕ) → (t u : Tape) → Type 0
WritesCreation shape name t u = (u ≡ t) ⊎ IsCreationBegun shape name t u

-- the calls are those of the creation of a pool of this name, where the flags say which gates are open; there are as many free
-- places as its catalogue takes, and the disk set has each place that is written
pub record IsPlanned (shape : Shape) (name : List ℕ) (gates : List Bool) (calls : List Call) : Type 0 where
  pub long_enough : length (first_chain shape) ≡ chain_length (length (next_bytes shape (first_chain shape) first_tree))
  pub calls_are : calls ≡ first_calls shape name gates
  pub there : AreThere shape calls

-- the disk set that is given back, with the answer or with the fault
abbrev pub given_back : {D E : Type 0} → Result D (E × D) → D
given_back (Ok disks) = disks
given_back (Err fault) = fault.1

-- the fault that was answered is this one
abbrev pub FailsBy : {D E : Type 0} → Result D (E × D) → E → Type 0
FailsBy (Ok disks) fault = ⊥
FailsBy (Err answered) fault = answered.0 ≡ fault
