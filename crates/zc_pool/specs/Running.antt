-- A pool between two events: what it keeps in memory, and what its disks hold of it.
use Rattle.std.specs.Prelude.{◌≡◌, ◌⊎◌, ℕ, ◌+◌, ◌-◌, ◌^◌, ◌≤◌, List, [], ◌∷◌, length, drop, Option, Some, None, IsTrue, if◌then◌else◌}
use Rattle.std.specs.List.{AllByRecursion}
use Rattle.std.specs.Option.{option_map}
use Rattle.zc_num.specs.declared.limits.Limits.{Limits}
use Rattle.zc_tape.specs.Tape.{Image, Shape, Tape, Made}
use Rattle.zc_tape.specs.Crash.{Crash, May, EachCrash}
use Rattle.zc_state.specs.State.{State, StandsFor}
use Rattle.zc_plain.specs.declared.plain_pool.PlainPool.{PlainPool}
use Rattle.zc_plain.specs.declared.entry.Entry.{Entry}
use Rattle.zc_plain.specs.PlainPool.{dataset_at}
use Rattle.zc_plain.specs.Answer.{dataset_place}
use Rattle.zc_plain.specs.History.{pool_after}
use Rattle.zc_group.specs.declared.root.Root.{Root}
use Rattle.zc_group.specs.Kept.{HasSize, HasPlaces}
use Rattle.zc_lane.specs.Found.{found_in, files_under}
use Rattle.zc_lane.specs.Jobs.{HasTreeOf, IsRooted}
use Rattle.zc_open.specs.declared.ack.Ack.{Ack}
use Rattle.zc_open.specs.declared.open_pool.OpenPool.{OpenPool}
use Rattle.zc_open.specs.Heard.{IsStart, IsHeard}
use Rattle.zc_open.specs.Points.{Point, IsLined}

-- How a pool began: the files that were found, the number of its claim group, and how many calls the tape had as the import began.
pub record Run : Type 0 where
  pub start : PlainPool
  pub claim : ℕ
  pub begun : ℕ

-- ---- in memory

-- What is kept in memory is right, whatever the disks tell: the history is legal, and the root's tree is that of a pool of the history,
-- from which the jobs lead to what the files are now.
pub record IsKept (shape : Shape) (run : Run) (root : Root) (kept : OpenPool) (point : Point) : Type 0 where
  pub start_is : IsStart root.limits run.start
  pub claim : run.claim ≤ 2 ^ 62 + 1
  pub heard : IsHeard run.start run.claim kept
  pub lined : IsLined run.start run.claim root.limits point kept
  pub size : HasSize shape root
  pub places : HasPlaces root
  pub tree : HasTreeOf point.base root
  pub group : kept.group ≡ root.tree.group
  pub body_group : root.body.group ≡ root.tree.group

-- what whoever makes an event knows of the pool
abbrev pub IsPool : Shape → Root → OpenPool → Type 0
IsPool shape root kept = (run : Run) × (point : Point) × IsKept shape run root kept point

-- ---- on the disks

-- the first failed of the calls, counted from 1, where so many were before them
abbrev pub first_failed_from : ℕ → List Made → Option ℕ
first_failed_from n [] = None
first_failed_from n (made ∷ calls) = if made.ok then first_failed_from (n + 1) calls else Some (n + 1)

-- the number of the dataset of this name; None where no dataset has the name
abbrev pub number_under : List ℕ → PlainPool → Option ℕ
number_under name pool = option_map (λ place. (dataset_at place pool).id) (dataset_place name pool)

-- An acknowledgement counts for the dataset of a name: a commit's for every one, and another's where the dataset that had the name
-- as it was asked is its own.
abbrev pub CountsFor : PlainPool → List Entry → (name : List ℕ) → Ack → Type 0
CountsFor start history name ack =
    (ack.dataset ≡ None) ⊎ ((id : ℕ) × (ack.dataset ≡ Some id) × (number_under name (pool_after start history ack.ask) ≡ Some id))

-- Under the name a pool that was found has the files after some first entries of the history, among which are the asks of the
-- acknowledgements of by then that count for it.
pub record IsPrefix (found start : PlainPool) (history : List Entry) (acks : List Ack) (calls : ℕ) (name : List ℕ) : Type 0 where
  pub entries : ℕ
  pub within : entries ≤ length history
  pub files : files_under name found ≡ files_under name (pool_after start history entries)
  pub acknowledged : AllByRecursion (λ (ack : Ack). CountsFor start history name ack → ack.calls ≤ calls → ack.ask ≤ entries) acks

-- An image of the moment after so many calls is a pool's, and so it is under each name.
pub record IsSurvivor (shape : Shape) (limits : Limits) (start : PlainPool) (history : List Entry) (acks : List Ack) (calls : ℕ) (image : Image) : Type 0 where
  pub state : State
  pub stands : StandsFor shape image state
  pub each_name : (name : List ℕ) → IsPrefix (found_in limits state) start history acks calls name

-- What a crash of this kind leaves of a pool since its import began, after so many calls of the tape, at any moment, within a call too.
abbrev pub Survives : Crash → Shape → (u : Tape) → (begun : ℕ) → Limits → PlainPool → List Entry → List Ack → Type 0
Survives crash shape u begun limits start history acks = EachCrash crash u begun (λ i image. IsSurvivor shape limits start history acks (i - begun) image)

-- as long as no call failed, the root stands, and nothing else
abbrev pub StandsUnlessFailed : Shape → Tape → Root → Point → Option ℕ → Type 0
StandsUnlessFailed shape u root point (Some call) = Unit {0}
StandsUnlessFailed shape u root point None =
    (s : State) × IsRooted shape u s root point.base × EachCrash May u (length u.calls) (λ _ image. StandsFor shape image s)

-- What the disks hold of a pool: where no call failed, the root's state alone, with the files of its point of the history; and at each
-- moment since the import began a survivor.
pub record IsOnDisks (shape : Shape) (u : Tape) (run : Run) (root : Root) (kept : OpenPool) (point : Point) : Type 0 where
  pub calls : run.begun + kept.calls ≡ length u.calls
  pub first_failed : kept.failed ≡ first_failed_from 0 (drop run.begun u.calls)
  pub stands : StandsUnlessFailed shape u root point kept.failed
  pub survives : Survives May shape u run.begun root.limits run.start kept.history kept.acks

-- A pool that began so, between two events.
abbrev pub IsRunning : Shape → (u : Tape) → Run → Root → OpenPool → Type 0
IsRunning shape u run root kept = (point : Point) × IsKept shape run root kept point × (IsTrue u.told → IsOnDisks shape u run root kept point)
