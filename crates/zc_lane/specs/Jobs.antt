-- A sealed group as a job: from which pool its changes lead to which, and what it finds and leaves on the disks.
use Rattle.std.specs.Prelude.{◌≡◌, ◌⊎◌, ◌+◌, length, IsTrue}
use Rattle.zc_blkptr.specs.Ptr.{IsPtr}
use Rattle.zc_tape.specs.Tape.{Shape, Tape}
use Rattle.zc_tape.specs.Crash.{May, EachCrash, AtRest, reads}
use Rattle.zc_damage.specs.Places.{bytes_in}
use Rattle.zc_state.specs.State.{State, StandsFor}
use Rattle.zc_heart.specs.declared.changes.Sealed.{Sealed}
use Rattle.zc_heart.specs.Changes.{tree_of}
use Rattle.zc_heart.specs.Core.{Base}
use Rattle.zc_apply.specs.Jobs.{IsJob, IsBase}
use Rattle.zc_apply.specs.Alike.{IsAlike, by_bytes, Holds}
use Rattle.zc_group.specs.declared.root.Root.{Root}
use Rattle.zc_group.specs.Kept.{Keeps}

-- the root's tree has the datasets and files of the pool, and a pointer of such a pool at each block that is no hole
abbrev pub HasTreeOf : Base → Root → Type 0
HasTreeOf base root = IsAlike (λ ptr bytes. IsPtr root.limits.devices root.limits.places ptr) root.tree (tree_of root.tree.group by_bytes base.areas base.pool)

-- the root's tree is that of some pool, from which the job leads to one whose tree a root may have
pub record MayWrite (root : Root) (job : Sealed) : Type 0 where
  pub from : Base
  pub to : Base
  pub has_tree : HasTreeOf from root
  pub base : IsBase root.limits to
  pub leads : IsJob from to job

-- the tape is told and at rest and stands for the state, whose root is kept and which holds the pool
pub record IsRooted (shape : Shape) (t : Tape) (s : State) (root : Root) (base : Base) : Type 0 where
  pub told : IsTrue t.told
  pub at_rest : AtRest t
  pub keeps : Keeps shape (reads t) s root
  pub holds : Holds (bytes_in s.blocks) base.areas base.pool s.parts.tree

-- a state of the next group that holds the pool
pub record IsNextWith (shape : Shape) (s next : State) (base : Base) : Type 0 where
  pub group_is : next.body.group ≡ s.body.group + 1
  pub holds : Holds (bytes_in next.blocks) base.areas base.pool next.parts.tree

-- at each moment since the tape t the state stands, or one of the next group that holds the pool
abbrev pub LeavesJob : Shape → State → Base → (t u : Tape) → Type 0
LeavesJob shape s to t u = EachCrash May u (length t.calls) (λ _ image. StandsFor shape image s ⊎ ((next : State) × StandsFor shape image next × IsNextWith shape s next to))

-- the job is done: one state alone stands, it is of the next group and holds the pool, and the root keeps it
pub record IsJobDone (shape : Shape) (u : Tape) (s next : State) (root : Root) (to : Base) : Type 0 where
  pub rooted : IsRooted shape u next root to
  pub next_with : IsNextWith shape s next to
  pub only : EachCrash May u (length u.calls) (λ _ image. StandsFor shape image next)
