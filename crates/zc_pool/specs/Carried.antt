-- What an event keeps of a pool, whatever run it is of.
use Rattle.std.specs.Prelude.{◌≡◌, IsTrue, Option, Some, None}
use Rattle.zc_command.specs.declared.reply.Reply.{Reply}
use Rattle.zc_tape.specs.Tape.{Shape, Tape}
use Rattle.zc_group.specs.declared.root.Root.{Root}
use Rattle.zc_open.specs.declared.asking.Asked.{Asked}
use Rattle.zc_open.specs.declared.asking.Asked.TheVariants as asked
use Rattle.zc_open.specs.declared.open_pool.OpenPool.{OpenPool}
use Rattle.zc_open.specs.Events.{IsAsBefore}
use Rattle.zc_open.specs.Points.{Point}
use Rattle.zc_pool.specs.declared.event.Progress.{Progress}
use Rattle.zc_pool.specs.declared.event.Progress.TheVariants.{Answered, Waiting, NotYet, Stepped, Idle, Suspended}
use Rattle.zc_pool.specs.Running.{Run, IsKept, IsPool, IsOnDisks}

-- Whichever run a pool is of, and at whichever point of its history the root stands, what is kept in memory stays right, at this point
-- or at a later one, and what the disks held of it they hold of it still.
pub record Carries (shape : Shape) (t u : Tape) (root next : Root) (old new : OpenPool) : Type 0 where
  pub carries : (run : Run) (point : Point) → IsKept shape run root old point
      → (to : Point) × IsKept shape run next new to × (IsTrue t.told → IsOnDisks shape t run root old point → IsOnDisks shape u run next new to)

-- it is a pool of some disk set
abbrev pub IsSomePool : OpenPool → Type 0
IsSomePool kept = (shape : Shape) × (root : Root) × IsPool shape root kept

-- no call was made, the root is what it was, and no file has changed
pub record IsLeftAlone (t u : Tape) (root next : Root) (old new : OpenPool) : Type 0 where
  pub as_before : IsAsBefore old new
  pub same_root : next ≡ root
  pub same_tape : u ≡ t

-- a call of the disks failed
abbrev pub IsSuspended : Progress → Type 0
IsSuspended (Answered reply) = ⊥
IsSuspended Waiting = ⊥
IsSuspended NotYet = ⊥
IsSuspended Stepped = ⊥
IsSuspended Idle = ⊥
IsSuspended (Suspended call) = Unit {0}

-- what an ask came to, as an event tells it
abbrev pub progress_of_ask : Asked → Progress
progress_of_ask (asked.Answered reply) = Answered reply
progress_of_ask asked.Waiting = Waiting

-- what a settle came to
abbrev pub progress_of_settle : Option Reply → Progress
progress_of_settle (Some reply) = Answered reply
progress_of_settle None = NotYet
