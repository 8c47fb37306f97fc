-- One execution of a run on a pool: what was asked, answered, sealed, finished and acknowledged of it, and what the disks say of that.
use Rattle.std.specs.Prelude.{◌≡◌, ℕ, ◌+◌, ◌≤◌, List, length, map, take, slice_get, Option, Some, None}
use Rattle.std.specs.List.{AllByRecursion}
use Rattle.zc_num.specs.declared.limits.Limits.{Limits}
use Rattle.zc_tape.specs.Tape.{Shape, Tape}
use Rattle.zc_tape.specs.Crash.{May, AtRest, reads}
use Rattle.zc_state.specs.State.{State, StandsFor}
use Rattle.zc_plain.specs.declared.plain_pool.PlainPool.{PlainPool}
use Rattle.zc_plain.specs.declared.entry.Entry.{Entry}
use Rattle.zc_plain.specs.declared.entry.Entry.TheVariants.{Seal}
use Rattle.zc_plain.specs.History.{pool_after}
use Rattle.zc_plain.specs.Legal.{IsLegal, Nothing}
use Rattle.zc_lane.specs.Found.{found_in, HoldSame}
use Rattle.zc_open.specs.declared.ack.Ack.{Ack}
use Rattle.zc_open.specs.Acked.{acked_after, ack_at}
use Rattle.zc_open.specs.Heard.{progress_after}
use Rattle.zc_pool.specs.Running.{first_failed_from, Survives}

-- the files that it began with, after which claim group; the first call that failed; its history, and which commits were acknowledged
pub record Execution : Type 0 where
  pub start : PlainPool
  pub claim : ℕ
  pub failed : Option ℕ
  pub history : List Entry
  pub acks : List Ack

-- the history is legal and nothing is due at its end, and the acknowledgements are those of its commits that were answered Done, in order
pub record IsExecution (run : Execution) : Type 0 where
  pub legal : IsLegal run.start run.claim run.failed run.history
  pub nothing_due : (progress_after run.start run.claim run.history).due ≡ Nothing
  pub acks_are : (acked_after run.history).done ≡ map ack_at run.acks

-- the group that it sealed last; the claim group where it sealed none
abbrev pub last_group : Execution → ℕ
last_group run = (progress_after run.start run.claim run.history).last

-- the limits are those of a disk set of this shape
pub record IsSizeOf (shape : Shape) (limits : Limits) : Type 0 where
  pub devices : limits.devices ≡ shape.devices
  pub places : limits.places ≡ shape.places

-- the tape as it was after so many calls
abbrev pub front : ℕ → Tape → Tape
front calls t = record t { calls = take calls t.calls }

-- At the number of calls of the acknowledgement, none of which had failed, the disks were at rest and stood for a state of the very group
-- that the commit sealed, with the files as they were at that seal.
pub record IsAcknowledged (shape : Shape) (u : Tape) (run : Execution) (ack : Ack) : Type 0 where
  pub within : ack.calls ≤ length u.calls
  pub none_failed : first_failed_from 0 (take ack.calls u.calls) ≡ None
  pub at_rest : AtRest (front ack.calls u)
  pub group : ℕ
  pub sealed : slice_get run.history ack.ask ≡ Some (Seal group)
  pub state : State
  pub stands : StandsFor shape (reads (front ack.calls u)) state
  pub group_is : state.body.group ≡ group
  pub holds : HoldSame (found_in run.start.limits state) (pool_after run.start run.history (ack.ask + 1))

-- The disk set stood for this state as it was handed out, and no call was on its tape: the execution began with the files that were found;
-- it knows the first call that failed; each acknowledgement came in time; and at each moment each image that a crash may leave has, under
-- each name, the files after some first entries of its history, among which are the commits that were acknowledged by then.
pub record IsOnTape (shape : Shape) (u : Tape) (s : State) (run : Execution) : Type 0 where
  pub size : IsSizeOf shape run.start.limits
  pub start_is : run.start ≡ found_in run.start.limits s
  pub claim_is : run.claim ≡ s.body.group + 1
  pub failed_is : run.failed ≡ first_failed_from 0 u.calls
  pub acknowledged : AllByRecursion (IsAcknowledged shape u run) run.acks
  pub survives : Survives May shape u 0 run.start.limits run.start run.history run.acks

-- the disks are at rest and stand for a state of the group that was sealed last, with the files after the whole history
pub record IsAtEnd (shape : Shape) (u : Tape) (run : Execution) : Type 0 where
  pub at_rest : AtRest u
  pub state : State
  pub stands : StandsFor shape (reads u) state
  pub group_is : state.body.group ≡ last_group run
  pub holds : HoldSame (found_in run.start.limits state) (pool_after run.start run.history (length run.history))
