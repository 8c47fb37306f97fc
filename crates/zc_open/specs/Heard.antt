-- What is kept in memory of a pool, by its history alone.
use Rattle.std.specs.Prelude.{◌≡◌, ℕ, ◌+◌, ◌*◌, ◌-◌, ◌^◌, ◌<◌, ◌≤◌, true, List, [], ◌∷◌, length, map, fold, slice_get, Option, Some, None, IsSome}
use Rattle.std.specs.List.{AllByRecursion}
use Rattle.zc_num.specs.declared.limits.Limits.{Limits}
use Rattle.zc_command.specs.declared.command.Command.TheVariants.{Commit}
use Rattle.zc_command.specs.Names.{Each}
use Rattle.zc_plain.specs.declared.plain_pool.PlainPool.{PlainPool}
use Rattle.zc_plain.specs.declared.entry.Entry.{Entry}
use Rattle.zc_plain.specs.declared.entry.Entry.TheVariants.{Ask, Seal}
use Rattle.zc_plain.specs.History.{MeetsConditions, begun}
use Rattle.zc_plain.specs.IsPlain.{IsState}
use Rattle.zc_plain.specs.Promises.{HaveFewPointers}
use Rattle.zc_plain.specs.Legal.{Wait, Unfinished, Progress, at_start, progress, IsLegal}
use Rattle.zc_plain.specs.Legal.{Nothing}
use Rattle.zc_heart.specs.declared.changes.Sealed.{Sealed}
use Rattle.zc_heart.specs.Core.{pool_of, Agrees}
use Rattle.zc_apply.specs.Named.{AreNamed}
use Rattle.zc_open.specs.declared.ack.Waiting.{Waiting}
use Rattle.zc_open.specs.declared.open_pool.OpenPool.{OpenPool}
use Rattle.zc_open.specs.Since.{since_after}

-- what is true of the pool that an import found
pub record IsStart (limits : Limits) (start : PlainPool) : Type 0 where
  pub state : IsState (begun start)
  pub limits_are : start.limits ≡ limits
  pub named : AreNamed start
  pub few_pointers : HaveFewPointers start

-- a pool after all entries of its history
abbrev pub progress_after : PlainPool → (claim : ℕ) → List Entry → Progress
progress_after start claim history = fold progress (at_start start claim) history

-- who waits, and which groups are to be finished, as the definition of legal histories keeps them
abbrev pub wait_of : Waiting → Wait
wait_of waiting = record { session = waiting.session; group = waiting.group }

abbrev pub unfinished_of : Sealed → Unfinished
unfinished_of job = record { group = job.group; held = job.held }

-- the entry with the number is the commit that the session waits for, and the one after it seals its group
abbrev pub IsAskedBy : List Entry → (group : ℕ) → Waiting → Type 0
IsAskedBy history group waiting =
    (1 ≤ waiting.ask) × (waiting.group < group) × (slice_get history (waiting.ask - 1) ≡ Some (Ask waiting.session Commit))
    × (slice_get history waiting.ask ≡ Some (Seal waiting.group))

-- the jobs are numbered from the one group on up to the other, which is the next
abbrev pub AreNumbered : (from : ℕ) → List Sealed → (to : ℕ) → Type 0
AreNumbered from [] to = from ≡ to
AreNumbered from (job ∷ jobs) to = (job.group ≡ from) × AreNumbered (from + 1) jobs to

-- how many calls a job may still make: one that failed was the last
abbrev pub calls_left : Option ℕ → ℕ
calls_left None = 2 ^ 64
calls_left (Some call) = 0

-- What is kept in memory is what the history says, and the history is legal: of a pool that began so, after this claim group.
pub record IsHeard (start : PlainPool) (claim : ℕ) (pool : OpenPool) : Type 0 where
  pub conditions : Each MeetsConditions pool.history
  pub legal : IsLegal start claim pool.failed pool.history
  pub due : (progress_after start claim pool.history).due ≡ Nothing
  pub pool_is : pool_of pool.heart ≡ (progress_after start claim pool.history).state.pool
  pub tally : Agrees (progress_after start claim pool.history).state.tally pool.heart
  pub waits : (progress_after start claim pool.history).waits ≡ map wait_of pool.waits
  pub unfinished : (progress_after start claim pool.history).unfinished ≡ map unfinished_of pool.jobs
  pub next_group : pool.heart.group ≡ (progress_after start claim pool.history).last + 1
  pub failed : (progress_after start claim pool.history).failed ≡ true → IsSome pool.failed
  pub numbered : AreNumbered (pool.group + 1) pool.jobs pool.heart.group
  pub asked : AllByRecursion (IsAskedBy pool.history pool.heart.group) pool.waits
  pub since : since_after pool.history ≡ record { asked = None; changed = pool.changed }
  pub last : pool.heart.last ≤ length pool.history
  pub groups : pool.heart.group ≤ claim + 1 + length pool.history
  pub calls : pool.calls + calls_left pool.failed ≤ 2 ^ 64 * (length pool.history + 2)
