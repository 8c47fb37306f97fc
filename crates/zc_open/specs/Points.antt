-- From which pool of the history the jobs lead to which: from that of the root to what the files are now.
use Rattle.std.specs.Prelude.{◌≡◌, ℕ, zero, suc, ◌≤◌, List, [], ◌∷◌, length, count_by, slice_get, Some}
use Rattle.std.specs.List.{AllByRecursion}
use Rattle.zc_num.specs.declared.limits.Limits.{Limits}
use Rattle.zc_plain.specs.declared.plain_pool.PlainPool.{PlainPool}
use Rattle.zc_plain.specs.declared.entry.Entry.{Entry}
use Rattle.zc_plain.specs.declared.entry.Entry.TheVariants.{Seal}
use Rattle.zc_plain.specs.History.{pool_after}
use Rattle.zc_heart.specs.declared.changes.Sealed.{Sealed}
use Rattle.zc_heart.specs.declared.pool_core.WaitingGroup.{WaitingGroup}
use Rattle.zc_heart.specs.Changes.{is_made}
use Rattle.zc_heart.specs.Core.{Base, Leads}
use Rattle.zc_apply.specs.Jobs.{IsJob, IsBase}
use Rattle.zc_open.specs.declared.ack.Ack.{Ack}
use Rattle.zc_open.specs.declared.ack.Waiting.{Waiting}
use Rattle.zc_open.specs.declared.open_pool.OpenPool.{OpenPool}

-- a pool of the history, with the log areas of its datasets: the one after so many entries, which a group holds
pub record Point : Type 0 where
  pub entries : ℕ
  pub group : ℕ
  pub base : Base

-- the group is sealed by the last of so many first entries; the claim group is, before any
abbrev pub IsSealedAt : (claim : ℕ) → List Entry → (group entries : ℕ) → Type 0
IsSealedAt claim history group zero = group ≡ claim
IsSealedAt claim history group (suc entries) = slice_get history entries ≡ Some (Seal group)

-- the point stands at the seal of its group, or at the start
pub record IsPoint (start : PlainPool) (claim : ℕ) (history : List Entry) (limits : Limits) (point : Point) : Type 0 where
  pub within : point.entries ≤ length history
  pub sealed : IsSealedAt claim history point.group point.entries
  pub pool_is : point.base.pool ≡ pool_after start history point.entries
  pub base_is : IsBase limits point.base

-- who waits for the group or one before it asked before the pool at this point
abbrev pub AreCovered : (group : ℕ) → Point → List Waiting → Type 0
AreCovered group point waits = AllByRecursion (λ (waiting : Waiting). waiting.group ≤ group → waiting.ask ≤ point.entries) waits

-- every commit that was acknowledged was asked before the pool at this point
abbrev pub AreAcked : Point → List Ack → Type 0
AreAcked point acks = AllByRecursion (λ (ack : Ack). ack.ask ≤ point.entries) acks

-- the jobs in order, each from the pool before it to the one at its own seal
abbrev pub AreJobs : PlainPool → (claim : ℕ) → List Entry → Limits → List Waiting → Point → List Sealed → Point → Type 0
AreJobs start claim history limits waits from [] to = from ≡ to
AreJobs start claim history limits waits from (job ∷ jobs) to =
    (next : Point) × (from.entries ≤ next.entries) × (next.group ≡ job.group) × IsPoint start claim history limits next × AreCovered job.group next waits × IsJob from.base next.base job
    × AreJobs start claim history limits waits next jobs to

-- the group waits in the heart as the job says
abbrev pub IsJobOf : WaitingGroup → Sealed → Type 0
IsJobOf waits job = (waits.group ≡ job.group) × (waits.held ≡ job.held) × (length waits.stamps ≡ count_by is_made job.changes)

abbrev pub AreJobsOf : List WaitingGroup → List Sealed → Type 0
AreJobsOf [] [] = Unit {0}
AreJobsOf [] (job ∷ jobs) = ⊥
AreJobsOf (waits ∷ waiting) [] = ⊥
AreJobsOf (waits ∷ waiting) (job ∷ jobs) = IsJobOf waits job × AreJobsOf waiting jobs

-- The jobs lead from the pool at the root's point to the last point, and the open group from there to what the files are now.
pub record IsLined (start : PlainPool) (claim : ℕ) (limits : Limits) (root : Point) (pool : OpenPool) : Type 0 where
  pub limits_are : pool.heart.limits ≡ limits
  pub at_root : IsPoint start claim pool.history limits root
  pub root_group : root.group ≡ pool.group
  pub acked : AreAcked root pool.acks
  pub covered : AreCovered pool.group root pool.waits
  pub to : Point
  pub jobs : AreJobs start claim pool.history limits pool.waits root pool.jobs to
  pub last : IsPoint start claim pool.history limits to
  pub leads : Leads to.base pool.heart
  pub waiting : AreJobsOf pool.heart.waiting pool.jobs
