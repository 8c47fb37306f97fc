-- What is true of the past stays true once the history has grown.
use Rattle.std.proofs.Common.{◌≡◌, ℕ, zero, suc, ◌+◌, ◌<◌, ◌≤◌, ◌==◌, Bool, true, false, not, List, [], ◌∷◌, ◌++◌, length, slice_get, Some, sym, ap, subst, ◌∙◌, ⊎_elim, arith}
use Rattle.std.specs.Prelude.{filter, refl}
use Rattle.std.specs.List.{AllByRecursion}
use Rattle.std.proofs.lemmas.Bool.{cases_Bool}
use Rattle.std.proofs.lemmas.List.{length-append, take-append-le}
use Rattle.std.proofs.lemmas.Option.{none-some}
use Rattle.zc_num.specs.declared.limits.Limits.{Limits}
use Rattle.zc_plain.specs.declared.plain_pool.PlainPool.{PlainPool}
use Rattle.zc_plain.specs.declared.entry.Entry.{Entry}
use Rattle.zc_plain.specs.declared.entry.Entry.TheVariants.{Seal}
use Rattle.zc_plain.specs.History.{state_after, pool_after}
use Rattle.zc_heart.specs.declared.changes.Sealed.{Sealed}
use Rattle.zc_heart.proofs.ListLaws.{each_of, found_has}
use Rattle.zc_heart.proofs.Listing.{all_more_items}
use Rattle.zc_apply.specs.Jobs.{IsJob}
use Rattle.zc_open.specs.declared.ack.Ack.{Ack}
use Rattle.zc_open.specs.declared.ack.Waiting.{Waiting}
use Rattle.zc_open.specs.Events.{waiting_of, without_waiting}
use Rattle.zc_open.specs.Heard.{AreNumbered}
use Rattle.zc_open.specs.Points.{Point, IsSealedAt, IsPoint, AreCovered, AreAcked, AreJobs}

-- ---- a point

-- a pool of the history stays the same
pub past_stays : (start : PlainPool) (history more : List Entry) (point : Point) → point.entries ≤ length history → pool_after start (history ++ more) point.entries ≡ pool_after start history point.entries
past_stays start history more point within = ap (λ (front : List Entry). (state_after start front).pool) (take-append-le point.entries history more within)

-- an item stands where it stood, however the list goes on
pub item_before : {X : Type 0} (front back : List X) (i : ℕ) (x : X) → slice_get front i ≡ Some x → slice_get (front ++ back) i ≡ Some x
item_before [] back i x is = absurd (none-some x is)
item_before (y ∷ front) back zero x is = is
item_before (y ∷ front) back (suc i) x is = item_before front back i x is

-- what sealed a group still seals it
sealed_stays : (claim : ℕ) (history more : List Entry) (group entries : ℕ) → IsSealedAt claim history group entries → IsSealedAt claim (history ++ more) group entries
sealed_stays claim history more group zero is = is
sealed_stays claim history more group (suc entries) is = item_before history more entries (Seal group) is

-- the group is sealed by the last of so many entries
pub sealed_by : (claim : ℕ) (history : List Entry) (group n entries : ℕ) → entries ≡ n + 1 → slice_get history n ≡ Some (Seal group) → IsSealedAt claim history group entries
sealed_by claim history group n zero next is = absurd (omega (arith, next))
sealed_by claim history group n (suc entries) next is = subst (λ (k : ℕ). slice_get history k ≡ Some (Seal group)) (omega (arith, next)) is

pub point_stays : (start : PlainPool) (claim : ℕ) (history more : List Entry) (limits : Limits) (point : Point) → IsPoint start claim history limits point → IsPoint start claim (history ++ more) limits point
point_stays start claim history more limits point is = record {
  within = omega (arith, length-append history more, is.within);
  sealed = sealed_stays claim history more point.group point.entries is.sealed;
  pool_is = is.pool_is ∙ sym (past_stays start history more point is.within);
  base_is = is.base_is;
}

-- ---- who waits

-- who waits for a later group asked whenever
pub covered_more : (group : ℕ) (point : Point) (waits : List Waiting) (waiting : Waiting) → group < waiting.group → AreCovered group point waits → AreCovered group point (waits ++ waiting ∷ [])
covered_more group point waits waiting later covered =
    all_more_items (λ (one : Waiting). one.group ≤ group → one.ask ≤ point.entries) waits waiting covered (λ within. absurd (omega arith))

-- what holds of each item holds of those that pass
all_passed : {X : Type 0} (P : X → Type 0) (test : X → Bool) (xs : List X) → AllByRecursion P xs → AllByRecursion P (filter test xs)
all_passed P test [] all = tt
all_passed P test (x ∷ xs) all =
    ⊎_elim
    (λ (passes : test x ≡ true). rw passes (all.0, all_passed P test xs all.1))
    (λ (fails : test x ≡ false). rw fails (all_passed P test xs all.1))
    (cases_Bool (test x))

-- fewer wait
pub covered_fewer : (group : ℕ) (point : Point) (waits : List Waiting) (session : ℕ) → AreCovered group point waits → AreCovered group point (without_waiting session waits)
covered_fewer group point waits session covered =
    all_passed (λ (one : Waiting). one.group ≤ group → one.ask ≤ point.entries) (λ (one : Waiting). not (one.session == session)) waits covered

-- one of those who wait
pub covered_one : (group : ℕ) (point : Point) (waits : List Waiting) (session : ℕ) (waiting : Waiting) → waiting_of session waits ≡ Some waiting → waiting.group ≤ group → AreCovered group point waits → waiting.ask ≤ point.entries
covered_one group point waits session waiting found within covered =
    (found_has (λ (one : Waiting). one.group ≤ group → one.ask ≤ point.entries) (λ (one : Waiting). one.session == session) waits waiting covered found).0 within

-- all that were asked within the history
pub covered_all : (group : ℕ) (point : Point) (waits : List Waiting) → AllByRecursion (λ (one : Waiting). one.ask ≤ point.entries) waits → AreCovered group point waits
covered_all group point waits asked =
    each_of (λ (one : Waiting). one.ask ≤ point.entries) (λ (one : Waiting). one.group ≤ group → one.ask ≤ point.entries) waits (λ one within _. within) asked

-- ---- acknowledgements

-- a later point covers them too
pub acked_later : (point next : Point) (acks : List Ack) → point.entries ≤ next.entries → AreAcked point acks → AreAcked next acks
acked_later point next acks later acked = each_of (λ (ack : Ack). ack.ask ≤ point.entries) (λ (ack : Ack). ack.ask ≤ next.entries) acks (λ ack within. omega arith) acked

-- ---- jobs

-- groups that are numbered one after another lie below the next
pub numbered_below : (from : ℕ) (jobs : List Sealed) (to : ℕ) → AreNumbered from jobs to → (from ≤ to) × AllByRecursion (λ (job : Sealed). job.group < to) jobs
numbered_below from [] to same = (omega arith, tt)
numbered_below from (job ∷ jobs) to numbered =
    let rest = numbered_below (from + 1) jobs to numbered.1 in
    (omega (arith, rest.0), (omega (arith, rest.0, numbered.0), rest.1))

-- whoever was covered at a job is still
abbrev pub StayCovered : (before behind : List Waiting) → Sealed → Type 0
StayCovered before behind job = (point : Point) → AreCovered job.group point before → AreCovered job.group point behind

-- The jobs lead on as they did, after more entries; others may wait, where whoever was covered at each job is still.
pub jobs_stay : (start : PlainPool) (claim : ℕ) (history more : List Entry) (limits : Limits) (before behind : List Waiting) (from : Point) (jobs : List Sealed) (to : Point)
    → AllByRecursion (StayCovered before behind) jobs → AreJobs start claim history limits before from jobs to → AreJobs start claim (history ++ more) limits behind from jobs to
jobs_stay start claim history more limits before behind from [] to stay are = are
jobs_stay start claim history more limits before behind from (job ∷ jobs) to stay are = (
  are.0,
  are.1,
  are.2,
  point_stays start claim history more limits are.0 are.3,
  stay.0 are.0 are.4,
  are.5,
  jobs_stay start claim history more limits before behind are.0 jobs to stay.1 are.6,
)

-- what holds of anything holds of each item
all_of : {X : Type 0} (P : X → Type 0) (xs : List X) → ((x : X) → P x) → AllByRecursion P xs
all_of P [] each_one = tt
all_of P (x ∷ xs) each_one = (each_one x, all_of P xs each_one)

-- the same sessions wait
pub jobs_same : (start : PlainPool) (claim : ℕ) (history more : List Entry) (limits : Limits) (waits : List Waiting) (from : Point) (jobs : List Sealed) (to : Point)
    → AreJobs start claim history limits waits from jobs to → AreJobs start claim (history ++ more) limits waits from jobs to
jobs_same start claim history more limits waits from jobs to are =
    jobs_stay start claim history more limits waits waits from jobs to (all_of (StayCovered waits waits) jobs (λ job point covered. covered)) are

-- one waits no more
pub jobs_fewer : (start : PlainPool) (claim : ℕ) (history more : List Entry) (limits : Limits) (waits : List Waiting) (session : ℕ) (from : Point) (jobs : List Sealed) (to : Point)
    → AreJobs start claim history limits waits from jobs to → AreJobs start claim (history ++ more) limits (without_waiting session waits) from jobs to
jobs_fewer start claim history more limits waits session from jobs to are =
    jobs_stay start claim history more limits waits (without_waiting session waits) from jobs to
    (all_of (StayCovered waits (without_waiting session waits)) jobs (λ job point covered. covered_fewer job.group point waits session covered)) are

-- one more waits, for a group after all of these
pub jobs_more : (start : PlainPool) (claim : ℕ) (history more : List Entry) (limits : Limits) (waits : List Waiting) (waiting : Waiting) (from : Point) (jobs : List Sealed) (to : Point) → AllByRecursion (λ (job : Sealed). job.group < waiting.group) jobs
    → AreJobs start claim history limits waits from jobs to → AreJobs start claim (history ++ more) limits (waits ++ waiting ∷ []) from jobs to
jobs_more start claim history more limits waits waiting from jobs to behind are =
    jobs_stay start claim history more limits waits (waits ++ waiting ∷ []) from jobs to
    (each_of (λ (job : Sealed). job.group < waiting.group) (StayCovered waits (waits ++ waiting ∷ [])) jobs (λ job later point covered. covered_more job.group point waits waiting later covered) behind) are

-- one more job, from the last point to the next
pub jobs_then : (start : PlainPool) (claim : ℕ) (history : List Entry) (limits : Limits) (waits : List Waiting) (from : Point) (jobs : List Sealed) (to : Point) (job : Sealed) (next : Point) → to.entries ≤ next.entries → next.group ≡ job.group → IsPoint start claim history limits next
    → AreCovered job.group next waits → IsJob to.base next.base job → AreJobs start claim history limits waits from jobs to → AreJobs start claim history limits waits from (jobs ++ job ∷ []) next
jobs_then start claim history limits waits from [] to job next later its point covered is same =
    (next, subst (λ (before : Point). before.entries ≤ next.entries) (sym same) later, its, point, covered, subst (λ (before : Point). IsJob before.base next.base job) (sym same) is, refl)
jobs_then start claim history limits waits from (first ∷ jobs) to job next later its point covered is are =
    (are.0, are.1, are.2, are.3, are.4, are.5, jobs_then start claim history limits waits are.0 jobs to job next later its point covered is are.6)
