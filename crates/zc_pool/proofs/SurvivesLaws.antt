-- What a crash leaves of a pool as its history grows and its jobs are written, and which call was the first that failed.
use Rattle.std.proofs.Common.{◌≡◌, ◌∙◌, ◌⊎◌, ℕ, ◌+◌, ◌-◌, ◌<◌, ◌≤◌, Bool, true, false, List, [], ◌∷◌, ◌++◌, length, drop, Option, Some, None, if◌then◌else◌, refl, sym, ap, subst, inl, inr, le_trans, le_of_eq, le_refl, length-drop, eq-or-lt_of_le, add-zero, arith}
use Rattle.std.specs.List.{AllByRecursion}
use Rattle.std.proofs.Math.Seq.{drop-append_seam}
use Rattle.std.proofs.lemmas.List.{take-append-le, drop-append-le, length-append, length_push}
use Rattle.zc_num.specs.declared.limits.Limits.{Limits}
use Rattle.zc_tape.specs.Tape.{Image, Shape, Tape, Made}
use Rattle.zc_tape.specs.Crash.{Crash, May, EachCrash}
use Rattle.zc_tape.proofs.Extends.{Extends}
use Rattle.zc_tape.proofs.EachCrash.{each_crash_join}
use Rattle.zc_plan.specs.Counted.{AllMade, AllButLast}
use Rattle.zc_state.specs.State.{State, StandsFor}
use Rattle.zc_plain.specs.declared.plain_pool.PlainPool.{PlainPool}
use Rattle.zc_plain.specs.declared.entry.Entry.{Entry}
use Rattle.zc_plain.specs.History.{state_after, pool_after}
use Rattle.zc_heart.specs.Core.{Base}
use Rattle.zc_apply.specs.Jobs.{IsBase}
use Rattle.zc_group.specs.declared.root.Root.{Root}
use Rattle.zc_lane.specs.Found.{found_in, files_under, HoldSame}
use Rattle.zc_lane.specs.Jobs.{IsRooted, IsNextWith, LeavesJob}
use Rattle.zc_lane.proofs.FoundLaws.{found_same}
use Rattle.zc_open.specs.declared.ack.Ack.{Ack}
use Rattle.zc_open.specs.Points.{Point, IsPoint, AreAcked}
use Rattle.zc_pool.specs.Running.{first_failed_from, number_under, CountsFor, IsPrefix, IsSurvivor, Survives}

-- ---- the first call that failed

-- those after calls that were all Ok are counted on
first_failed_after : (n : ℕ) (front calls : List Made) → AllMade front → first_failed_from n (front ++ calls) ≡ first_failed_from (n + length front) calls
first_failed_after n [] calls all = ap (λ (m : ℕ). first_failed_from m calls) (sym (add-zero n))
first_failed_after n (call ∷ front) calls all =
    let on : n + 1 + length front ≡ n + length (call ∷ front) = omega arith in
    ap (λ (ok : Bool). if ok then first_failed_from (n + 1) (front ++ calls) else Some (n + 1)) all.0
    ∙ first_failed_after (n + 1) front calls all.1 ∙ ap (λ (m : ℕ). first_failed_from m calls) on

-- none of calls that were all Ok has failed
none_failed : (n : ℕ) (calls : List Made) → AllMade calls → first_failed_from n calls ≡ None
none_failed n [] all = refl
none_failed n (call ∷ calls) all =
    ap (λ (ok : Bool). if ok then first_failed_from (n + 1) calls else Some (n + 1)) all.0 ∙ none_failed (n + 1) calls all.1

-- and where none has failed, all were Ok
all_made_with : (call : Made) (calls : List Made) (number : ℕ) (failed : Option ℕ) (ok : Bool) → call.ok ≡ ok → (failed ≡ None → AllMade calls)
    → (if ok then failed else Some number) ≡ None → AllMade (call ∷ calls)
all_made_with call calls number failed true is rest none = (is, rest none)
all_made_with call calls number failed false is rest none = absurd cc

all_made_where : (n : ℕ) (calls : List Made) → first_failed_from n calls ≡ None → AllMade calls
all_made_where n [] none = tt
all_made_where n (call ∷ calls) none =
    all_made_with call calls (n + 1) (first_failed_from (n + 1) calls) call.ok refl (λ rest. all_made_where (n + 1) calls rest) none

-- where all were Ok but the last, that one is the first that failed
last_failed : (n : ℕ) (calls : List Made) → AllButLast calls → first_failed_from n calls ≡ Some (n + length calls)
last_failed n calls is =
    let count : n + length is.front + 1 ≡ n + length calls = omega (arith, ap length is.calls_are, length_push is.front is.last) in
    ap (first_failed_from n) is.calls_are ∙ first_failed_after n is.front (is.last ∷ []) is.all_made
    ∙ ap (λ (ok : Bool). if ok then first_failed_from (n + length is.front + 1) [] else Some (n + length is.front + 1)) is.failed ∙ ap Some count

-- the calls since the one moment are those up to the other and those since
calls_since : (begun : ℕ) (t u : Tape) → begun ≤ length t.calls → Extends t u → drop begun u.calls ≡ drop begun t.calls ++ drop (length t.calls) u.calls
calls_since begun t u before longer =
    let behind : drop (length t.calls) u.calls ≡ longer.more = ap (drop (length t.calls)) longer.calls ∙ drop-append_seam t.calls longer.more in
    ap (drop begun) longer.calls ∙ drop-append-le begun t.calls longer.more before ∙ ap (λ (more : List Made). drop begun t.calls ++ more) (sym behind)

length_since : (begun count : ℕ) (calls : List Made) → begun + count ≡ length calls → length (drop begun calls) ≡ count
length_since begun count calls is = omega (arith, is, length-drop begun calls)

-- no call has failed up to the one moment, and none since
pub still_none_failed : (begun : ℕ) (t u : Tape) → begun ≤ length t.calls → Extends t u → None ≡ first_failed_from 0 (drop begun t.calls) → AllMade (drop (length t.calls) u.calls)
    → None ≡ first_failed_from 0 (drop begun u.calls)
still_none_failed begun t u before longer none more =
    let front : List Made = drop begun t.calls in
    let back : List Made = drop (length t.calls) u.calls in
    sym (ap (first_failed_from 0) (calls_since begun t u before longer) ∙ first_failed_after 0 front back (all_made_where 0 front (sym none)) ∙ none_failed (0 + length front) back more)

-- no call has failed up to the one moment, and the last one since
pub now_failed : (begun count made : ℕ) (t u : Tape) → begun + count ≡ length t.calls → Extends t u → None ≡ first_failed_from 0 (drop begun t.calls)
    → AllButLast (drop (length t.calls) u.calls) → length u.calls ≡ length t.calls + made → Some (count + made) ≡ first_failed_from 0 (drop begun u.calls)
now_failed begun count made t u is longer none more counted =
    let front : List Made = drop begun t.calls in
    let back : List Made = drop (length t.calls) u.calls in
    let before : begun ≤ length t.calls = omega arith in
    let number : 0 + length front + length back ≡ count + made =
    omega (arith, length_since begun count t.calls is, length-drop (length t.calls) u.calls, counted) in
    sym (ap (first_failed_from 0) (calls_since begun t u before longer) ∙ first_failed_after 0 front back (all_made_where 0 front (sym none))
    ∙ last_failed (0 + length front) back more ∙ ap Some number)

-- ---- survivors

-- the first entries of a history stay as it grows
past_stays : (start : PlainPool) (history more : List Entry) (entries : ℕ) → entries ≤ length history → pool_after start (history ++ more) entries ≡ pool_after start history entries
past_stays start history more entries within = ap (λ (past : List Entry). (state_after start past).pool) (take-append-le entries history more within)

-- an acknowledgement of the history counts for a name as it grows only where it did
counts_still : (start : PlainPool) (history more : List Entry) (name : List ℕ) (ack : Ack) → ack.ask ≤ length history → CountsFor start (history ++ more) name ack → CountsFor start history name ack
counts_still start history more name ack within (inl every) = inl every
counts_still start history more name ack within (inr (id, its, named)) = inr (id, its, ap (number_under name) (sym (past_stays start history more ack.ask within)) ∙ named)

-- the acknowledgements that count for the name by then were asked among so many entries
abbrev AreBefore : PlainPool → List Entry → (name : List ℕ) → (calls entries : ℕ) → List Ack → Type 0
AreBefore start history name calls entries acks = AllByRecursion (λ (ack : Ack). CountsFor start history name ack → ack.calls ≤ calls → ack.ask ≤ entries) acks

-- all were asked within the history
abbrev pub AreWithin : List Entry → List Ack → Type 0
AreWithin history acks = AllByRecursion (λ (ack : Ack). ack.ask ≤ length history) acks

before_still : (start : PlainPool) (history more : List Entry) (name : List ℕ) (calls entries : ℕ) (acks : List Ack) → AreWithin history acks
    → AreBefore start history name calls entries acks → AreBefore start (history ++ more) name calls entries acks
before_still start history more name calls entries [] within all = tt
before_still start history more name calls entries (ack ∷ acks) within all =
    (λ counts. all.0 (counts_still start history more name ack within.0 counts), before_still start history more name calls entries acks within.1 all.1)

-- a survivor stays one as the history grows
survivor_stays : (shape : Shape) (limits : Limits) (start : PlainPool) (history more : List Entry) (acks : List Ack) (calls : ℕ) (image : Image)
    → AreWithin history acks → IsSurvivor shape limits start history acks calls image → IsSurvivor shape limits start (history ++ more) acks calls image
survivor_stays shape limits start history more acks calls image asked is = record {
  state = is.state;
  stands = is.stands;
  each_name = λ name.
      let at = is.each_name name in
      record {
        entries = at.entries;
        within = omega (arith, at.within, length-append history more);
        files = at.files ∙ ap (files_under name) (sym (past_stays start history more at.entries at.within));
        acknowledged = before_still start history more name calls at.entries acks asked at.acknowledged;
      };
}

-- so does one of an earlier moment with one more acknowledgement
before_push : (start : PlainPool) (history : List Entry) (name : List ℕ) (calls entries : ℕ) (acks : List Ack) (ack : Ack) → calls < ack.calls
    → AreBefore start history name calls entries acks → AreBefore start history name calls entries (acks ++ ack ∷ [])
before_push start history name calls entries [] ack later all = (λ counts by_then. absurd (omega arith), tt)
before_push start history name calls entries (one ∷ acks) ack later all = (all.0, before_push start history name calls entries acks ack later all.1)

survivor_with : (shape : Shape) (limits : Limits) (start : PlainPool) (history : List Entry) (acks : List Ack) (ack : Ack) (calls : ℕ) (image : Image)
    → calls < ack.calls → IsSurvivor shape limits start history acks calls image → IsSurvivor shape limits start history (acks ++ ack ∷ []) calls image
survivor_with shape limits start history acks ack calls image later is = record {
  state = is.state;
  stands = is.stands;
  each_name = λ name.
      let at = is.each_name name in
      record {
        entries = at.entries;
        within = at.within;
        files = at.files;
        acknowledged = before_push start history name calls at.entries acks ack later at.acknowledged;
      };
}

-- what was asked before a point was asked within the history
pub acked_within : (start : PlainPool) (claim : ℕ) (history : List Entry) (limits : Limits) (point : Point) (acks : List Ack) → IsPoint start claim history limits point → AreAcked point acks → AreWithin history acks
acked_within start claim history limits point [] is acked = tt
acked_within start claim history limits point (ack ∷ acks) is acked = (le_trans acked.0 is.within, acked_within start claim history limits point acks is acked.1)

-- what every acknowledgement is asked before, those of by then are
acked_then : (entries to calls : ℕ) (acks : List Ack) → entries ≤ to → AllByRecursion (λ (ack : Ack). ack.ask ≤ entries) acks
    → AllByRecursion (λ (ack : Ack). ack.calls ≤ calls → ack.ask ≤ to) acks
acked_then entries to calls [] later all = tt
acked_then entries to calls (ack ∷ acks) later all = (λ by_then. le_trans all.0 later, acked_then entries to calls acks later all.1)

before_any : (start : PlainPool) (history : List Entry) (name : List ℕ) (calls entries : ℕ) (acks : List Ack) → AllByRecursion (λ (ack : Ack). ack.calls ≤ calls → ack.ask ≤ entries) acks
    → AreBefore start history name calls entries acks
before_any start history name calls entries [] all = tt
before_any start history name calls entries (ack ∷ acks) all = (λ counts. all.0, before_any start history name calls entries acks all.1)

-- One number of entries, after all acknowledgements of by then, serves for every name.
pub each_prefix : (found start : PlainPool) (history : List Entry) (acks : List Ack) (calls entries : ℕ) → entries ≤ length history → HoldSame found (pool_after start history entries)
    → AllByRecursion (λ (ack : Ack). ack.calls ≤ calls → ack.ask ≤ entries) acks → (name : List ℕ) → IsPrefix found start history acks calls name
each_prefix found start history acks calls entries within same acked name = record {
  entries = entries;
  within = within;
  files = same name;
  acknowledged = before_any start history name calls entries acks acked;
}

-- a state that holds the pool at a point holds the files of the history there
held_at : (limits : Limits) (start : PlainPool) (claim : ℕ) (history : List Entry) (point : Point) (s : State) → IsPoint start claim history limits point
    → HoldSame (found_in point.base.pool.limits s) point.base.pool → HoldSame (found_in limits s) (pool_after start history point.entries)
held_at limits start claim history point s is same =
    subst (λ (of : Limits). HoldSame (found_in of s) (pool_after start history point.entries)) is.base_is.limits_are
    (subst (λ (pool : PlainPool). HoldSame (found_in point.base.pool.limits s) pool) is.pool_is same)

few_areas : (limits : Limits) (base : Base) → IsBase limits base → length base.pool.datasets ≤ length base.areas
few_areas limits base is = le_of_eq (sym is.areas.count)

pub rooted_at : (shape : Shape) (t : Tape) (limits : Limits) (start : PlainPool) (claim : ℕ) (history : List Entry) (point : Point) (s : State) (root : Root) → IsPoint start claim history limits point
    → IsRooted shape t s root point.base → HoldSame (found_in limits s) (pool_after start history point.entries)
rooted_at shape t limits start claim history point s root is rooted =
    held_at limits start claim history point s is (found_same s point.base.areas point.base.pool is.base_is.plain (few_areas limits point.base is.base_is) rooted.holds)

pub next_at : (shape : Shape) (limits : Limits) (start : PlainPool) (claim : ℕ) (history : List Entry) (point : Point) (s next : State) → IsPoint start claim history limits point
    → IsNextWith shape s next point.base → HoldSame (found_in limits next) (pool_after start history point.entries)
next_at shape limits start claim history point s next is follows =
    held_at limits start claim history point next is (found_same next point.base.areas point.base.pool is.base_is.plain (few_areas limits point.base is.base_is) follows.holds)

-- an image of a state with the files at a point is a survivor, where the point is after every acknowledgement
survivor_at : (shape : Shape) (limits : Limits) (start : PlainPool) (claim : ℕ) (history : List Entry) (acks : List Ack) (calls entries : ℕ) (point : Point) (s : State) (image : Image)
    → StandsFor shape image s → IsPoint start claim history limits point → HoldSame (found_in limits s) (pool_after start history point.entries)
    → entries ≤ point.entries → AllByRecursion (λ (ack : Ack). ack.ask ≤ entries) acks → IsSurvivor shape limits start history acks calls image
survivor_at shape limits start claim history acks calls entries point s image stands is holds later acked = record {
  state = s;
  stands = stands;
  each_name = each_prefix (found_in limits s) start history acks calls point.entries is.within holds (acked_then entries point.entries calls acks later acked);
}

-- ---- all moments

-- as the history grows
pub survives_longer : (crash : Crash) (shape : Shape) (u : Tape) (begun : ℕ) (limits : Limits) (start : PlainPool) (history more : List Entry) (acks : List Ack)
    → AreWithin history acks → Survives crash shape u begun limits start history acks → Survives crash shape u begun limits start (history ++ more) acks
survives_longer crash shape u begun limits start history more acks asked survives i image from upto left =
    survivor_stays shape limits start history more acks (i - begun) image asked (survives i image from upto left)

-- with one more acknowledgement at the last moment, where the root's state alone stands
pub survives_acked : (shape : Shape) (u : Tape) (begun : ℕ) (limits : Limits) (start : PlainPool) (claim : ℕ) (history : List Entry) (acks : List Ack) (ack : Ack) (point : Point) (s : State) (root : Root)
    → Survives May shape u begun limits start history acks → begun + ack.calls ≡ length u.calls → IsPoint start claim history limits point → AreAcked point (acks ++ ack ∷ [])
    → IsRooted shape u s root point.base → EachCrash May u (length u.calls) (λ _ image. StandsFor shape image s)
    → Survives May shape u begun limits start history (acks ++ ack ∷ [])
survives_acked shape u begun limits start claim history acks ack point s root survives now is acked rooted only i image from upto left = at (eq-or-lt_of_le upto) where
  at : (i ≡ length u.calls) ⊎ (i < length u.calls) → IsSurvivor shape limits start history (acks ++ ack ∷ []) (i - begun) image
  at (inl last) =
      survivor_at shape limits start claim history (acks ++ ack ∷ []) (i - begun) point.entries point s image (only i image (le_of_eq (sym last)) upto left) is
      (rooted_at shape u limits start claim history point s root is rooted) (le_refl point.entries) acked
  at (inr earlier) =
      let before : i - begun < ack.calls = omega arith in
      survivor_with shape limits start history acks ack (i - begun) image before (survives i image from upto left)

-- while a job is written: the state of the root's point stands, or one of the next point
pub survives_job : (shape : Shape) (t u : Tape) (begun : ℕ) (limits : Limits) (start : PlainPool) (claim : ℕ) (history : List Entry) (acks : List Ack) (point next : Point) (s : State) (root : Root)
    → Extends t u → Survives May shape t begun limits start history acks → IsPoint start claim history limits point → IsPoint start claim history limits next → point.entries ≤ next.entries
    → AreAcked point acks → IsRooted shape t s root point.base → LeavesJob shape s next.base t u → Survives May shape u begun limits start history acks
survives_job shape t u begun limits start claim history acks point next s root longer survives is is_next later acked rooted leaves =
    let Kept : ℕ → Image → Type 0 = λ i image. IsSurvivor shape limits start history acks (i - begun) image in
    let Left : ℕ → Image → Type 0 = λ i image. StandsFor shape image s ⊎ ((after : State) × StandsFor shape image after × IsNextWith shape s after next.base) in
    each_crash_join May t u begun Kept Left Kept longer survives leaves (λ i image from before kept. kept) (λ i image from upto left. at i image left)
  where
    at : (i : ℕ) (image : Image) → StandsFor shape image s ⊎ ((after : State) × StandsFor shape image after × IsNextWith shape s after next.base)
        → IsSurvivor shape limits start history acks (i - begun) image
    at i image (inl stands) =
        survivor_at shape limits start claim history acks (i - begun) point.entries point s image stands is (rooted_at shape t limits start claim history point s root is rooted) (le_refl point.entries) acked
    at i image (inr after) =
        survivor_at shape limits start claim history acks (i - begun) point.entries next after.0 image after.1 is_next (next_at shape limits start claim history next s after.0 is_next after.2) later acked
