-- What a run came to on its pool, put together from the shelf's calls and the work between them.
use Rattle.std.proofs.Common.{◌≡◌, ◌⊎◌, ℕ, ◌≤◌, ◌&&◌, Bool, true, false, List, Result, Ok, Err, IsTrue, IfOk, refl, sym, ap, ◌∙◌, subst, inl, inr, ⊎_elim, arith, cond}
use Rattle.std.specs.Prelude.{IsErrOf, is_ok}
use Rattle.std.specs.declared.alloc.AllocError.{AllocError}
use Rattle.std.specs.Str.{bytes_eq}
use Rattle.zc_tape.specs.Cause.{Rose, HasCause}
use Rattle.zc_tape.specs.Tape.{Shape, Tape}
use Rattle.zc_io.specs.Stock.{Stock, Gave, HandsOut, HandsBack, IsHere, handed_out, handed_back}
use Rattle.zc_script.specs.declared.act.Line.{Line}
use Rattle.zc_prog.specs.declared.fault.SessionFault.{SessionFault}
use Rattle.zc_prog.specs.declared.fault.SessionFault.TheVariants as session
use Rattle.zc_prog.specs.declared.session.Played.{Played as RunText}
use Rattle.zc_prog.specs.Session.{CameTo}
use Rattle.zc_prog.specs.declared.ended.Ended.{Ended}
use Rattle.zc_prog.specs.declared.ended.Ended.TheVariants.{Usage, ReadFault, TooLarge, BadLine, Missing, DiskFault, NoPool, Damaged, PoolExists, OtherSize, Played, Created}
use Rattle.zc_prog.specs.Ended.{EndsAs}
use Rattle.zc_prog.specs.Pooled.{IsAllBack, GivesBack, HoldsOfGiven, IsPlayedAs, IsPooledWith, IsPooled, WasStopped}
use Rattle.zc_prog.proofs.StoppedLaws.{came_stopped}

-- a count that rose in a part of a call rose in the call
pub rose_within : (before from to now : ℕ) → before ≤ from → Rose from to → to ≤ now → Rose before now
rose_within before from to now a h b = omega arith

-- a call that didn't answer Ok has its cause
pub caused : {T E : Type 0} (before now : ℕ) (result : Result T E) → HasCause before now result → is_ok result ≡ false → Rose before now
caused before now (Ok x) h e = cc
caused before now (Err x) h e = h.failed

-- a set that failed makes the shelf's count rise
pub set_failed : (old new before now : ℕ) → old ≡ 0 → Rose old new → (new ≡ 0) ⊎ Rose before now → Rose before now
set_failed old new before now none h = ⊎_elim (λ e. absurd (omega arith)) (λ rose. rose)

-- what was handed out and then handed back
pub returned : (old mid new : Stock) (name : List ℕ) (gave : Gave) → mid.told ≡ old.told → HandsOut old mid name → HandsBack mid new gave → IsTrue old.told → new ≡ handed_back (handed_out old name) gave
returned old mid new name gave same out back told = back (same ∙ told) ∙ ap (λ s. handed_back s gave) (out told)

-- a name that is handed out after that was handed out before
all_back_at : (b : Bool) (was : Bool) → cond b false (cond b true was) ≡ true → was ≡ true
all_back_at true was e = cc
all_back_at false was e = e

-- so no name is handed out that wasn't before
all_back_of : (old new : Stock) (name : List ℕ) (gave : Gave) → gave.name ≡ name → (IsTrue old.told → new ≡ handed_back (handed_out old name) gave) → IsAllBack old new
all_back_of old new name gave e back told n is_out =
    let there : cond (bytes_eq gave.name n) false (cond (bytes_eq name n) true (old.out n)) ≡ true = rw (back told) at is_out in
    all_back_at (bytes_eq name n) (old.out n) (rw e at there)

-- ---- what is handed out, and handed back by a part of the work

module _ (P : Gave → Type 0) (old mid new : Stock) (name : List ℕ) (same : mid.told ≡ old.told) (out : HandsOut old mid name) where
  -- no name is handed out that wasn't before
  pub all_back : GivesBack P mid new name → IsAllBack old new
  all_back (gave, name_is, back, holds) = all_back_of old new name gave name_is (returned old mid new name gave same out back)

  -- it holds of the one set that was handed back
  pub holds_of_given : GivesBack P mid new name → HoldsOfGiven P old new name
  holds_of_given (gave, name_is, back, holds) told = inr (gave, name_is, ap (λ (s : Stock). s.gives) (returned old mid new name gave same out back told), holds)

-- nothing was handed back
pub none_given : (P : Gave → Type 0) (old new : Stock) (name : List ℕ) → (IsTrue old.told → new ≡ old) → HoldsOfGiven P old new name
none_given P old new name kept told = inl (ap (λ (s : Stock). s.gives) (kept told))

pub none_out : (old new : Stock) → (IsTrue old.told → new ≡ old) → IsAllBack old new
none_out old new kept told n is_out = sym (ap (λ (s : Stock). s.out n) (kept told)) ∙ is_out

-- ---- a script on a pool

-- earlier counts are as much a cause
played_later : (before from now : ℕ) (name : List ℕ) (lines : List Line) (ended : Ended) (gave : Gave) → before ≤ from → IsPlayedAs from now name lines ended gave → IsPlayedAs before now name lines ended gave
played_later before from now name lines Usage gave later is = is
played_later before from now name lines ReadFault gave later is = is
played_later before from now name lines TooLarge gave later is = is
played_later before from now name lines (BadLine line) gave later is = is
played_later before from now name lines Missing gave later is = is
played_later before from now name lines PoolExists gave later is = is
played_later before from now name lines OtherSize gave later is = is
played_later before from now name lines (Created given) gave later is = is
played_later before from now name lines DiskFault gave later is = is
played_later before from now name lines NoPool gave later is = is
played_later before from now name lines (Damaged damage) gave later is = is
played_later before from now name lines (Played text good) gave later is = (is.0, is.1, λ not_good. rose_within before from now now later (is.2 not_good) (omega arith), is.3)

-- a disk set that couldn't be taken
pub not_taken : (old new : Stock) (before now : ℕ) (name : List ℕ) (lines : List Line) → Rose before now → (IsTrue old.told → new ≡ old) → IsPooled old new before now name lines DiskFault
not_taken old new before now name lines rose kept = (rose, inl (λ told. ap (λ (s : Stock). s.gives) (kept told)))

module _ (old mid new : Stock) (before from now : ℕ) (name : List ℕ) (lines : List Line) (same : mid.told ≡ old.told) (out : HandsOut old mid name) (there : IsHere old name true) (later : before ≤ from) where
  -- the set that was handed back, as the pool of the name
  pooled_with : (ended : Ended) → GivesBack (IsPlayedAs from now name lines ended) mid new name → IsPooledWith old new name (IsPlayedAs before now name lines ended)
  pooled_with ended (gave, name_is, back, is) =
      (gave, there, record { name_is = name_is; stock = returned old mid new name gave same out back }, played_later before from now name lines ended gave later is)

  -- what the set came to is what the pool of the name came to
  pooled_one : (ended : Ended) → GivesBack (IsPlayedAs from now name lines ended) mid new name → (ended ≡ DiskFault → Rose from now) → IsPooled old new before now name lines ended
  pooled_one Usage (gave, name_is, back, is) failed = is
  pooled_one ReadFault (gave, name_is, back, is) failed = is
  pooled_one TooLarge (gave, name_is, back, is) failed = is
  pooled_one (BadLine line) (gave, name_is, back, is) failed = is
  pooled_one Missing (gave, name_is, back, is) failed = absurd is
  pooled_one PoolExists (gave, name_is, back, is) failed = is
  pooled_one OtherSize (gave, name_is, back, is) failed = is
  pooled_one (Created given) (gave, name_is, back, is) failed = is
  pooled_one DiskFault given failed = (rose_within before from now now later (failed refl) (omega arith), inr (pooled_with DiskFault given))
  pooled_one NoPool given failed = pooled_with NoPool given
  pooled_one (Damaged damage) given failed = pooled_with (Damaged damage) given
  pooled_one (Played text good) given failed = pooled_with (Played text good) given

  pub pooled : (r : Result Ended AllocError) → IfOk r (λ ended. GivesBack (IsPlayedAs from now name lines ended) mid new name) → IfOk r (λ ended. ended ≡ DiskFault → Rose from now)
      → IfOk r (IsPooled old new before now name lines)
  pooled (Ok ended) is failed = pooled_one ended is failed
  pooled (Err fault) is failed = tt

-- ---- a script on a disk set

-- what is not good was not done, or not taken back
either_good : (done ok : Bool) (A : Type 0) → (done ≡ false → A) → (ok ≡ false → A) → (done && ok) ≡ false → A
either_good true ok A not_done not_ok e = not_ok e
either_good false ok A not_done not_ok e = not_done refl

-- a set that failed after its opening makes the shelf's count rise
cut_here : (old new before now : ℕ) → old ≡ 0 → (new ≡ 0) ⊎ Rose before now → (played : Result RunText SessionFault) → IfOk played (λ (text : RunText). text.good ≡ false → Rose old new) → IfOk played (λ (text : RunText). text.good ≡ false → Rose before now)
cut_here old new before now none set (Ok text) cut = λ not_good. set_failed old new before now none (cut not_good) set
cut_here old new before now none set (Err fault) cut = tt

-- the disk set as it is handed back, with the answer to that
abbrev pub gave_of : List ℕ → Shape → Tape → Bool → Gave
gave_of name shape u ok = record { name = name; shape = shape; tape = u; ok = ok }

module _ (name : List ℕ) (lines : List Line) (shape used : Shape) (u : Tape) (same_shape : used ≡ shape) where
  -- what came of the session is what the run came to
  played_by : (from now : ℕ) (mid new : Stock) (ok : Bool) (played : Result RunText SessionFault) (r : Result Ended AllocError) → EndsAs played ok r
      → HandsBack mid new (gave_of name used u ok) → CameTo used u name lines played
      → IfOk played (λ (text : RunText). text.good ≡ false → Rose from now) → (ok ≡ false → Rose from now)
      → IfOk r (λ ended. GivesBack (IsPlayedAs from now name lines ended) mid new name)
  played_by from now mid new ok (Ok text) r ends back came cut not_given =
      rw ends (gave_of name used u ok, refl, back, (text.good, refl, either_good text.good ok (Rose from now) cut not_given, came))
  played_by from now mid new ok (Err session.NoPool) r ends back came cut not_given = rw ends (gave_of name used u ok, refl, back, came)
  played_by from now mid new ok (Err (session.Damaged damage)) r ends back came cut not_given = rw ends (gave_of name used u ok, refl, back, came)
  played_by from now mid new ok (Err session.Failed) r ends back came cut not_given = rw ends (gave_of name used u ok, refl, back, came)
  played_by from now mid new ok (Err session.NoMemory) (Ok ended) ends back came cut not_given = absurd ends
  played_by from now mid new ok (Err session.NoMemory) (Err fault) ends back came cut not_given = tt

  -- the same by the calls' own clauses
  pub played_as : {T E : Type 0} (from now before_faults after_faults : ℕ) (mid new : Stock) (give : Result T E) (played : Result RunText SessionFault) (r : Result Ended AllocError)
      → EndsAs played (is_ok give) r → HandsBack mid new (gave_of name used u (is_ok give)) → CameTo shape u name lines played
      → IfOk played (λ (text : RunText). text.good ≡ false → Rose before_faults after_faults)
      → before_faults ≡ 0 → (after_faults ≡ 0) ⊎ Rose from now → HasCause from now give
      → IfOk r (λ ended. GivesBack (IsPlayedAs from now name lines ended) mid new name)
  played_as from now before_faults after_faults mid new give played r ends back came cut no_faults set_faults cause =
      played_by from now mid new (is_ok give) played r ends back (subst (λ (z : Shape). CameTo z u name lines played) (sym same_shape) came)
      (cut_here before_faults after_faults from now no_faults set_faults played cut) (caused from now give cause)

  -- whatever it came to, it was some first part of the lines' run
  pub stopped_as : (mid new : Stock) (ok : Bool) (played : Result RunText SessionFault) → HandsBack mid new (gave_of name used u ok) → CameTo shape u name lines played → GivesBack (WasStopped lines) mid new name
  stopped_as mid new ok played back came =
      (gave_of name used u ok, refl, back, came_stopped used u name lines played (subst (λ (z : Shape). CameTo z u name lines played) (sym same_shape) came))

-- a run that ended with a disk fault has its cause
pub failed_as : (from now before_faults after_faults : ℕ) (ok : Bool) (played : Result RunText SessionFault) (r : Result Ended AllocError) → EndsAs played ok r
    → before_faults ≡ 0 → (IsErrOf played session.Failed → Rose before_faults after_faults) → (after_faults ≡ 0) ⊎ Rose from now → IfOk r (λ ended. ended ≡ DiskFault → Rose from now)
failed_as from now before_faults after_faults ok (Ok text) r ends no_faults failed set_faults = rw ends (λ e. cc)
failed_as from now before_faults after_faults ok (Err session.NoPool) r ends no_faults failed set_faults = rw ends (λ e. cc)
failed_as from now before_faults after_faults ok (Err (session.Damaged damage)) r ends no_faults failed set_faults = rw ends (λ e. cc)
failed_as from now before_faults after_faults ok (Err session.Failed) r ends no_faults failed set_faults =
    rw ends (λ e. set_failed before_faults after_faults from now no_faults (failed refl) set_faults)
failed_as from now before_faults after_faults ok (Err session.NoMemory) (Ok ended) ends no_faults failed set_faults = absurd ends
failed_as from now before_faults after_faults ok (Err session.NoMemory) (Err fault) ends no_faults failed set_faults = tt
