-- What a creation came to, put together from the shelf's calls and the work between them.
use Rattle.std.proofs.Common.{◌≡◌, ◌≢◌, ◌⊎◌, ℕ, zero, suc, ◌<◌, ◌≤◌, Bool, true, false, List, [], ◌∷◌, ◌++◌, length, Result, Ok, Err, IsTrue, OnOk, IfOk, refl, sym, ap, ◌∙◌, subst, inl, inr, ⊎_elim, arith}
use Rattle.std.specs.Prelude.{IsErrOf, is_ok}
use Rattle.std.specs.declared.alloc.AllocError.{AllocError}
use Rattle.zc_num.specs.Limits.{AreLimits}
use Rattle.zc_tape.specs.Cause.{Rose, HasCause}
use Rattle.zc_tape.specs.Tape.{Image, Shape, Tape}
use Rattle.zc_tape.specs.Crash.{May, reads, synced_at, unsynced_at}
use Rattle.zc_tape.specs.declared.disks.Failed.{Failed}
use Rattle.zc_tape.proofs.HeldLaws.{reads_first, at_rest_first}
use Rattle.zc_io.specs.Stock.{Stock, Gave, HandsOut, HandsBack, handed_out, handed_back}
use Rattle.zc_root.specs.Root.{slot_of, HasWholeRoots, IsOpenRoot}
use Rattle.zc_root.specs.declared.body.Body.{Body}
use Rattle.zc_layout.specs.Standing.{HasNoRoot}
use Rattle.zc_group.specs.declared.create.CreateFault.{CreateFault}
use Rattle.zc_group.specs.declared.create.CreateFault.TheVariants as create
use Rattle.zc_group.specs.Created.{HoldsNothing, LeavesFirst, IsFirst, IsCreationWhole, WritesCreation}
use Rattle.zc_group.specs.Imported.{StopsAtFailure}
use Rattle.zc_group.specs.Rooted.{HasRootThere}
use Rattle.zc_prog.specs.declared.ended.Ended.{Ended}
use Rattle.zc_prog.specs.declared.ended.Ended.TheVariants.{Usage, ReadFault, TooLarge, BadLine, Missing, DiskFault, NoPool, Damaged, PoolExists, OtherSize, Played, Created}
use Rattle.zc_prog.specs.Ended.{MakesAs, LooksAs}
use Rattle.zc_prog.specs.Session.{before_calls}
use Rattle.zc_prog.specs.Pooled.{IsReturn, IsAllBack, GivesBack, HoldsOfGiven, GivesNothing, FailsCreation, IsMadeAs, IsCreatedWith, IsCreated, CreatesWhole}
use Rattle.zc_prog.proofs.Outcome.{rose_within, caused, set_failed, returned, gave_of}

-- ---- the disk set before its calls

-- a set that was just handed out has no write that failed
whole_before : (t : Tape) → t.calls ≡ [] → HasWholeRoots t
whole_before t fresh = record { whole = λ place low. (at_rest_first t fresh).whole 0 place }

-- it holds nothing where it has no root
nothing_before : (t u : Tape) → t.calls ≡ [] → u.told ≡ t.told → (IsTrue t.told → u.start ≡ t.start) → IsTrue u.told → HasNoRoot u.start → HoldsNothing t
nothing_before t u fresh same_told began told none =
    let before : IsTrue t.told = sym same_told ∙ told in
    record { told = before; at_rest = at_rest_first t fresh; none = subst HasNoRoot (began before ∙ sym (reads_first t fresh)) none }

-- a pool that was made was made where there was no root
pub no_root_before : (image : Image) → ((body : Body) → IsOpenRoot image body → ⊥) → HasNoRoot image
no_root_before image none = none

-- four places are there in any pool
four_places : (devices places : ℕ) → AreLimits devices places → 4 ≤ places
four_places devices zero limits = absurd (omega (arith, limits.enough_places))
four_places devices (suc zero) limits = absurd (omega (arith, limits.whole_regions))
four_places devices (suc (suc zero)) limits = absurd (omega (arith, limits.whole_regions))
four_places devices (suc (suc (suc zero))) limits = absurd (omega (arith, limits.whole_regions))
four_places devices (suc (suc (suc (suc places)))) limits = omega arith

-- so a root that is open is there
root_there : (shape : Shape) (image : Image) → AreLimits shape.devices shape.places → (body : Body) × IsOpenRoot image body → HasRootThere shape image
root_there shape image limits (body, root) =
    let four = four_places shape.devices shape.places limits in
    let low : slot_of body.group < 2 = omega arith in (
      slot_of body.group,
      body,
      low,
      record {
        places = record { device = limits.some_device; gate_there = omega (arith, four, low) };
        slot_is = refl;
        root = root;
      },
    )

-- the tape without its calls is the one that was handed out
before_is : (t u : Tape) → t.calls ≡ [] → u.told ≡ t.told → (IsTrue t.told → u.start ≡ t.start) → IsTrue u.told → t ≡ before_calls u
before_is t u fresh same_told began told = λ i. record { told = sym same_told i; start = sym (began (sym same_told ∙ told)) i; calls = fresh i }

-- ---- the creation on a set

-- the clauses of a creation
pub record CreatesOn (shape : Shape) (name : List ℕ) (t u : Tape) (created : Result (Unit {0}) CreateFault) : Type 0 where
  pub began : IsTrue t.told → u.start ≡ t.start
  pub any_moment : HoldsNothing t → LeavesFirst shape name t u
  pub made : OnOk created (HoldsNothing t → IsFirst shape name u)
  pub none : OnOk created (IsTrue t.told → HasWholeRoots t → HasNoRoot (reads t))
  pub exists : IsErrOf created create.PoolExists → IsTrue t.told → HasWholeRoots t → (body : Body) × IsOpenRoot (reads t) body
  pub kept : IsErrOf created create.PoolExists → u ≡ t
  pub rooted : (body : Body) → IsTrue t.told → HasWholeRoots t → IsOpenRoot (reads t) body → u ≡ t
  pub written : OnOk created (HoldsNothing t → IsCreationWhole shape name t u)
  pub begun : HoldsNothing t → WritesCreation shape name t u
  pub stops : IsErrOf created create.Failed → IsTrue t.told → StopsAtFailure t u

module _ (name : List ℕ) (shape used : Shape) (t u : Tape) (fresh : t.calls ≡ []) (same_shape : used ≡ shape) (same_told : u.told ≡ t.told) (created : Result (Unit {0}) CreateFault) (does : CreatesOn shape name t u created) where
  start_as : u ≡ t → reads t ≡ u.start
  start_as same = reads_first t fresh ∙ ap (λ (v : Tape). v.start) (sym same)

  told_before : IsTrue u.told → IsTrue t.told
  told_before told = sym same_told ∙ told

  nothing : IsTrue u.told → HasNoRoot u.start → HoldsNothing t
  nothing told none = nothing_before t u fresh same_told does.began told none

  before : IsTrue u.told → t ≡ before_calls u
  before told = before_is t u fresh same_told does.began told

  -- it is whole or not at all
  creates_whole : (ok : Bool) → CreatesWhole name (gave_of name used u ok)
  creates_whole ok = record {
    rooted = λ told body root.
        ap (λ (v : Tape). v.calls) (does.rooted body (told_before told) (whole_before t fresh) (subst (λ (image : Image). IsOpenRoot image body) (does.began (told_before told) ∙ sym (reads_first t fresh)) root)) ∙ fresh;
    writes = λ told none. subst (λ (z : Shape). WritesCreation z name (before_calls u) u) (sym same_shape) (subst (λ (v : Tape). WritesCreation shape name v u) (before told) (does.begun (nothing told none)));
    leaves = λ told none.
        subst (λ (z : Shape). LeavesFirst z name (before_calls u) u) (sym same_shape) (record { each = λ i image from. (does.any_moment (nothing told none)).each i image (omega (arith, ap length fresh)) });
  }

  fails : (ok : Bool) → IsErrOf created create.Failed → FailsCreation name (gave_of name used u ok)
  fails ok is = record {
    stops = λ told. subst (λ (v : Tape). StopsAtFailure v u) (before told) (does.stops is (told_before told));
    whole = creates_whole ok;
  }

module _ (name : List ℕ) (shape used : Shape) (t u : Tape) (fresh : t.calls ≡ []) (same_shape : used ≡ shape) (same_told : u.told ≡ t.told) where
  made_by : (from now : ℕ) (mid new : Stock) (ok : Bool) (created : Result (Unit {0}) CreateFault) (r : Result Ended AllocError) → AreLimits shape.devices shape.places
      → MakesAs created ok r → HandsBack mid new (gave_of name used u ok) → CreatesOn shape name t u created → (ok ≡ false → Rose from now)
      → IfOk r (λ ended. GivesBack (IsMadeAs from now name shape ended) mid new name)
  made_by from now mid new ok (Ok done) r limits ends back does not_given =
      rw ends (
        gave_of name used u ok,
        refl,
        back,
        (
          refl,
          not_given,
          record {
            shape_is = same_shape;
            none = none;
            first = λ told. subst (λ (z : Shape). IsFirst z name u) (sym same_shape) (does.made (holds told));
            calls = λ told.
                subst (λ (z : Shape). IsCreationWhole z name (before_calls u) u) (sym same_shape)
                (subst (λ (v : Tape). IsCreationWhole shape name v u) (before_is t u fresh same_told does.began told) (does.written (holds told)));
            whole = creates_whole name shape used t u fresh same_shape same_told (Ok done) does ok;
          },
        ),
      )
    where
      none : IsTrue u.told → HasNoRoot u.start
      none told = subst HasNoRoot (reads_first t fresh ∙ sym (does.began (sym same_told ∙ told))) (does.none (sym same_told ∙ told) (whole_before t fresh))

      holds : IsTrue u.told → HoldsNothing t
      holds told = nothing_before t u fresh same_told does.began told (none told)
  made_by from now mid new ok (Err create.PoolExists) r limits ends back does not_given =
      rw ends (
        gave_of name used u ok,
        refl,
        back,
        (
          ap (λ (v : Tape). v.calls) (does.kept refl) ∙ fresh,
          λ told. subst (HasRootThere used) (reads_first t fresh ∙ ap (λ (v : Tape). v.start) (sym (does.kept refl)))
              (subst (λ (z : Shape). HasRootThere z (reads t)) (sym same_shape) (root_there shape (reads t) limits (does.exists refl (sym same_told ∙ told) (whole_before t fresh)))),
        ),
      )
  made_by from now mid new ok (Err create.Failed) r limits ends back does not_given =
      rw ends (gave_of name used u ok, refl, back, fails name shape used t u fresh same_shape same_told (Err create.Failed) does ok refl)
  made_by from now mid new ok (Err create.NoMemory) (Ok ended) limits ends back does not_given = absurd ends
  made_by from now mid new ok (Err create.NoMemory) (Err fault) limits ends back does not_given = tt

  pub made_as : {T E : Type 0} (from now : ℕ) (mid new : Stock) (give : Result T E) (created : Result (Unit {0}) CreateFault) (r : Result Ended AllocError) → AreLimits shape.devices shape.places
      → MakesAs created (is_ok give) r → HandsBack mid new (gave_of name used u (is_ok give)) → CreatesOn shape name t u created → HasCause from now give
      → IfOk r (λ ended. GivesBack (IsMadeAs from now name shape ended) mid new name)
  made_as from now mid new give created r limits ends back does cause = made_by from now mid new (is_ok give) created r limits ends back does (caused from now give cause)

  -- it is whole or not at all
  pub creates_as : (mid new : Stock) (ok : Bool) (created : Result (Unit {0}) CreateFault) → HandsBack mid new (gave_of name used u ok) → CreatesOn shape name t u created → GivesBack (CreatesWhole name) mid new name
  creates_as mid new ok created back does = (gave_of name used u ok, refl, back, creates_whole name shape used t u fresh same_shape same_told created does ok)

-- a creation that ended with a disk fault has its cause
pub make_failed : (from now before_faults after_faults : ℕ) (ok : Bool) (created : Result (Unit {0}) CreateFault) (r : Result Ended AllocError) → MakesAs created ok r
    → before_faults ≡ 0 → (IsErrOf created create.Failed → Rose before_faults after_faults) → (after_faults ≡ 0) ⊎ Rose from now → IfOk r (λ ended. ended ≡ DiskFault → Rose from now)
make_failed from now before_faults after_faults ok (Ok done) r ends no_faults failed set_faults = rw ends (λ e. cc)
make_failed from now before_faults after_faults ok (Err create.PoolExists) r ends no_faults failed set_faults = rw ends (λ e. cc)
make_failed from now before_faults after_faults ok (Err create.Failed) r ends no_faults failed set_faults =
    rw ends (λ e. set_failed before_faults after_faults from now no_faults (failed refl) set_faults)
make_failed from now before_faults after_faults ok (Err create.NoMemory) (Ok ended) ends no_faults failed set_faults = absurd ends
make_failed from now before_faults after_faults ok (Err create.NoMemory) (Err fault) ends no_faults failed set_faults = tt

-- ---- a look at a set of another size

-- an image that may be left of a tape without calls is what it began with, place by place
no_root_left : (u : Tape) → u.calls ≡ [] → HasNoRoot u.start → (i : ℕ) (image : Image) → i ≤ length u.calls → May (synced_at u i) (unsynced_at u i) image → HasNoRoot image
no_root_left u none no_root zero image within left = λ body root. no_root body (record { gate = sym (same 0 _) ∙ root.gate; spelled = sym (same 0 _) ∙ root.spelled; fits = root.fits }) where
  same : (d p : ℕ) → image d p ≡ u.start d p
  same d p = left d p (rw none refl)
no_root_left u none no_root (suc i) image within left = absurd (omega (arith, within, ap length none))

module _ (name : List ℕ) (used : Shape) (t u : Tape) (fresh : t.calls ≡ []) (same : u ≡ t) where
  calls_none : u.calls ≡ []
  calls_none = ap (λ (v : Tape). v.calls) same ∙ fresh

  untouched_tape : u ≡ before_calls u
  untouched_tape i = record u { calls = calls_none i }

  untouched : (ok : Bool) → CreatesWhole name (gave_of name used u ok)
  untouched ok = record {
    rooted = λ told body root. calls_none;
    writes = λ told none. inl untouched_tape;
    leaves = λ told none. record { each = λ i image from within left. inl (no_root_left u calls_none none i image within left) };
  }

  pub untouched_as : (mid new : Stock) (ok : Bool) → HandsBack mid new (gave_of name used u ok) → GivesBack (CreatesWhole name) mid new name
  untouched_as mid new ok back = (gave_of name used u ok, refl, back, untouched ok)

  pub looked_as : {T E : Type 0} (shape first : Shape) (from now : ℕ) (mid new : Stock) (give : Result T E) (found : Result Bool Failed) (ended : Ended) → used ≡ first → first ≢ shape
      → LooksAs found ended → HandsBack mid new (gave_of name used u (is_ok give))
      → IfOk found (λ flag. IsTrue flag → IsTrue t.told → HasWholeRoots t → HasRootThere first (reads t))
      → IfOk found (λ flag. IsTrue t.told → HasWholeRoots t → HasRootThere first (reads t) → IsTrue flag)
      → GivesBack (IsMadeAs from now name shape ended) mid new name
  looked_as shape first from now mid new give (Ok true) ended same_shape other ends back is only =
      rw ends (
        gave_of name used u (is_ok give),
        refl,
        back,
        (calls_none, λ told. subst (λ (z : Shape). HasRootThere z u.start) (sym same_shape) (subst (HasRootThere first) start_same (is refl (ap (λ (v : Tape). v.told) (sym same) ∙ told) (whole_before t fresh)))),
      )
    where
      start_same : reads t ≡ u.start
      start_same = reads_first t fresh ∙ ap (λ (v : Tape). v.start) (sym same)
  looked_as shape first from now mid new give (Ok false) ended same_shape other ends back is only =
      rw ends (
        gave_of name used u (is_ok give),
        refl,
        back,
        (
          calls_none,
          λ e. other (sym same_shape ∙ e),
          λ told there. cc_of (only (ap (λ (v : Tape). v.told) (sym same) ∙ told) (whole_before t fresh) (subst (HasRootThere first) (sym start_same) (subst (λ (z : Shape). HasRootThere z u.start) same_shape there))),
        ),
      )
    where
      start_same : reads t ≡ u.start
      start_same = reads_first t fresh ∙ ap (λ (v : Tape). v.start) (sym same)

      cc_of : false ≡ true → ⊥
      cc_of e = cc
  looked_as shape first from now mid new give (Err fault) ended same_shape other ends back is only =
      rw ends (
        gave_of name used u (is_ok give),
        refl,
        back,
        record { stops = λ told. inl untouched_tape; whole = untouched (is_ok give) },
      )

-- a look that ended with a disk fault has its cause
pub look_failed : (from now before_faults after_faults : ℕ) (found : Result Bool Failed) (ended : Ended) → LooksAs found ended → before_faults ≡ 0 → HasCause before_faults after_faults found
    → (after_faults ≡ 0) ⊎ Rose from now → ended ≡ DiskFault → Rose from now
look_failed from now before_faults after_faults (Ok true) ended ends no_faults cause set_faults e = cc
look_failed from now before_faults after_faults (Ok false) ended ends no_faults cause set_faults e = cc
look_failed from now before_faults after_faults (Err fault) ended ends no_faults cause set_faults e = set_failed before_faults after_faults from now no_faults cause.failed set_faults

-- ---- shapes

pub same_shape : (shape : Shape) (devices places : ℕ) → shape.devices ≡ devices → shape.places ≡ places → shape ≡ record { devices = devices; places = places }
same_shape shape devices places d p = λ i. record { devices = d i; places = p i }

pub other_devices : (shape : Shape) (devices places : ℕ) → (shape.devices ≡ devices → ⊥) → shape ≢ record { devices = devices; places = places }
other_devices shape devices places other e = other (ap (λ (z : Shape). z.devices) e)

pub other_places : (shape : Shape) (devices places : ℕ) → (shape.places ≡ places → ⊥) → shape ≢ record { devices = devices; places = places }
other_places shape devices places other e = other (ap (λ (z : Shape). z.places) e)

-- ---- what the name came to

-- earlier counts are as much a cause
made_later : (before from now : ℕ) (name : List ℕ) (shape : Shape) (ended : Ended) (gave : Gave) → before ≤ from → IsMadeAs from now name shape ended gave → IsMadeAs before now name shape ended gave
made_later before from now name shape Usage gave later is = is
made_later before from now name shape ReadFault gave later is = is
made_later before from now name shape TooLarge gave later is = is
made_later before from now name shape (BadLine line) gave later is = is
made_later before from now name shape Missing gave later is = is
made_later before from now name shape NoPool gave later is = is
made_later before from now name shape (Damaged damage) gave later is = is
made_later before from now name shape (Played text good) gave later is = is
made_later before from now name shape DiskFault gave later is = is
made_later before from now name shape PoolExists gave later is = is
made_later before from now name shape OtherSize gave later is = is
made_later before from now name shape (Created given) gave later is = (is.0, λ not_given. rose_within before from now now later (is.1 not_given) (omega arith), is.2)

-- a disk set that could be neither taken nor made
pub not_made : (old new : Stock) (before now : ℕ) (name : List ℕ) (shape : Shape) → Rose before now → (IsTrue old.told → new ≡ old) → IsCreated old new before now name shape DiskFault
not_made old new before now name shape rose kept = (rose, inl (λ told. ap (λ (s : Stock). s.gives) (kept told)))

module _ (old mid new : Stock) (before from now : ℕ) (name : List ℕ) (shape : Shape) (same : mid.told ≡ old.told) (out : HandsOut old mid name) (later : before ≤ from) where
  created_with : (ended : Ended) → GivesBack (IsMadeAs from now name shape ended) mid new name → IsCreatedWith old new name (IsMadeAs before now name shape ended)
  created_with ended (gave, name_is, back, is) =
      (gave, record { name_is = name_is; stock = returned old mid new name gave same out back }, made_later before from now name shape ended gave later is)

  created_one : (ended : Ended) → GivesBack (IsMadeAs from now name shape ended) mid new name → (ended ≡ DiskFault → Rose from now) → IsCreated old new before now name shape ended
  created_one Usage (gave, name_is, back, is) failed = is
  created_one ReadFault (gave, name_is, back, is) failed = is
  created_one TooLarge (gave, name_is, back, is) failed = is
  created_one (BadLine line) (gave, name_is, back, is) failed = is
  created_one Missing (gave, name_is, back, is) failed = is
  created_one NoPool (gave, name_is, back, is) failed = is
  created_one (Damaged damage) (gave, name_is, back, is) failed = is
  created_one (Played text good) (gave, name_is, back, is) failed = is
  created_one DiskFault given failed = (rose_within before from now now later (failed refl) (omega arith), inr (created_with DiskFault given))
  created_one PoolExists given failed = created_with PoolExists given
  created_one OtherSize given failed = created_with OtherSize given
  created_one (Created given) back failed = created_with (Created given) back

  pub created : (r : Result Ended AllocError) → IfOk r (λ ended. GivesBack (IsMadeAs from now name shape ended) mid new name) → IfOk r (λ ended. ended ≡ DiskFault → Rose from now)
      → IfOk r (IsCreated old new before now name shape)
  created (Ok ended) is failed = created_one ended is failed
  created (Err fault) is failed = tt

-- what stands on the shelf before is the same
module _ (old mid new : Stock) (name : List ℕ) (same : mid.told ≡ old.told) (kept : IsTrue old.told → mid ≡ old) where
  return_same : (gave : Gave) → IsReturn mid new name gave → IsReturn old new name gave
  return_same gave is = record { name_is = is.name_is; stock = λ told. is.stock (same ∙ told) ∙ ap (λ (s : Stock). handed_back (handed_out s name) gave) (kept told) }

  created_same_one : (before from now : ℕ) (shape : Shape) (ended : Ended) → before ≤ from → IsCreated mid new from now name shape ended → IsCreated old new before now name shape ended
  created_same_one before from now shape Usage later is = is
  created_same_one before from now shape ReadFault later is = is
  created_same_one before from now shape TooLarge later is = is
  created_same_one before from now shape (BadLine line) later is = is
  created_same_one before from now shape Missing later is = is
  created_same_one before from now shape NoPool later is = is
  created_same_one before from now shape (Damaged damage) later is = is
  created_same_one before from now shape (Played text good) later is = is
  created_same_one before from now shape DiskFault later (rose, given) = (
    rose_within before from now now later rose (omega arith),
    ⊎_elim
        (λ (none : GivesNothing mid new). inl (λ told. none (same ∙ told) ∙ ap (λ (s : Stock). s.gives) (kept told)))
        (λ (one : IsCreatedWith mid new name (IsMadeAs from now name shape DiskFault)). inr (one.0, return_same one.0 one.1, one.2))
        given,
  )
  created_same_one before from now shape PoolExists later (gave, returned_is, is) = (gave, return_same gave returned_is, is)
  created_same_one before from now shape OtherSize later (gave, returned_is, is) = (gave, return_same gave returned_is, is)
  created_same_one before from now shape (Created given) later (gave, returned_is, is) = (gave, return_same gave returned_is, made_later before from now name shape (Created given) gave later is)

  pub created_same : (before from now : ℕ) (shape : Shape) (r : Result Ended AllocError) → before ≤ from → IfOk r (IsCreated mid new from now name shape) → IfOk r (IsCreated old new before now name shape)
  created_same before from now shape (Ok ended) later is = created_same_one before from now shape ended later is
  created_same before from now shape (Err fault) later is = tt

  pub back_same : IsAllBack mid new → IsAllBack old new
  back_same back told n is_out = ap (λ (s : Stock). s.out n) (sym (kept told)) ∙ back (same ∙ told) n is_out

  pub holds_same : (P : Gave → Type 0) → HoldsOfGiven P mid new name → HoldsOfGiven P old new name
  holds_same P holds told =
      ⊎_elim
      (λ (none : new.gives ≡ mid.gives). inl (none ∙ ap (λ (s : Stock). s.gives) (kept told)))
      (λ (one : (gave : Gave) × (gave.name ≡ name) × (new.gives ≡ mid.gives ++ gave ∷ []) × P gave). inr (one.0, one.1, one.2 ∙ ap (λ (s : Stock). s.gives ++ one.0 ∷ []) (kept told), one.3))
      (holds (same ∙ told))
