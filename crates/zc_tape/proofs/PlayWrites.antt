-- A run of writes and then a sync, begun on a tape at rest: what each crash may leave, and where it ends.
use Rattle.std.proofs.Common.{◌≡◌, ℕ, ◌+◌, ◌≤◌, ◌⊎◌, Bool, true, false, List, [], ◌∷◌, ◌++◌, length, refl, ap, sym, ◌∙◌, subst, subst₂, inl, inr, ⊎_elim, arith, append_assoc, le_refl}
use Rattle.zc_tape.specs.Tape.{Image, Call, Write, Sync, Tape, push}
use Rattle.zc_tape.specs.Crash.{reads, synced_at, unsynced_at, Crash, May, EachCrash, AtRest}
use Rattle.zc_tape.specs.Plays.{Plays, Begun}
use Rattle.zc_tape.specs.After.{after, AreWrites}
use Rattle.zc_tape.proofs.HeldLaws.{held_by, synced_at_rest, unsynced_write, synced_write}
use Rattle.zc_tape.proofs.Moments.{length_after_push, synced_at_end, unsynced_at_end}
use Rattle.zc_tape.proofs.CrashKinds.{IsKind}
use Rattle.zc_tape.proofs.EachCrash.{each_crash_write, each_crash_sync, each_crash_join}
use Rattle.zc_tape.proofs.Plans.{begun_parts, begun_played, begun_front, begun_then, plays_then, extends_begun, extends_played}
use Rattle.zc_tape.proofs.ReadsAfter.{after_append, reads_after_played, rest_after_played}

-- on a synced image some writes were made, each Ok, and no sync since
record IsWriting (image : Image) (done : List Call) (t : Tape) : Type 0 where
  synced : (held_by t).synced ≡ image
  unsynced : (held_by t).unsynced ≡ done

writing_at_rest : (t : Tape) → AtRest t → IsWriting (reads t) [] t
writing_at_rest t r = record { synced = synced_at_rest t r; unsynced = r.synced }

writing_more : (image : Image) (done : List Call) (t : Tape) (device place : ℕ) (bytes : List ℕ)
    → IsWriting image done t → IsWriting image (done ++ Write device place bytes ∷ []) (push t (Write device place bytes) true)
writing_more image done t device place bytes w = record {
  synced = synced_write t device place bytes true ∙ w.synced;
  unsynced = unsynced_write t device place bytes true ∙ ap (λ writes. writes ++ Write device place bytes ∷ []) w.unsynced;
}

-- the next write of the plan, Ok or failed
each_crash_one_more : (crash : Crash) (image : Image) (done writes : List Call) (t : Tape) (device place : ℕ) (bytes : List ℕ) (ok : Bool) (n : ℕ) (P : Image → Type 0)
    → IsWriting image done t → EachCrash crash t n (λ _ left. P left)
    → ((front back : List Call) → front ++ back ≡ done ++ Write device place bytes ∷ writes → (left : Image) → crash image front left → P left)
    → EachCrash crash (push t (Write device place bytes) ok) n (λ _ left. P left)
each_crash_one_more crash image done writes t device place bytes ok n P w before each =
    each_crash_write crash t device place bytes ok n (λ _ left. P left) before
    (λ i left _ _ _ may. each (done ++ Write device place bytes ∷ []) writes (append_assoc done (Write device place bytes ∷ []) writes) left
    (subst₂ (λ synced unsynced. crash synced (unsynced ++ Write device place bytes ∷ []) left) w.synced w.unsynced may))

-- the writes of the plan, and then the sync: each moment has what a crash over each front of the writes has
each_crash_writing : (crash : Crash) (image : Image) (done writes : List Call) (t u : Tape) (n : ℕ) (P : Image → Type 0)
    → IsKind crash → IsWriting image done t → AreWrites writes
    → Begun t (writes ++ Sync ∷ []) u
    → n ≤ length t.calls → EachCrash crash t n (λ _ left. P left)
    → ((front back : List Call) → front ++ back ≡ done ++ writes → (left : Image) → crash image front left → P left)
    → EachCrash crash u n (λ _ left. P left)
each_crash_writing crash image done [] t u n P kind w are (inl e) reached before each = subst (λ v. EachCrash crash v n (λ _ left. P left)) (sym e) before
each_crash_writing crash image done [] t u n P kind w are (inr (inl e)) reached before each =
    subst (λ v. EachCrash crash v n (λ _ left. P left)) (sym e) (each_crash_sync crash t false n (λ _ left. P left) kind reached before (λ left p. p))
each_crash_writing crash image done [] t u n P kind w are (inr (inr e)) reached before each =
    subst (λ v. EachCrash crash v n (λ _ left. P left)) (sym e) (each_crash_sync crash t true n (λ _ left. P left) kind reached before (λ left p. p))
each_crash_writing crash image done (Sync ∷ writes) t u n P kind w are b reached before each = absurd are
each_crash_writing crash image done (Write device place bytes ∷ writes) t u n P kind w are (inl e) reached before each = subst (λ v. EachCrash crash v n (λ _ left. P left)) (sym e) before
each_crash_writing crash image done (Write device place bytes ∷ writes) t u n P kind w are (inr (inl e)) reached before each =
    subst (λ v. EachCrash crash v n (λ _ left. P left)) (sym e) (each_crash_one_more crash image done writes t device place bytes false n P w before each)
each_crash_writing crash image done (Write device place bytes ∷ writes) t u n P kind w are (inr (inr on)) reached before each =
    each_crash_writing crash image (done ++ Write device place bytes ∷ []) writes (push t (Write device place bytes) true) u n P kind
    (writing_more image done t device place bytes w) are on
    (let e : length (push t (Write device place bytes) true).calls ≡ length t.calls + 1 = length_after_push t (Write device place bytes) true in omega arith)
    (each_crash_one_more crash image done writes t device place bytes true n P w before each)
    (λ front back e. each front back (e ∙ append_assoc done (Write device place bytes ∷ []) writes))

-- at rest, a crash leaves what one over no writes leaves
pub each_crash_at_rest : (crash : Crash) (t : Tape) (P : Image → Type 0)
    → AtRest t → ((image : Image) → crash (reads t) [] image → P image) → EachCrash crash t (length t.calls) (λ _ image. P image)
each_crash_at_rest crash t P r each i image from upto left =
    let e : i ≡ length t.calls = omega arith
    in each image (subst₂ (λ synced unsynced. crash synced unsynced image)
    (ap (λ k. synced_at t k) e ∙ synced_at_end t ∙ synced_at_rest t r) (ap (λ k. unsynced_at t k) e ∙ unsynced_at_end t ∙ r.synced) left)

-- so it leaves what reads
pub each_crash_reads : (crash : Crash) (t : Tape) → IsKind crash → AtRest t → EachCrash crash t (length t.calls) (λ _ image. (d p : ℕ) → image d p ≡ reads t d p)
each_crash_reads crash t kind r = each_crash_at_rest crash t (λ image. (d p : ℕ) → image d p ≡ reads t d p) r (λ image left d p. kind.may (reads t) [] image left d p refl)

-- each moment from the first write on
pub each_crash_writes : (crash : Crash) (t u : Tape) (writes : List Call) (P : Image → Type 0)
    → IsKind crash → AtRest t → AreWrites writes
    → Begun t (writes ++ Sync ∷ []) u
    → ((front back : List Call) → front ++ back ≡ writes → (image : Image) → crash (reads t) front image → P image)
    → EachCrash crash u (length t.calls) (λ _ image. P image)
each_crash_writes crash t u writes P kind r are b each =
    each_crash_writing crash (reads t) [] writes t u (length t.calls) P kind (writing_at_rest t r) are b (le_refl (length t.calls))
    (each_crash_at_rest crash t P r (each [] writes refl)) each

-- made and synced, the writes read
pub reads_after_writes : (t u : Tape) (writes : List Call) → Plays t (writes ++ Sync ∷ []) u true → reads u ≡ after (reads t) writes
reads_after_writes t u writes p = reads_after_played t u (writes ++ Sync ∷ []) p ∙ after_append (reads t) writes (Sync ∷ [])

-- what a front of the writes may leave, all of them may: so it is enough to look at those
pub fronts_from_whole : (crash : Crash) (synced : Image) (writes : List Call) (P : Image → Type 0)
    → IsKind crash → ((image : Image) → crash synced writes image → P image)
    → (front back : List Call) → front ++ back ≡ writes → (image : Image) → crash synced front image → P image
fronts_from_whole crash synced writes P kind each front back e image left =
    each image (subst (λ calls. crash synced calls image) e (kind.more_writes synced front back image left))

-- and any kind of crash leaves no more than any bytes at their places
pub fronts_from_all : (crash : Crash) (synced : Image) (writes : List Call) (P : Image → Type 0)
    → IsKind crash → ((image : Image) → May synced writes image → P image)
    → (front back : List Call) → front ++ back ≡ writes → (image : Image) → crash synced front image → P image
fronts_from_all crash synced writes P kind each =
    fronts_from_whole crash synced writes P kind (λ image left. each image (kind.may synced writes image left))

-- a plan stopped within a front of its calls, and each moment so far has the fact
pub record IsStopped (crash : Crash) (t u : Tape) (front : List Call) (P : Image → Type 0) : Type 0 where
  pub begun : Begun t front u
  pub each : EachCrash crash u (length t.calls) (λ _ image. P image)

-- a plan that stopped early stopped within each longer front
pub stopped_within_more : (crash : Crash) (t u : Tape) (front back : List Call) (P : Image → Type 0) → IsStopped crash t u front P → IsStopped crash t u (front ++ back) P
stopped_within_more crash t u front back P stopped = record { begun = begun_front t u front back stopped.begun; each = stopped.each }

-- a front of a plan is made and synced, its image reads, each moment so far has the fact, and the rest is begun
pub record IsReached (crash : Crash) (t u v : Tape) (front rest : List Call) (now : Image) (P : Image → Type 0) : Type 0 where
  pub played : Plays t front v true
  pub each : EachCrash crash v (length t.calls) (λ _ image. P image)
  pub at_rest : AtRest v
  pub reads_as : reads v ≡ now
  pub rest_begun : Begun v rest u

-- a run of writes and a sync: the plan stopped within, or has made them
pub play_writes : (crash : Crash) (t u : Tape) (writes rest : List Call) (P : Image → Type 0)
    → IsKind crash → AtRest t → AreWrites writes
    → Begun t (writes ++ Sync ∷ rest) u
    → ((front back : List Call) → front ++ back ≡ writes → (image : Image) → crash (reads t) front image → P image)
    → IsStopped crash t u (writes ++ Sync ∷ []) P ⊎ ((v : Tape) × IsReached crash t u v (writes ++ Sync ∷ []) rest (after (reads t) writes) P)
play_writes crash t u writes rest P kind r are b each =
    ⊎_elim
    (λ within. inl (record { begun = within; each = each_crash_writes crash t u writes P kind r are within each }))
    (λ made. inr (
      made.0,
      record {
        played = made.1;
        each = each_crash_writes crash t made.0 writes P kind r are (begun_played t made.0 (writes ++ Sync ∷ []) true made.1) each;
        at_rest = rest_after_played t made.0 writes r.whole made.1;
        reads_as = reads_after_writes t made.0 writes made.1;
        rest_begun = made.2;
      },
    ))
    (begun_parts t u (writes ++ Sync ∷ []) rest (subst (λ plan. Begun t plan u) (sym (append_assoc writes (Sync ∷ []) rest)) b))

-- the same, for a plan that has gone so far already
pub play_writes_on : (crash : Crash) (t u v : Tape) (front writes rest : List Call) (now : Image) (P : Image → Type 0)
    → IsKind crash → AreWrites writes
    → IsReached crash t u v front (writes ++ Sync ∷ rest) now P
    → ((part back : List Call) → part ++ back ≡ writes → (image : Image) → crash now part image → P image)
    → IsStopped crash t u (front ++ (writes ++ Sync ∷ [])) P ⊎ ((w : Tape) × IsReached crash t u w (front ++ (writes ++ Sync ∷ [])) rest (after now writes) P)
play_writes_on crash t u v front writes rest now P kind are so_far each =
    ⊎_elim
    (λ stopped. inl (record {
      begun = begun_then t v u front (writes ++ Sync ∷ []) so_far.played stopped.begun;
      each = each_crash_join crash v u (length t.calls) (λ _ image. P image) (λ _ image. P image) (λ _ image. P image)
          (extends_begun v u (writes ++ Sync ∷ []) stopped.begun) so_far.each stopped.each (λ i image _ _ p. p) (λ i image _ _ p. p);
    }))
    (λ made. inr (
      made.0,
      record {
        played = plays_then t v made.0 front (writes ++ Sync ∷ []) true so_far.played made.1.played;
        each = each_crash_join crash v made.0 (length t.calls) (λ _ image. P image) (λ _ image. P image) (λ _ image. P image)
            (extends_played v made.0 (writes ++ Sync ∷ []) true made.1.played) so_far.each made.1.each (λ i image _ _ p. p) (λ i image _ _ p. p);
        at_rest = made.1.at_rest;
        reads_as = made.1.reads_as ∙ ap (λ image. after image writes) so_far.reads_as;
        rest_begun = made.1.rest_begun;
      },
    ))
    (play_writes crash v u writes rest P kind so_far.at_rest are so_far.rest_begun
    (λ part back e image left. each part back e image (subst (λ synced. crash synced part image) so_far.reads_as left)))
