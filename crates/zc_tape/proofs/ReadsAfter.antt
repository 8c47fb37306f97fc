-- What the tape reads when a list of calls has been made, each Ok.
use Rattle.std.proofs.Common.{◌≡◌, ℕ, Bool, true, false, List, [], ◌∷◌, ◌++◌, map, refl, ap, sym, ◌∙◌, subst, inl, inr, true≢false}
use Rattle.zc_tape.specs.Tape.{Image, Call, Write, Sync, Tape, is_at, with_bytes, push}
use Rattle.zc_tape.specs.Crash.{reads, is_spoilt, writes_at, HasWrite, AtRest}
use Rattle.zc_tape.specs.Plays.{Plays}
use Rattle.zc_tape.specs.After.{after, AreWrites}
use Rattle.zc_tape.proofs.Places.{with_bytes_there, is_at_here, left_true, with_bytes_elsewhere, neither}
use Rattle.zc_tape.proofs.HeldLaws.{reads_write_ok, reads_sync, spoilt_write_ok, spoilt_sync, unsynced_sync_ok}
use Rattle.zc_tape.proofs.Plans.{plays_whole, one_of_plays}

-- the writes of two lists, the first first
pub after_append : (image : Image) (xs ys : List Call) → after image (xs ++ ys) ≡ after (after image xs) ys
after_append image [] ys = refl
after_append image (Write device place bytes ∷ xs) ys = after_append (with_bytes image device place bytes) xs ys
after_append image (Sync ∷ xs) ys = after_append image xs ys

-- a place without a write stays
pub after_elsewhere : (image : Image) (calls : List Call) (d p : ℕ) → writes_at calls d p ≡ false → after image calls d p ≡ image d p
after_elsewhere image [] d p e = refl
after_elsewhere image (Write device place bytes ∷ calls) d p e = after_elsewhere (with_bytes image device place bytes) calls d p (neither (is_at device place d p) (writes_at calls d p) e).1 ∙ with_bytes_elsewhere image device place bytes d p (neither (is_at device place d p) (writes_at calls d p) e).0
after_elsewhere image (Sync ∷ calls) d p e = after_elsewhere image calls d p e

-- a part of writes is writes
pub are_writes_append : (xs ys : List Call) → AreWrites xs → AreWrites ys → AreWrites (xs ++ ys)
are_writes_append [] ys x y = y
are_writes_append (Write device place bytes ∷ xs) ys x y = are_writes_append xs ys x y
are_writes_append (Sync ∷ xs) ys x y = absurd x

-- and back
pub are_writes_parts : (xs ys : List Call) → AreWrites (xs ++ ys) → AreWrites xs × AreWrites ys
are_writes_parts [] ys are = (tt, are)
are_writes_parts (Write device place bytes ∷ xs) ys are = are_writes_parts xs ys are
are_writes_parts (Sync ∷ xs) ys are = absurd are

-- a write for each item
pub are_writes_map : {X : Type 0} (device place : X → ℕ) (bytes : X → List ℕ) (xs : List X) → AreWrites (map (λ x. Write (device x) (place x) (bytes x)) xs)
are_writes_map device place bytes [] = tt
are_writes_map device place bytes (x ∷ xs) = are_writes_map device place bytes xs

-- the last write to a place stands there
pub after_last_write : (image : Image) (xs ys : List Call) (d p : ℕ) (bytes : List ℕ) → writes_at ys d p ≡ false → after image (xs ++ Write d p bytes ∷ ys) d p ≡ bytes
after_last_write image xs ys d p bytes e =
    ap (λ (now : Image). now d p) (after_append image xs (Write d p bytes ∷ ys))
    ∙ after_elsewhere (with_bytes (after image xs) d p bytes) ys d p e
    ∙ with_bytes_there (after image xs) d p bytes d p (is_at_here d p)

-- a written place holds the bytes of one of the writes
pub after_has_write : (image : Image) (calls : List Call) (d p : ℕ) → writes_at calls d p ≡ true → HasWrite calls d p (after image calls d p)
after_has_write image [] d p e = absurd (true≢false (sym e))
after_has_write image (Sync ∷ calls) d p e = after_has_write image calls d p e
after_has_write image (Write device place bytes ∷ calls) d p e = at (writes_at calls d p) refl (λ later. after_has_write (with_bytes image device place bytes) calls d p later) where
  at : (more : Bool) → writes_at calls d p ≡ more → (writes_at calls d p ≡ true → HasWrite calls d p (after (with_bytes image device place bytes) calls d p))
      → HasWrite (Write device place bytes ∷ calls) d p (after (with_bytes image device place bytes) calls d p)
  at true f later = inr (later f)
  at false f later =
      let here : is_at device place d p ≡ true = left_true (is_at device place d p) (writes_at calls d p) e f
      in inl (here, sym (after_elsewhere (with_bytes image device place bytes) calls d p f ∙ with_bytes_there image device place bytes d p here))

-- each call changed what reads by its bytes
pub reads_after_played : (t u : Tape) (plan : List Call) → Plays t plan u true → reads u ≡ after (reads t) plan
reads_after_played t u [] p = ap reads p.0
reads_after_played t u (call ∷ plan) (inl stopped) = absurd (true≢false stopped.1)
reads_after_played t u (Write device place bytes ∷ plan) (inr on) =
    reads_after_played (push t (Write device place bytes) true) u plan on ∙ ap (λ now. after now plan) (reads_write_ok t device place bytes)
reads_after_played t u (Sync ∷ plan) (inr on) = reads_after_played (push t Sync true) u plan on ∙ ap (λ now. after now plan) (reads_sync t true)

-- and spoilt nothing
pub spoilt_after_played : (t u : Tape) (plan : List Call) → Plays t plan u true → is_spoilt u ≡ is_spoilt t
spoilt_after_played t u [] p = ap is_spoilt p.0
spoilt_after_played t u (call ∷ plan) (inl stopped) = absurd (true≢false stopped.1)
spoilt_after_played t u (Write device place bytes ∷ plan) (inr on) = spoilt_after_played (push t (Write device place bytes) true) u plan on ∙ spoilt_write_ok t device place bytes
spoilt_after_played t u (Sync ∷ plan) (inr on) = spoilt_after_played (push t Sync true) u plan on ∙ spoilt_sync t true

-- a plan that ends with a sync ends at rest
pub rest_after_played : (t u : Tape) (plan : List Call) → ((d p : ℕ) → is_spoilt t d p ≡ false) → Plays t (plan ++ Sync ∷ []) u true → AtRest u
rest_after_played t u plan whole p =
    let parts : (v : Tape) × (Plays t plan v true) × (Plays v (Sync ∷ []) u true) = plays_whole t u plan (Sync ∷ []) p
    in subst AtRest (sym (one_of_plays parts.0 u Sync true parts.2)) (record {
      synced = unsynced_sync_ok parts.0;
      whole = λ d p. ap (λ spoilt. spoilt d p) (spoilt_sync parts.0 true ∙ spoilt_after_played t parts.0 plan parts.1) ∙ whole d p;
    })
