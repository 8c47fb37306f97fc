-- A place that a plan doesn't write: at each moment a crash leaves there what was read before.
use Rattle.std.proofs.Common.{◌≡◌, ℕ, Bool, true, false, List, [], ◌∷◌, length, refl, ap, sym, ◌∙◌, subst, inl, inr}
use Rattle.zc_tape.specs.Tape.{Image, Call, Write, Sync, Tape, is_at, push}
use Rattle.zc_tape.specs.Crash.{Held, held_after, reads, with_call, writes_at, Crash, EachCrash, AtRest}
use Rattle.zc_tape.specs.Plays.{Begun}
use Rattle.zc_tape.proofs.Places.{neither, both_false, writes_at_both, with_bytes_elsewhere}
use Rattle.zc_tape.proofs.HeldLaws.{held_by, held_by_push, synced_at_rest}
use Rattle.zc_tape.proofs.CrashKinds.{IsKind}
use Rattle.zc_tape.proofs.EachCrash.{each_crash_push}
use Rattle.zc_tape.proofs.PlayWrites.{each_crash_at_rest}

-- the place holds the bytes, synced, and no write to it is unsynced
pub record HoldsAt (h : Held) (d p : ℕ) (bytes : List ℕ) : Type 0 where
  pub now : h.now d p ≡ bytes
  pub synced : h.synced d p ≡ bytes
  pub unsynced : writes_at h.unsynced d p ≡ false

pub holds_at_rest : (t : Tape) (d p : ℕ) → AtRest t → HoldsAt (held_by t) d p (reads t d p)
holds_at_rest t d p r = record { now = refl; synced = ap (λ (image : Image). image d p) (synced_at_rest t r); unsynced = ap (λ writes. writes_at writes d p) r.synced }

-- a call that is no write to it changes nothing there
holds_after : (h : Held) (call : Call) (ok : Bool) (d p : ℕ) (bytes : List ℕ)
    → writes_at (call ∷ []) d p ≡ false → HoldsAt h d p bytes → HoldsAt (held_after h call ok) d p bytes
holds_after h (Write device place put) true d p bytes e holds = record {
  now = with_bytes_elsewhere h.now device place put d p (neither (is_at device place d p) false e).0 ∙ holds.now;
  synced = holds.synced;
  unsynced = writes_at_both h.unsynced (Write device place put ∷ []) d p holds.unsynced e;
}
holds_after h (Write device place put) false d p bytes e holds = record {
  now = holds.now;
  synced = holds.synced;
  unsynced = writes_at_both h.unsynced (Write device place put ∷ []) d p holds.unsynced e;
}
holds_after h Sync true d p bytes e holds = record { now = holds.now; synced = holds.now; unsynced = refl }
holds_after h Sync false d p bytes e holds = holds

holds_push : (t : Tape) (call : Call) (ok : Bool) (d p : ℕ) (bytes : List ℕ)
    → writes_at (call ∷ []) d p ≡ false → HoldsAt (held_by t) d p bytes → HoldsAt (held_by (push t call ok)) d p bytes
holds_push t call ok d p bytes e holds = subst (λ h. HoldsAt h d p bytes) (sym (held_by_push t call ok)) (holds_after (held_by t) call ok d p bytes e holds)

-- nor is the place among the unsynced writes while the call is under way
still_unsynced : (writes : List Call) (call : Call) (d p : ℕ) → writes_at writes d p ≡ false → writes_at (call ∷ []) d p ≡ false → writes_at (with_call writes call) d p ≡ false
still_unsynced writes (Write device place put) d p e f = writes_at_both writes (Write device place put ∷ []) d p e f
still_unsynced writes Sync d p e f = e

unwritten_push : (crash : Crash) (t : Tape) (call : Call) (ok : Bool) (n d p : ℕ) (bytes : List ℕ)
    → IsKind crash → writes_at (call ∷ []) d p ≡ false → HoldsAt (held_by t) d p bytes
    → EachCrash crash t n (λ _ image. image d p ≡ bytes) → EachCrash crash (push t call ok) n (λ _ image. image d p ≡ bytes)
unwritten_push crash t call ok n d p bytes kind e holds before =
    let then : HoldsAt (held_after (held_by t) call ok) d p bytes = holds_after (held_by t) call ok d p bytes e holds
    in each_crash_push crash t call ok n (λ _ image. image d p ≡ bytes) before
    (λ image _ left. kind.may (held_by t).synced (with_call (held_by t).unsynced call) image left d p (still_unsynced (held_by t).unsynced call d p holds.unsynced e) ∙ holds.synced)
    (λ image _ left. kind.may (held_after (held_by t) call ok).synced (held_after (held_by t) call ok).unsynced image left d p then.unsynced ∙ then.synced)

-- the first call of a plan, and the rest of it
first_elsewhere : (call : Call) (plan : List Call) (d p : ℕ) → writes_at (call ∷ plan) d p ≡ false → (writes_at (call ∷ []) d p ≡ false) × (writes_at plan d p ≡ false)
first_elsewhere (Write device place put) plan d p e =
    let apart : (is_at device place d p ≡ false) × (writes_at plan d p ≡ false) = neither (is_at device place d p) (writes_at plan d p) e
    in (both_false (is_at device place d p) false apart.0 refl, apart.1)
first_elsewhere Sync plan d p e = (refl, e)

unwritten_on : (crash : Crash) (t u : Tape) (plan : List Call) (n d p : ℕ) (bytes : List ℕ)
    → IsKind crash → writes_at plan d p ≡ false → HoldsAt (held_by t) d p bytes → Begun t plan u
    → EachCrash crash t n (λ _ image. image d p ≡ bytes) → EachCrash crash u n (λ _ image. image d p ≡ bytes)
unwritten_on crash t u [] n d p bytes kind e holds b before = subst (λ v. EachCrash crash v n (λ _ image. image d p ≡ bytes)) (sym b) before
unwritten_on crash t u (call ∷ plan) n d p bytes kind e holds (inl b) before = subst (λ v. EachCrash crash v n (λ _ image. image d p ≡ bytes)) (sym b) before
unwritten_on crash t u (call ∷ plan) n d p bytes kind e holds (inr (inl b)) before =
    subst (λ v. EachCrash crash v n (λ _ image. image d p ≡ bytes)) (sym b)
    (unwritten_push crash t call false n d p bytes kind (first_elsewhere call plan d p e).0 holds before)
unwritten_on crash t u (call ∷ plan) n d p bytes kind e holds (inr (inr on)) before =
    unwritten_on crash (push t call true) u plan n d p bytes kind (first_elsewhere call plan d p e).1
    (holds_push t call true d p bytes (first_elsewhere call plan d p e).0 holds) on
    (unwritten_push crash t call true n d p bytes kind (first_elsewhere call plan d p e).0 holds before)

-- the places that a plan doesn't write, at each moment since it began at rest
pub unwritten : (crash : Crash) (t u : Tape) (plan : List Call)
    → IsKind crash → AtRest t → Begun t plan u
    → EachCrash crash u (length t.calls) (λ _ image. (d p : ℕ) → writes_at plan d p ≡ false → image d p ≡ reads t d p)
unwritten crash t u plan kind r b i image from upto left d p e =
    unwritten_on crash t u plan (length t.calls) d p (reads t d p) kind e (holds_at_rest t d p r) b
    (each_crash_at_rest crash t (λ left. left d p ≡ reads t d p) r (λ left may. kind.may (reads t) [] left may d p refl))
    i image from upto left
