-- The moments of a tape with one more call: those before it stay as they were, one has it under way, one comes after it.
use Rattle.std.proofs.Common.{◌≡◌, ℕ, ◌+◌, ◌<◌, ◌≤◌, Bool, Option, Some, None, List, [], ◌∷◌, ◌++◌, length, take, slice_get, zero, suc, refl, ap, ap₂, sym, ◌∙◌, arith, le_refl, le_of_lt}
use Rattle.std.proofs.Math.Seq.{take-length, take-append_seam}
use Rattle.std.proofs.lemmas.List.{take-append-le, take_all, length_push}
use Rattle.std.proofs.lemmas.Option.{slice_get_past}
use Rattle.zc_tape.specs.Tape.{Image, Call, Made, Tape, push}
use Rattle.zc_tape.specs.Crash.{Held, held_after, held, reads, with_call, with_under_way, synced_at, unsynced_at, Left, AtRest, writes_at}
use Rattle.zc_tape.proofs.HeldLaws.{held_by, held_by_push, synced_at_rest}

-- one more item doesn't move the ones before
pub slice_get_before : {X : Type 0} (xs : List X) (x : X) (i : ℕ) → i < length xs → slice_get (xs ++ x ∷ []) i ≡ slice_get xs i
slice_get_before [] x i h = grind arith
slice_get_before (y ∷ xs) x zero h = refl
slice_get_before (y ∷ xs) x (suc i) h = slice_get_before xs x i (omega arith)

pub slice_get_last : {X : Type 0} (xs : List X) (x : X) → slice_get (xs ++ x ∷ []) (length xs) ≡ Some x
slice_get_last [] x = refl
slice_get_last (y ∷ xs) x = slice_get_last xs x

-- a tape has one call more after a push
pub length_after_push : (t : Tape) (call : Call) (ok : Bool) → length (push t call ok).calls ≡ length t.calls + 1
length_after_push t call ok = length_push t.calls (record { call = call; ok = ok })

-- what stands at a moment goes by the calls so far, and by the call under way
unsynced_by : (start : Image) (xs ys : List Made) (a b : Option Made) → xs ≡ ys → a ≡ b → with_under_way (held start xs).unsynced a ≡ with_under_way (held start ys).unsynced b
unsynced_by start xs ys a b exy eab = ap₂ (λ calls under_way. with_under_way (held start calls).unsynced under_way) exy eab

-- after the last call of a tape nothing is under way
pub synced_at_end : (t : Tape) → synced_at t (length t.calls) ≡ (held_by t).synced
synced_at_end t = ap (λ calls. (held t.start calls).synced) (take-length t.calls)

pub unsynced_at_end : (t : Tape) → unsynced_at t (length t.calls) ≡ (held_by t).unsynced
unsynced_at_end t = unsynced_by t.start (take (length t.calls) t.calls) t.calls (slice_get t.calls (length t.calls)) None (take-length t.calls) (slice_get_past t.calls (length t.calls) (le_refl (length t.calls)))

pub nothing_under_way : (t : Tape) (i : ℕ) → length t.calls ≤ i → unsynced_at t i ≡ (held t.start (take i t.calls)).unsynced
nothing_under_way t i h = ap (λ under_way. with_under_way (held t.start (take i t.calls)).unsynced under_way) (slice_get_past t.calls i h)

-- a moment past the last call is as the last one
pub unsynced_at_past : (t : Tape) (i : ℕ) → length t.calls ≤ i → unsynced_at t i ≡ (held_by t).unsynced
unsynced_at_past t i h = nothing_under_way t i h ∙ ap (λ calls. (held t.start calls).unsynced) (take_all i t.calls h)

-- a moment before the last call doesn't see it
pub synced_at_before : (t : Tape) (call : Call) (ok : Bool) (i : ℕ) → i ≤ length t.calls → synced_at (push t call ok) i ≡ synced_at t i
synced_at_before t call ok i h = ap (λ calls. (held t.start calls).synced) (take-append-le i t.calls (record { call = call; ok = ok } ∷ []) h)

pub unsynced_at_before : (t : Tape) (call : Call) (ok : Bool) (i : ℕ) → i < length t.calls → unsynced_at (push t call ok) i ≡ unsynced_at t i
unsynced_at_before t call ok i h =
    let made : Made = record { call = call; ok = ok }
    in unsynced_by t.start (take i (t.calls ++ made ∷ [])) (take i t.calls) (slice_get (t.calls ++ made ∷ []) i) (slice_get t.calls i)
    (take-append-le i t.calls (made ∷ []) (le_of_lt h)) (slice_get_before t.calls made i h)

-- the moment in which the last call is under way
pub synced_at_under_way : (t : Tape) (call : Call) (ok : Bool) → synced_at (push t call ok) (length t.calls) ≡ (held_by t).synced
synced_at_under_way t call ok = synced_at_before t call ok (length t.calls) (le_refl (length t.calls)) ∙ synced_at_end t

pub unsynced_at_under_way : (t : Tape) (call : Call) (ok : Bool) → unsynced_at (push t call ok) (length t.calls) ≡ with_call (held_by t).unsynced call
unsynced_at_under_way t call ok =
    let made : Made = record { call = call; ok = ok }
    in unsynced_by t.start (take (length t.calls) (t.calls ++ made ∷ [])) t.calls (slice_get (t.calls ++ made ∷ []) (length t.calls)) (Some made)
    (take-append_seam t.calls (made ∷ [])) (slice_get_last t.calls made)

-- the moment after the last call
pub synced_at_after : (t : Tape) (call : Call) (ok : Bool) → synced_at (push t call ok) (length t.calls + 1) ≡ (held_after (held_by t) call ok).synced
synced_at_after t call ok = ap (λ i. synced_at (push t call ok) i) (sym (length_after_push t call ok)) ∙ synced_at_end (push t call ok) ∙ ap (λ (h : Held). h.synced) (held_by_push t call ok)

pub unsynced_at_after : (t : Tape) (call : Call) (ok : Bool) → unsynced_at (push t call ok) (length t.calls + 1) ≡ (held_after (held_by t) call ok).unsynced
unsynced_at_after t call ok = ap (λ i. unsynced_at (push t call ok) i) (sym (length_after_push t call ok)) ∙ unsynced_at_end (push t call ok) ∙ ap (λ (h : Held). h.unsynced) (held_by_push t call ok)

-- at rest, a crash after the last call leaves what reads
pub left_at_rest : (t : Tape) (image : Image) → AtRest t → Left t (length t.calls) image → (d p : ℕ) → image d p ≡ reads t d p
left_at_rest t image r left d p =
    left d p (ap (λ writes. writes_at writes d p) (unsynced_at_end t ∙ r.synced)) ∙ ap (λ (now : Image). now d p) (synced_at_end t ∙ synced_at_rest t r)
