-- What the calls so far leave, with one more call and with further calls.
use Rattle.std.proofs.Common.{◌≡◌, ℕ, Bool, true, false, List, [], ◌∷◌, ◌++◌, ◌||◌, fold, refl, ap, sym, ◌∙◌}
use Rattle.std.proofs.lemmas.List.Sums.{fold_push, fold-append}
use Rattle.zc_tape.specs.Tape.{Image, Call, Write, Sync, Made, Tape, is_at, with_bytes, push}
use Rattle.zc_tape.specs.Crash.{Held, held_first, held_after, held, reads, is_spoilt, writes_at, AtRest}
use Rattle.zc_tape.proofs.Places.{neither, with_bytes_elsewhere, writes_at_neither, same_image}

-- what the calls of the tape leave
abbrev pub held_by : Tape → Held
held_by t = held t.start t.calls

-- one more call
pub held_push : (start : Image) (calls : List Made) (m : Made) → held start (calls ++ m ∷ []) ≡ held_after (held start calls) m.call m.ok
held_push start calls m = fold_push (λ h m. held_after h m.call m.ok) (held_first start) calls m

pub held_by_push : (t : Tape) (call : Call) (ok : Bool) → held_by (push t call ok) ≡ held_after (held_by t) call ok
held_by_push t call ok = held_push t.start t.calls (record { call = call; ok = ok })

-- one list of calls after the other
pub held_append : (start : Image) (xs ys : List Made) → held start (xs ++ ys) ≡ fold (λ h m. held_after h m.call m.ok) (held start xs) ys
held_append start xs ys = fold-append (λ h m. held_after h m.call m.ok) (held_first start) xs ys

-- the tape gives what it gave before the last call, where that changes nothing of it
pub reads_write_ok : (t : Tape) (device place : ℕ) (bytes : List ℕ) → reads (push t (Write device place bytes) true) ≡ with_bytes (reads t) device place bytes
reads_write_ok t device place bytes = ap (λ (h : Held). h.now) (held_by_push t (Write device place bytes) true)

pub reads_write_failed : (t : Tape) (device place : ℕ) (bytes : List ℕ) → reads (push t (Write device place bytes) false) ≡ reads t
reads_write_failed t device place bytes = ap (λ (h : Held). h.now) (held_by_push t (Write device place bytes) false)

pub reads_sync : (t : Tape) (ok : Bool) → reads (push t Sync ok) ≡ reads t
reads_sync t true = ap (λ (h : Held). h.now) (held_by_push t Sync true)
reads_sync t false = ap (λ (h : Held). h.now) (held_by_push t Sync false)

-- a failed write alone spoils, and its place alone
pub spoilt_write_ok : (t : Tape) (device place : ℕ) (bytes : List ℕ) → is_spoilt (push t (Write device place bytes) true) ≡ is_spoilt t
spoilt_write_ok t device place bytes = ap (λ (h : Held). h.spoilt) (held_by_push t (Write device place bytes) true)

pub spoilt_write_failed : (t : Tape) (device place : ℕ) (bytes : List ℕ) (d p : ℕ) → is_spoilt (push t (Write device place bytes) false) d p ≡ (is_at device place d p || is_spoilt t d p)
spoilt_write_failed t device place bytes d p = ap (λ (h : Held). h.spoilt d p) (held_by_push t (Write device place bytes) false)

pub spoilt_sync : (t : Tape) (ok : Bool) → is_spoilt (push t Sync ok) ≡ is_spoilt t
spoilt_sync t true = ap (λ (h : Held). h.spoilt) (held_by_push t Sync true)
spoilt_sync t false = ap (λ (h : Held). h.spoilt) (held_by_push t Sync false)

-- a write is unsynced, Ok or failed
pub unsynced_write : (t : Tape) (device place : ℕ) (bytes : List ℕ) (ok : Bool) → (held_by (push t (Write device place bytes) ok)).unsynced ≡ (held_by t).unsynced ++ Write device place bytes ∷ []
unsynced_write t device place bytes true = ap (λ (h : Held). h.unsynced) (held_by_push t (Write device place bytes) true)
unsynced_write t device place bytes false = ap (λ (h : Held). h.unsynced) (held_by_push t (Write device place bytes) false)

-- after an Ok sync no write is, and after a failed one the same are
pub unsynced_sync_ok : (t : Tape) → (held_by (push t Sync true)).unsynced ≡ []
unsynced_sync_ok t = ap (λ (h : Held). h.unsynced) (held_by_push t Sync true)

pub unsynced_sync_failed : (t : Tape) → (held_by (push t Sync false)).unsynced ≡ (held_by t).unsynced
unsynced_sync_failed t = ap (λ (h : Held). h.unsynced) (held_by_push t Sync false)

-- an Ok sync alone changes the synced bytes
pub synced_write : (t : Tape) (device place : ℕ) (bytes : List ℕ) (ok : Bool) → (held_by (push t (Write device place bytes) ok)).synced ≡ (held_by t).synced
synced_write t device place bytes true = ap (λ (h : Held). h.synced) (held_by_push t (Write device place bytes) true)
synced_write t device place bytes false = ap (λ (h : Held). h.synced) (held_by_push t (Write device place bytes) false)

pub synced_sync_ok : (t : Tape) → (held_by (push t Sync true)).synced ≡ reads t
synced_sync_ok t = ap (λ (h : Held). h.synced) (held_by_push t Sync true)

pub synced_sync_failed : (t : Tape) → (held_by (push t Sync false)).synced ≡ (held_by t).synced
synced_sync_failed t = ap (λ (h : Held). h.synced) (held_by_push t Sync false)

-- outside the unsynced writes the bytes are synced
abbrev pub IsSettled : Held → Type 0
IsSettled h = (d p : ℕ) → writes_at h.unsynced d p ≡ false → h.now d p ≡ h.synced d p

pub settled_after : (h : Held) (call : Call) (ok : Bool) → IsSettled h → IsSettled (held_after h call ok)
settled_after h (Write device place bytes) true s d p e =
    let both : (writes_at h.unsynced d p ≡ false) × (writes_at (Write device place bytes ∷ []) d p ≡ false) = writes_at_neither h.unsynced (Write device place bytes ∷ []) d p e
    in with_bytes_elsewhere h.now device place bytes d p (neither (is_at device place d p) false both.1).0 ∙ s d p both.0
settled_after h (Write device place bytes) false s d p e = s d p (writes_at_neither h.unsynced (Write device place bytes ∷ []) d p e).0
settled_after h Sync true s d p e = refl
settled_after h Sync false s d p e = s d p e

settled_fold : (h : Held) (calls : List Made) → IsSettled h → IsSettled (fold (λ h m. held_after h m.call m.ok) h calls)
settled_fold h [] s = s
settled_fold h (m ∷ calls) s = settled_fold (held_after h m.call m.ok) calls (settled_after h m.call m.ok s)

pub settled : (start : Image) (calls : List Made) (d p : ℕ) → writes_at (held start calls).unsynced d p ≡ false → (held start calls).now d p ≡ (held start calls).synced d p
settled start calls = settled_fold (held_first start) calls (λ d p e. refl)

-- a tape without calls is at rest, and reads its start
pub at_rest_first : (t : Tape) → t.calls ≡ [] → AtRest t
at_rest_first t e = record { synced = rw e refl; whole = λ d p. rw e refl }

pub reads_first : (t : Tape) → t.calls ≡ [] → reads t ≡ t.start
reads_first t e = rw e refl

-- at rest, what stands synced is what reads
pub synced_at_rest : (t : Tape) → AtRest t → (held_by t).synced ≡ reads t
synced_at_rest t r = same_image (held_by t).synced (reads t) (λ d p. sym (settled t.start t.calls d p (ap (λ writes. writes_at writes d p) r.synced)))
