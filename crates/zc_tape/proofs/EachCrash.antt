-- What each crash may leave: one more call, weaker facts, later moments, and two parts of a tape joined.
use Rattle.std.proofs.Common.{◌≡◌, ℕ, ◌+◌, ◌<◌, ◌≤◌, ◌⊎◌, Bool, true, false, Option, Some, None, List, [], ◌∷◌, take, slice_get, le_of_eq, ◌++◌, length, sym, subst, subst₂, inl, inr, ⊎_elim, arith, le_refl, le_trans, le_of_lt, eq-or-lt_of_le}
use Rattle.std.proofs.lemmas.Bool.{cases_lt}
use Rattle.zc_tape.specs.Tape.{Made, Image, Call, Write, Sync, Tape, push}
use Rattle.zc_tape.specs.Crash.{held_after, reads, with_call, with_under_way, held, synced_at, unsynced_at, Crash, EachCrash}
use Rattle.zc_tape.proofs.CrashKinds.{IsKind}
use Rattle.zc_tape.proofs.Extends.{Extends, extends_length, synced_at_frozen, unsynced_at_frozen, unsynced_at_on}
use Rattle.zc_tape.proofs.HeldLaws.{held_by}
use Rattle.zc_tape.proofs.Moments.{nothing_under_way, length_after_push, synced_at_end, unsynced_at_end, synced_at_before, unsynced_at_before, synced_at_under_way, unsynced_at_under_way, synced_at_after, unsynced_at_after}

-- the cases of a moment of a tape with one more call
moment_of_push : (n i : ℕ) → i ≤ n + 1 → (i < n) ⊎ ((i ≡ n) ⊎ (i ≡ n + 1))
moment_of_push n i h = ⊎_elim (λ e. inr (inr e)) (λ lt. ⊎_elim (λ e. inr (inl e)) inl (eq-or-lt_of_le (omega arith))) (eq-or-lt_of_le h)

-- a fact about a moment, under another number for it
at_moment : (crash : Crash) (t : Tape) (n : ℕ) (P : ℕ → Image → Type 0) (image : Image) (i m : ℕ) → i ≡ m
    → (n ≤ m → crash (synced_at t m) (unsynced_at t m) image → P m image)
    → n ≤ i → crash (synced_at t i) (unsynced_at t i) image → P i image
at_moment crash t n P image i m e at = subst (λ k. n ≤ k → crash (synced_at t k) (unsynced_at t k) image → P k image) (sym e) at

-- one more call: with it under way, and after it
pub each_crash_push : (crash : Crash) (t : Tape) (call : Call) (ok : Bool) (n : ℕ) (P : ℕ → Image → Type 0)
    → EachCrash crash t n P
    → ((image : Image) → n ≤ length t.calls → crash (held_by t).synced (with_call (held_by t).unsynced call) image → P (length t.calls) image)
    → ((image : Image) → n ≤ length t.calls + 1 → crash (held_after (held_by t) call ok).synced (held_after (held_by t) call ok).unsynced image → P (length t.calls + 1) image)
    → EachCrash crash (push t call ok) n P
each_crash_push crash t call ok n P old under_way later i image from upto left = at (moment_of_push (length t.calls) i (subst (λ m. i ≤ m) (length_after_push t call ok) upto)) where
  at : (i < length t.calls) ⊎ ((i ≡ length t.calls) ⊎ (i ≡ length t.calls + 1)) → P i image
  at (inl lt) = old i image from (le_of_lt lt) (subst₂ (λ synced unsynced. crash synced unsynced image) (synced_at_before t call ok i (le_of_lt lt)) (unsynced_at_before t call ok i lt) left)
  at (inr (inl e)) = at_moment crash (push t call ok) n P image i (length t.calls) e
      (λ reached now. under_way image reached (subst₂ (λ synced unsynced. crash synced unsynced image) (synced_at_under_way t call ok) (unsynced_at_under_way t call ok) now)) from left
  at (inr (inr e)) = at_moment crash (push t call ok) n P image i (length t.calls + 1) e
      (λ reached now. later image reached (subst₂ (λ synced unsynced. crash synced unsynced image) (synced_at_after t call ok) (unsynced_at_after t call ok) now)) from left

-- a write, Ok or failed: it is unsynced while it is under way and afterwards
pub each_crash_write : (crash : Crash) (t : Tape) (device place : ℕ) (bytes : List ℕ) (ok : Bool) (n : ℕ) (P : ℕ → Image → Type 0)
    → EachCrash crash t n P
    → ((i : ℕ) (image : Image) → n ≤ i → length t.calls ≤ i → i ≤ length t.calls + 1 → crash (held_by t).synced ((held_by t).unsynced ++ Write device place bytes ∷ []) image → P i image)
    → EachCrash crash (push t (Write device place bytes) ok) n P
each_crash_write crash t device place bytes true n P old new = each_crash_push crash t (Write device place bytes) true n P old
    (λ image reached left. new (length t.calls) image reached (omega arith) (omega arith) left)
    (λ image reached left. new (length t.calls + 1) image reached (omega arith) (omega arith) left)
each_crash_write crash t device place bytes false n P old new = each_crash_push crash t (Write device place bytes) false n P old
    (λ image reached left. new (length t.calls) image reached (omega arith) (omega arith) left)
    (λ image reached left. new (length t.calls + 1) image reached (omega arith) (omega arith) left)

-- while a sync is under way nothing new is unsynced
sync_under_way : (crash : Crash) (t : Tape) (n : ℕ) (P : ℕ → Image → Type 0) → EachCrash crash t n P
    → (image : Image) → n ≤ length t.calls → crash (held_by t).synced (held_by t).unsynced image → P (length t.calls) image
sync_under_way crash t n P old image reached left = old (length t.calls) image reached (le_refl (length t.calls))
    (subst₂ (λ synced unsynced. crash synced unsynced image) (sym (synced_at_end t)) (sym (unsynced_at_end t)) left)

-- an Ok sync: afterwards all that reads is synced
pub each_crash_sync_ok : (crash : Crash) (t : Tape) (n : ℕ) (P : ℕ → Image → Type 0)
    → EachCrash crash t n P
    → ((image : Image) → n ≤ length t.calls + 1 → crash (reads t) [] image → P (length t.calls + 1) image)
    → EachCrash crash (push t Sync true) n P
each_crash_sync_ok crash t n P old new = each_crash_push crash t Sync true n P old (sync_under_way crash t n P old) new

-- a failed sync: nothing new
pub each_crash_sync_failed : (crash : Crash) (t : Tape) (n : ℕ) (P : ℕ → Image → Type 0)
    → n ≤ length t.calls
    → EachCrash crash t n P
    → ((image : Image) → P (length t.calls) image → P (length t.calls + 1) image)
    → EachCrash crash (push t Sync false) n P
each_crash_sync_failed crash t n P reached old keeps = each_crash_push crash t Sync false n P old (sync_under_way crash t n P old)
    (λ image _ left. keeps image (sync_under_way crash t n P old image reached left))

-- a sync, Ok or failed, where it adds nothing
pub each_crash_sync : (crash : Crash) (t : Tape) (ok : Bool) (n : ℕ) (P : ℕ → Image → Type 0)
    → IsKind crash → n ≤ length t.calls
    → EachCrash crash t n P
    → ((image : Image) → P (length t.calls) image → P (length t.calls + 1) image)
    → EachCrash crash (push t Sync ok) n P
each_crash_sync crash t true n P kind reached old keeps = each_crash_sync_ok crash t n P old
    (λ image _ left. keeps image (sync_under_way crash t n P old image reached (kind.after_sync t image left)))
each_crash_sync crash t false n P kind reached old keeps = each_crash_sync_failed crash t n P reached old keeps

-- a weaker fact
pub each_crash_weaker : (crash : Crash) (t : Tape) (n : ℕ) (P Q : ℕ → Image → Type 0)
    → EachCrash crash t n P → ((i : ℕ) (image : Image) → n ≤ i → i ≤ length t.calls → P i image → Q i image) → EachCrash crash t n Q
each_crash_weaker crash t n P Q each weaker i image from upto left = weaker i image from upto (each i image from upto left)

-- two facts
pub each_crash_both : (crash : Crash) (t : Tape) (n : ℕ) (P Q : ℕ → Image → Type 0)
    → EachCrash crash t n P → EachCrash crash t n Q → EachCrash crash t n (λ i image. P i image × Q i image)
each_crash_both crash t n P Q each_p each_q i image from upto left = (each_p i image from upto left, each_q i image from upto left)

-- from a later moment on
pub each_crash_later : (crash : Crash) (t : Tape) (n m : ℕ) (P : ℕ → Image → Type 0)
    → n ≤ m → EachCrash crash t n P → EachCrash crash t m P
each_crash_later crash t n m P later each i image from upto left = each i image (le_trans later from) upto left

-- a kind of crash that leaves less
pub each_crash_of_kind : (crash less : Crash) (t : Tape) (n : ℕ) (P : ℕ → Image → Type 0)
    → ((synced : Image) (unsynced : List Call) (image : Image) → less synced unsynced image → crash synced unsynced image)
    → EachCrash crash t n P → EachCrash less t n P
each_crash_of_kind crash less t n P is_less each i image from upto left = each i image from upto (is_less (synced_at t i) (unsynced_at t i) image left)

-- a moment before the end of the shorter tape is one of the longer tape
pub each_crash_before : (crash : Crash) (t u : Tape) (n : ℕ) (P : ℕ → Image → Type 0)
    → Extends t u → EachCrash crash t n P
    → (i : ℕ) (image : Image) → n ≤ i → i < length t.calls → crash (synced_at u i) (unsynced_at u i) image → P i image
each_crash_before crash t u n P longer each i image from lt left = each i image from (le_of_lt lt)
    (subst₂ (λ synced unsynced. crash synced unsynced image) (synced_at_frozen t u i longer (le_of_lt lt)) (unsynced_at_frozen t u i longer lt) left)

-- what held up to a job, and what holds since its first moment, where both give one fact
pub each_crash_join : (crash : Crash) (t u : Tape) (n : ℕ) (P Q R : ℕ → Image → Type 0)
    → Extends t u → EachCrash crash t n P → EachCrash crash u (length t.calls) Q
    → ((i : ℕ) (image : Image) → n ≤ i → i < length t.calls → P i image → R i image)
    → ((i : ℕ) (image : Image) → length t.calls ≤ i → i ≤ length u.calls → Q i image → R i image)
    → EachCrash crash u n R
each_crash_join crash t u n P Q R longer before since from_p from_q i image from upto left = at (cases_lt i (length t.calls)) where
  at : (i < length t.calls) ⊎ (length t.calls ≤ i) → R i image
  at (inl lt) = from_p i image from lt (each_crash_before crash t u n P longer before i image from lt left)
  at (inr le) = from_q i image le upto (since i image le upto left)

-- a crash with the call under way allows what one without it does
with_under_way_allows : (crash : Crash) (synced : Image) (unsynced : List Call) (under_way : Option Made) (image : Image)
    → IsKind crash → crash synced unsynced image → crash synced (with_under_way unsynced under_way) image
with_under_way_allows crash synced unsynced None image kind left = left
with_under_way_allows crash synced unsynced (Some m) image kind left = allows m.call where
  allows : (call : Call) → crash synced (with_call unsynced call) image
  allows (Write device place bytes) = kind.more_writes synced unsynced (Write device place bytes ∷ []) image left
  allows Sync = left

-- the moments of a tape that has gone on since tell those of the shorter one
pub each_crash_shorter : (crash : Crash) (t u : Tape) (n : ℕ) (P : ℕ → Image → Type 0)
    → IsKind crash → Extends t u → EachCrash crash u n P → EachCrash crash t n P
each_crash_shorter crash t u n P kind longer each i image from upto left = at (eq-or-lt_of_le upto) where
  at : (i ≡ length t.calls) ⊎ (i < length t.calls) → P i image
  at (inl e) = each i image from (le_trans upto (extends_length t u longer))
      (subst₂ (λ synced unsynced. crash synced unsynced image)
      (sym (synced_at_frozen t u i longer upto))
      (sym (unsynced_at_on t u i longer upto))
      (with_under_way_allows crash (synced_at t i) (held t.start (take i t.calls)).unsynced (slice_get u.calls i) image kind
      (subst (λ unsynced. crash (synced_at t i) unsynced image) (nothing_under_way t i (le_of_eq (sym e))) left)))
  at (inr lt) = each i image from (le_trans upto (extends_length t u longer))
      (subst₂ (λ synced unsynced. crash synced unsynced image) (sym (synced_at_frozen t u i longer upto)) (sym (unsynced_at_frozen t u i longer lt)) left)
