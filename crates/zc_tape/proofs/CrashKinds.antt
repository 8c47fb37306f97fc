-- Kinds of crash: what each law asks of one, and that both kinds have it.
use Rattle.std.proofs.Common.{◌≡◌, ℕ, ◌⊎◌, Bool, true, false, List, [], ◌∷◌, ◌++◌, fold, refl, sym, ◌∙◌, subst, inl, inr, ⊎_elim}
use Rattle.zc_tape.specs.Tape.{Image, Call, Write, Sync, Made, Tape, is_at, with_bytes}
use Rattle.zc_tape.specs.Crash.{Held, held_first, held_after, held, reads, HasWrite, Crash, May, MayFairly}
use Rattle.zc_tape.proofs.Places.{with_bytes_there, with_bytes_elsewhere, writes_at_neither}
use Rattle.zc_tape.proofs.HeldLaws.{held_by, settled}

-- a crash leaves what isn't written as it was, more unsynced writes allow more, and an Ok sync allows nothing new
pub record IsKind (crash : Crash) : Type 0 where
  pub may : (synced : Image) (unsynced : List Call) (image : Image) → crash synced unsynced image → May synced unsynced image
  pub more_writes : (synced : Image) (front back : List Call) (image : Image) → crash synced front image → crash synced (front ++ back) image
  pub after_sync : (t : Tape) (image : Image) → crash (reads t) [] image → crash (held_by t).synced (held_by t).unsynced image

pub may_after_sync : (t : Tape) (image : Image) → May (reads t) [] image → May (held_by t).synced (held_by t).unsynced image
may_after_sync t image left d p e = left d p refl ∙ settled t.start t.calls d p e

pub may_more_writes : (synced : Image) (front back : List Call) (image : Image) → May synced front image → May synced (front ++ back) image
may_more_writes synced front back image left d p e = left d p (writes_at_neither front back d p e).0

pub may_is_kind : IsKind May
may_is_kind = record { may = λ synced unsynced image left. left; more_writes = may_more_writes; after_sync = may_after_sync }

-- each place holds the synced bytes, or those of an unsynced write
abbrev pub IsTraced : Held → Type 0
IsTraced h = (d p : ℕ) → (h.now d p ≡ h.synced d p) ⊎ HasWrite h.unsynced d p (h.now d p)

-- a write of a list is one of a longer list
pub has_write_front : (xs ys : List Call) (d p : ℕ) (bytes : List ℕ) → HasWrite xs d p bytes → HasWrite (xs ++ ys) d p bytes
has_write_front [] ys d p bytes h = absurd h
has_write_front (Write device place put ∷ xs) ys d p bytes (inl here) = inl here
has_write_front (Write device place put ∷ xs) ys d p bytes (inr later) = inr (has_write_front xs ys d p bytes later)
has_write_front (Sync ∷ xs) ys d p bytes h = has_write_front xs ys d p bytes h

pub has_write_back : (xs ys : List Call) (d p : ℕ) (bytes : List ℕ) → HasWrite ys d p bytes → HasWrite (xs ++ ys) d p bytes
has_write_back [] ys d p bytes h = h
has_write_back (Write device place put ∷ xs) ys d p bytes h = inr (has_write_back xs ys d p bytes h)
has_write_back (Sync ∷ xs) ys d p bytes h = has_write_back xs ys d p bytes h

traced_write : (h : Held) (device place : ℕ) (bytes : List ℕ) (d p : ℕ) (here : Bool) → is_at device place d p ≡ here
    → (h.now d p ≡ h.synced d p) ⊎ HasWrite h.unsynced d p (h.now d p)
    → (with_bytes h.now device place bytes d p ≡ h.synced d p) ⊎ HasWrite (h.unsynced ++ Write device place bytes ∷ []) d p (with_bytes h.now device place bytes d p)
traced_write h device place bytes d p true e old =
    let put : with_bytes h.now device place bytes d p ≡ bytes = with_bytes_there h.now device place bytes d p e
    in inr (has_write_back h.unsynced (Write device place bytes ∷ []) d p (with_bytes h.now device place bytes d p) (inl (e, sym put)))
traced_write h device place bytes d p false e old =
    let kept : with_bytes h.now device place bytes d p ≡ h.now d p = with_bytes_elsewhere h.now device place bytes d p e
    in ⊎_elim (λ same. inl (kept ∙ same)) (λ put. inr (has_write_front h.unsynced (Write device place bytes ∷ []) d p (with_bytes h.now device place bytes d p)
    (subst (λ held. HasWrite h.unsynced d p held) (sym kept) put))) old

pub traced_after : (h : Held) (call : Call) (ok : Bool) → IsTraced h → IsTraced (held_after h call ok)
traced_after h (Write device place bytes) true s d p = traced_write h device place bytes d p (is_at device place d p) refl (s d p)
traced_after h (Write device place bytes) false s d p = ⊎_elim inl (λ put. inr (has_write_front h.unsynced (Write device place bytes ∷ []) d p (h.now d p) put)) (s d p)
traced_after h Sync true s d p = inl refl
traced_after h Sync false s d p = s d p

traced_fold : (h : Held) (calls : List Made) → IsTraced h → IsTraced (fold (λ h m. held_after h m.call m.ok) h calls)
traced_fold h [] s = s
traced_fold h (m ∷ calls) s = traced_fold (held_after h m.call m.ok) calls (traced_after h m.call m.ok s)

pub traced : (start : Image) (calls : List Made) (d p : ℕ) → ((held start calls).now d p ≡ (held start calls).synced d p) ⊎ HasWrite (held start calls).unsynced d p ((held start calls).now d p)
traced start calls = traced_fold (held_first start) calls (λ d p. inl refl)

pub may_fairly_after_sync : (is_log : ℕ → ℕ → Bool) (Fits : ℕ → ℕ → List ℕ → Type 0) (t : Tape) (image : Image)
    → MayFairly is_log Fits (reads t) [] image → MayFairly is_log Fits (held_by t).synced (held_by t).unsynced image
may_fairly_after_sync is_log Fits t image left = record {
  may = may_after_sync t image left.may;
  fair = λ d p _. let kept : image d p ≡ reads t d p = left.may d p refl
      in ⊎_elim (λ same. inl (kept ∙ same)) (λ put. inr (inl (subst (λ bytes. HasWrite (held_by t).unsynced d p bytes) (sym kept) put))) (traced t.start t.calls d p);
}

pub may_fairly_more_writes : (is_log : ℕ → ℕ → Bool) (Fits : ℕ → ℕ → List ℕ → Type 0) (synced : Image) (front back : List Call) (image : Image)
    → MayFairly is_log Fits synced front image → MayFairly is_log Fits synced (front ++ back) image
may_fairly_more_writes is_log Fits synced front back image left = record {
  may = may_more_writes synced front back image left.may;
  fair = λ d p log. ⊎_elim inl (λ rest. inr (⊎_elim (λ put. inl (has_write_front front back d p (image d p) put)) inr rest)) (left.fair d p log);
}

pub may_fairly_is_kind : (is_log : ℕ → ℕ → Bool) (Fits : ℕ → ℕ → List ℕ → Type 0) → IsKind (MayFairly is_log Fits)
may_fairly_is_kind is_log Fits = record {
  may = λ synced unsynced image left. left.may;
  more_writes = may_fairly_more_writes is_log Fits;
  after_sync = may_fairly_after_sync is_log Fits;
}
