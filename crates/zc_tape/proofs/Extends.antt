-- A tape that has gone on: its earlier moments stay as they were.
use Rattle.std.proofs.Common.{◌≡◌, ℕ, ◌+◌, ◌<◌, ◌≤◌, Bool, List, [], ◌∷◌, ◌++◌, length, take, slice_get, zero, suc, refl, ap, ap₂, sym, ◌∙◌, arith, append_assoc, append-nil, length-append, le_of_lt}
use Rattle.std.proofs.lemmas.List.{take-append-le}
use Rattle.zc_tape.specs.Tape.{Call, Made, Tape, push}
use Rattle.zc_tape.specs.Crash.{held, with_under_way, synced_at, unsynced_at}

-- the later tape has the calls of the earlier one, and more
pub record Extends (old new : Tape) : Type 0 where
  pub more : List Made
  pub told : new.told ≡ old.told
  pub start : new.start ≡ old.start
  pub calls : new.calls ≡ old.calls ++ more

pub extends_refl : (t : Tape) → Extends t t
extends_refl t = record { more = []; told = refl; start = refl; calls = sym (append-nil t.calls) }

pub extends_push : (t : Tape) (call : Call) (ok : Bool) → Extends t (push t call ok)
extends_push t call ok = record { more = record { call = call; ok = ok } ∷ []; told = refl; start = refl; calls = refl }

pub extends_trans : (t u v : Tape) → Extends t u → Extends u v → Extends t v
extends_trans t u v tu uv = record {
  more = tu.more ++ uv.more;
  told = uv.told ∙ tu.told;
  start = uv.start ∙ tu.start;
  calls = uv.calls ∙ ap (λ calls. calls ++ uv.more) tu.calls ∙ append_assoc t.calls tu.more uv.more;
}

pub extends_length : (t u : Tape) → Extends t u → length t.calls ≤ length u.calls
extends_length t u longer =
    let e : length u.calls ≡ length t.calls + length longer.more = ap length longer.calls ∙ length-append t.calls longer.more
    in omega arith

slice_get_append : {X : Type 0} (xs ys : List X) (i : ℕ) → i < length xs → slice_get (xs ++ ys) i ≡ slice_get xs i
slice_get_append [] ys i h = grind arith
slice_get_append (x ∷ xs) ys zero h = refl
slice_get_append (x ∷ xs) ys (suc i) h = slice_get_append xs ys i (omega arith)

-- the moments before the end of the earlier tape are as they were
pub synced_at_frozen : (t u : Tape) (i : ℕ) → Extends t u → i ≤ length t.calls → synced_at u i ≡ synced_at t i
synced_at_frozen t u i longer h = ap₂ (λ start calls. (held start calls).synced) longer.start (ap (λ calls. take i calls) longer.calls ∙ take-append-le i t.calls longer.more h)

pub unsynced_at_on : (t u : Tape) (i : ℕ) → Extends t u → i ≤ length t.calls → unsynced_at u i ≡ with_under_way (held t.start (take i t.calls)).unsynced (slice_get u.calls i)
unsynced_at_on t u i longer h =
    ap₂ (λ start calls. with_under_way (held start calls).unsynced (slice_get u.calls i)) longer.start (ap (λ calls. take i calls) longer.calls ∙ take-append-le i t.calls longer.more h)

pub unsynced_at_frozen : (t u : Tape) (i : ℕ) → Extends t u → i < length t.calls → unsynced_at u i ≡ unsynced_at t i
unsynced_at_frozen t u i longer h =
    unsynced_at_on t u i longer (le_of_lt h)
    ∙ ap (λ under_way. with_under_way (held t.start (take i t.calls)).unsynced under_way)
    (ap (λ calls. slice_get calls i) longer.calls ∙ slice_get_append t.calls longer.more i h)
