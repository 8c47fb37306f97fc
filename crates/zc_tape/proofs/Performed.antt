-- Calls that are made in order, one more at a time.
use Rattle.std.proofs.Common.{◌≡◌, ℕ, ◌+◌, ◌<◌, true, false, List, length, map, take, get_or, IsTrue, ap, subst, sym, ◌∙◌, arith}
use Rattle.std.proofs.lemmas.List.{get_or-map, length-map, take-map}
use Rattle.zc_tape.specs.declared.call.DiskCall.{DiskCall}
use Rattle.zc_tape.specs.DiskCall.{call_of, IsThere, AreThere}
use Rattle.zc_tape.specs.Tape.{Shape, Tape, Appends}
use Rattle.zc_tape.specs.Plays.{Plays, IsMidway, Played}
use Rattle.zc_tape.proofs.Plans.{midway_next, midway_stopped}

-- a call of the list as it stands on a tape
pub call_at : (calls : List DiskCall) (i : ℕ) (call : DiskCall) → i < length calls → call ≡ get_or calls i call
    → call_of call ≡ get_or (map call_of calls) i (call_of call)
call_at calls i call within is = sym (get_or-map call_of calls i call (call_of call) within ∙ ap call_of (sym is))

-- a call of the list is there
pub call_there : (shape : Shape) (calls : List DiskCall) (i : ℕ) (call : DiskCall) → AreThere shape (map call_of calls)
    → i < length calls → call ≡ get_or calls i call → IsThere shape (call_of call)
call_there shape calls i call all within is =
    subst (λ c. IsThere shape c) (sym (call_at calls i call within is)) (all i (call_of call) (omega (arith, length-map calls call_of)))

-- one more call of those that are being made
module _ (t v u : Tape) (calls : List DiskCall) (i : ℕ) (call : DiskCall) (within : i < length calls) (is : call ≡ get_or calls i call)
    (played : Played t (map call_of (take i calls)) v true) where
  inside : i < length (map call_of calls)
  inside = omega (arith, length-map calls call_of)

  midway : IsTrue t.told → IsMidway t (map call_of calls) i v
  midway told = (omega (arith, inside), subst (λ plan. Plays t plan v true) (sym (take-map call_of i calls)) (played told))

  -- it was Ok
  pub performed_more : Appends v u (call_of call) true → Played t (map call_of (take (i + 1) calls)) u true
  performed_more one told =
      subst (λ plan. Plays t plan u true) (take-map call_of (i + 1) calls)
      (midway_next t v u (map call_of calls) i (call_of call) told inside (call_at calls i call within is) (midway told) one).1

  -- it failed
  pub performed_stopped : Appends v u (call_of call) false → Played t (map call_of calls) u false
  performed_stopped one told = midway_stopped t v u (map call_of calls) i (call_of call) told inside (call_at calls i call within is) (midway told) one
