-- How many calls stand on a tape since a plan was begun, and which of them failed.
use Rattle.std.proofs.Common.{◌≡◌, ◌∙◌, ℕ, ◌+◌, Bool, true, false, true≢false, List, [], ◌∷◌, ◌++◌, length, drop, IsTrue, refl, sym, ap, subst, inl, inr, append_assoc, arith}
use Rattle.std.proofs.Math.Seq.{drop-append_seam}
use Rattle.zc_tape.specs.Tape.{Call, Made, Tape, push, Appends}
use Rattle.zc_tape.specs.Plays.{Plays, Played}
use Rattle.zc_tape.specs.After.{all_ok}
use Rattle.zc_tape.proofs.Moments.{length_after_push}
use Rattle.zc_tape.proofs.Plans.{plays_calls}
use Rattle.zc_plan.specs.Counted.{AllMade, AllButLast}

-- one call more
pub one_more_counted : (t v u : Tape) (call : Call) (ok : Bool) (made : ℕ) → v.told ≡ t.told → (IsTrue t.told → length v.calls ≡ length t.calls + made)
    → Appends v u call ok → IsTrue t.told → length u.calls ≡ length t.calls + (made + 1)
one_more_counted t v u call ok made same counted one told =
    let before : length v.calls ≡ length t.calls + made = counted told in
    let more : length u.calls ≡ length v.calls + 1 = ap (λ (w : Tape). length w.calls) (one (subst (λ (flag : Bool). IsTrue flag) (sym same) told)) ∙ length_after_push v call ok in
    omega (arith, before, more)

-- calls that were all Ok stand so
all_ok_made : (plan : List Call) → AllMade (all_ok plan)
all_ok_made [] = tt
all_ok_made (call ∷ plan) = (refl, all_ok_made plan)

-- a plan that failed added calls that were Ok, and one that failed
failed_calls : (t u : Tape) (plan : List Call) → Plays t plan u false
    → (front : List Made) × (last : Made) × (u.calls ≡ t.calls ++ (front ++ last ∷ [])) × AllMade front × (last.ok ≡ false)
failed_calls t u [] played = absurd (true≢false (sym played.1))
failed_calls t u (call ∷ plan) (inl stopped) = ([], record { call = call; ok = false }, ap (λ (v : Tape). v.calls) stopped.0, tt, refl)
failed_calls t u (call ∷ plan) (inr on) =
    let more : (front : List Made) × (last : Made) × (u.calls ≡ (push t call true).calls ++ (front ++ last ∷ [])) × AllMade front × (last.ok ≡ false) = failed_calls (push t call true) u plan on in
    let this : Made = record { call = call; ok = true } in
    (this ∷ more.0, more.1, more.2 ∙ append_assoc t.calls (this ∷ []) (more.0 ++ more.1 ∷ []), (refl, more.3), more.4)

module _ (t ready u : Tape) (plan : List Call) (same : ready ≡ t) (told : IsTrue t.told) where
  -- all calls of a plan that was played to its end were Ok
  pub all_made : Played ready plan u true → AllMade (drop (length t.calls) u.calls)
  all_made played =
      let calls : u.calls ≡ t.calls ++ all_ok plan = ap (λ (v : Tape). v.calls) (plays_calls t u plan (subst (λ (v : Tape). Played v plan u true) same played told)) in
      subst AllMade (sym (ap (drop (length t.calls)) calls ∙ drop-append_seam t.calls (all_ok plan))) (all_ok_made plan)

  -- and of one that failed all but the last
  pub all_but_last : Played ready plan u false → AllButLast (drop (length t.calls) u.calls)
  all_but_last played =
      let more = failed_calls t u plan (subst (λ (v : Tape). Played v plan u false) same played told) in
      record {
        front = more.0;
        last = more.1;
        calls_are = ap (drop (length t.calls)) more.2 ∙ drop-append_seam t.calls (more.0 ++ more.1 ∷ []);
        all_made = more.3;
        failed = more.4;
      }
