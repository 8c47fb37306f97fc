-- Plans in parts: a list of calls that is begun, played to its end, or played up to a call that failed.
use Rattle.std.proofs.Common.{◌≡◌, ◌+◌, ◌<◌, ◌≤◌, ◌⊎◌, ℕ, Bool, true, false, List, [], ◌∷◌, ◌++◌, length, take, drop, get_or, IsTrue, refl, ap, sym, ◌∙◌, subst, inl, inr, ⊎_elim, arith, append_assoc, append-nil, true≢false}
use Rattle.std.proofs.Math.Seq.{take-length}
use Rattle.std.proofs.lemmas.Grind.{take_at_read}
use Rattle.std.proofs.lemmas.List.{take-append-drop}
use Rattle.zc_tape.specs.Tape.{Call, Tape, push, Appends}
use Rattle.zc_tape.specs.Plays.{Plays, Begun, IsMidway}
use Rattle.zc_tape.specs.After.{all_ok}
use Rattle.zc_tape.proofs.Moments.{length_after_push}
use Rattle.zc_tape.proofs.Extends.{Extends, extends_refl, extends_push, extends_trans}

-- a plan of which nothing was made is begun
pub begun_nothing : (t : Tape) (plan : List Call) → Begun t plan t
begun_nothing t [] = refl
begun_nothing t (call ∷ plan) = inl refl

-- a plan that was played, to its end or not, is begun
pub begun_played : (t u : Tape) (plan : List Call) (ok : Bool) → Plays t plan u ok → Begun t plan u
begun_played t u [] ok p = p.0
begun_played t u (call ∷ plan) ok (inl stopped) = inr (inl stopped.0)
begun_played t u (call ∷ plan) ok (inr on) = inr (inr (begun_played (push t call true) u plan ok on))

-- the first part of a plan is begun
pub begun_front : (t u : Tape) (front back : List Call) → Begun t front u → Begun t (front ++ back) u
begun_front t u [] back b = subst (λ v. Begun t back v) (sym b) (begun_nothing t back)
begun_front t u (call ∷ front) back (inl e) = inl e
begun_front t u (call ∷ front) back (inr (inl e)) = inr (inl e)
begun_front t u (call ∷ front) back (inr (inr on)) = inr (inr (begun_front (push t call true) u front back on))

-- the first part was played, and the second is begun
pub begun_then : (t v u : Tape) (front back : List Call) → Plays t front v true → Begun v back u → Begun t (front ++ back) u
begun_then t v u [] back p b = subst (λ w. Begun w back u) p.0 b
begun_then t v u (call ∷ front) back (inl stopped) b = absurd (true≢false stopped.1)
begun_then t v u (call ∷ front) back (inr on) b = inr (inr (begun_then (push t call true) v u front back on b))

-- a begun plan stands within its first part, or has played it and has begun the second
pub begun_parts : (t u : Tape) (front back : List Call) → Begun t (front ++ back) u → Begun t front u ⊎ ((v : Tape) × (Plays t front v true) × (Begun v back u))
begun_parts t u [] back b = inr (t, (refl, refl), b)
begun_parts t u (call ∷ front) back (inl e) = inl (inl e)
begun_parts t u (call ∷ front) back (inr (inl e)) = inl (inr (inl e))
begun_parts t u (call ∷ front) back (inr (inr on)) = ⊎_elim (λ within. inl (inr (inr within))) (λ p. inr (p.0, inr p.1, p.2)) (begun_parts (push t call true) u front back on)

-- the first part was played, and then the second
pub plays_then : (t v u : Tape) (front back : List Call) (ok : Bool) → Plays t front v true → Plays v back u ok → Plays t (front ++ back) u ok
plays_then t v u [] back ok p q = subst (λ w. Plays w back u ok) p.0 q
plays_then t v u (call ∷ front) back ok (inl stopped) q = absurd (true≢false stopped.1)
plays_then t v u (call ∷ front) back ok (inr on) q = inr (plays_then (push t call true) v u front back ok on q)

-- a call of the first part failed
pub plays_stopped : (t u : Tape) (front back : List Call) → Plays t front u false → Plays t (front ++ back) u false
plays_stopped t u [] back p = absurd (true≢false (sym p.1))
plays_stopped t u (call ∷ front) back (inl stopped) = inl stopped
plays_stopped t u (call ∷ front) back (inr on) = inr (plays_stopped (push t call true) u front back on)

-- a played plan failed within its first part, or has played it and then the second
pub plays_parts : (t u : Tape) (front back : List Call) (ok : Bool) → Plays t (front ++ back) u ok
    → ((Plays t front u false) × (ok ≡ false)) ⊎ ((v : Tape) × (Plays t front v true) × (Plays v back u ok))
plays_parts t u [] back ok p = inr (t, (refl, refl), p)
plays_parts t u (call ∷ front) back ok (inl stopped) = inl (inl (stopped.0, refl), stopped.1)
plays_parts t u (call ∷ front) back ok (inr on) = ⊎_elim (λ within. inl (inr within.0, within.1)) (λ p. inr (p.0, inr p.1, p.2)) (plays_parts (push t call true) u front back ok on)

-- a plan played to its end played its first part, and then the second
pub plays_whole : (t u : Tape) (front back : List Call) → Plays t (front ++ back) u true → (v : Tape) × (Plays t front v true) × (Plays v back u true)
plays_whole t u front back p = ⊎_elim (λ within. absurd (true≢false within.1)) (λ whole. whole) (plays_parts t u front back true p)

-- one call is a plan
pub plays_one : (t u : Tape) (call : Call) (ok : Bool) → u ≡ push t call ok → Plays t (call ∷ []) u ok
plays_one t u call true e = inr (e, refl)
plays_one t u call false e = inl (e, refl)

pub one_of_plays : (t u : Tape) (call : Call) (ok : Bool) → Plays t (call ∷ []) u ok → u ≡ push t call ok
one_of_plays t u call ok (inl stopped) = stopped.0 ∙ ap (λ b. push t call b) (sym stopped.1)
one_of_plays t u call ok (inr on) = on.0 ∙ ap (λ b. push t call b) (sym on.1)

-- one more call at the end
pub plays_push : (t v u : Tape) (plan : List Call) (call : Call) (ok : Bool) → Plays t plan v true → u ≡ push v call ok → Plays t (plan ++ call ∷ []) u ok
plays_push t v u plan call ok p e = plays_then t v u plan (call ∷ []) ok p (plays_one v u call ok e)

-- the next call of a plan
pub begun_push : (t v u : Tape) (plan rest : List Call) (call : Call) (ok : Bool) → Plays t plan v true → u ≡ push v call ok → Begun t (plan ++ call ∷ rest) u
begun_push t v u plan rest call true p e = begun_then t v u plan (call ∷ rest) p (inr (inr (subst (λ w. Begun (push v call true) rest w) (sym e) (begun_nothing (push v call true) rest))))
begun_push t v u plan rest call false p e = begun_then t v u plan (call ∷ rest) p (inr (inl e))

-- a plan that was played to its end added its calls, each Ok
pub plays_calls : (t u : Tape) (plan : List Call) → Plays t plan u true → u ≡ record t { calls = t.calls ++ all_ok plan }
plays_calls t u [] p = p.0 ∙ ap (λ calls. record t { calls = calls }) (sym (append-nil t.calls))
plays_calls t u (call ∷ plan) (inl stopped) = absurd (true≢false stopped.1)
plays_calls t u (call ∷ plan) (inr on) =
    plays_calls (push t call true) u plan on
    ∙ ap (λ calls. record t { calls = calls }) (append_assoc t.calls (record { call = call; ok = true } ∷ []) (all_ok plan))

-- and the other way
pub plays_from_calls : (t : Tape) (plan : List Call) → Plays t plan (record t { calls = t.calls ++ all_ok plan }) true
plays_from_calls t [] = (ap (λ calls. record t { calls = calls }) (append-nil t.calls), refl)
plays_from_calls t (call ∷ plan) =
    inr (subst (λ calls. Plays (push t call true) plan (record t { calls = calls }) true)
    (append_assoc t.calls (record { call = call; ok = true } ∷ []) (all_ok plan)) (plays_from_calls (push t call true) plan))

-- a begun plan goes on from its first tape
pub extends_begun : (t u : Tape) (plan : List Call) → Begun t plan u → Extends t u
extends_begun t u [] b = subst (λ v. Extends t v) (sym b) (extends_refl t)
extends_begun t u (call ∷ plan) (inl e) = subst (λ v. Extends t v) (sym e) (extends_refl t)
extends_begun t u (call ∷ plan) (inr (inl e)) = subst (λ v. Extends t v) (sym e) (extends_push t call false)
extends_begun t u (call ∷ plan) (inr (inr on)) = extends_trans t (push t call true) u (extends_push t call true) (extends_begun (push t call true) u plan on)

pub extends_played : (t u : Tape) (plan : List Call) (ok : Bool) → Plays t plan u ok → Extends t u
extends_played t u plan ok p = extends_begun t u plan (begun_played t u plan ok p)

-- what no plan changes
pub told_begun : (t u : Tape) (plan : List Call) → Begun t plan u → u.told ≡ t.told
told_begun t u plan b = (extends_begun t u plan b).told

pub start_begun : (t u : Tape) (plan : List Call) → Begun t plan u → u.start ≡ t.start
start_begun t u plan b = (extends_begun t u plan b).start

pub told_played : (t u : Tape) (plan : List Call) (ok : Bool) → Plays t plan u ok → u.told ≡ t.told
told_played t u plan ok p = (extends_played t u plan ok p).told

pub start_played : (t u : Tape) (plan : List Call) (ok : Bool) → Plays t plan u ok → u.start ≡ t.start
start_played t u plan ok p = (extends_played t u plan ok p).start

-- how many calls there are then
pub length_begun : (t u : Tape) (plan : List Call) → Begun t plan u → (length t.calls ≤ length u.calls) × (length u.calls ≤ length t.calls + length plan)
length_begun t u [] b = let e : length u.calls ≡ length t.calls = ap (λ (v : Tape). length v.calls) b in (omega arith, omega arith)
length_begun t u (call ∷ plan) (inl b) = let e : length u.calls ≡ length t.calls = ap (λ (v : Tape). length v.calls) b in (omega arith, omega arith)
length_begun t u (call ∷ plan) (inr (inl b)) = let e : length u.calls ≡ length t.calls + 1 = ap (λ (v : Tape). length v.calls) b ∙ length_after_push t call false in (omega arith, omega arith)
length_begun t u (call ∷ plan) (inr (inr on)) =
    let more : (length (push t call true).calls ≤ length u.calls) × (length u.calls ≤ length (push t call true).calls + length plan) = length_begun (push t call true) u plan on
    in let e : length (push t call true).calls ≡ length t.calls + 1 = length_after_push t call true
    in (omega arith, omega arith)

pub length_played : (t u : Tape) (plan : List Call) → Plays t plan u true → length u.calls ≡ length t.calls + length plan
length_played t u [] p = let e : length u.calls ≡ length t.calls = ap (λ (v : Tape). length v.calls) p.0 in omega arith
length_played t u (call ∷ plan) (inl stopped) = absurd (true≢false stopped.1)
length_played t u (call ∷ plan) (inr on) =
    let more : length u.calls ≡ length (push t call true).calls + length plan = length_played (push t call true) u plan on
    in let e : length (push t call true).calls ≡ length t.calls + 1 = length_after_push t call true
    in omega arith

-- a begun plan that added no call made none
pub begun_no_longer : (t u : Tape) (plan : List Call) → Begun t plan u → length u.calls ≤ length t.calls → u ≡ t
begun_no_longer t u [] b h = b
begun_no_longer t u (call ∷ plan) (inl e) h = e
begun_no_longer t u (call ∷ plan) (inr (inl b)) h =
    let e : length u.calls ≡ length t.calls + 1 = ap (λ (v : Tape). length v.calls) b ∙ length_after_push t call false in absurd (omega arith)
begun_no_longer t u (call ∷ plan) (inr (inr on)) h =
    let more : (length (push t call true).calls ≤ length u.calls) × (length u.calls ≤ length (push t call true).calls + length plan) = length_begun (push t call true) u plan on
    in let e : length (push t call true).calls ≡ length t.calls + 1 = length_after_push t call true
    in absurd (omega arith)

-- a plan before its first call
pub midway_first : (base : Tape) (plan : List Call) → IsMidway base plan 0 base
midway_first base plan = (omega arith, (refl, refl))

-- and after its last
pub midway_last : (base t : Tape) (plan : List Call) → IsMidway base plan (length plan) t → Plays base plan t true
midway_last base t plan midway = subst (λ calls. Plays base calls t true) (take-length plan) midway.1

-- it is begun
pub begun_midway : (base t : Tape) (plan : List Call) (made : ℕ) → IsMidway base plan made t → Begun base plan t
begun_midway base t plan made midway =
    subst (λ calls. Begun base calls t) (take-append-drop made plan)
    (begun_front base t (take made plan) (drop made plan) (begun_played base t (take made plan) true midway.1))

pub told_midway : (base t : Tape) (plan : List Call) (made : ℕ) → IsMidway base plan made t → t.told ≡ base.told
told_midway base t plan made midway = told_begun base t plan (begun_midway base t plan made midway)

-- its next call
module _ (base t u : Tape) (plan : List Call) (made : ℕ) (call : Call) (told : IsTrue base.told)
    (inside : made < length plan) (is : call ≡ get_or plan made call) (midway : IsMidway base plan made t) where
  one_more : (ok : Bool) → Appends t u call ok → Plays base (take (made + 1) plan) u ok
  one_more ok one =
      let more : take (made + 1) plan ≡ take made plan ++ call ∷ [] = (take_at_read plan made call inside).1 ∙ ap (λ c. take made plan ++ c ∷ []) (sym is) in
      subst (λ calls. Plays base calls u ok) (sym more)
      (plays_push base t u (take made plan) call ok midway.1 (one (subst (λ b. IsTrue b) (sym (told_midway base t plan made midway)) told)))

  pub midway_next : Appends t u call true → IsMidway base plan (made + 1) u
  midway_next one = (omega arith, one_more true one)

  pub midway_stopped : Appends t u call false → Plays base plan u false
  midway_stopped one =
      subst (λ calls. Plays base calls u false) (take-append-drop (made + 1) plan)
      (plays_stopped base u (take (made + 1) plan) (drop (made + 1) plan) (one_more false one))

  pub midway_failed : Appends t u call false → Begun base plan u
  midway_failed one = begun_played base u plan false (midway_stopped one)
