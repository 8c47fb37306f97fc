-- A transaction group's calls: its blocks, a sync, its body, a sync, its gate, a sync. What each crash may leave of them.
use Rattle.std.proofs.Common.{◌≡◌, ℕ, ◌+◌, ◌<◌, ◌≤◌, ◌⊎◌, true, false, List, [], ◌∷◌, ◌++◌, length, refl, ap, sym, ◌∙◌, subst, inl, inr, ⊎_elim, arith, append_assoc, length-append}
use Rattle.std.proofs.lemmas.Bool.{cases_lt}
use Rattle.zc_tape.specs.Tape.{Image, Call, Write, Sync, Tape, is_at, with_bytes}
use Rattle.zc_tape.specs.Crash.{reads, Crash, May, EachCrash, AtRest, SameOutside}
use Rattle.zc_tape.specs.Plays.{Plays, Begun}
use Rattle.zc_tape.specs.After.{after, AreWrites}
use Rattle.zc_tape.proofs.Places.{both_false}
use Rattle.zc_tape.proofs.CrashKinds.{IsKind}
use Rattle.zc_tape.proofs.EachCrash.{each_crash_before}
use Rattle.zc_tape.proofs.Plans.{length_begun, length_played, extends_begun, begun_no_longer}
use Rattle.zc_tape.proofs.PlayWrites.{IsStopped, IsReached, play_writes, play_writes_on, stopped_within_more, each_crash_writes, fronts_from_all}
use Rattle.zc_tape.proofs.ReadsAfter.{after_append, reads_after_played, rest_after_played}

-- what may be left of one write differs at most at its place
pub may_of_one : (image : Image) (device place : ℕ) (bytes : List ℕ) (left : Image) → May image (Write device place bytes ∷ []) left → SameOutside device place image left
may_of_one image device place bytes left may d p e = may d p (both_false (is_at device place d p) false e refl)

-- the moments of a group's calls, where gate calls had returned when the gate's write began
pub record GroupMoments (crash : Crash) (t u : Tape) (gate : ℕ) (P Q : Image → Type 0) : Type 0 where
  -- before the gate's write, and at every moment where that was never begun
  pub before : EachCrash crash u (length t.calls) (λ i image. (i < gate) ⊎ (length u.calls ≤ gate) → P image)
  -- from the gate's write on
  pub since : EachCrash crash u gate (λ _ image. gate < length u.calls → Q image)

-- the blocks and the body: stopped within, or the gate's write is next
pub play_body : (crash : Crash) (t u : Tape) (blocks : List Call) (body_device body_place : ℕ) (body : List ℕ) (rest : List Call) (P : Image → Type 0)
    → IsKind crash → AtRest t → AreWrites blocks
    → Begun t (blocks ++ Sync ∷ Write body_device body_place body ∷ Sync ∷ rest) u
    → ((image : Image) → May (reads t) blocks image → P image)
    → ((image : Image) → SameOutside body_device body_place (after (reads t) blocks) image → P image)
    → IsStopped crash t u (blocks ++ Sync ∷ Write body_device body_place body ∷ Sync ∷ []) P
    ⊎ ((v : Tape) × IsReached crash t u v (blocks ++ Sync ∷ Write body_device body_place body ∷ Sync ∷ []) rest (with_bytes (after (reads t) blocks) body_device body_place body) P)
play_body crash t u blocks body_device body_place body rest P kind r are b of_blocks of_body =
    ⊎_elim
    (λ stopped. inl (subst (λ plan. IsStopped crash t u plan P) (append_assoc blocks (Sync ∷ []) (Write body_device body_place body ∷ Sync ∷ []))
    (stopped_within_more crash t u (blocks ++ Sync ∷ []) (Write body_device body_place body ∷ Sync ∷ []) P stopped)))
    (λ made. subst
    (λ plan. IsStopped crash t u plan P ⊎ ((v : Tape) × IsReached crash t u v plan rest (with_bytes (after (reads t) blocks) body_device body_place body) P))
    (append_assoc blocks (Sync ∷ []) (Write body_device body_place body ∷ Sync ∷ []))
    (play_writes_on crash t u made.0 (blocks ++ Sync ∷ []) (Write body_device body_place body ∷ []) rest (after (reads t) blocks) P kind tt made.1
    (fronts_from_all crash (after (reads t) blocks) (Write body_device body_place body ∷ []) P kind
    (λ image left. of_body image (may_of_one (after (reads t) blocks) body_device body_place body image left)))))
    (play_writes crash t u blocks (Write body_device body_place body ∷ Sync ∷ rest) P kind r are b (fronts_from_all crash (reads t) blocks P kind of_blocks))

-- how many calls come before the gate's write
calls_before_gate : (blocks : List Call) (body : Call) → length (blocks ++ Sync ∷ body ∷ Sync ∷ []) ≡ length blocks + 3
calls_before_gate blocks body = length-append blocks (Sync ∷ body ∷ Sync ∷ [])

-- stopped before the gate's write
moments_stopped : (crash : Crash) (t u : Tape) (front : List Call) (gate : ℕ) (P Q : Image → Type 0)
    → length t.calls + length front ≡ gate → IsStopped crash t u front P → GroupMoments crash t u gate P Q
moments_stopped crash t u front gate P Q e stopped =
    let short : (length t.calls ≤ length u.calls) × (length u.calls ≤ length t.calls + length front) = length_begun t u front stopped.begun
    in record {
      before = λ i image from upto left _. stopped.each i image from upto left;
      since = λ i image from upto left opened. absurd (omega arith);
    }

-- all before the gate's write is made, and that is begun, or not
moments_reached : (crash : Crash) (t u v : Tape) (front : List Call) (now : Image) (gate_device gate_place : ℕ) (gate_bytes : List ℕ) (gate : ℕ) (P Q : Image → Type 0)
    → IsKind crash → length t.calls + length front ≡ gate
    → IsReached crash t u v front (Write gate_device gate_place gate_bytes ∷ Sync ∷ []) now P
    → ((image : Image) → SameOutside gate_device gate_place now image → Q image)
    → GroupMoments crash t u gate P Q
moments_reached crash t u v front now gate_device gate_place gate_bytes gate P Q kind e made of_gate = record { before = early; since = late } where
  here : length v.calls ≡ gate
  here = length_played t v front made.played ∙ e

  early : EachCrash crash u (length t.calls) (λ i image. (i < gate) ⊎ (length u.calls ≤ gate) → P image)
  early i image from upto left (inl lt) = each_crash_before crash v u (length t.calls) (λ _ image. P image)
      (extends_begun v u (Write gate_device gate_place gate_bytes ∷ Sync ∷ []) made.rest_begun) made.each i image from (omega (arith, here)) left
  early i image from upto left (inr unopened) =
      let same : u ≡ v = begun_no_longer v u (Write gate_device gate_place gate_bytes ∷ Sync ∷ []) made.rest_begun (omega (arith, here))
      in subst (λ w. EachCrash crash w (length t.calls) (λ _ image. P image)) (sym same) made.each i image from upto left

  late : EachCrash crash u gate (λ _ image. gate < length u.calls → Q image)
  late i image from upto left _ =
      each_crash_writes crash v u (Write gate_device gate_place gate_bytes ∷ []) Q kind made.at_rest tt made.rest_begun
      (fronts_from_all crash (reads v) (Write gate_device gate_place gate_bytes ∷ []) Q kind
      (λ image left. of_gate image (subst (λ image'. SameOutside gate_device gate_place image' image) made.reads_as (may_of_one (reads v) gate_device gate_place gate_bytes image left))))
      i image (omega (arith, here)) upto left

-- a group's calls, begun at rest
pub group_law : (crash : Crash) (t u : Tape) (blocks : List Call) (body_device body_place : ℕ) (body : List ℕ) (gate_device gate_place : ℕ) (gate : List ℕ) (P Q : Image → Type 0)
    → IsKind crash → AtRest t → AreWrites blocks
    → Begun t (blocks ++ Sync ∷ Write body_device body_place body ∷ Sync ∷ Write gate_device gate_place gate ∷ Sync ∷ []) u
    → ((image : Image) → May (reads t) blocks image → P image)
    → ((image : Image) → SameOutside body_device body_place (after (reads t) blocks) image → P image)
    → ((image : Image) → SameOutside gate_device gate_place (with_bytes (after (reads t) blocks) body_device body_place body) image → Q image)
    → GroupMoments crash t u (length t.calls + (length blocks + 3)) P Q
group_law crash t u blocks body_device body_place body gate_device gate_place gate P Q kind r are b of_blocks of_body of_gate =
    let long : length t.calls + length (blocks ++ Sync ∷ Write body_device body_place body ∷ Sync ∷ []) ≡ length t.calls + (length blocks + 3)
    = ap (λ n. length t.calls + n) (calls_before_gate blocks (Write body_device body_place body))
    in ⊎_elim
    (λ stopped. moments_stopped crash t u (blocks ++ Sync ∷ Write body_device body_place body ∷ Sync ∷ []) (length t.calls + (length blocks + 3)) P Q long stopped)
    (λ made. moments_reached crash t u made.0 (blocks ++ Sync ∷ Write body_device body_place body ∷ Sync ∷ []) (with_bytes (after (reads t) blocks) body_device body_place body)
    gate_device gate_place gate (length t.calls + (length blocks + 3)) P Q kind long made.1 of_gate)
    (play_body crash t u blocks body_device body_place body (Write gate_device gate_place gate ∷ Sync ∷ []) P kind r are b of_blocks of_body)

-- where the first fact gives the second, each moment has the second
pub group_each : (crash : Crash) (t u : Tape) (gate : ℕ) (P Q : Image → Type 0)
    → GroupMoments crash t u gate P Q → ((image : Image) → P image → Q image) → EachCrash crash u (length t.calls) (λ _ image. Q image)
group_each crash t u gate P Q moments weaker i image from upto left = at (cases_lt i gate) (cases_lt gate (length u.calls)) where
  at : (i < gate) ⊎ (gate ≤ i) → (gate < length u.calls) ⊎ (length u.calls ≤ gate) → Q image
  at (inl lt) opened = weaker image (moments.before i image from upto left (inl lt))
  at (inr le) (inl opened) = moments.since i image le upto left opened
  at (inr le) (inr unopened) = weaker image (moments.before i image from upto left (inr unopened))

-- where it never came to the gate's write, each moment has the first
pub group_unopened : (crash : Crash) (t u : Tape) (gate : ℕ) (P Q : Image → Type 0)
    → GroupMoments crash t u gate P Q → length u.calls ≤ gate → EachCrash crash u (length t.calls) (λ _ image. P image)
group_unopened crash t u gate P Q moments unopened i image from upto left = moments.before i image from upto left (inr unopened)

-- played to its end, a group leaves the tape at rest, with all its writes
pub group_at_rest : (t u : Tape) (blocks : List Call) (body gate : Call)
    → AtRest t → Plays t (blocks ++ Sync ∷ body ∷ Sync ∷ gate ∷ Sync ∷ []) u true → AtRest u
group_at_rest t u blocks body gate r p =
    rest_after_played t u (blocks ++ Sync ∷ body ∷ Sync ∷ gate ∷ []) r.whole
    (subst (λ plan. Plays t plan u true) (sym (append_assoc blocks (Sync ∷ body ∷ Sync ∷ gate ∷ []) (Sync ∷ []))) p)

pub group_reads : (t u : Tape) (blocks : List Call) (body_device body_place : ℕ) (body : List ℕ) (gate_device gate_place : ℕ) (gate : List ℕ)
    → Plays t (blocks ++ Sync ∷ Write body_device body_place body ∷ Sync ∷ Write gate_device gate_place gate ∷ Sync ∷ []) u true
    → reads u ≡ with_bytes (with_bytes (after (reads t) blocks) body_device body_place body) gate_device gate_place gate
group_reads t u blocks body_device body_place body gate_device gate_place gate p =
    reads_after_played t u (blocks ++ Sync ∷ Write body_device body_place body ∷ Sync ∷ Write gate_device gate_place gate ∷ Sync ∷ []) p
    ∙ after_append (reads t) blocks (Sync ∷ Write body_device body_place body ∷ Sync ∷ Write gate_device gate_place gate ∷ Sync ∷ [])
