-- What the parts of a creation before its group may leave of an image: there is no root while the gates are closed, and none is open
-- afterwards; then the bodies and the logs are zeroed.
use Rattle.std.proofs.Common.{◌≡◌, ℕ, ◌+◌, ◌<◌, ◌≤◌, ◌⊎◌, Bool, true, false, IsTrue, ◌↔◌, List, [], ◌∷◌, ◌++◌, map, zero, suc, refl, sym, ap, ◌∙◌, subst, inl, inr, arith, eq-or-lt_of_le}
use Rattle.std.specs.List.{range_with_len}
use Rattle.zc_num.specs.Words.{each}
use Rattle.zc_num.proofs.Each.{each_more}
use Rattle.zc_tape.specs.Tape.{Image, Call, Write, is_at, with_bytes}
use Rattle.zc_tape.specs.Crash.{May, writes_at}
use Rattle.zc_tape.specs.After.{after, AreWrites}
use Rattle.zc_tape.proofs.Places.{with_bytes_there, with_bytes_elsewhere, writes_at_both, both_false, is_at_here}
use Rattle.zc_tape.proofs.ReadsAfter.{after_append, after_elsewhere, after_last_write, are_writes_append, are_writes_map}
use Rattle.zc_root.specs.Root.{slot_of, body_place, gate_place, closed, IsOpenGate}
use Rattle.zc_root.proofs.RootLaws.{opened_is_not_closed, slots}
use Rattle.zc_layout.specs.Standing.{HasNoRoot, closing}
use Rattle.zc_layout.specs.Creation.{clearing_calls}
use Rattle.zc_layout.specs.Outcomes.{HasZeroLogs}
use Rattle.zc_layout.proofs.StandingLaws.{HasNoOpenGate, no_open_gate_of_both, no_open_gate_where_same}
use Rattle.zc_layout.proofs.GroupImages.{elsewhere, closing_elsewhere, closing_is_writes}

-- ---- the gates are closed

-- zeros to each gate that is open
abbrev pub clearing_writes : Bool → Bool → List Call
clearing_writes first_open second_open = closing 0 first_open ++ closing 1 second_open

pub clearing_is_writes : (first_open second_open : Bool) → AreWrites (clearing_writes first_open second_open)
clearing_is_writes first_open second_open = are_writes_append (closing 0 first_open) (closing 1 second_open) (closing_is_writes 0 first_open) (closing_is_writes 1 second_open)

-- the calls of this part leave what its writes leave
pub after_clearing : (image : Image) (first_open second_open : Bool) → after image (clearing_calls first_open second_open) ≡ after image (clearing_writes first_open second_open)
after_clearing image true true = refl
after_clearing image true false = refl
after_clearing image false true = refl
after_clearing image false false = refl

module _ (image : Image) (first_open second_open : Bool) (first : IsTrue first_open ↔ IsOpenGate image 0) (second : IsTrue second_open ↔ IsOpenGate image 1) where
  -- no body is touched
  clearing_leaves_body : (left : Image) → May image (clearing_writes first_open second_open) left → (slot : ℕ) → left 0 (body_place slot) ≡ image 0 (body_place slot)
  clearing_leaves_body left may slot =
      may 0 (body_place slot) (writes_at_both (closing 0 first_open) (closing 1 second_open) 0 (body_place slot)
      (closing_elsewhere 0 first_open 0 (body_place slot) (elsewhere (gate_place (slot_of 0)) (body_place slot) (λ e. absurd (omega arith))))
      (closing_elsewhere 1 second_open 0 (body_place slot) (elsewhere (gate_place (slot_of 1)) (body_place slot) (λ e. absurd (omega arith)))))

  -- a gate that is open then was so before
  first_was_open : (left : Image) → May image (clearing_writes first_open second_open) left → IsOpenGate left 0 → IsOpenGate image 0
  first_was_open left may open_now = at first_open refl where
    at : (flag : Bool) → first_open ≡ flag → IsOpenGate image 0
    at true e = first.0 e
    at false e = sym (may 0 (gate_place 0) (writes_at_both (closing 0 first_open) (closing 1 second_open) 0 (gate_place 0)
        (ap (λ flag. writes_at (closing 0 flag) 0 (gate_place 0)) e)
        (closing_elsewhere 1 second_open 0 (gate_place 0) (elsewhere (gate_place (slot_of 1)) (gate_place 0) (λ differ. absurd (omega arith)))))) ∙ open_now

  second_was_open : (left : Image) → May image (clearing_writes first_open second_open) left → IsOpenGate left 1 → IsOpenGate image 1
  second_was_open left may open_now = at second_open refl where
    at : (flag : Bool) → second_open ≡ flag → IsOpenGate image 1
    at true e = second.0 e
    at false e = sym (may 0 (gate_place 1) (writes_at_both (closing 0 first_open) (closing 1 second_open) 0 (gate_place 1)
        (closing_elsewhere 0 first_open 0 (gate_place 1) (elsewhere (gate_place (slot_of 0)) (gate_place 1) (λ differ. absurd (omega arith))))
        (ap (λ flag. writes_at (closing 1 flag) 0 (gate_place 1)) e))) ∙ open_now

  was_open : (left : Image) → May image (clearing_writes first_open second_open) left → (group : ℕ) → IsOpenGate left (slot_of group) → IsOpenGate image (slot_of group)
  was_open left may group open_now = at (slots 0 group) where
    at : (slot_of group ≡ slot_of 0) ⊎ (slot_of group ≡ slot_of (0 + 1)) → IsOpenGate image (slot_of group)
    at (inl e) = subst (IsOpenGate image) (sym e) (first_was_open left may (subst (IsOpenGate left) e open_now))
    at (inr e) = subst (IsOpenGate image) (sym e) (second_was_open left may (subst (IsOpenGate left) e open_now))

  -- so a root that is there then was there before
  pub while_clearing : HasNoRoot image → (left : Image) → May image (clearing_writes first_open second_open) left → HasNoRoot left
  while_clearing none left may body root = none body (record {
    gate = was_open left may body.group root.gate;
    spelled = sym (clearing_leaves_body left may (slot_of body.group)) ∙ root.spelled;
    fits = root.fits;
  })

  -- and once they are made no gate is open
  may_be_cleared : May image (clearing_writes first_open second_open) (after image (clearing_writes first_open second_open))
  may_be_cleared d p e = after_elsewhere image (clearing_writes first_open second_open) d p e

  first_closed : IsOpenGate (after image (clearing_writes first_open second_open)) 0 → ⊥
  first_closed open_now =
      let flag : first_open ≡ true = first.1 (first_was_open (after image (clearing_writes first_open second_open)) may_be_cleared open_now) in
      let is_closed : after image (clearing_writes first_open second_open) 0 (gate_place 0) ≡ closed =
      ap (λ flag. after image (clearing_writes flag second_open) 0 (gate_place 0)) flag
      ∙ after_last_write image [] (closing 1 second_open) 0 (gate_place 0) closed
      (closing_elsewhere 1 second_open 0 (gate_place 0) (elsewhere (gate_place (slot_of 1)) (gate_place 0) (λ differ. absurd (omega arith))))
      in opened_is_not_closed (sym open_now ∙ is_closed)

  second_closed : IsOpenGate (after image (clearing_writes first_open second_open)) 1 → ⊥
  second_closed open_now =
      let flag : second_open ≡ true = second.1 (second_was_open (after image (clearing_writes first_open second_open)) may_be_cleared open_now) in
      let is_closed : after image (clearing_writes first_open second_open) 0 (gate_place 1) ≡ closed =
      ap (λ flag. after image (clearing_writes first_open flag) 0 (gate_place 1)) flag
      ∙ after_last_write image (closing 0 first_open) [] 0 (gate_place 1) closed refl
      in opened_is_not_closed (sym open_now ∙ is_closed)

  pub cleared : HasNoOpenGate (after image (clearing_writes first_open second_open))
  cleared = no_open_gate_of_both (after image (clearing_writes first_open second_open)) first_closed second_closed

-- ---- bodies and logs are zeroed

-- zeros to so many places after the roots
abbrev pub log_writes : ℕ → List Call
log_writes logs = each logs (λ k. Write 0 (4 + k) closed)

-- and to both bodies
abbrev pub zeroing_writes : ℕ → List Call
zeroing_writes logs = Write 0 (body_place 0) closed ∷ (Write 0 (body_place 1) closed ∷ log_writes logs)

log_is_writes : (logs : ℕ) → AreWrites (log_writes logs)
unfolding each
log_is_writes logs = are_writes_map (λ (k : ℕ). 0) (λ k. 4 + k) (λ k. closed) (range_with_len 0 logs)

pub zeroing_is_writes : (logs : ℕ) → AreWrites (zeroing_writes logs)
zeroing_is_writes logs = log_is_writes logs

-- the logs lie after the roots
low_elsewhere : (ks : List ℕ) (p : ℕ) → p < 4 → writes_at (map (λ k. Write 0 (4 + k) closed) ks) 0 p ≡ false
low_elsewhere [] p low = refl
low_elsewhere (k ∷ ks) p low =
    both_false (is_at 0 (4 + k) 0 p) (writes_at (map (λ k. Write 0 (4 + k) closed) ks) 0 p) (elsewhere (4 + k) p (λ e. absurd (omega arith))) (low_elsewhere ks p low)

log_elsewhere : (logs p : ℕ) → p < 4 → writes_at (log_writes logs) 0 p ≡ false
unfolding each
log_elsewhere logs p low = low_elsewhere (range_with_len 0 logs) p low

-- so no gate is written
zeroing_elsewhere : (logs slot : ℕ) → slot < 2 → writes_at (zeroing_writes logs) 0 (gate_place slot) ≡ false
zeroing_elsewhere logs slot low =
    writes_at_both (Write 0 (body_place 0) closed ∷ (Write 0 (body_place 1) closed ∷ [])) (log_writes logs) 0 (gate_place slot)
    (both_false (is_at 0 (body_place 0) 0 (gate_place slot)) (writes_at (Write 0 (body_place 1) closed ∷ []) 0 (gate_place slot))
    (elsewhere (body_place 0) (gate_place slot) (λ e. absurd (omega arith)))
    (both_false (is_at 0 (body_place 1) 0 (gate_place slot)) false (elsewhere (body_place 1) (gate_place slot) (λ e. absurd (omega arith))) refl))
    (log_elsewhere logs (gate_place slot) (omega arith))

-- and none is open where none was
pub while_zeroing : (image : Image) (logs : ℕ) → HasNoOpenGate image → (left : Image) → May image (zeroing_writes logs) left → HasNoOpenGate left
while_zeroing image logs unopened left may =
    no_open_gate_where_same image left (λ slot low open_now. sym (may 0 (gate_place slot) (zeroing_elsewhere logs slot low)) ∙ open_now) unopened

pub zeroed_gates : (image : Image) (logs : ℕ) → HasNoOpenGate image → HasNoOpenGate (after image (zeroing_writes logs))
zeroed_gates image logs unopened = while_zeroing image logs unopened (after image (zeroing_writes logs)) (λ d p e. after_elsewhere image (zeroing_writes logs) d p e)

-- each log place holds zeros then
one_more_log : (logs : ℕ) → log_writes (suc logs) ≡ log_writes logs ++ Write 0 (4 + logs) closed ∷ []
one_more_log logs = let next : suc logs ≡ logs + 1 = omega arith in ap log_writes next ∙ each_more logs (λ k. Write 0 (4 + k) closed)

logs_after : (image : Image) (logs k : ℕ) → k < logs → after image (log_writes logs) 0 (4 + k) ≡ closed
logs_after image zero k low = absurd (omega arith)
logs_after image (suc logs) k low =
    ap (λ calls. after image calls 0 (4 + k)) (one_more_log logs)
    ∙ ap (λ (now : Image). now 0 (4 + k)) (after_append image (log_writes logs) (Write 0 (4 + logs) closed ∷ []))
    ∙ last (λ before. logs_after image logs k before) (eq-or-lt_of_le (let upto : k ≤ logs = omega arith in upto)) where
      last : (k < logs → after image (log_writes logs) 0 (4 + k) ≡ closed) → (k ≡ logs) ⊎ (k < logs) → with_bytes (after image (log_writes logs)) 0 (4 + logs) closed 0 (4 + k) ≡ closed
      last before (inl e) = with_bytes_there (after image (log_writes logs)) 0 (4 + logs) closed 0 (4 + k) (subst (λ n. is_at 0 (4 + logs) 0 (4 + n) ≡ true) (sym e) (is_at_here 0 (4 + logs)))
      last before (inr lt) = with_bytes_elsewhere (after image (log_writes logs)) 0 (4 + logs) closed 0 (4 + k) (elsewhere (4 + logs) (4 + k) (λ e. absurd (omega arith))) ∙ before lt

pub zeroed_logs : (image : Image) (logs : ℕ) → HasZeroLogs logs (after image (zeroing_writes logs))
zeroed_logs image logs k low = logs_after (with_bytes (with_bytes image 0 (body_place 0) closed) 0 (body_place 1) closed) logs k low
