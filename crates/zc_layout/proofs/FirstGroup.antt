-- The law of the first group of a pool: where no gate is open there is no root until its own gate is.
use Rattle.std.proofs.Common.{◌≡◌, ℕ, ◌+◌, ◌<◌, ◌⊎◌, true, false, true≢false, IsTrue, ◌↔◌, List, [], length, sym, ap, ◌∙◌, subst, inl, inr, arith}
use Rattle.zc_tape.specs.Tape.{Image, Write, Tape, with_bytes}
use Rattle.zc_tape.specs.Crash.{reads, Crash, May, AtRest, SameOutside}
use Rattle.zc_tape.specs.Plays.{Plays, Begun}
use Rattle.zc_tape.proofs.Places.{same_image, with_bytes_there, with_bytes_elsewhere, is_at_here}
use Rattle.zc_tape.proofs.CrashKinds.{IsKind}
use Rattle.zc_tape.proofs.GroupLaw.{GroupMoments, group_law, group_at_rest, group_reads}
use Rattle.zc_root.specs.Body.{body_bytes}
use Rattle.zc_root.specs.Root.{opened, slot_of, body_place, gate_place, IsOpenGate}
use Rattle.zc_root.proofs.RootLaws.{open_or_not, slots, slot_below, slot_of_next, higher_than_closed, root_when_higher}
use Rattle.zc_layout.specs.Layout.{Put, owns}
use Rattle.zc_layout.specs.Standing.{Standing, Stands, HasNoRoot, Begins, first_writes, group_calls}
use Rattle.zc_layout.specs.Outcomes.{before_gate, HasZeroLogs, CreationIsMade}
use Rattle.zc_layout.proofs.LayoutLaws.{covers_holds}
use Rattle.zc_layout.proofs.StandingLaws.{HasNoOpenGate}
use Rattle.zc_layout.proofs.GroupImages.{elsewhere, not_at_roots, first_is_writes, SameBeside, first_image, written_image, first_leaves, first_leaves_gate, body_leaves, body_leaves_closed, gate_leaves, gate_leaves_body, gate_leaves_puts}
use Rattle.zc_layout.proofs.GroupCrash.{each_crash_as_read}

module _ (crash : Crash) (t u : Tape) (logs : ℕ) (new : Standing) (puts : List Put)
    (kind : IsKind crash) (rests : AtRest t) (unopened : HasNoOpenGate (reads t)) (zeros : HasZeroLogs logs (reads t))
    (begins : Begins new puts) (beside_logs : (place : ℕ) → place < 4 + logs → owns puts 0 place ≡ false) where
  known : IsTrue false ↔ IsOpenGate (reads t) (slot_of new.body.group)
  known = (λ e. absurd (true≢false (sym e)), λ open_now. absurd (unopened (slot_of new.body.group) (slot_below new.body.group) open_now))

  -- the other gate stays closed
  other_closed : (left : Image) → SameBeside puts new.body.group (reads t) left → (slot : ℕ) → slot < 2 → (slot ≡ slot_of new.body.group → ⊥) → IsOpenGate left slot → ⊥
  other_closed left same slot low other open_now =
      unopened slot low
      (sym (same 0 (gate_place slot) (begins.beside_roots (gate_place slot) (omega arith))
      (elsewhere (gate_place (slot_of new.body.group)) (gate_place slot) (λ e. other (omega arith)))
      (elsewhere (body_place (slot_of new.body.group)) (gate_place slot) (λ e. absurd (omega arith)))) ∙ open_now)

  -- so there is no root where the group's own gate isn't open
  no_root : (left : Image) → SameBeside puts new.body.group (reads t) left → (IsOpenGate left (slot_of new.body.group) → ⊥) → HasNoRoot left
  no_root left same here_closed body root = at (slots new.body.group body.group) where
    at : (slot_of body.group ≡ slot_of new.body.group) ⊎ (slot_of body.group ≡ slot_of (new.body.group + 1)) → ⊥
    at (inl e) = here_closed (subst (IsOpenGate left) e root.gate)
    at (inr e) = other_closed left same (slot_of body.group) (slot_below body.group) (λ here. slot_of_next new.body.group (sym e ∙ here)) root.gate

  while_first : (left : Image) → May (reads t) (first_writes puts new.body.group false) left → HasNoRoot left
  while_first left may =
      no_root left (first_leaves (reads t) puts new.body false begins.beside_roots known left may)
      (λ open_now. unopened (slot_of new.body.group) (slot_below new.body.group) (first_leaves_gate (reads t) puts new.body false begins.beside_roots known left may open_now))

  while_body : (left : Image) → SameOutside 0 (body_place (slot_of new.body.group)) (first_image (reads t) puts new.body false) left → HasNoRoot left
  while_body left same =
      no_root left (body_leaves (reads t) puts new.body false begins.beside_roots known left same)
      (body_leaves_closed (reads t) puts new.body false begins.beside_roots known left same)

  -- where it is open, the first root stands
  stands_new : (left : Image) → SameOutside 0 (gate_place (slot_of new.body.group)) (written_image (reads t) puts new.body false) left
      → IsOpenGate left (slot_of new.body.group) → Stands left new
  stands_new left same open_now = record {
    root = root_when_higher left new.body
        (record { gate = open_now; spelled = gate_leaves_body (reads t) puts new.body false begins.beside_roots known left same; fits = begins.fits })
        (higher_than_closed left new.body
        (other_closed left (gate_leaves (reads t) puts new.body false begins.beside_roots known left same) (slot_of (new.body.group + 1)) (slot_below (new.body.group + 1)) (slot_of_next new.body.group)));
    holds = covers_holds left new.puts puts [] begins.covers (gate_leaves_puts (reads t) puts new.body false begins.beside_roots known begins.distinct left same) tt;
  }

  -- and the logs are still zeros
  still_zeros : (left : Image) → SameBeside puts new.body.group (reads t) left → HasZeroLogs logs left
  still_zeros left same k low =
      same 0 (4 + k) (beside_logs (4 + k) (omega arith))
      (not_at_roots (gate_place (slot_of new.body.group)) 0 (4 + k) (omega (arith, slot_below new.body.group)) (λ _ far. absurd (omega arith)))
      (not_at_roots (body_place (slot_of new.body.group)) 0 (4 + k) (omega (arith, slot_below new.body.group)) (λ _ far. absurd (omega arith)))
      ∙ zeros k low

  while_gate : (left : Image) → SameOutside 0 (gate_place (slot_of new.body.group)) (written_image (reads t) puts new.body false) left
      → HasNoRoot left ⊎ (Stands left new × HasZeroLogs logs left)
  while_gate left same = at (open_or_not left (slot_of new.body.group)) where
    beside : SameBeside puts new.body.group (reads t) left
    beside = gate_leaves (reads t) puts new.body false begins.beside_roots known left same

    at : IsOpenGate left (slot_of new.body.group) ⊎ (IsOpenGate left (slot_of new.body.group) → ⊥) → HasNoRoot left ⊎ (Stands left new × HasZeroLogs logs left)
    at (inl open_now) = inr (stands_new left same open_now, still_zeros left beside)
    at (inr here_closed) = inl (no_root left beside here_closed)

  -- each moment of the first group's calls
  pub first_group_moments : Begun t (group_calls puts new.body false) u
      → GroupMoments crash t u (length t.calls + before_gate puts new.body false) HasNoRoot (λ image. HasNoRoot image ⊎ (Stands image new × HasZeroLogs logs image))
  first_group_moments begun =
      group_law crash t u (first_writes puts new.body.group false) 0 (body_place (slot_of new.body.group)) (body_bytes new.body) 0 (gate_place (slot_of new.body.group)) opened
      HasNoRoot (λ image. HasNoRoot image ⊎ (Stands image new × HasZeroLogs logs image)) kind rests (first_is_writes puts new.body.group false) begun while_first while_body while_gate

  -- ---- once all calls were Ok

  reads_opened : Plays t (group_calls puts new.body false) u true
      → reads u ≡ with_bytes (written_image (reads t) puts new.body false) 0 (gate_place (slot_of new.body.group)) opened
  reads_opened played = group_reads t u (first_writes puts new.body.group false) 0 (body_place (slot_of new.body.group)) (body_bytes new.body) 0 (gate_place (slot_of new.body.group)) opened played

  same_made : Plays t (group_calls puts new.body false) u true
      → SameOutside 0 (gate_place (slot_of new.body.group)) (written_image (reads t) puts new.body false) (reads u)
  same_made played d p e =
      ap (λ (image : Image). image d p) (reads_opened played)
      ∙ with_bytes_elsewhere (written_image (reads t) puts new.body false) 0 (gate_place (slot_of new.body.group)) opened d p e

  gate_opened : Plays t (group_calls puts new.body false) u true → IsOpenGate (reads u) (slot_of new.body.group)
  gate_opened played =
      ap (λ (image : Image). image 0 (gate_place (slot_of new.body.group))) (reads_opened played)
      ∙ with_bytes_there (written_image (reads t) puts new.body false) 0 (gate_place (slot_of new.body.group)) opened
      0 (gate_place (slot_of new.body.group)) (is_at_here 0 (gate_place (slot_of new.body.group)))

  -- the first root alone stands
  pub first_group_is_made : Plays t (group_calls puts new.body false) u true → CreationIsMade crash u logs new
  first_group_is_made played =
      let at_rest : AtRest u =
      group_at_rest t u (first_writes puts new.body.group false) (Write 0 (body_place (slot_of new.body.group)) (body_bytes new.body)) (Write 0 (gate_place (slot_of new.body.group)) opened) rests played in
      let made : Stands (reads u) new = stands_new (reads u) (same_made played) (gate_opened played) in
      let beside : SameBeside puts new.body.group (reads t) (reads u) = gate_leaves (reads t) puts new.body false begins.beside_roots known (reads u) (same_made played) in
      let zeros_now : HasZeroLogs logs (reads u) = still_zeros (reads u) beside
      in record {
        at_rest = at_rest;
        stands = made;
        logs_are = zeros_now;
        only_new = each_crash_as_read crash u (λ image. Stands image new × HasZeroLogs logs image) kind at_rest
            (λ image same. subst (λ (now : Image). Stands now new × HasZeroLogs logs now) (sym (same_image image (reads u) same)) (made, zeros_now));
        next_gate = other_closed (reads u) beside (slot_of (new.body.group + 1)) (slot_below (new.body.group + 1)) (slot_of_next new.body.group);
      }
