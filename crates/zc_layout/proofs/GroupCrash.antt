-- The law of a group: until the write of its open gate is begun each crash leaves the old root, from then on the old one or the new
-- one, and once its last sync was Ok the new one alone.
use Rattle.std.proofs.Common.{◌≡◌, ℕ, ◌+◌, ◌<◌, ◌⊎◌, Bool, true, false, IsTrue, ◌↔◌, List, [], length, refl, sym, ap, ◌∙◌, subst, inl, inr, arith}
use Rattle.zc_tape.specs.Tape.{Image, Write, Tape, with_bytes}
use Rattle.zc_tape.specs.Crash.{reads, Crash, May, EachCrash, AtRest, SameOutside}
use Rattle.zc_tape.specs.Plays.{Plays, Begun}
use Rattle.zc_tape.proofs.Places.{with_bytes_there, with_bytes_elsewhere, is_at_here}
use Rattle.zc_tape.proofs.CrashKinds.{IsKind}
use Rattle.zc_tape.proofs.PlayWrites.{each_crash_at_rest}
use Rattle.zc_tape.proofs.GroupLaw.{GroupMoments, group_law, group_each, group_at_rest, group_reads}
use Rattle.zc_tape.proofs.Unwritten.{unwritten}
use Rattle.zc_root.specs.declared.body.Body.{Body}
use Rattle.zc_root.specs.Body.{body_bytes}
use Rattle.zc_root.specs.Root.{opened, slot_of, body_place, gate_place, IsOpenGate}
use Rattle.zc_root.proofs.RootLaws.{SameSlot, IsHigher, open_or_not, slot_below, slot_of_next, higher_than_closed, higher_than_before, next_is_root}
use Rattle.zc_layout.specs.Layout.{Put, Agrees, owns}
use Rattle.zc_layout.specs.Standing.{Standing, Stands, LeadsTo, first_writes, group_calls}
use Rattle.zc_layout.specs.Outcomes.{before_gate, GroupLeaves, GroupIsMade}
use Rattle.zc_layout.proofs.LayoutLaws.{owns_other, holds_where_agrees, covers_holds}
use Rattle.zc_layout.proofs.StandingLaws.{stands_where_agrees, stands_where_same}
use Rattle.zc_layout.proofs.GroupImages.{elsewhere, not_at_roots, first_is_writes, group_elsewhere, SameBeside, first_image, written_image, first_leaves, first_leaves_body, first_leaves_gate, body_leaves, body_leaves_closed, gate_leaves, gate_leaves_body, gate_leaves_puts}

-- at rest, each crash leaves what each image that reads alike has
pub each_crash_as_read : (crash : Crash) (u : Tape) (P : Image → Type 0) → IsKind crash → AtRest u
    → ((image : Image) → ((d p : ℕ) → image d p ≡ reads u d p) → P image) → EachCrash crash u (length u.calls) (λ _ image. P image)
each_crash_as_read crash u P kind rests each = each_crash_at_rest crash u P rests (λ image left. each image (λ d p. kind.may (reads u) [] image left d p refl))

module _ (crash : Crash) (t u : Tape) (old new : Standing) (puts : List Put) (gate_open : Bool)
    (kind : IsKind crash) (rests : AtRest t) (stands : Stands (reads t) old) (leads : LeadsTo old new puts)
    (known : IsTrue gate_open ↔ IsOpenGate (reads t) (slot_of new.body.group)) where
  -- the new root has the other slot
  slots_differ : slot_of old.body.group ≡ slot_of new.body.group → ⊥
  slots_differ e = slot_of_next old.body.group (ap slot_of (sym leads.next) ∙ sym e)

  next_slot : slot_of (old.body.group + 1) ≡ slot_of new.body.group
  next_slot = ap slot_of (sym leads.next)

  -- what the calls don't write has the old root's slot
  old_slot : (left : Image) → SameBeside puts new.body.group (reads t) left → SameSlot (reads t) left (slot_of old.body.group)
  old_slot left same = record {
    gate = same 0 (gate_place (slot_of old.body.group)) (leads.beside_roots (gate_place (slot_of old.body.group)) (omega (arith, slot_below old.body.group)))
        (elsewhere (gate_place (slot_of new.body.group)) (gate_place (slot_of old.body.group)) (λ e. slots_differ (omega arith)))
        (elsewhere (body_place (slot_of new.body.group)) (gate_place (slot_of old.body.group)) (λ e. absurd (omega arith)));
    body_there = same 0 (body_place (slot_of old.body.group)) (leads.beside_roots (body_place (slot_of old.body.group)) (omega (arith, slot_below old.body.group)))
        (elsewhere (gate_place (slot_of new.body.group)) (body_place (slot_of old.body.group)) (λ e. absurd (omega arith)))
        (elsewhere (body_place (slot_of new.body.group)) (body_place (slot_of old.body.group)) (λ e. slots_differ (omega arith)));
  }

  -- and all that the old root owns
  old_puts : (left : Image) → SameBeside puts new.body.group (reads t) left → Agrees old.puts (reads t) left
  old_puts left same d p e =
      same d p (leads.beside_old d p e)
      (owns_other old.puts 0 (gate_place (slot_of new.body.group)) d p (leads.old_beside_roots (gate_place (slot_of new.body.group)) (omega (arith, slot_below new.body.group))) e)
      (owns_other old.puts 0 (body_place (slot_of new.body.group)) d p (leads.old_beside_roots (body_place (slot_of new.body.group)) (omega (arith, slot_below new.body.group))) e)

  -- so the old root stands where nothing is open and higher in the new one's slot
  stands_old : (left : Image) → SameBeside puts new.body.group (reads t) left → IsHigher left old.body → Stands left old
  stands_old left same higher = stands_where_agrees (reads t) left old (old_puts left same) (old_slot left same) higher stands

  higher_unopened : (left : Image) → (IsOpenGate left (slot_of new.body.group) → ⊥) → IsHigher left old.body
  higher_unopened left unopened = higher_than_closed left old.body (subst (λ slot. IsOpenGate left slot → ⊥) (sym next_slot) unopened)

  -- the first writes: where the gate is open, it was so before, over the same body
  while_first : (left : Image) → May (reads t) (first_writes puts new.body.group gate_open) left → Stands left old
  while_first left may = stands_old left (first_leaves (reads t) puts new.body gate_open leads.beside_roots known left may) (at (open_or_not left (slot_of new.body.group))) where
    at : IsOpenGate left (slot_of new.body.group) ⊎ (IsOpenGate left (slot_of new.body.group) → ⊥) → IsHigher left old.body
    at (inl open_now) = higher_than_before (reads t) left old.body stands.root
        (subst (λ slot. IsOpenGate (reads t) slot) (sym next_slot) (first_leaves_gate (reads t) puts new.body gate_open leads.beside_roots known left may open_now))
        (subst (λ slot. left 0 (body_place slot) ≡ reads t 0 (body_place slot)) (sym next_slot) (first_leaves_body (reads t) puts new.body gate_open leads.beside_roots known left may))
    at (inr unopened) = higher_unopened left unopened

  -- the body's write: its gate isn't open
  while_body : (left : Image) → SameOutside 0 (body_place (slot_of new.body.group)) (first_image (reads t) puts new.body gate_open) left → Stands left old
  while_body left same =
      stands_old left (body_leaves (reads t) puts new.body gate_open leads.beside_roots known left same)
      (higher_unopened left (body_leaves_closed (reads t) puts new.body gate_open leads.beside_roots known left same))

  -- the write of the open gate, where that is open
  stands_new : (left : Image) → SameOutside 0 (gate_place (slot_of new.body.group)) (written_image (reads t) puts new.body gate_open) left
      → IsOpenGate left (slot_of new.body.group) → Stands left new
  stands_new left same open_now =
      let beside : SameBeside puts new.body.group (reads t) left = gate_leaves (reads t) puts new.body gate_open leads.beside_roots known left same
      in record {
        root = next_is_root (reads t) left old.body new.body leads.next leads.fits (old_slot left beside) open_now
            (gate_leaves_body (reads t) puts new.body gate_open leads.beside_roots known left same) stands.root;
        holds = covers_holds left new.puts puts old.puts leads.covers
            (gate_leaves_puts (reads t) puts new.body gate_open leads.beside_roots known leads.distinct left same)
            (holds_where_agrees (reads t) left old.puts (old_puts left beside) stands.holds);
      }

  -- and where it isn't
  while_gate : (left : Image) → SameOutside 0 (gate_place (slot_of new.body.group)) (written_image (reads t) puts new.body gate_open) left
      → Stands left old ⊎ Stands left new
  while_gate left same = at (open_or_not left (slot_of new.body.group)) where
    at : IsOpenGate left (slot_of new.body.group) ⊎ (IsOpenGate left (slot_of new.body.group) → ⊥) → Stands left old ⊎ Stands left new
    at (inl open_now) = inr (stands_new left same open_now)
    at (inr unopened) = inl (stands_old left (gate_leaves (reads t) puts new.body gate_open leads.beside_roots known left same) (higher_unopened left unopened))

  -- at each moment since the calls began
  pub group_moments : Begun t (group_calls puts new.body gate_open) u → GroupLeaves crash t u old new (length t.calls + before_gate puts new.body gate_open)
  group_moments begun =
      let moments : GroupMoments crash t u (length t.calls + before_gate puts new.body gate_open) (λ image. Stands image old) (λ image. Stands image old ⊎ Stands image new) =
      group_law crash t u (first_writes puts new.body.group gate_open) 0 (body_place (slot_of new.body.group)) (body_bytes new.body) 0 (gate_place (slot_of new.body.group)) opened
      (λ image. Stands image old) (λ image. Stands image old ⊎ Stands image new) kind rests (first_is_writes puts new.body.group gate_open) begun while_first while_body while_gate
      in record {
        before = moments.before;
        each = group_each crash t u (length t.calls + before_gate puts new.body gate_open) (λ image. Stands image old) (λ image. Stands image old ⊎ Stands image new) moments (λ image here. inl here);
      }

  -- ---- once all calls were Ok

  reads_opened : Plays t (group_calls puts new.body gate_open) u true
      → reads u ≡ with_bytes (written_image (reads t) puts new.body gate_open) 0 (gate_place (slot_of new.body.group)) opened
  reads_opened played = group_reads t u (first_writes puts new.body.group gate_open) 0 (body_place (slot_of new.body.group)) (body_bytes new.body) 0 (gate_place (slot_of new.body.group)) opened played

  same_made : Plays t (group_calls puts new.body gate_open) u true
      → SameOutside 0 (gate_place (slot_of new.body.group)) (written_image (reads t) puts new.body gate_open) (reads u)
  same_made played d p e =
      ap (λ (image : Image). image d p) (reads_opened played)
      ∙ with_bytes_elsewhere (written_image (reads t) puts new.body gate_open) 0 (gate_place (slot_of new.body.group)) opened d p e

  gate_opened : Plays t (group_calls puts new.body gate_open) u true → IsOpenGate (reads u) (slot_of new.body.group)
  gate_opened played =
      ap (λ (image : Image). image 0 (gate_place (slot_of new.body.group))) (reads_opened played)
      ∙ with_bytes_there (written_image (reads t) puts new.body gate_open) 0 (gate_place (slot_of new.body.group)) opened
      0 (gate_place (slot_of new.body.group)) (is_at_here 0 (gate_place (slot_of new.body.group)))

  -- the new root alone stands
  pub group_is_made : Plays t (group_calls puts new.body gate_open) u true → GroupIsMade crash u new
  group_is_made played =
      let at_rest : AtRest u =
      group_at_rest t u (first_writes puts new.body.group gate_open) (Write 0 (body_place (slot_of new.body.group)) (body_bytes new.body)) (Write 0 (gate_place (slot_of new.body.group)) opened) rests played in
      let made : Stands (reads u) new = stands_new (reads u) (same_made played) (gate_opened played) in
      let old_there : SameSlot (reads t) (reads u) (slot_of old.body.group) = old_slot (reads u) (gate_leaves (reads t) puts new.body gate_open leads.beside_roots known (reads u) (same_made played)) in
      let old_slot_again : slot_of old.body.group ≡ slot_of (new.body.group + 1) = (let next : new.body.group ≡ old.body.group + 1 = leads.next in omega arith)
      in record {
        at_rest = at_rest;
        stands = made;
        only_new = each_crash_as_read crash u (λ image. Stands image new) kind at_rest (λ image same. stands_where_same (reads u) image new same made);
        next_gate = subst (λ slot. IsOpenGate (reads u) slot) old_slot_again (old_there.gate ∙ stands.root.here.gate);
      }

-- ---- what a group's calls don't write

-- at each moment every place but the puts' and those of the group's slot holds what it held
pub group_unwritten : (crash : Crash) (t u : Tape) (puts : List Put) (body : Body) (gate_open : Bool)
    → IsKind crash → AtRest t → Begun t (group_calls puts body gate_open) u
    → EachCrash crash u (length t.calls) (λ _ image. SameBeside puts body.group (reads t) image)
group_unwritten crash t u puts body gate_open kind rests begun i image from upto left d p free gate_apart body_apart =
    unwritten crash t u (group_calls puts body gate_open) kind rests begun i image from upto left d p (group_elsewhere puts body gate_open d p free gate_apart body_apart)

-- so every place after the roots, as those of the logs, but the puts'
pub group_unwritten_after : (crash : Crash) (t u : Tape) (puts : List Put) (body : Body) (gate_open : Bool)
    → IsKind crash → AtRest t → Begun t (group_calls puts body gate_open) u
    → EachCrash crash u (length t.calls) (λ _ image. (d p : ℕ) → owns puts d p ≡ false → (d ≡ 0 → p < 4 → ⊥) → image d p ≡ reads t d p)
group_unwritten_after crash t u puts body gate_open kind rests begun i image from upto left d p free behind =
    group_unwritten crash t u puts body gate_open kind rests begun i image from upto left d p free
    (not_at_roots (gate_place (slot_of body.group)) d p (omega (arith, slot_below body.group)) behind)
    (not_at_roots (body_place (slot_of body.group)) d p (omega (arith, slot_below body.group)) behind)
