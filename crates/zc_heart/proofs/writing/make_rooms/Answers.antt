-- One block more has room, and the others keep theirs.
use Rattle.std.proofs.Common.{◌≡◌, ◌≢◌, ℕ, ◌+◌, sym, subst, ◌∙◌, ⊎_elim, arith}
use Rattle.std.specs.Prelude.{IsTrue}
use Rattle.std.proofs.lemmas.Bool.{cases_eq}
use Rattle.zc_heart.specs.Stamps.{has_room}
use Rattle.zc_heart.specs.Steps.{HasRoom}
use Rattle.zc_heart.proofs.StepLaws.{keeps_on, stays_on}
use Rattle.zc_heart.proofs.writing.make_rooms.Goals as goal

pub loop-k-preserved : goal.loop-k-preserved
loop-k-preserved c =
    let before = c.loop-k.invariant in
    let number = c.args.number in
    let last = c.args.first + c.loop-k.k in
    let mid = c.loop-k.file in
    let new = c.make_room.new.self in
    let kept = c.in_ok-make_room.ensures.kept in
    record {
      file = keeps_on c.args.file.now mid new before.file kept;
      stamps = stays_on c.args.stamps.now c.loop-k.stamps c.room.new.self before.stamps c.in_ok-room.ensures.stays;
      room = λ k from until. ⊎_elim
          (λ (same : k ≡ last). subst (λ (n : ℕ). HasRoom n new) (sym same) c.in_ok-make_room.ensures.room)
          (λ (apart : k ≢ last). let room = before.room k from (omega (arith, until, apart)) in (kept.room k room.0, kept.mark_room k room.1))
          (cases_eq k last);
      stamp_room = λ k from until. ⊎_elim
          (λ (same : k ≡ last).
          let at : c.from.result ≡ k = c.from.ensures ∙ sym same in
          subst (λ (n : ℕ). IsTrue (has_room c.room.new.self (number, n))) at c.in_ok-room.ensures.room)
          (λ (apart : k ≢ last). c.in_ok-room.ensures.others (number, k) (before.stamp_room k from (omega (arith, until, apart))))
          (cases_eq k last);
    }
