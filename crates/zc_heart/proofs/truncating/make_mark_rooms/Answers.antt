-- One mark more has room, and the others keep theirs.
use Rattle.std.proofs.Common.{◌≡◌, ◌≢◌, ℕ, sym, subst, ⊎_elim, arith}
use Rattle.std.proofs.lemmas.Bool.{cases_eq}
use Rattle.zc_heart.specs.Steps.{HasMarkRoom}
use Rattle.zc_heart.proofs.StepLaws.{keeps_on, mark_room_kept}
use Rattle.zc_heart.proofs.truncating.make_mark_rooms.Goals as goal

pub loop-k-preserved : goal.loop-k-preserved
loop-k-preserved c =
    let mid = c.loop-k.file in
    let new = c.make_held_room.new.self in
    record {
      kept = keeps_on c.args.file.now mid new c.loop-k.invariant.kept c.in_ok-make_held_room.ensures.kept;
      room = λ j from below. ⊎_elim
          (λ (same : j ≡ c.loop-k.k). subst (λ (n : ℕ). HasMarkRoom n new) (sym same) c.in_ok-make_held_room.ensures.room)
          (λ (apart : j ≢ c.loop-k.k). mark_room_kept mid new c.in_ok-make_held_room.ensures.kept j (c.loop-k.invariant.room j from (omega (arith, below, apart))))
          (cases_eq j c.loop-k.k);
    }
