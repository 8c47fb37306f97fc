-- A block that is put takes the place of one that leaves, or of a hole.
use Rattle.std.proofs.Common.{◌≡◌, ℕ, ◌+◌, ◌<◌, [], ◌∷◌, sym, ap, subst, arith}
use Rattle.zc_plain.specs.declared.plain_pool.PlainBlock.{PlainBlock}
use Rattle.zc_plain.specs.declared.plain_pool.PlainBlock.TheVariants.{Hole, Made}
use Rattle.zc_plain.specs.Charge.{stamp_of}
use Rattle.zc_heart.specs.declared.file.HeldBlock.{HeldBlock}
use Rattle.zc_heart.specs.declared.file.HeartFile.{HeartFile}
use Rattle.zc_heart.specs.Core.{plain_block}
use Rattle.zc_heart.specs.Stamps.{files_at, Moves}
use Rattle.zc_heart.specs.Steps.{held_at, Sets}
use Rattle.zc_heart.proofs.HeldLaws.{pointer_of}
use Rattle.zc_heart.proofs.PutLaws.{with_put, steps_put, few_pointers, still_counted, fresh_once_joined, fresh_once_left, apart_from_fresh, moved_both, learnt_both}
use Rattle.zc_heart.proofs.file.HeartFile.put_block.Goals as goal

-- it is no hole, so its stamp is counted
pub leave-requires : goal.leave-requires
leave-requires c =
    let file = c.args.self.now in
    let before = c.in-Some.before in
    let was : held_at c.args.index file ≡ Made before.entry before.index before.bytes = ap plain_block c.in-Some.ensures.before in
    still_counted c.args.index file c.args.stamps.now c.join.new.self before.entry before.index (c.args.number, c.from-at.result) before.bytes c.requires.counted c.requires.within was c.join.ensures.moves

pub overflow_add-self : goal.overflow_add-self
overflow_add-self c =
    let file = c.args.self.now in
    let same : c.replace_block.new.self.pointers ≡ file.pointers = ap (λ (all : HeartFile). all.pointers) c.replace_block.ensures.file in
    omega (arith, same, few_pointers file c.requires.heart c.requires.short)

pub returns-in-Some : goal.returns-in-Some
returns-in-Some c =
    let file = c.args.self.now in
    let new = c.replace_block.new.self in
    let before = c.in-Some.before in
    let index = c.args.index in
    let number = c.args.number in
    let held : HeldBlock = record { entry = number; index = c.from-at.result; bytes = c.args.bytes } in
    let at : c.from-at.result ≡ index = c.from-at.ensures in
    let is : new ≡ with_put index held file.pointers file = c.replace_block.ensures.file in
    let was : held_at index file ≡ Made before.entry before.index before.bytes = ap plain_block c.in-Some.ensures.before in
    let pointers : file.pointers + pointer_of (held_at index file) ≡ file.pointers + 1 = ap (λ (block : PlainBlock). file.pointers + pointer_of block) was in
    let both : Moves c.args.stamps.now c.leave.new.self ((before.entry, before.index) ∷ []) ((number, c.from-at.result) ∷ []) =
    moved_both c.args.stamps.now c.join.new.self c.leave.new.self (before.entry, before.index) (number, c.from-at.result) c.join.ensures.moves c.leave.ensures.moves in
    let moves : Moves c.args.stamps.now c.leave.new.self (stamp_of (held_at index file)) ((number, c.from-at.result) ∷ []) =
    subst (λ (block : PlainBlock). Moves c.args.stamps.now c.leave.new.self (stamp_of block) ((number, c.from-at.result) ∷ [])) (sym was) both in
    let learns = learnt_both c.args.stamps.now c.join.new.self c.leave.new.self c.join.ensures.learns c.leave.ensures.learns in
    let steps = steps_put index held file.pointers file new c.args.stamps.now c.leave.new.self is c.requires.heart c.requires.within pointers moves learns in
    let joins : Moves c.args.stamps.now c.join.new.self [] ((number, index) ∷ []) =
    subst (λ (n : ℕ). Moves c.args.stamps.now c.join.new.self [] ((number, n) ∷ [])) at c.join.ensures.moves in
    let fresh = fresh_once_joined number index c.args.stamps.now c.join.new.self c.requires.fresh joins in
    let some : 0 < files_at c.join.new.self (before.entry, before.index) =
    still_counted index file c.args.stamps.now c.join.new.self before.entry before.index (number, c.from-at.result) before.bytes c.requires.counted c.requires.within was c.join.ensures.moves in
    record {
      heart = steps.heart;
      block = subst (λ (n : ℕ). Sets index (Made number n c.args.bytes) file new) at steps.sets;
      marks = steps.marks;
      counts = steps.counts;
      fresh = fresh_once_left number index (before.entry, before.index) c.join.new.self c.leave.new.self fresh c.leave.ensures.moves;
      rooms = λ k below there.
          c.leave.ensures.others (number, k) (c.join.ensures.others (number, k) there)
          (apart_from_fresh number k (before.entry, before.index) c.join.new.self (fresh k below) some);
    }

pub returns-in-None : goal.returns-in-None
returns-in-None c =
    let file = c.args.self.now in
    let index = c.args.index in
    let number = c.args.number in
    let held : HeldBlock = record { entry = number; index = c.from-at.result; bytes = c.args.bytes } in
    let at : c.from-at.result ≡ index = c.from-at.ensures in
    let new : HeartFile = record c.replace_block.new.self { pointers = c.replace_block.new.self.pointers + 1 } in
    let is : new ≡ with_put index held (file.pointers + 1) file = ap (λ (all : HeartFile). record all { pointers = all.pointers + 1 }) c.replace_block.ensures.file in
    let was : held_at index file ≡ Hole = ap plain_block c.in-None.ensures.before in
    let pointers : file.pointers + 1 + pointer_of (held_at index file) ≡ file.pointers + 1 =
    (let weight : pointer_of (held_at index file) ≡ 0 = ap pointer_of was in omega (arith, weight)) in
    let moves : Moves c.args.stamps.now c.join.new.self (stamp_of (held_at index file)) ((number, c.from-at.result) ∷ []) =
    subst (λ (block : PlainBlock). Moves c.args.stamps.now c.join.new.self (stamp_of block) ((number, c.from-at.result) ∷ [])) (sym was) c.join.ensures.moves in
    let steps = steps_put index held (file.pointers + 1) file new c.args.stamps.now c.join.new.self is c.requires.heart c.requires.within pointers moves c.join.ensures.learns in
    let joins : Moves c.args.stamps.now c.join.new.self [] ((number, index) ∷ []) =
    subst (λ (n : ℕ). Moves c.args.stamps.now c.join.new.self [] ((number, n) ∷ [])) at c.join.ensures.moves in
    record {
      heart = steps.heart;
      block = subst (λ (n : ℕ). Sets index (Made number n c.args.bytes) file new) at steps.sets;
      marks = steps.marks;
      counts = steps.counts;
      fresh = fresh_once_joined number index c.args.stamps.now c.join.new.self c.requires.fresh joins;
      rooms = λ k below there. c.join.ensures.others (number, k) there;
    }
