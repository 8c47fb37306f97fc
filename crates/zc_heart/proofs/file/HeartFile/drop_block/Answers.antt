-- A block that is taken out leaves, and a hole is none.
use Rattle.std.proofs.Common.{◌≡◌, ℕ, ◌+◌, ◌-◌, ◌<◌, List, [], sym, ap, subst, ◌∙◌, arith}
use Rattle.std.specs.Prelude.{IsSome}
use Rattle.zc_num.specs.Ordered.{value_at, insert_entry}
use Rattle.zc_plain.specs.declared.plain_pool.PlainBlock.{PlainBlock}
use Rattle.zc_plain.specs.declared.plain_pool.PlainBlock.TheVariants.{Hole, Made}
use Rattle.zc_plain.specs.PlainPool.{is_made as is_held}
use Rattle.zc_plain.specs.Charge.{stamp_of}
use Rattle.zc_heart.specs.declared.file.Mark.{Mark}
use Rattle.zc_heart.specs.declared.file.HeartFile.{HeartFile}
use Rattle.zc_heart.specs.Stamps.{files_at, Moves}
use Rattle.zc_heart.specs.Steps.{held_at, hole_mark}
use Rattle.zc_heart.proofs.HeldLaws.{pointer_of}
use Rattle.zc_heart.proofs.PutLaws.{with_taken, steps_taken, steps_hole, stamp_counted, some_pointers, apart_from_fresh}
use Rattle.zc_heart.proofs.file.HeartFile.drop_block.Goals as goal

-- it is no hole, so there is an entry for its mark
pub mark_hole-requires : goal.mark_hole-requires
mark_hole-requires c =
    let held = c.in-Some.held in
    let file = c.args.self.now in
    let was : held_at c.args.index file ≡ Made held.entry held.index held.bytes = c.in-Some.ensures.before in
    let same : c.take_block.new.self.marks ≡ file.marks = ap (λ (all : HeartFile). all.marks) c.take_block.ensures.file in
    subst (λ (marks : List (ℕ × Mark)). IsSome (value_at c.args.index marks)) (sym same) (c.requires.room (ap is_held was))

pub overflow_sub-self : goal.overflow_sub-self
overflow_sub-self c =
    let held = c.in-Some.held in
    let file = c.args.self.now in
    let was : held_at c.args.index file ≡ Made held.entry held.index held.bytes = c.in-Some.ensures.before in
    let same : c.mark_hole.new.self.pointers ≡ file.pointers = ap (λ (all : HeartFile). all.pointers) (c.mark_hole.ensures) ∙ ap (λ (all : HeartFile). all.pointers) c.take_block.ensures.file in
    omega (arith, same, some_pointers c.args.index file (Made held.entry held.index held.bytes) c.requires.heart c.requires.within was)

pub leave-requires : goal.leave-requires
leave-requires c =
    let held = c.in-Some.held in
    let was : held_at c.args.index c.args.self.now ≡ Made held.entry held.index held.bytes = c.in-Some.ensures.before in
    stamp_counted c.args.index c.args.self.now c.args.stamps.now held.entry held.index held.bytes c.requires.counted c.requires.within was

pub returns-in-Some : goal.returns-in-Some
returns-in-Some c =
    let file = c.args.self.now in
    let index = c.args.index in
    let held = c.in-Some.held in
    let new : HeartFile = record c.mark_hole.new.self { pointers = c.mark_hole.new.self.pointers - 1 } in
    let was : held_at index file ≡ Made held.entry held.index held.bytes = c.in-Some.ensures.before in
    let marked : c.mark_hole.new.self ≡ with_taken index file.pointers file = c.mark_hole.ensures ∙ ap (λ (all : HeartFile). record all { marks = insert_entry index (hole_mark (value_at index all.marks)) all.marks }) c.take_block.ensures.file in
    let is : new ≡ with_taken index (file.pointers - 1) file = ap (λ (all : HeartFile). record all { pointers = all.pointers - 1 }) marked in
    let weight : pointer_of (held_at index file) ≡ 1 = ap pointer_of was in
    let pointers : file.pointers - 1 + pointer_of (held_at index file) ≡ file.pointers =
    omega (arith, weight, some_pointers index file (Made held.entry held.index held.bytes) c.requires.heart c.requires.within was) in
    let moves : Moves c.args.stamps.now c.leave.new.self (stamp_of (held_at index file)) [] =
    subst (λ (block : PlainBlock). Moves c.args.stamps.now c.leave.new.self (stamp_of block) []) (sym was) c.leave.ensures.moves in
    let steps = steps_taken index (file.pointers - 1) file new c.args.stamps.now c.leave.new.self is c.take_block.ensures.ascending c.requires.heart c.requires.within pointers moves c.leave.ensures.learns in
    let some : 0 < files_at c.args.stamps.now (held.entry, held.index) = stamp_counted index file c.args.stamps.now held.entry held.index held.bytes c.requires.counted c.requires.within was in
    record {
      heart = steps.heart;
      block = steps.sets;
      marks = steps.marks;
      counts = steps.counts;
      rooms = λ number new k there. c.leave.ensures.others (number, k) there (apart_from_fresh number k (held.entry, held.index) c.args.stamps.now (new k) some);
    }

pub returns-in-None : goal.returns-in-None
returns-in-None c =
    let file = c.args.self.now in
    let hole : held_at c.args.index file ≡ Hole = c.in-None.ensures.before in
    let steps = steps_hole c.args.index file c.take_block.new.self c.args.stamps.now c.take_block.ensures.file c.take_block.ensures.ascending c.requires.heart c.requires.within hole in
    record {
      heart = steps.heart;
      block = steps.sets;
      marks = steps.marks;
      counts = steps.counts;
      rooms = λ number new k there. there;
    }
