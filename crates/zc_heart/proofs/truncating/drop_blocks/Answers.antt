-- One block more is a hole, until there are no others.
use Rattle.std.proofs.Common.{◌≡◌, ◌≢◌, ℕ, ◌≤◌, sym, ap, subst, ◌∙◌, arith}
use Rattle.zc_plain.specs.PlainPool.{is_made as is_held}
use Rattle.zc_plain.specs.PlainPool.{blocks_of_size}
use Rattle.zc_heart.proofs.StepLaws.{counted_on}
use Rattle.zc_heart.proofs.CutLaws.{DropsUpTo, drops_none, drops_more, drops_all}
use Rattle.zc_heart.proofs.truncating.drop_blocks.Goals as goal

pub loop-k-init : goal.loop-k-init
loop-k-init c =
    let begins : c.div_ceil-k.result ≡ blocks_of_size c.args.size = omega (arith, c.div_ceil-k.ensures) in
    let file = c.args.file.now in
    record {
      drops = subst (λ (n : ℕ). DropsUpTo (blocks_of_size c.args.size) n file file c.args.stamps.now c.args.stamps.now) (sym begins) (drops_none (blocks_of_size c.args.size) file c.args.stamps.now c.requires.heart);
      room = λ k from until. c.requires.room k (omega (arith, from, begins)) until;
    }

pub loop-k-preserved : goal.loop-k-preserved
loop-k-preserved c =
    let before = c.loop-k.invariant in
    let mid = c.loop-k.file in
    let new = c.drop_block.new.self in
    let from = blocks_of_size c.args.size in
    let begins : from ≤ c.loop-k.k = omega (arith, c.div_ceil-k.ensures) in
    let sets = c.drop_block.ensures.block in
    record {
      drops = drops_more from c.loop-k.k c.args.file.now mid new c.args.stamps.now c.loop-k.stamps c.drop_block.new.stamps begins before.drops c.drop_block.ensures.heart sets c.drop_block.ensures.marks c.drop_block.ensures.counts;
      room = λ j behind until held.
          let apart : j ≢ c.loop-k.k = λ same. absurd (omega (arith, same, behind)) in
          sets.mark_room j apart (before.room j (omega (arith, behind)) until (sym (ap is_held (sets.others j apart)) ∙ held));
    }

pub drop_block-requires-clause-within : goal.drop_block-requires-clause-within
drop_block-requires-clause-within c =
    omega (arith, c.loop-k.invariant.drops.size, c.div_ceil-end.ensures)

pub drop_block-requires-clause-room : goal.drop_block-requires-clause-room
drop_block-requires-clause-room c = c.loop-k.invariant.room c.loop-k.k (omega arith) (omega (arith, c.div_ceil-end.ensures))

pub drop_block-requires-clause-counted : goal.drop_block-requires-clause-counted
drop_block-requires-clause-counted c = counted_on c.args.stamps.now c.loop-k.stamps c.args.file.now c.loop-k.file c.requires.counted c.loop-k.invariant.drops.counts

pub returns : goal.returns
returns c =
    drops_all (blocks_of_size c.args.size) c.loop-k.k c.args.file.now c.loop-k.file c.args.stamps.now c.loop-k.stamps c.requires.heart (omega (arith, c.div_ceil-end.ensures)) c.loop-k.invariant.drops
