use Rattle.std.proofs.Common.{ℕ, Option}
use Rattle.zc_heart.specs.declared.file.HeldBlock.{HeldBlock}
use Rattle.zc_heart.proofs.Leaving.{learns_on}
use Rattle.zc_heart.proofs.MakingLaws.{entry_counted, entry_left, file_left}
use Rattle.zc_heart.proofs.making.leave_file.Goals as goal

pub leave_block-requires : goal.leave_block-requires
leave_block-requires c =
    let entry : ℕ × Option HeldBlock = (c.in-Some.field-0-0.now, c.in-Some.held.now) in
    entry_counted c.args.file.now c.args.stamps.now c.loop-held.stamps c.loop-held.held-iterator entry c.next.new.self c.in-Some.ensures.steps c.requires.heart c.iter-held-items.ensures.ascending c.requires.counted c.loop-held.invariant.moves

pub loop-held-preserved : goal.loop-held-preserved
loop-held-preserved c =
    let entry : ℕ × Option HeldBlock = (c.in-Some.field-0-0.now, c.in-Some.held.now) in
    record {
      moves = entry_left c.args.file.now c.args.stamps.now c.loop-held.stamps c.leave_block.new.stamps c.loop-held.held-iterator entry c.next.new.self c.in-Some.ensures.steps c.loop-held.invariant.moves c.leave_block.ensures.moves;
      learns = learns_on c.args.stamps.now c.loop-held.stamps c.leave_block.new.stamps c.loop-held.invariant.learns c.leave_block.ensures.learns;
    }

pub returns-clause-moves : goal.returns-clause-moves
returns-clause-moves c =
    file_left c.args.file.now c.args.stamps.now c.loop-held.stamps c.loop-held.held-iterator c.in-None.ensures.steps.0 c.requires.heart c.iter-held-items.ensures.ascending c.loop-held.invariant.moves
