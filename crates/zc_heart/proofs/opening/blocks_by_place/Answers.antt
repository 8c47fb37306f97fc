use Rattle.zc_heart.specs.Opening.{HasRead, AreWhole}
use Rattle.zc_heart.proofs.FoundBlocks.{popped, read_popped, whole_popped, all_popped}
use Rattle.zc_heart.proofs.opening.blocks_by_place.Goals as goal

pub loop-block-preserved : goal.loop-block-preserved
loop-block-preserved c =
    let xs = c.args.blocks.items in
    let is = popped xs c.loop-block.left c.pop.new.self c.in-Some.block c.loop-block.invariant.left c.loop-block.invariant.within c.in-Some.ensures.last c.in-Some.ensures.rest in
    record {
      within = is.within;
      left = is.is;
      read = read_popped xs c.loop-block.left c.pop.new.self c.loop-block.found.entries c.note_block.new.found.entries c.in-Some.block is c.in_ok-note_block.ensures.place c.in_ok-note_block.ensures.noted c.loop-block.invariant.read;
      whole = whole_popped xs c.loop-block.left c.pop.new.self c.in-Some.block is c.in_ok-note_block.ensures.whole c.loop-block.invariant.whole;
    }

pub returns-clause-read : goal.returns-clause-read
returns-clause-read c = all_popped (HasRead c.loop-block.found.entries) c.args.blocks.items c.loop-block.left c.in_default.ensures.last c.loop-block.invariant.read

pub returns-clause-whole : goal.returns-clause-whole
returns-clause-whole c = all_popped AreWhole c.args.blocks.items c.loop-block.left c.in_default.ensures.last c.loop-block.invariant.whole
