-- The block is found, or lies in the half that is left, or nowhere.
use Rattle.std.proofs.Common.{◌∙◌, ◌+◌, ◌-◌, ◌/◌, ℕ, ◌<◌, length, sym, ap, arith}
use Rattle.zc_damage.specs.Places.{number_of, bytes_of}
use Rattle.zc_damage.proofs.BlockLaws.{found_there, more_before, more_after, nowhere, number_here}
use Rattle.zc_damage.proofs.tails.block_at.Goals as goal

pub returns-then-found-wanted : goal.returns-then-found-wanted
returns-then-found-wanted c =
    let places = c.args.limits.now.places in
    let middle : ℕ = c.loop-low.low + (c.loop-low.high - c.loop-low.low) / 2 in
    ap bytes_of c.if_there.ensures
    ∙ found_there places c.args.device c.args.place c.args.blocks.now middle c.index-blocks-middle.result c.requires (omega arith) c.index-blocks-middle.is
    (sym c.wide_number_of-found.ensures ∙ c.if-found-wanted.true ∙ c.wide_number_of-wanted.ensures)

pub loop-low-preserved-then-found-wanted-2 : goal.loop-low-preserved-then-found-wanted-2
loop-low-preserved-then-found-wanted-2 c =
    let places = c.args.limits.now.places in
    let middle : ℕ = c.loop-low.low + (c.loop-low.high - c.loop-low.low) / 2 in
    let inside : middle < length c.args.blocks.now = omega arith in
    let here = number_here places c.args.blocks.now middle c.index-blocks-middle.result inside c.index-blocks-middle.is in
    record {
      within = c.loop-low.invariant.within;
      before = more_before places (number_of places c.args.device c.args.place) c.args.blocks.now middle c.requires inside (omega arith);
      behind = c.loop-low.invariant.behind;
    }

pub loop-low-preserved : goal.loop-low-preserved
loop-low-preserved c =
    let places = c.args.limits.now.places in
    let middle : ℕ = c.loop-low.low + (c.loop-low.high - c.loop-low.low) / 2 in
    let inside : middle < length c.args.blocks.now = omega arith in
    let here = number_here places c.args.blocks.now middle c.index-blocks-middle.result inside c.index-blocks-middle.is in
    record {
      within = omega arith;
      before = c.loop-low.invariant.before;
      behind = more_after places (number_of places c.args.device c.args.place) c.args.blocks.now middle c.requires inside (omega arith);
    }

pub returns : goal.returns
returns c = nowhere c.args.limits.now.places c.args.device c.args.place c.args.blocks.now c.loop-low.low c.loop-low.high c.loop-low-test.false c.loop-low.invariant.before c.loop-low.invariant.behind
