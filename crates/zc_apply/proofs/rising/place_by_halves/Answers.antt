-- Each look at the middle leaves one half.
use Rattle.std.proofs.Common.{◌+◌, ◌-◌, ◌/◌, ◌<◌, length, get_or, arith}
use Rattle.zc_apply.proofs.RisingLaws.{stands_here, lower_up_to, higher_from}
use Rattle.zc_apply.proofs.rising.place_by_halves.Goals as goal

pub returns-then-found-id : goal.returns-then-found-id
returns-then-found-id c =
    let middle = c.loop-low.low + (c.loop-low.high - c.loop-low.low) / 2 in
    let inside : middle < length c.args.files.now = omega (arith, c.loop-low-test.true, c.loop-low.invariant.fits) in
    stands_here c.args.files.now c.args.id middle c.index-files-middle.result c.requires inside c.if-found-id.true

pub loop-low-preserved-then-found-id-2 : goal.loop-low-preserved-then-found-id-2
loop-low-preserved-then-found-id-2 c =
    let middle = c.loop-low.low + (c.loop-low.high - c.loop-low.low) / 2 in
    let inside : middle < length c.args.files.now = omega (arith, c.loop-low-test.true, c.loop-low.invariant.fits) in
    record {
      ordered = omega (arith, c.loop-low-test.true);
      fits = c.loop-low.invariant.fits;
      below = lower_up_to c.args.files.now c.args.id middle c.index-files-middle.result c.requires inside c.if-found-id-2.true;
      above = c.loop-low.invariant.above;
    }

pub loop-low-preserved : goal.loop-low-preserved
loop-low-preserved c =
    let middle = c.loop-low.low + (c.loop-low.high - c.loop-low.low) / 2 in
    let inside : middle < length c.args.files.now = omega (arith, c.loop-low-test.true, c.loop-low.invariant.fits) in
    let higher : c.args.id < (get_or c.args.files.now middle c.index-files-middle.result).id = omega (arith, c.if-found-id.false, c.if-found-id-2.false) in
    record {
      ordered = omega (arith, c.loop-low-test.true);
      fits = omega (arith, inside);
      below = c.loop-low.invariant.below;
      above = higher_from c.args.files.now c.args.id middle c.index-files-middle.result c.requires inside higher;
    }
