-- One more block.
use Rattle.std.proofs.Common.{◌≡◌, length, drop, ap, arith}
use Rattle.std.proofs.lemmas.List.{length-drop}
use Rattle.zc_catalog.specs.Chain.{links}
use Rattle.zc_catalog.proofs.ChainLaws.{links_go_on}
use Rattle.zc_catalog.proofs.linking.link.Goals as goal

pub loop-index-preserved : goal.loop-index-preserved
loop-index-preserved c =
    let shorter : length c.split_part.result.1.now ≡ length (drop 4088 c.loop-index.rest.now) = ap length c.split_part.ensures.back in
    record {
      joined = rw c.in_ok-push.ensures.items (links_go_on c.loop-index.index c.args.at.now c.loop-index.made.items c.in_ok-block_before.field-0 c.loop-index.rest.now c.split_part.result.1.now c.behind.result.now
          (links c.args.at.now c.args.bytes.now) c.loop-index-test.true c.behind.ensures c.split_part.ensures.back c.in_ok-block_before.ensures c.loop-index.invariant.joined);
      left = omega (arith, shorter, length-drop 4088 c.loop-index.rest.now, c.loop-index.invariant.left);
    }
