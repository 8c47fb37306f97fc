-- One more item adds its stamps.
use Rattle.zc_plain.specs.Charge.{is_stamp, stamp_of}
use Rattle.zc_plain.proofs.Stamps.{added_from}
use Rattle.zc_plain.proofs.held.add_file.Goals as goal

pub loop-k-preserved : goal.loop-k-preserved
loop-k-preserved c =
    added_from is_stamp c.args.met.now.items stamp_of c.args.file.now.blocks c.loop-k.k c.at.result.now c.loop-k.met.items c.add_block.new.met.items c.loop-k.invariant c.in_ok-add_block.ensures c.at.ensures
