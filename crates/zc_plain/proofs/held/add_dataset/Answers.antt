-- One more item adds its stamps.
use Rattle.std.specs.Prelude.{flat_map}
use Rattle.zc_plain.specs.declared.plain_pool.PlainFile.{PlainFile}
use Rattle.zc_plain.specs.Charge.{is_stamp, stamp_of}
use Rattle.zc_plain.proofs.Stamps.{added_from}
use Rattle.zc_plain.proofs.held.add_dataset.Goals as goal

pub loop-k-preserved : goal.loop-k-preserved
loop-k-preserved c =
    added_from is_stamp c.args.met.now.items (λ (file : PlainFile). flat_map stamp_of file.blocks) c.args.dataset.now.files c.loop-k.k c.at.result.now c.loop-k.met.items c.add_file.new.met.items c.loop-k.invariant c.in_ok-add_file.ensures c.at.ensures
