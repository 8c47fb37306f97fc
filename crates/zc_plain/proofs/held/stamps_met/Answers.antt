-- One more item adds its stamps.
use Rattle.std.proofs.Common.{[]}
use Rattle.std.specs.Prelude.{flat_map}
use Rattle.zc_plain.specs.declared.plain_pool.PlainFile.{PlainFile}
use Rattle.zc_plain.specs.declared.plain_pool.PlainDataset.{PlainDataset}
use Rattle.zc_plain.specs.Charge.{is_stamp, stamp_of}
use Rattle.zc_plain.proofs.Stamps.{added_from}
use Rattle.zc_plain.proofs.held.stamps_met.Goals as goal

pub loop-k-preserved : goal.loop-k-preserved
loop-k-preserved c =
    added_from is_stamp [] (λ (dataset : PlainDataset). flat_map (λ (file : PlainFile). flat_map stamp_of file.blocks) dataset.files) c.args.pool.now.datasets c.loop-k.k c.at.result.now c.loop-k.met.items c.add_dataset.new.met.items c.loop-k.invariant c.in_ok-add_dataset.ensures c.at.ensures
