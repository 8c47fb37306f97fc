use Rattle.std.proofs.Common.{◌≡◌, [], take}
use Rattle.std.specs.Prelude.{flat_map}
use Rattle.zc_plain.specs.declared.plain_pool.PlainFile.{PlainFile}
use Rattle.zc_plain.specs.declared.plain_pool.PlainDataset.{PlainDataset}
use Rattle.zc_plain.specs.Charge.{is_stamp, with_each, stamp_of}
use Rattle.zc_plain.proofs.held.stamps_met.Given as goal

-- the stamps of the datasets so far, each once
abbrev pub invariant-loop-k : goal.invariant-loop-k
invariant-loop-k l = l.met.items ≡ with_each is_stamp [] (flat_map (λ (dataset : PlainDataset). flat_map (λ (file : PlainFile). flat_map stamp_of file.blocks) dataset.files) (take l.k l.pool.datasets))
