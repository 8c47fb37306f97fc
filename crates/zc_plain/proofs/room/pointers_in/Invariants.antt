use Rattle.std.proofs.Common.{◌≡◌, take}
use Rattle.std.specs.Prelude.{sum_by}
use Rattle.zc_plain.specs.declared.plain_pool.PlainFile.{PlainFile}
use Rattle.zc_plain.specs.PlainPool.{made_count}
use Rattle.zc_plain.proofs.room.pointers_in.Given as goal

-- the pointers of the files so far
abbrev pub invariant-loop-k : goal.invariant-loop-k
invariant-loop-k l = l.count ≡ sum_by (λ (file : PlainFile). made_count file.blocks) (take l.k l.dataset.files)
