-- Eleven pieces, each after the one before.
use Rattle.std.proofs.Common.{◌∙◌}
use Rattle.zc_root.proofs.Written.{head_written}
use Rattle.zc_root.proofs.writing.head_of.Goals as goal

pub returns : goal.returns
returns c =
    c.put_digest.ensures
    ∙ head_written c.args.body.now c.title.result c.put.new.out c.put_u64.new.out c.put_u64-2.new.out c.put_u32.new.out c.put_u32-2.new.out
    c.put_u64-3.new.out c.put_u32-3.new.out c.put_u32-4.new.out c.put_u32-5.new.out c.put_u64-4.new.out
    c.title.ensures c.put.ensures c.put_u64.ensures c.put_u64-2.ensures c.put_u32.ensures c.put_u32-2.ensures
    c.put_u64-3.ensures c.put_u32-3.ensures c.put_u32-4.ensures c.put_u32-5.ensures c.put_u64-4.ensures
