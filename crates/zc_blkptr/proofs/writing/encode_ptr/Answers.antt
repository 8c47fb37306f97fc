-- Five pieces, each after the one before.
use Rattle.std.proofs.Common.{◌∙◌}
use Rattle.zc_blkptr.proofs.Spelling.{five_written}
use Rattle.zc_blkptr.proofs.writing.encode_ptr.Goals as goal

pub returns : goal.returns
returns c =
    c.put_digest.ensures
    ∙ five_written c.args.ptr.now c.bytes_of_u32.result c.bytes_of_u32-2.result c.bytes_of_u64.result c.bytes_of_u64-2.result
    c.args.out.now c.put.new.out c.put-2.new.out c.put-3.new.out c.put-4.new.out
    c.bytes_of_u32.ensures c.bytes_of_u32-2.ensures c.bytes_of_u64.ensures c.bytes_of_u64-2.ensures
    c.put.ensures c.put-2.ensures c.put-3.ensures c.put-4.ensures
