-- What is left is a part of the bytes.
use Rattle.std.proofs.Common.{arith}
use Rattle.zc_table.proofs.TableLaws.{rest_within}
use Rattle.zc_table.proofs.reading.table_at_front.Goals as goal

pub overflow_sub-result : goal.overflow_sub-result
overflow_sub-result c =
    rest_within c.args.limits.now.devices c.args.limits.now.places c.args.device c.args.bytes.now c.in-Ok.table c.in-Ok.rest.now (λ index. omega (arith, c.type_inv.bytes index)) c.in-Ok.ensures
