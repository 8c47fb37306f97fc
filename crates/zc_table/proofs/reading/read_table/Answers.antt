-- The two laws of a table's bytes, at what was answered.
use Rattle.std.proofs.Common.{arith}
use Rattle.zc_table.proofs.TableLaws.{is_found, is_read}
use Rattle.zc_table.proofs.reading.read_table.Goals as goal

pub returns-clause-found : goal.returns-clause-found
returns-clause-found c =
    is_found c.args.limits.now.devices c.args.limits.now.places c.args.device c.args.bytes.now c.table_at_front.result (λ index. omega (arith, c.type_inv.bytes index)) c.table_at_front.ensures

pub returns-clause-only : goal.returns-clause-only
returns-clause-only c =
    is_read c.args.limits.now.devices c.args.limits.now.places c.args.device c.args.bytes.now c.table_at_front.result c.args.limits.now.are_limits c.table_at_front.ensures
