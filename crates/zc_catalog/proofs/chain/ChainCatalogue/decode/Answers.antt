-- The two laws of a catalogue's bytes, at what was answered.
use Rattle.std.proofs.Common.{arith}
use Rattle.zc_tree.proofs.CatalogueLaws.{whole_is_found, whole_is_read}
use Rattle.zc_catalog.proofs.chain.ChainCatalogue.decode.Goals as goal

pub returns-clause-found : goal.returns-clause-found
returns-clause-found c =
    whole_is_found c.args.limits.now.devices c.args.limits.now.places c.args.group c.args.next_dataset c.args.bytes.now c.read_whole.result c.args.limits.now.are_limits
    (λ index. omega (arith, c.type_inv.bytes index)) c.read_whole.ensures

pub returns-clause-only : goal.returns-clause-only
returns-clause-only c =
    whole_is_read c.args.limits.now.devices c.args.limits.now.places c.args.group c.args.next_dataset c.args.bytes.now c.read_whole.result c.args.limits.now.are_limits
    (omega arith) (omega arith) c.read_whole.ensures
