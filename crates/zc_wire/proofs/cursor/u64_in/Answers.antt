-- What is read of eight bytes is spelled so.
use Rattle.std.proofs.Common.{ap, ◌∙◌, arith}
use Rattle.zc_wire.specs.Numbers.{u64_bytes, u64_of}
use Rattle.zc_wire.proofs.Numbers.{u64_spelled_back}
use Rattle.zc_wire.proofs.cursor.u64_in.Goals as goal

pub returns-clause-spelled : goal.returns-clause-spelled
unfolding u64_of
returns-clause-spelled c = ap u64_bytes c.read_u64.ensures ∙ u64_spelled_back c.args.bytes.now c.requires (λ index. omega (arith, c.type_inv.bytes index))
