-- What is read of four bytes is spelled so.
use Rattle.std.proofs.Common.{ap, ◌∙◌, arith}
use Rattle.zc_wire.specs.Numbers.{u32_bytes, u32_of}
use Rattle.zc_wire.proofs.Numbers.{u32_spelled_back}
use Rattle.zc_wire.proofs.cursor.u32_in.Goals as goal

pub returns-clause-spelled : goal.returns-clause-spelled
unfolding u32_of
returns-clause-spelled c = ap u32_bytes c.read_u32.ensures ∙ u32_spelled_back c.args.bytes.now c.requires (λ index. omega (arith, c.type_inv.bytes index))
