-- The number is the one that the bytes left begin with.
use Rattle.std.proofs.Common.{List, ℕ, ◌++◌, ◌∙◌, ap, sym, arith}
use Rattle.zc_wire.specs.Numbers.{u32_of}
use Rattle.zc_wire.proofs.Numbers.{u32_read_back}
use Rattle.zc_wire.proofs.cursor.Cursor.u32.Goals as goal

pub returns-in-Ok-clause-value : goal.returns-in-Ok-clause-value
returns-in-Ok-clause-value c =
    let left = c.in-Ok.ensures.read ∙ ap (λ (bytes : List ℕ). bytes ++ c.take.new.self.left) (sym c.u32_in.ensures.spelled) in
    sym (ap u32_of left ∙ u32_read_back c.u32_in.result c.take.new.self.left (omega arith))
