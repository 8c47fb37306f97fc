use Rattle.std.proofs.Common.{ap₂}
use Rattle.std.proofs.Math.Path.{fun_ext}
use Rattle.zc_io.specs.MemoryShelf.{stock_by}
use Rattle.zc_io.proofs.memory_shelf.MemoryShelf.new.Goals as goal

pub returns-clause-stock : goal.returns-clause-stock
returns-clause-stock c = ap₂ stock_by (fun_ext c.new-2.ensures) c.new-3.ensures.gives
