use Rattle.std.proofs.Common.{ap}
use Rattle.zc_io.specs.GivenBack.{gives_of}
use Rattle.zc_io.proofs.Stocks.{stock_taken}
use Rattle.zc_io.proofs.memory_shelf.MemoryShelfShelf.make.Goals as goal

pub returns-in-Ok-clause-handed : goal.returns-in-Ok-clause-handed
returns-in-Ok-clause-handed c =
    λ told. stock_taken _ _ (gives_of c.args.self.now.gives) _ _ c.in-Ok.ensures.handed (ap gives_of c.in-Ok.ensures.gives)
