use Rattle.std.proofs.Common.{◌≡◌, refl}
use Rattle.zc_io.specs.GivenBack.{gives_of}
use Rattle.zc_io.specs.Slots.{under, with_held, taken_out}
use Rattle.zc_io.proofs.Stocks.{stock_taken}
use Rattle.zc_io.proofs.memory_shelf.MemoryShelfShelf.take.Goals as goal

pub returns-in-Some-clause-handed : goal.returns-in-Some-clause-handed
returns-in-Some-clause-handed c =
    let after : under c.exchange.new.self ≡ with_held (under c.args.self.now.slots) c.args.name.now taken_out = cc in
    λ told. stock_taken _ _ (gives_of c.args.self.now.gives) _ _ after refl
