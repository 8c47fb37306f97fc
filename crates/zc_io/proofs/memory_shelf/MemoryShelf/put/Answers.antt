use Rattle.std.proofs.Common.{◌≡◌, ℕ, List, refl, ap, sym, ◌∙◌}
use Rattle.zc_io.specs.GivenBack.{gives_of}
use Rattle.zc_io.specs.Slots.{under, with_held}
use Rattle.zc_io.specs.declared.slots.Stored.{Stored}
use Rattle.zc_io.proofs.Stocks.{stock_laid, here_laid, laid_from_held}
use Rattle.zc_io.proofs.memory_shelf.MemoryShelf.put.Goals as goal

after : (c : goal.Joined-exchange-2) → under c.exchange.new.self ≡ with_held (under c.args.self.now.slots) c.args.name.now c.laid.result
after c = c.exchange.ensures.after ∙ ap (λ (holds : List ℕ → Stored). with_held holds c.args.name.now c.laid.result) c.reserve.ensures.same

pub returns-in-Ok-clause-stock : goal.returns-in-Ok-clause-stock
returns-in-Ok-clause-stock c =
    stock_laid _ _ (gives_of c.args.self.now.gives) _ _ c.laid.result (after c) refl (here_laid c.laid.result _ c.laid.ensures.laid) (c.laid.ensures.out ∙ sym c.requires.kept_in)

pub returns-in-Ok-clause-laid : goal.returns-in-Ok-clause-laid
returns-in-Ok-clause-laid c = laid_from_held _ _ _ c.laid.result _ (after c) c.laid.ensures.laid
