use Rattle.std.proofs.Common.{◌≡◌, Bool, true, false, ◌++◌, [], ◌∷◌, refl, ap, sym, ◌∙◌}
use Rattle.std.specs.Result.{is_ok}
use Rattle.zc_io.specs.GivenBack.{gives_of, gave_of}
use Rattle.zc_io.specs.Slots.{under}
use Rattle.zc_io.specs.Stock.{Gave}
use Rattle.zc_io.proofs.Stocks.{stock_dropped, stock_brought}
use Rattle.zc_io.proofs.memory_shelf.MemoryShelfShelf.give.Goals as goal

pub returns-then-not-is_out-clause-handed : goal.returns-then-not-is_out-clause-handed
returns-then-not-is_out-clause-handed c =
    let gave : Bool → Gave = gave_of c.args.name.now c.args.disk in
    let before = gives_of c.args.self.now.gives in
    let later : gives_of c.record.new.self ≡ before ++ gave (is_ok c.answer.result) ∷ [] = c.record.ensures.gives ∙ ap (λ ok. before ++ gave ok ∷ []) (sym c.answer.ensures.ok) in
    let out : (under c.args.self.now.slots c.args.name.now).out ≡ false = sym c.is_out.ensures ∙ c.if-not-is_out.true in
    λ told. stock_dropped (under c.args.self.now.slots) (under c.args.self.now.slots) before (gives_of c.record.new.self) (gave (is_ok c.answer.result)) refl later out

pub returns-clause-handed : goal.returns-clause-handed
returns-clause-handed c =
    let gave : Bool → Gave = gave_of c.args.name.now c.args.disk in
    let before = gives_of c.args.self.now.gives in
    let later : gives_of c.record.new.self ≡ before ++ gave (is_ok c.answer-2.result) ∷ [] = c.record.ensures.gives ∙ ap (λ ok. before ++ gave ok ∷ []) (sym c.answer-2.ensures.ok) in
    let out : (under c.args.self.now.slots c.args.name.now).out ≡ true = sym c.is_out.ensures ∙ c.if-not-is_out.false in
    λ told. stock_brought (under c.args.self.now.slots) (under c.bring_back.new.self) before (gives_of c.record.new.self) (gave (is_ok c.answer-2.result)) c.unless.result c.bring_back.ensures later out (c.unless.ensures.some ∙ sym c.answer-2.ensures.ok)
