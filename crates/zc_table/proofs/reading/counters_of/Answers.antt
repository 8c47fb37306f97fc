-- The counters that are read, one after the other.
use Rattle.std.proofs.Common.{◌≡◌, ◌∙◌, ℕ, ◌++◌, ◌∷◌, [], ap}
use Rattle.std.proofs.lemmas.Result.{err_from_is_err_and}
use Rattle.zc_table.specs.TableBytes.{counters_field}
use Rattle.zc_table.proofs.ReadLoops.{counter_goes_on, counter_ends, counters_done}
use Rattle.zc_table.proofs.reading.counters_of.Goals as goal

pub returns-in_err-counter : goal.returns-in_err-counter
returns-in_err-counter c =
    let p = err_from_is_err_and c.from_residual.result c.from_residual.ensures.1 in
    rw (p.1, p.2) (counter_ends c.in_err-counter.field-0.0 c.args.number c.loop.counter c.loop.counters c.loop.rest.now (counters_field c.args.number c.args.bytes.now) c.loop-test.true c.in_err-counter.ensures c.loop.invariant)

pub loop-preserved : goal.loop-preserved
loop-preserved c =
    let pushed : c.push.new.self ≡ c.loop.counters ++ c.in_ok-counter.counter ∷ [] = c.in_ok-push.ensures.ok ∙ ap (λ (counter : ℕ). c.loop.counters ++ counter ∷ []) c.from.ensures in
    rw pushed (counter_goes_on c.args.number c.loop.counter c.loop.counters c.loop.rest.now c.in_ok-counter.counter c.in_ok-counter.after.now (counters_field c.args.number c.args.bytes.now) c.loop-test.true c.in_ok-counter.ensures c.loop.invariant)

pub returns : goal.returns
returns c = counters_done c.args.number c.loop.counter c.loop.counters c.loop.rest.now (counters_field c.args.number c.args.bytes.now) c.loop-test.false c.loop.invariant
