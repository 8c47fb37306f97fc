use Rattle.std.proofs.Common.{◌==◌, ◌∙◌, ap, sym}
use Rattle.zc_open.specs.declared.ack.Waiting.{Waiting}
use Rattle.zc_open.specs.Events.{without_waiting}
use Rattle.zc_open.proofs.LeaveLaws.{left_one, left_none}
use Rattle.zc_open.proofs.settling.leave.Goals as goal

pub loop-place-preserved : goal.loop-place-preserved
loop-place-preserved c =
    ap (without_waiting c.args.session) c.remove.ensures.rest
    ∙ left_one (λ (waiting : Waiting). waiting.session == c.args.session) c.loop-place.waits c.in-Some.place (sym c.in-Some.ensures)
    ∙ c.loop-place.invariant

pub returns : goal.returns
returns c = sym (left_none (λ (waiting : Waiting). waiting.session == c.args.session) c.loop-place.waits (sym c.in_default.ensures)) ∙ c.loop-place.invariant
