use Rattle.std.proofs.Common.{ℕ, ◌+◌, sym, subst}
use Rattle.zc_heart.specs.Deeds.{SetSize, Becomes, IsLeft}
use Rattle.zc_heart.proofs.StepLaws.{on_err_always}
use Rattle.zc_heart.proofs.FileDeeds.{with_changed, with_room, becomes_trimmed, left_with_room}
use Rattle.zc_heart.proofs.Ready.{changeable}
use Rattle.zc_heart.proofs.making.set_size.Goals as goal

pub truncate_in-requires-clause-fits : goal.truncate_in-requires-clause-fits
truncate_in-requires-clause-fits c dataset stands = changeable c.args.spot c.args.number c.args.core.now dataset c.requires.core c.requires.number c.requires.there stands

pub returns-in_err-truncate_in-clause-err : goal.returns-in_err-truncate_in-clause-err
returns-in_err-truncate_in-clause-err c =
    let old = c.args.core.now in
    on_err_always c.from_residual.result (IsLeft old (with_room c.truncate_in.new.datasets c.truncate_in.new.stamps old))
    (left_with_room c.args.spot c.truncate_in.new.datasets c.truncate_in.new.stamps old c.requires.core c.in_err-truncate_in.ensures.err)

pub returns-clause-ok : goal.returns-clause-ok
returns-clause-ok c =
    let old = c.args.core.now in
    subst (λ (more : ℕ). Becomes (SetSize c.args.number c.args.spot c.args.size) old (with_changed c.truncate_in.new.datasets c.truncate_in.new.stamps (old.made + more) c.args.number old)) (sym c.unmade_trimmed-made.ensures.value)
    (becomes_trimmed c.args.spot c.args.number c.args.size c.truncate_in.new.datasets c.truncate_in.new.stamps old c.requires.core c.in_ok-truncate_in.ensures.ok c.in_ok-truncate_in.ensures.noted c.requires.number c.requires.ends c.requires.charge)
