use Rattle.std.proofs.Common.{◌≡◌, ℕ, ◌+◌, sym, ap, subst, length, ◌∙◌}
use Rattle.zc_plain.specs.Putting.{first_touched, touched_count}
use Rattle.zc_heart.specs.Deeds.{unmade_on, PutBytes, Becomes, IsLeft}
use Rattle.zc_heart.specs.Input.{input_bytes}
use Rattle.zc_heart.proofs.StepLaws.{on_err_always}
use Rattle.zc_heart.proofs.FileDeeds.{with_changed, with_room, becomes_put, left_with_room}
use Rattle.zc_heart.proofs.Ready.{changeable}
use Rattle.zc_heart.proofs.making.put_bytes.Goals as goal

pub write_in-requires-clause-fits : goal.write_in-requires-clause-fits
write_in-requires-clause-fits c dataset stands = changeable c.args.spot c.args.number c.args.core.now dataset c.requires.core c.requires.number c.requires.there stands

pub returns-in_err-write_in-clause-err : goal.returns-in_err-write_in-clause-err
returns-in_err-write_in-clause-err c =
    let old = c.args.core.now in
    on_err_always c.from_residual.result (IsLeft old (with_room c.write_in.new.datasets c.write_in.new.stamps old))
    (left_with_room c.args.spot c.write_in.new.datasets c.write_in.new.stamps old c.requires.core c.in_err-write_in.ensures.err)

pub returns-clause-ok : goal.returns-clause-ok
returns-clause-ok c =
    let old = c.args.core.now in
    let bytes = input_bytes c.args.input.now in
    let made : c.unmade_touched-made.result ≡ unmade_on (first_touched c.args.offset) (touched_count c.args.offset (length bytes)) c.args.spot old =
    c.unmade_touched-made.ensures.value ∙ ap (λ (len : ℕ). unmade_on (first_touched c.args.offset) (touched_count c.args.offset len) c.args.spot old) c.len.ensures in
    subst (λ (more : ℕ). Becomes (PutBytes c.args.number c.args.spot c.args.offset bytes) old (with_changed c.write_in.new.datasets c.write_in.new.stamps (old.made + more) c.args.number old)) (sym made)
    (becomes_put c.args.spot c.args.number c.args.offset bytes c.write_in.new.datasets c.write_in.new.stamps old c.requires.core c.in_ok-write_in.ensures.ok c.in_ok-write_in.ensures.noted c.requires.number c.requires.some c.requires.ends
    c.requires.charge)
