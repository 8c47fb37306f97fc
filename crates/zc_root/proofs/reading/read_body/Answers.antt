-- Bytes that aren't those of the body that their fields are.
use Rattle.std.proofs.Common.{sym, ◌∙◌, true≢false}
use Rattle.zc_root.proofs.BodyLaws.{no_other_body}
use Rattle.zc_root.proofs.reading.read_body.Goals as goal

pub returns-else-is_body_in-clause-none : goal.returns-else-is_body_in-clause-none
returns-else-is_body_in-clause-none c =
    no_other_body c.fields_in-body.result c.args.slot c.args.bytes.now c.fields_in-body.ensures.fields
    (λ fits. true≢false (sym (c.is_body_in.ensures.1 fits) ∙ c.if-is_body_in.false))
