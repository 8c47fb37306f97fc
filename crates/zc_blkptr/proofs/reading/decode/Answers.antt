-- Bytes that a pointer spells are no other's.
use Rattle.std.proofs.Common.{◌∙◌, sym, true≢false}
use Rattle.zc_blkptr.proofs.Spelling.{no_slot}
use Rattle.zc_blkptr.proofs.reading.decode.Goals as goal

pub returns-else-is_ptr-clause-only : goal.returns-else-is_ptr-clause-only
returns-else-is_ptr-clause-only c =
    λ _. no_slot c.args.limits.now.devices c.args.limits.now.places c.in-Ok.ptr c.args.bytes.now c.in-Ok.ensures.found.0 c.in-Ok.ensures.found.1
    (λ same. true≢false (sym (c.is_hole.ensures.1 same) ∙ c.if-is_hole.false))
    (λ fits. true≢false (sym (c.is_ptr.ensures.pool.1 fits) ∙ c.if-is_ptr.false))
