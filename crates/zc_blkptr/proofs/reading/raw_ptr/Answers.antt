-- The fields are those of the spelling.
use Rattle.std.proofs.Common.{sym, ap, ◌∙◌}
use Rattle.zc_blkptr.specs.PtrField.{ptr_in}
use Rattle.zc_blkptr.proofs.PtrLaws.{ptr_read_whole}
use Rattle.zc_blkptr.proofs.reading.raw_ptr.Goals as goal

pub returns-clause-fields : goal.returns-clause-fields
returns-clause-fields c =
    sym (ap ptr_in (sym c.copy_from_slice.ensures.after) ∙ ptr_read_whole c.in-Ok.ptr c.copy_from_slice.new.self c.in-Ok.ensures.found.0 c.in-Ok.ensures.found.1)
