use Rattle.std.proofs.lemmas.List.{length-take}
use Rattle.zc_tape.proofs.memory.leave.half_block.Goals as goal

pub slice_bounds-copy_from_slice-end : goal.slice_bounds-copy_from_slice-end
slice_bounds-copy_from_slice-end c = simp (length-take, c.told-old)

pub copy_from_slice-requires : goal.copy_from_slice-requires
copy_from_slice-requires c = simp (length-take, c.told-old, c.told-new)
