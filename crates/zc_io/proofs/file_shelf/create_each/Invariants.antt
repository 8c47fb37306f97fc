use Rattle.std.proofs.Common.{◌≡◌, vec_len}
use Rattle.zc_io.proofs.file_shelf.create_each.Given as goal

abbrev pub invariant-loop-device : goal.invariant-loop-device
invariant-loop-device g l = vec_len l.made ≡ l.device
