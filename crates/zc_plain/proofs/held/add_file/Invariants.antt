use Rattle.std.proofs.Common.{◌≡◌, take}
use Rattle.std.specs.Prelude.{flat_map}
use Rattle.zc_plain.specs.Charge.{is_stamp, with_each, stamp_of}
use Rattle.zc_plain.proofs.held.add_file.Given as goal

-- the stamps of the blocks so far, each once
abbrev pub invariant-loop-k : goal.invariant-loop-k
invariant-loop-k l = l.met.items ≡ with_each is_stamp l.fn.met.items (flat_map stamp_of (take l.k l.file.blocks))
