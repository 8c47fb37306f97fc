use Rattle.std.proofs.Common.{◌≡◌, length, take}
use Rattle.zc_layout.specs.Layout.{at_places}
use Rattle.zc_plan.specs.Puts.{puts_of}
use Rattle.zc_group.proofs.catalogue.put_each.Given as goal

-- the blocks so far, at the first places
abbrev pub invariant-loop-bytes : goal.invariant-loop-bytes
invariant-loop-bytes l = (l.index ≡ length l.yielded) × (puts_of l.blocks ≡ at_places (take l.index l.chain) l.yielded)
