use Rattle.std.proofs.Common.{◌≡◌, ◌++◌, map, take}
use Rattle.zc_layout.specs.Standing.{write_of}
use Rattle.zc_plan.specs.Puts.{puts_of}
use Rattle.zc_tape.specs.DiskCall.{call_of}
use Rattle.zc_plan.proofs.calls.push_blocks.Given as goal

abbrev pub invariant-loop-block : goal.invariant-loop-block
invariant-loop-block l = map call_of l.calls.items ≡ map call_of l.initial.calls.items ++ map write_of (puts_of (take l.block-index l.blocks))
