use Rattle.std.proofs.Common.{map}
use Rattle.zc_tape.specs.Blocks.{made_of}
use Rattle.zc_tape.specs.LastSync.{IsLastSync}
use Rattle.zc_tape.proofs.memory.leave.last_sync.Given as goal

abbrev pub invariant-loop-i : goal.invariant-loop-i
invariant-loop-i l = IsLastSync (map made_of l.entries) l.i l.last
