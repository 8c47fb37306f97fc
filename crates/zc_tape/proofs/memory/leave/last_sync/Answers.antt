use Rattle.std.proofs.Common.{arith}
use Rattle.zc_tape.proofs.Leave.{last_sync_next}
use Rattle.zc_tape.proofs.memory.leave.last_sync.Goals as goal

pub loop-i-preserved : goal.loop-i-preserved
loop-i-preserved c = rw c.last_after-last.ensures (last_sync_next c.args.entries.now c.loop-i.i c.loop-i.last _ (omega arith) c.loop-i.invariant)
