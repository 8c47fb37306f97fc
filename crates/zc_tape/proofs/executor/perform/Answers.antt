use Rattle.std.proofs.Common.{arith}
use Rattle.zc_tape.proofs.Performed.{call_there}
use Rattle.zc_tape.proofs.executor.perform.Goals as goal

pub perform_one-requires-clause-there : goal.perform_one-requires-clause-there
perform_one-requires-clause-there g c =
    rw c.loop-call.invariant.1 (call_there _ c.args.calls.now c.loop-call.call-index c.call-item.result c.requires.there (omega arith) c.call-item.is)
