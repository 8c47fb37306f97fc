use Rattle.std.proofs.Common.{arith}
use Rattle.zc_tape.proofs.Leave.{entries_since}
use Rattle.zc_tape.proofs.memory.leave.unsynced_entries.Goals as goal

pub returns-clause-value : goal.returns-clause-value
returns-clause-value c = entries_since c.args.entries.now c.between.result.now c.args.moment c.args.last c.min-end.result (omega arith) c.between.ensures.value
