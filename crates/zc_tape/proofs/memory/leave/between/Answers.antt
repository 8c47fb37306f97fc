use Rattle.std.proofs.Common.{arith}
use Rattle.std.proofs.lemmas.Grind.{common_steps}
use Rattle.zc_tape.proofs.Leave.{between_pass}
use Rattle.zc_tape.proofs.memory.leave.between.Goals as goal

pub returns-clause-pass : goal.returns-clause-pass
returns-clause-pass c = λ test all. between_pass c.args.entries.now _ c.args.from c.args.to (grind (arith, common_steps)) test all
