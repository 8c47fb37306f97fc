use Rattle.std.proofs.Common.{ap, ◌∙◌}
use Rattle.std.proofs.lemmas.Result.{IfOk-weaker}
use Rattle.zc_tape.specs.Blocks.{image}
use Rattle.zc_tape.specs.Crash.{Left}
use Rattle.zc_tape.specs.Memory.{tape_of}
use Rattle.zc_tape.proofs.Leave.{left_allowed}
use Rattle.zc_tape.proofs.memory.MemoryDisks.leave.Goals as goal

pub returns-clause-allowed : goal.returns-clause-allowed
returns-clause-allowed c =
    IfOk-weaker c.of_blocks.result _ (λ m. Left (tape_of c.args.self.now) c.args.moment (image m.places m.start.items))
    (λ m e. left_allowed (tape_of c.args.self.now) c.args.moment c.args.choice.now (image m.places m.start.items) (ap (λ t. t.start) e ∙ c.in_ok-blocks.ensures.image))
    c.of_blocks.ensures.tape
