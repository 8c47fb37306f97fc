use Rattle.std.proofs.Common.{◌≡◌, ◌+◌, ◌++◌, map}
use Rattle.zc_num.specs.Words.{each}
use Rattle.zc_root.specs.Root.{closed}
use Rattle.zc_tape.specs.DiskCall.{call_of}
use Rattle.zc_tape.specs.Tape.{Write}
use Rattle.zc_plan.proofs.creation.push_logs.Given as goal

abbrev pub invariant-loop-k : goal.invariant-loop-k
invariant-loop-k l = map call_of l.calls.items ≡ map call_of l.initial.calls.items ++ each l.k (λ k. Write 0 (4 + k) closed)
