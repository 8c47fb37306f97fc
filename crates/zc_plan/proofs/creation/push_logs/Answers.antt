-- No log is zeroed yet.
use Rattle.std.proofs.Common.{map}
use Rattle.zc_plan.proofs.CallLaws.{no_log_pushed}
use Rattle.zc_tape.specs.DiskCall.{call_of}
use Rattle.zc_plan.proofs.creation.push_logs.Goals as goal

pub loop-k-init : goal.loop-k-init
loop-k-init c = no_log_pushed (map call_of c.args.calls.now.items)
