-- The calls are those of the group, and so their places are there where the group's are.
use Rattle.std.proofs.Common.{rules, ◌≡◌, map}
use Rattle.zc_tape.specs.DiskCall.{call_of}
use Rattle.zc_layout.specs.Standing.{group_calls}
use Rattle.zc_plan.specs.Puts.{puts_of_group}
use Rattle.zc_plan.proofs.CallLaws.{group_there}
use Rattle.zc_plan.proofs.group.plan_group.Goals as goal

pub returns-clause-there : goal.returns-clause-there
returns-clause-there c shape room =
    let calls : map call_of c.push_group.new.calls.items ≡ group_calls (puts_of_group c.args.input.now) c.args.input.now.body c.args.input.now.gate_open = search rules in
    group_there (map call_of c.push_group.new.calls.items) (puts_of_group c.args.input.now) c.args.input.now.body c.args.input.now.gate_open shape calls room
