-- The calls are those of the creation, and so their places are there where the logs and the group's are.
use Rattle.std.proofs.Common.{◌≡◌, map, arith}
use Rattle.std.proofs.lemmas.Grind.{common_steps}
use Rattle.zc_tape.specs.DiskCall.{call_of}
use Rattle.zc_layout.specs.Creation.{creation_calls}
use Rattle.zc_plan.specs.Puts.{puts_of}
use Rattle.zc_plan.proofs.CallLaws.{creation_there}
use Rattle.zc_plan.proofs.creation.plan_creation.Goals as goal

pub returns-clause-there : goal.returns-clause-there
returns-clause-there c shape room =
    let calls : map call_of c.push_group.new.calls.items
    ≡ creation_calls c.args.input.now.first_open c.args.input.now.second_open c.args.input.now.logs (puts_of c.args.input.now.chain) c.args.input.now.body = grind (arith, common_steps) in
    creation_there (map call_of c.push_group.new.calls.items) (puts_of c.args.input.now.chain) c.args.input.now.body c.args.input.now.first_open c.args.input.now.second_open c.args.input.now.logs shape calls room
