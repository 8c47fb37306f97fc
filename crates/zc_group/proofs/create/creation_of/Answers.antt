use Rattle.zc_group.proofs.CreateLaws.{creation_is_planned}
use Rattle.zc_group.proofs.create.creation_of.Goals as goal

pub returns : goal.returns
returns c =
    creation_is_planned (record { devices = c.args.limits.now.devices; places = c.args.limits.now.places }) c.args.name.now c.args.gates c.in_ok-written.written c.log_places.result c.plan_creation.result
    c.args.limits.now.are_limits c.log_places.ensures c.in_ok-written.ensures c.plan_creation.ensures.calls c.plan_creation.ensures.there
