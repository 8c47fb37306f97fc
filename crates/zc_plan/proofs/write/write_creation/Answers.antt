-- The laws of a creation, of the calls that were made.
use Rattle.std.proofs.Common.{map}
use Rattle.std.proofs.lemmas.Result.{on_ok_weaker}
use Rattle.zc_tape.specs.DiskCall.{call_of}
use Rattle.zc_plan.proofs.CrashClauses.{creation_leaves, creation_made}
use Rattle.zc_plan.proofs.write.write_creation.Goals as goal

pub returns-clause-any_moment : goal.returns-clause-any_moment
returns-clause-any_moment g c new puts first_open second_open logs =
    creation_leaves (g.D.DiskSet.tape c.args.disks.now) (g.D.DiskSet.tape c.make.new.disks) (map call_of c.args.plan.now.calls.items) new puts first_open second_open logs c.make.ensures.begun

pub returns-clause-made : goal.returns-clause-made
returns-clause-made g c =
    on_ok_weaker c.make.result
    (λ played new puts first_open second_open logs. creation_made (g.D.DiskSet.tape c.args.disks.now) (g.D.DiskSet.tape c.make.new.disks) (map call_of c.args.plan.now.calls.items) new puts first_open second_open logs played)
    c.make.ensures.ok
