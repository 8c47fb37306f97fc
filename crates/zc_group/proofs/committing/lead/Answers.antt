-- What was spelled over the parts of a root leads on from its state.
use Rattle.std.proofs.Common.{map}
use Rattle.zc_group.specs.Chosen.{chain_for}
use Rattle.zc_group.specs.Committed.{found_of, taken_by}
use Rattle.zc_group.proofs.CommitLaws.{room_there, leaves_unwritten, leaves_led, begun_unwritten, begun_led, led, led_group, led_pool, led_chain}
use Rattle.zc_group.proofs.SpellLaws.{on_ok_known}
use Rattle.zc_group.proofs.committing.lead.Goals as goal

pub write_led-requires : goal.write_led-requires
write_led-requires g c =
    record {
      room = room_there (g.D.DiskSet.shape c.args.disks.now) c.args.limits.now.devices c.args.limits.now.places c.args.body.now.pool
          (taken_by c.args.chain.now (map found_of c.args.new)) c.args.reach.now c.args.tree.now c.args.new c.in-Ok.written
          c.args.limits.now.are_limits c.requires.devices c.requires.places c.requires.there c.in-Ok.ensures.spells;
    }

pub returns-in-Ok-clause-any_moment : goal.returns-in-Ok-clause-any_moment
returns-in-Ok-clause-any_moment g c =
    leaves_led (g.D.DiskSet.shape c.args.disks.now) c.args.limits.now.devices c.args.limits.now.places (g.D.DiskSet.tape c.args.disks.now) (g.D.DiskSet.tape c.write_led.new.disks)
    c.args.body.now c.args.gates c.args.chain.now c.args.reach.now c.args.tree.now c.args.new c.in-Ok.written c.flag_of-gate_open.result
    c.requires.devices c.requires.places c.in-Ok.ensures.spells c.flag_of-gate_open.ensures c.in-Ok.ensures.charge c.write_led.ensures.any_moment

pub returns-in-Ok-clause-begun : goal.returns-in-Ok-clause-begun
returns-in-Ok-clause-begun g c =
    begun_led (g.D.DiskSet.shape c.args.disks.now) c.args.limits.now.devices c.args.limits.now.places (g.D.DiskSet.tape c.args.disks.now) (g.D.DiskSet.tape c.write_led.new.disks)
    c.args.body.now c.args.gates c.args.chain.now c.args.reach.now c.args.tree.now c.args.new c.in-Ok.written c.flag_of-gate_open.result
    c.requires.devices c.requires.places c.in-Ok.ensures.spells c.flag_of-gate_open.ensures c.in-Ok.ensures.charge c.write_led.ensures.begun

pub returns-in-Ok-clause-made : goal.returns-in-Ok-clause-made
returns-in-Ok-clause-made g c =
    led (g.D.DiskSet.shape c.args.disks.now) c.args.limits.now.devices c.args.limits.now.places (g.D.DiskSet.tape c.args.disks.now) (g.D.DiskSet.tape c.write_led.new.disks)
    c.args.body.now c.args.gates c.args.chain.now c.args.reach.now c.args.tree.now c.args.new c.in-Ok.written c.flag_of-gate_open.result
    c.requires.devices c.requires.places c.in-Ok.ensures.spells c.flag_of-gate_open.ensures c.in-Ok.ensures.charge c.write_led.result c.write_led.ensures.made c.write_led.ensures.body c.write_led.ensures.chain

pub returns-in-Ok-clause-charge : goal.returns-in-Ok-clause-charge
returns-in-Ok-clause-charge g c = on_ok_known c.write_led.result c.in-Ok.ensures.charge

pub returns-in-Ok-clause-group : goal.returns-in-Ok-clause-group
returns-in-Ok-clause-group g c =
    led_group (record { devices = c.args.limits.now.devices; places = c.args.limits.now.places }) c.args.body.now.pool
    (chain_for (record { devices = c.args.limits.now.devices; places = c.args.limits.now.places }) (taken_by c.args.chain.now (map found_of c.args.new)) c.args.reach.now c.args.tree.now)
    c.args.tree.now c.in-Ok.written c.write_led.result c.in-Ok.ensures.spells c.write_led.ensures.body

pub returns-in-Ok-clause-pool : goal.returns-in-Ok-clause-pool
returns-in-Ok-clause-pool g c =
    led_pool (record { devices = c.args.limits.now.devices; places = c.args.limits.now.places }) c.args.body.now.pool
    (chain_for (record { devices = c.args.limits.now.devices; places = c.args.limits.now.places }) (taken_by c.args.chain.now (map found_of c.args.new)) c.args.reach.now c.args.tree.now)
    c.args.tree.now c.in-Ok.written c.write_led.result c.in-Ok.ensures.spells c.write_led.ensures.body

pub returns-in-Ok-clause-chain_there : goal.returns-in-Ok-clause-chain_there
returns-in-Ok-clause-chain_there g c =
    led_chain c.args.limits.now.devices c.args.limits.now.places c.args.body.now.pool (taken_by c.args.chain.now (map found_of c.args.new)) c.args.reach.now c.args.tree.now
    c.in-Ok.written c.write_led.result c.args.limits.now.are_limits c.in-Ok.ensures.spells c.write_led.ensures.chain

pub returns-in-Err-clause-any_moment : goal.returns-in-Err-clause-any_moment
returns-in-Err-clause-any_moment g c s may =
    leaves_unwritten (g.D.DiskSet.shape c.args.disks.now) (g.D.DiskSet.tape c.args.disks.now) s c.args.body.now c.args.gates c.args.chain.now c.args.reach.now c.args.tree.now (map found_of c.args.new) may

pub returns-in-Err-clause-begun : goal.returns-in-Err-clause-begun
returns-in-Err-clause-begun g c s may =
    begun_unwritten (g.D.DiskSet.shape c.args.disks.now) (g.D.DiskSet.tape c.args.disks.now) s c.args.body.now c.args.gates c.args.chain.now c.args.reach.now c.args.tree.now (map found_of c.args.new) may
