-- The parts of the root, with the pointers of its tree.
use Rattle.std.proofs.Common.{◌∙◌, map, sym, subst}
use Rattle.zc_damage.specs.Places.{ChainPlaces}
use Rattle.zc_group.specs.Committed.{found_of}
use Rattle.zc_group.proofs.CommitLaws.{reach_of_root, leaves_from, led_from, commit_unwritten}
use Rattle.zc_group.proofs.committing.lead_from.Goals as goal

pub lead-requires-clause-devices : goal.lead-requires-clause-devices
lead-requires-clause-devices g c = c.requires.size.devices

pub lead-requires-clause-places : goal.lead-requires-clause-places
lead-requires-clause-places g c = c.requires.size.places

pub lead-requires-clause-chain_there : goal.lead-requires-clause-chain_there
lead-requires-clause-chain_there g c = subst (ChainPlaces c.args.root.now.limits.devices c.args.root.now.limits.places) (sym c.as_slice.ensures) c.requires.places.chain

pub lead-requires-clause-reach_there : goal.lead-requires-clause-reach_there
lead-requires-clause-reach_there g c = reach_of_root c.args.root.now c.as_slice-in-Ok.result.now c.requires.places (c.as_slice-in-Ok.ensures.value ∙ c.in-Ok.ensures)

pub returns-in-Ok-clause-any_moment : goal.returns-in-Ok-clause-any_moment
returns-in-Ok-clause-any_moment g c =
    leaves_from (g.D.DiskSet.shape c.args.disks.now) (g.D.DiskSet.tape c.args.disks.now) (g.D.DiskSet.tape c.lead.new.disks) c.args.root.now
    c.as_slice.result.now c.as_slice-in-Ok.result.now c.in-Ok.reach.items c.args.tree.now (map found_of c.args.new)
    c.as_slice.ensures c.as_slice-in-Ok.ensures.value c.in-Ok.ensures c.lead.ensures.any_moment

pub returns-in-Ok-clause-made : goal.returns-in-Ok-clause-made
returns-in-Ok-clause-made g c =
    led_from (g.D.DiskSet.shape c.args.disks.now) (g.D.DiskSet.tape c.args.disks.now) (g.D.DiskSet.tape c.lead.new.disks) c.args.root.now
    c.as_slice.result.now c.as_slice-in-Ok.result.now c.in-Ok.reach.items c.args.tree.now (map found_of c.args.new) c.lead.result
    c.as_slice.ensures c.as_slice-in-Ok.ensures.value c.in-Ok.ensures c.lead.ensures.made

pub returns-in-Err-clause-any_moment : goal.returns-in-Err-clause-any_moment
returns-in-Err-clause-any_moment g c s may =
    commit_unwritten (g.D.DiskSet.shape c.args.disks.now) (g.D.DiskSet.tape c.args.disks.now) s c.args.root.now c.args.tree.now (map found_of c.args.new) may
