-- The root with what was handed on.
use Rattle.std.proofs.Common.{map, refl}
use Rattle.zc_tree.specs.Reach.{pointers_of_tree}
use Rattle.zc_group.specs.Committed.{found_of}
use Rattle.zc_group.proofs.CommitLaws.{committed}
use Rattle.zc_group.proofs.SpellLaws.{reach_there}
use Rattle.zc_group.proofs.committing.commit.Goals as goal

pub returns-in-Ok-clause-made : goal.returns-in-Ok-clause-made
returns-in-Ok-clause-made g c =
    committed (g.D.DiskSet.shape c.args.disks.now) (g.D.DiskSet.tape c.args.disks.now) (g.D.DiskSet.tape c.lead_from.new.disks) c.args.root.now _ _ c.args.tree (map found_of c.args.new)
    c.requires.size c.in-Ok.ensures.made

pub returns-in-Ok-clause-places : goal.returns-in-Ok-clause-places
returns-in-Ok-clause-places g c = record {
  reach = reach_there c.args.root.now.limits.devices c.args.root.now.limits.places c.args.tree (pointers_of_tree c.args.tree) c.requires.datasets refl;
  chain = c.in-Ok.ensures.chain_there;
}
