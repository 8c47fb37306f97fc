-- The places that are taken are there, and the tree's numbers fit their fields.
use Rattle.std.proofs.Common.{◌∙◌, List, map, sym, ap, subst}
use Rattle.zc_plan.specs.declared.input.PlacedBlock.{PlacedBlock}
use Rattle.zc_damage.specs.Places.{ChainPlaces}
use Rattle.zc_group.specs.Committed.{found_of, taken_by}
use Rattle.zc_group.proofs.CommitLaws.{taken_there}
use Rattle.zc_group.proofs.WidthLaws.{tree_widths}
use Rattle.zc_group.proofs.committing.next_of.Goals as goal

pub of-requires-clause-chain_places : goal.of-requires-clause-chain_places
of-requires-clause-chain_places c =
    subst (ChainPlaces c.args.limits.now.devices c.args.limits.now.places) (sym c.as_slice-2.ensures.value)
    (taken_there c.args.limits.now.devices c.args.limits.now.places c.args.chain.now c.in_ok-taken.taken.items (map found_of c.args.new.now) c.requires.chain_there c.requires.there
    (c.in_ok-taken.ensures ∙ ap (λ (blocks : List PlacedBlock). taken_by c.args.chain.now (map found_of blocks)) c.as_slice.ensures))

pub write_catalogue-requires-clause-widths : goal.write_catalogue-requires-clause-widths
write_catalogue-requires-clause-widths c =
    tree_widths c.args.limits.now.devices c.args.limits.now.places c.args.tree.now c.args.limits.now.are_limits c.requires.few c.requires.datasets
