-- The blocks, the pointers and the tree are those of the job's changes.
use Rattle.std.proofs.Common.{◌∙◌, List, length, map, ap, ap₂}
use Rattle.zc_blkptr.specs.declared.ptr.Ptr.{Ptr}
use Rattle.zc_plan.specs.declared.input.PlacedBlock.{PlacedBlock}
use Rattle.zc_heart.specs.declared.changes.Change.{Change}
use Rattle.zc_heart.specs.Changes.{made_in}
use Rattle.zc_group.specs.Committed.{found_of}
use Rattle.zc_lane.specs.Placed.{bytes_made, free_after, ptr_to}
use Rattle.zc_lane.proofs.writing.ready_for.Goals as goal

pub returns-clause-ready : goal.returns-clause-ready
returns-clause-ready c = record {
  places = c.in_ok-new.ensures.places ∙ ap (λ (changes : List Change). free_after c.args.root.now (length (bytes_made changes))) c.as_slice-changes.ensures;
  bytes = c.in_ok-new.ensures.bytes ∙ ap (λ (changes : List Change). bytes_made changes) c.as_slice-changes.ensures;
  pointers = c.in_ok-placed.ensures ∙ ap (λ (blocks : List PlacedBlock). map (ptr_to c.args.job.now.group) (map found_of blocks)) c.as_slice.ensures;
  tree_is = c.in_ok-tree.ensures
      ∙ ap₂ (λ (changes : List Change) (placed : List Ptr). record (made_in changes placed c.args.root.now.tree) { group = c.args.job.now.group }) c.as_slice-changes.ensures c.as_slice-2.ensures;
}
