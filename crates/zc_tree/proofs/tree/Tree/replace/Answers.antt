-- What was changed at the places that were found is changed in the tree.
use Rattle.zc_tree.proofs.SlotLaws.{replaced_there}
use Rattle.zc_tree.proofs.tree.Tree.replace.Goals as goal

pub returns-clause-replaced : goal.returns-clause-replaced
returns-clause-replaced c =
    replaced_there c.put_in_dataset.result c.args.self.now c.put_in_dataset.new.datasets c.args.dataset c.args.file c.args.block c.args.slot
    c.path_of-dataset_index.result.0 c.path_of-dataset_index.result.1 c.path_of-dataset_index.ensures c.put_in_dataset.ensures.put
