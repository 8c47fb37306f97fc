-- A change of one of its files is one of the dataset.
use Rattle.zc_tree.proofs.SlotLaws.{fault_keeps_dataset, put_through}
use Rattle.zc_tree.proofs.slots.put_in_dataset.Goals as goal

pub returns-clause-put : goal.returns-clause-put
returns-clause-put c =
    put_through c.put_in_file.result c.args.datasets.now c.args.dataset_index c.args.file_index c.args.block c.args.slot c.at_mut.result.now c.put_in_file.new.files c.at_mut.ensures.item c.put_in_file.ensures.put

pub returns-clause-err : goal.returns-clause-err
returns-clause-err c = fault_keeps_dataset c.put_in_file.result c.args.datasets.now c.args.dataset_index c.at_mut.result.now c.put_in_file.new.files c.at_mut.ensures.item c.put_in_file.ensures.err
