-- After a fault the file is as it was.
use Rattle.zc_tree.proofs.SlotLaws.{fault_keeps}
use Rattle.zc_tree.proofs.slots.put_in_file.Goals as goal

pub returns-clause-err : goal.returns-clause-err
returns-clause-err c = fault_keeps c.put_slot.result c.args.files.now c.args.index c.at_mut.result.now c.put_slot.new.file c.at_mut.ensures.item c.put_slot.ensures.err
