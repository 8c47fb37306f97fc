-- The higher of both slots' roots is the image's root.
use Rattle.zc_root.proofs.SlotLaws.{higher_is_root, gates_of_both}
use Rattle.zc_root.proofs.slots.choose.Goals as goal

pub returns-in-Some-clause-found : goal.returns-in-Some-clause-found
returns-in-Some-clause-found c = λ image first second. (
  higher_is_root image c.args.first.root c.args.second.root c.in-Some.body first.root_there second.root_there c.in-Some.ensures.higher,
  gates_of_both image c.args.first.gate_open c.args.second.gate_open first.gate second.gate,
)
