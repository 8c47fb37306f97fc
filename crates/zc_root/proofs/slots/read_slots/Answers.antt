-- What both slots say of the image.
use Rattle.std.proofs.lemmas.Result.{IfOk-weaker}
use Rattle.zc_tape.specs.Crash.{reads}
use Rattle.zc_root.proofs.SlotLaws.{slot_of_same_tape}
use Rattle.zc_root.proofs.slots.read_slots.Goals as goal

pub returns-in-Ok-read_slot-clause-found : goal.returns-in-Ok-read_slot-clause-found
returns-in-Ok-read_slot-clause-found g c =
    IfOk-weaker c.choose.result _ _
    (λ found chosen told whole. chosen (reads (g.D.DiskSet.tape c.args.disks.now)) (c.in-Ok.ensures.slot told whole)
    (slot_of_same_tape (g.D.DiskSet.tape c.args.disks.now) (g.D.DiskSet.tape c.read_slot.new.disks) 1 c.in-Ok-read_slot.second.gate_open c.in-Ok-read_slot.second.root
    c.in-Ok.ensures.tape c.in-Ok-read_slot.ensures.slot told whole))
    c.choose.ensures.found

pub returns-in-Ok-read_slot-clause-none : goal.returns-in-Ok-read_slot-clause-none
returns-in-Ok-read_slot-clause-none g c none told whole limits =
    c.choose.ensures.none none (reads (g.D.DiskSet.tape c.args.disks.now)) (c.in-Ok.ensures.slot told whole)
    (slot_of_same_tape (g.D.DiskSet.tape c.args.disks.now) (g.D.DiskSet.tape c.read_slot.new.disks) 1 c.in-Ok-read_slot.second.gate_open c.in-Ok-read_slot.second.root
    c.in-Ok.ensures.tape c.in-Ok-read_slot.ensures.slot told whole)
