-- What the read has found, and what it finds again.
use Rattle.std.proofs.Common.{Ok, Err, length, arith}
use Rattle.zc_wire.proofs.FieldLaws.{front_of_takes, answer_reads, fault_answers}
use Rattle.zc_tree.specs.Reading.{dataset_field}
use Rattle.zc_tree.specs.Spelling.{dataset_bytes}
use Rattle.zc_tree.proofs.DatasetLaws.{dataset_takes, dataset_read}
use Rattle.zc_tree.proofs.reading.read_next_dataset.Goals as goal

pub returns-in-Ok-clause-found : goal.returns-in-Ok-clause-found
returns-in-Ok-clause-found c =
    let found = dataset_takes c.args.limits.now.devices c.args.limits.now.places c.args.group c.args.next_dataset c.args.others.now c.args.bytes.now (c.in-Ok.dataset, c.in-Ok.rest.now)
    (λ index. omega (arith, c.type_inv.bytes index)) c.in-Ok.ensures in
    (found.fits, found.behind, front_of_takes c.args.bytes.now (dataset_bytes c.in-Ok.dataset) c.in-Ok.rest.now c.saturating_sub.result found.takes c.saturating_sub.ensures)

pub returns-in-Ok-clause-only : goal.returns-in-Ok-clause-only
returns-in-Ok-clause-only c =
    λ dataset rest fits behind parts.
    answer_reads c.args.bytes.now (dataset_bytes dataset) rest (Ok (c.in-Ok.dataset, c.saturating_sub.result))
    (dataset_field c.args.limits.now.devices c.args.limits.now.places c.args.group c.args.next_dataset c.args.others.now c.args.bytes.now) dataset parts
    (dataset_read c.args.limits.now.devices c.args.limits.now.places c.args.group c.args.next_dataset c.args.others.now c.args.bytes.now dataset rest c.args.limits.now.are_limits (omega arith) (omega arith) fits behind parts)
    (c.in-Ok.rest.now, c.in-Ok.ensures, c.saturating_sub.ensures)

pub returns-in-Err-clause-only : goal.returns-in-Err-clause-only
returns-in-Err-clause-only c =
    λ dataset rest fits behind parts.
    answer_reads c.args.bytes.now (dataset_bytes dataset) rest (Err c.within.result)
    (dataset_field c.args.limits.now.devices c.args.limits.now.places c.args.group c.args.next_dataset c.args.others.now c.args.bytes.now) dataset parts
    (dataset_read c.args.limits.now.devices c.args.limits.now.places c.args.group c.args.next_dataset c.args.others.now c.args.bytes.now dataset rest c.args.limits.now.are_limits (omega arith) (omega arith) fits behind parts)
    (fault_answers (length c.args.bytes.now) c.in-Err.fault c.within.result
    (dataset_field c.args.limits.now.devices c.args.limits.now.places c.args.group c.args.next_dataset c.args.others.now c.args.bytes.now) c.within.ensures c.in-Err.ensures)
