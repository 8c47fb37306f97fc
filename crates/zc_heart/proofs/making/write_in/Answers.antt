use Rattle.std.specs.Prelude.{IsTrue}
use Rattle.zc_heart.specs.Stamps.{holds_number}
use Rattle.zc_heart.proofs.Ready.{ok_then, noted_there}
use Rattle.zc_heart.proofs.making.write_in.Goals as goal

pub write_in_dataset-requires-clause-fits : goal.write_in_dataset-requires-clause-fits
write_in_dataset-requires-clause-fits c = c.requires.fits c.at_mut-dataset.result.now c.at_mut-dataset.ensures.item

pub returns-clause-noted : goal.returns-clause-noted
returns-clause-noted c =
    ok_then c.write_in_dataset.result
    (λ (noted : IsTrue (holds_number c.args.spot.id c.write_in_dataset.new.dataset.changed)).
    noted_there c.args.spot c.args.datasets.now c.at_mut-dataset.result.now c.write_in_dataset.new.dataset c.at_mut-dataset.ensures.item noted)
    c.write_in_dataset.ensures.noted
