use Rattle.std.proofs.Common.{◌≡◌, sym, subst}
use Rattle.zc_heart.specs.Deeds.{with_dataset, Becomes}
use Rattle.zc_heart.specs.Deeds as deeds
use Rattle.zc_heart.proofs.OtherSteps.{becomes_with_dataset}
use Rattle.zc_heart.proofs.Ready.{ok_then}
use Rattle.zc_heart.proofs.making.add_dataset.Goals as goal

pub returns-clause-ok : goal.returns-clause-ok
returns-clause-ok c =
    let old = c.args.core.now in
    let name = c.args.name.now in
    ok_then c.push_dataset.result
    (λ (is : c.push_dataset.new.core ≡ with_dataset c.free_area-area.result name old).
    subst (Becomes (deeds.AddDataset name) old) (sym is)
    (becomes_with_dataset c.free_area-area.result name old c.requires.core c.free_area-area.ensures.few c.free_area-area.ensures.free c.requires.missing c.requires.few))
    c.push_dataset.ensures.ok
