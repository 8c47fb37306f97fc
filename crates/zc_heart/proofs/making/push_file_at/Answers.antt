use Rattle.std.proofs.Common.{◌≡◌, ap, List}
use Rattle.zc_num.proofs.Changes.{set_as_change_at}
use Rattle.zc_heart.specs.declared.pool_core.HeartDataset.{HeartDataset}
use Rattle.zc_heart.specs.Deeds.{with_file}
use Rattle.zc_heart.proofs.MakingLaws.{set_to_itself}
use Rattle.zc_heart.proofs.Ready.{ok_then, err_then}
use Rattle.zc_heart.proofs.making.push_file_at.Goals as goal

pub push_file-requires : goal.push_file-requires
push_file-requires c = c.requires.fresh c.at_mut.result.now c.at_mut.ensures.item

pub returns-clause-ok : goal.returns-clause-ok
returns-clause-ok c =
    let old = c.args.core.now in
    ok_then c.push_file.result
    (λ (is : c.push_file.new.dataset ≡ with_file c.args.name.now c.at_mut.result.now).
    ap (λ (datasets : List HeartDataset). record old { datasets = datasets }) (set_as_change_at (with_file c.args.name.now) c.args.place old.datasets c.at_mut.result.now c.push_file.new.dataset c.at_mut.ensures.item is))
    c.push_file.ensures.ok

pub returns-clause-err : goal.returns-clause-err
returns-clause-err c =
    let old = c.args.core.now in
    err_then c.push_file.result
    (λ (is : c.push_file.new.dataset ≡ c.at_mut.result.now).
    ap (λ (datasets : List HeartDataset). record old { datasets = datasets }) (set_to_itself c.args.place old.datasets c.at_mut.result.now c.push_file.new.dataset c.at_mut.ensures.item is))
    c.push_file.ensures.err
