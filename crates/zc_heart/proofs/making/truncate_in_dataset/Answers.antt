use Rattle.std.proofs.Common.{ℕ, List, sym, subst, arith}
use Rattle.zc_heart.specs.Deeds.{ChangesFile, Keeps}
use Rattle.zc_heart.proofs.StepLaws.{on_err_always}
use Rattle.zc_heart.proofs.PutLaws.{few_pointers}
use Rattle.zc_heart.proofs.Ready.{file_kept}
use Rattle.zc_heart.proofs.MakingLaws.{value_changeable, short_once_trimmed}
use Rattle.zc_heart.proofs.making.truncate_in_dataset.Goals as goal

pub returns-in_err-insert-clause-err : goal.returns-in_err-insert-clause-err
returns-in_err-insert-clause-err c =
    let dataset = c.args.dataset.now in
    let stamps = c.args.stamps.now in
    on_err_always c.from_residual.result (ChangesFile c.args.id (Keeps stamps stamps) dataset (record dataset { changed = c.insert.new.self }))
    (subst (λ (changed : List ℕ). ChangesFile c.args.id (Keeps stamps stamps) dataset (record dataset { changed = changed })) (sym c.in_err-insert.ensures.err) (file_kept c.args.id c.args.number dataset stamps c.requires.fits))

pub overflow_add-dataset : goal.overflow_add-dataset
overflow_add-dataset c =
    let before = c.value_mut-file.result.now in
    let file = c.truncate_into-result.new.file in
    let was = (value_changeable c.args.id c.args.number c.args.dataset.now c.args.stamps.now before c.requires.fits c.value_mut-file.ensures.value).short in
    let short = short_once_trimmed c.truncate_into-result.result c.args.number c.args.size before file c.truncate_into-result.ensures.ok c.truncate_into-result.ensures.err was c.requires.ends in
    let few = few_pointers file c.truncate_into-result.ensures.heart (omega (arith, short)) in
    omega (arith, few, c.requires.fits.few)

pub truncate_into-result-requires-clause-fitted : goal.truncate_into-result-requires-clause-fitted
truncate_into-result-requires-clause-fitted c = (value_changeable c.args.id c.args.number c.args.dataset.now c.args.stamps.now c.value_mut-file.result.now c.requires.fits c.value_mut-file.ensures.value).short
