use Rattle.std.proofs.Common.{◌==◌, ◌∙◌, ℕ, List, sym, ap}
use Rattle.std.specs.List.{list_any}
use Rattle.zc_heart.specs.declared.pool_core.HeartDataset.{HeartDataset}
use Rattle.zc_heart.proofs.Areas.{any_in_map}
use Rattle.zc_heart.proofs.making.has_area.Goals as goal

pub returns : goal.returns
returns c =
    c.is_taken.ensures
    ∙ ap (λ (datasets : List HeartDataset). list_any (λ (dataset : HeartDataset). dataset.area == c.args.area) datasets) c.as_slice.ensures
    ∙ sym (any_in_map (λ (other : ℕ). other == c.args.area) (λ (dataset : HeartDataset). dataset.area) c.args.core.now.datasets)
