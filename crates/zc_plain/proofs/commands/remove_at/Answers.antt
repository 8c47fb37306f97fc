-- A change of the dataset at the place is one of the pool.
use Rattle.std.proofs.Common.{List, ap}
use Rattle.zc_num.proofs.Changes.{set_as_change_at}
use Rattle.zc_plain.specs.declared.plain_pool.PlainDataset.{PlainDataset}
use Rattle.zc_plain.specs.PlainPool.{without_file}
use Rattle.zc_plain.proofs.Places.{dataset_there}
use Rattle.zc_plain.proofs.commands.remove_at.Goals as goal

pub remove_file-requires : goal.remove_file-requires
remove_file-requires c =
    let same = dataset_there c.args.pool.now c.args.path.dataset c.at_mut.result.now c.at_mut.ensures.item in
    rw same at c.requires.file

pub returns : goal.returns
returns c =
    ap (λ (datasets : List PlainDataset). record c.args.pool.now { datasets = datasets })
    (set_as_change_at (without_file c.args.path.file) c.args.path.dataset c.args.pool.now.datasets c.at_mut.result.now c.remove_file.new.dataset c.at_mut.ensures.item c.remove_file.ensures)
