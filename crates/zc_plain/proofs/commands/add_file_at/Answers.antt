-- A change of the dataset at the place is one of the pool.
use Rattle.zc_plain.specs.PlainPool.{with_new_file}
use Rattle.zc_plain.proofs.Places.{changed_in_pool, kept_in_pool}
use Rattle.zc_plain.proofs.commands.add_file_at.Goals as goal

pub returns-clause-ok : goal.returns-clause-ok
returns-clause-ok c =
    changed_in_pool c.add_file.result (with_new_file c.args.name.now) c.args.pool.now c.args.place c.at_mut.result.now c.add_file.new.dataset c.at_mut.ensures.item c.add_file.ensures.ok

pub returns-clause-err : goal.returns-clause-err
returns-clause-err c = kept_in_pool c.add_file.result c.args.pool.now c.args.place c.at_mut.result.now c.add_file.new.dataset c.at_mut.ensures.item c.add_file.ensures.err
