-- A dataset has few files.
use Rattle.std.proofs.Common.{arith}
use Rattle.zc_plain.proofs.commands.create.Goals as goal

pub overflow_add-need : goal.overflow_add-need
overflow_add-need c =
    let plain = c.requires.plain.datasets c.in-Ok.place c.dataset_at-2.result.now c.dataset_at-2.ensures.stands in
    omega (arith, plain.few, c.args.pool.now.limits.are_limits.few_places)
