-- A dataset has few files.
use Rattle.std.proofs.Common.{arith}
use Rattle.zc_heart.proofs.Asked.{few_files}
use Rattle.zc_heart.proofs.commands.create.Goals as goal

pub overflow_add-need : goal.overflow_add-need
overflow_add-need c = omega (arith, c.len.ensures, few_files c.args.core.now c.in-Ok.place c.dataset_at-2.result.now c.requires.core c.dataset_at-2.ensures.stands)
