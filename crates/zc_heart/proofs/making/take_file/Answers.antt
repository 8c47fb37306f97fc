use Rattle.std.proofs.Common.{arith}
use Rattle.zc_heart.proofs.MakingLaws.{found_heart, found_within, found_counted}
use Rattle.zc_heart.proofs.making.take_file.Goals as goal

pub overflow_sub-dataset : goal.overflow_sub-dataset
overflow_sub-dataset c = omega (arith, found_within c.args.id c.args.dataset.now c.remove-named.result c.remove-named.ensures.item c.requires.dataset)

pub leave_file-requires-clause-heart : goal.leave_file-requires-clause-heart
leave_file-requires-clause-heart c = found_heart c.args.id c.args.dataset.now c.remove-named.result c.remove-named.ensures.item c.requires.dataset

pub leave_file-requires-clause-counted : goal.leave_file-requires-clause-counted
leave_file-requires-clause-counted c = found_counted c.args.id c.args.stamps.now c.args.dataset.now.files c.remove-named.result c.remove-named.ensures.item c.requires.counted
