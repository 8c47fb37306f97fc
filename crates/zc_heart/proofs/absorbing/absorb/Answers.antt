use Rattle.zc_heart.proofs.AbsorbingLaws.{some_waits, as_many, core_taken, absorbed}
use Rattle.zc_heart.proofs.absorbing.absorb.Goals as goal

pub take_in-requires-clause-some : goal.take_in-requires-clause-some
take_in-requires-clause-some c = some_waits c.args.done.now c.args.core.now c.requires.group

pub take_in-requires-clause-placed : goal.take_in-requires-clause-placed
take_in-requires-clause-placed c = as_many c.args.done.now c.args.core.now c.requires.group

pub returns-clause-core : goal.returns-clause-core
returns-clause-core c = core_taken c.args.done.now c.args.core.now c.take_in.new.core c.requires.group c.requires.held c.requires.core c.take_in.ensures.rest c.take_in.ensures.files

pub returns-clause-absorbs : goal.returns-clause-absorbs
returns-clause-absorbs c = absorbed c.args.done.now c.args.core.now c.take_in.new.core c.requires.group c.take_in.ensures.rest c.take_in.ensures.places c.take_in.ensures.known c.take_in.ensures.stays_known
