use Rattle.zc_prog.proofs.WordLaws.{too_many_places}
use Rattle.zc_prog.proofs.words.size_of.Goals as goal

pub returns-then-places-gt131072-clause-value : goal.returns-then-places-gt131072-clause-value
returns-then-places-gt131072-clause-value c = too_many_places c.args.devices c.args.places c.if-places-gt131072.true
