-- The number of the dataset of the name, which stands at its place.
use Rattle.std.proofs.Common.{sym}
use Rattle.zc_heart.proofs.Spots.{number_of_none, number_of_one}
use Rattle.zc_heart.proofs.pool_core.Core.dataset.Goals as goal

pub returns-in-None : goal.returns-in-None
returns-in-None c = sym (number_of_none c.args.name.now c.args.self.now (sym c.in-None.ensures.value))

pub returns-in-Some : goal.returns-in-Some
returns-in-Some c = sym (number_of_one c.args.name.now c.args.self.now c.in-Some.place c.dataset_at.result.now (sym c.in-Some.ensures.value) c.dataset_at.ensures.stands)
