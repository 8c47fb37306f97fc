use Rattle.zc_heart.proofs.StampLaws.{number_taken}
use Rattle.zc_heart.proofs.stamps.Numbers.remove.Goals as goal

pub returns : goal.returns
returns c = λ other. rw (← c.self.view_is) (number_taken c.args.number other c.self.inside.set.keys c.remove.new.self.keys (c.remove.ensures.updates.0 other))
