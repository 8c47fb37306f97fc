use Rattle.zc_heart.proofs.StampLaws.{number_put}
use Rattle.zc_heart.proofs.stamps.Numbers.insert.Goals as goal

pub returns-clause-ok : goal.returns-clause-ok
returns-clause-ok c = λ other. rw (← c.self.view_is) (number_put c.args.number other c.self.inside.set.keys c.insert.new.self.keys (c.in_ok-insert.ensures.updates.0 other))
