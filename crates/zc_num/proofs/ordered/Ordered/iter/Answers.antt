use Rattle.zc_num.proofs.ordered.Ordered.iter.Goals as goal

pub returns-clause-found : goal.returns-clause-found
returns-clause-found g c = rw (← c.self.view_is) c.iter.ensures.found
