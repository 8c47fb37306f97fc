use Rattle.zc_heart.specs.Stamps.{AreCounted}
use Rattle.zc_heart.specs.declared.stamps.Stamp.{Stamp}
use Rattle.zc_heart.specs.declared.stamps.Count.{Count}
use Rattle.std.proofs.Common.{List, subst, sym, ◌∙◌}
use Rattle.zc_heart.proofs.StampLaws.{standing_counted}
use Rattle.zc_heart.proofs.stamps.Stamps.distinct.Goals as goal

pub returns : goal.returns
returns c = λ list counted. c.self.inside.counted ∙ standing_counted c.self.inside.counts.entries list c.len.ensures.ordered (subst (λ (entries : List (Stamp × Count)). AreCounted entries list) (sym c.self.view_is) counted)
