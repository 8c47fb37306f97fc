use Rattle.std.proofs.Common.{◌∙◌, Bool, None, is_some, ap, cond}
use Rattle.zc_heart.specs.Stamps.{count_at, pair_of}
use Rattle.zc_heart.proofs.StampLaws.{stamp_itself}
use Rattle.zc_heart.proofs.stamps.Stamps.forget_room.Goals as goal

pub returns-in-Some-clause-gone : goal.returns-in-Some-clause-gone
returns-in-Some-clause-gone c = λ none.
    let at = pair_of c.args.stamp in
    ap is_some (c.forget.ensures at) ∙ ap (λ (same : Bool). is_some (cond same None (count_at c.args.self.now at))) (stamp_itself at)
