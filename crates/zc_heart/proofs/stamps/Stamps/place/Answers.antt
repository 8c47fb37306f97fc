use Rattle.std.proofs.Common.{◌∙◌, Bool, Some, ap, cond}
use Rattle.zc_heart.specs.Stamps.{count_at, pair_of, ptr_of}
use Rattle.zc_heart.proofs.StampLaws.{stamp_itself}
use Rattle.zc_heart.proofs.stamps.Stamps.place.Goals as goal

pub returns-in-Some-clause-placed : goal.returns-in-Some-clause-placed
returns-in-Some-clause-placed c = λ held.
    let at = pair_of c.args.stamp in
    ap ptr_of (c.set.ensures at)
    ∙ ap (λ (same : Bool). ptr_of (cond same (Some (record { files = c.in-Some.count.files; placed = Some c.args.ptr })) (count_at c.args.self.now at))) (stamp_itself at)
