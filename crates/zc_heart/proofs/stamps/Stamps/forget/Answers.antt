use Rattle.zc_heart.specs.declared.stamps.Stamp.{Stamp}
use Rattle.zc_heart.specs.declared.stamps.Count.{Count}
use Rattle.std.proofs.Common.{List, subst, ◌≡◌, ◌∙◌, None, Some, sym, ap, arith}
use Rattle.std.specs.BTreeMap.{is_at}
use Rattle.std.specs.Map.{lookup}
use Rattle.zc_heart.specs.Standing.{standing}
use Rattle.zc_heart.specs.Stamps.{Keeps, pair_of, stamp_cmp}
use Rattle.zc_heart.proofs.StampLaws.{kept_put, stands_taken}
use Rattle.zc_heart.proofs.stamps.Stamps.forget.Goals as goal

pub overflow_sub-self : goal.overflow_sub-self
overflow_sub-self c =
    let there : lookup (is_at (stamp_cmp c.args.stamp)) c.self.inside.counts.entries ≡ Some c.in-Some.before = sym c.remove.ensures.value ∙ c.in-Some.is in
    omega (arith, c.self.inside.counted, stands_taken c.self.inside.counts.entries c.args.stamp c.in-Some.before there, c.stands.ensures)

pub invariant_of-self-inside : goal.invariant_of-self-inside
invariant_of-self-inside c =
    let there : lookup (is_at (stamp_cmp c.args.stamp)) c.self.inside.counts.entries ≡ Some c.in-Some.before = sym c.remove.ensures.value ∙ c.in-Some.is in
    let after = ap standing c.remove.ensures.entries in
    (omega (arith, c.self.inside.counted, after, stands_taken c.self.inside.counts.entries c.args.stamp c.in-Some.before there, c.stands.ensures), tt)

pub returns-in-Some : goal.returns-in-Some
returns-in-Some c = subst (λ (before : List (Stamp × Count)). Keeps before c.remove.new.self.entries (pair_of c.args.stamp) None) c.self.view_is (kept_put c.self.inside.counts.entries c.remove.new.self.entries c.args.stamp None c.remove.ensures.updates.0)
