use Rattle.zc_heart.specs.declared.stamps.Stamp.{Stamp}
use Rattle.zc_heart.specs.declared.stamps.Count.{Count}
use Rattle.std.proofs.Common.{List, subst, ◌≡◌, ◌∙◌, ◌≤◌, Some, sym, ap, arith}
use Rattle.std.specs.BTreeMap.{is_at}
use Rattle.std.specs.Map.{lookup}
use Rattle.zc_heart.specs.Standing.{standing}
use Rattle.zc_heart.specs.Stamps.{Keeps, pair_of, stamp_cmp}
use Rattle.zc_heart.proofs.StampLaws.{few_stand, kept_put, stands_once, stands_put}
use Rattle.zc_heart.proofs.stamps.Stamps.set.Goals as goal

pub overflow_add-self : goal.overflow_add-self
overflow_add-self c =
    let few : standing c.self.inside.counts.entries ≤ c.len.result = omega (arith, few_stand c.self.inside.counts.entries, c.len.ensures.len) in
    let once = stands_once c.args.count in
    omega (arith, c.self.inside.counted, c.len.ensures.small, c.stands.ensures)

pub overflow_sub-self : goal.overflow_sub-self
overflow_sub-self c =
    let there : lookup (is_at (stamp_cmp c.args.stamp)) c.self.inside.counts.entries ≡ Some c.in-Ok-Some.before = sym c.in-Ok-Some.ensures.old ∙ c.in-Ok-Some.field-0-is in
    omega (arith, c.self.inside.counted, stands_put c.self.inside.counts.entries c.args.stamp c.args.count c.in-Ok-Some.before c.len.ensures.ordered there)

pub invariant_of-self-inside : goal.invariant_of-self-inside
invariant_of-self-inside c =
    let there : lookup (is_at (stamp_cmp c.args.stamp)) c.self.inside.counts.entries ≡ Some c.in-Ok-Some.before = sym c.in-Ok-Some.ensures.old ∙ c.in-Ok-Some.field-0-is in
    let put = stands_put c.self.inside.counts.entries c.args.stamp c.args.count c.in-Ok-Some.before c.len.ensures.ordered there in
    let after = ap standing c.in-Ok-Some.ensures.entries in
    (omega (arith, c.self.inside.counted, put, after, c.stands.ensures, c.stands-in-Ok-Some.ensures), tt)

pub returns : goal.returns
returns c = subst (λ (before : List (Stamp × Count)). Keeps before c.insert.new.self.entries (pair_of c.args.stamp) (Some c.args.count)) c.self.view_is (kept_put c.self.inside.counts.entries c.insert.new.self.entries c.args.stamp (Some c.args.count) c.in-Ok-Some.ensures.updates.0)
