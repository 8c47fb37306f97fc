-- The pool isn't charged too much.
use Rattle.std.proofs.Common.{ℕ, ◌+◌, ◌≤◌, subst, sym, ◌∙◌}
use Rattle.zc_plain.specs.Answer.{most_charge}
use Rattle.zc_heart.specs.Core.{pool_of, charge}
use Rattle.zc_heart.proofs.Asked.{charge_within}
use Rattle.zc_heart.proofs.commands.truncate.Goals as goal

pub set_size-requires-clause-charge : goal.set_size-requires-clause-charge
set_size-requires-clause-charge c =
    let core = c.args.core.now in
    let passed = charge_within c.unmade_trimmed-more.result core (sym c.refuse_charge.ensures ∙ c.in_default-refuse_charge.is) in
    subst (λ (more : ℕ). charge core + more ≤ most_charge (pool_of core)) c.unmade_trimmed-more.ensures.value passed
