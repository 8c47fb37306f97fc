-- There is room in the file, and the pool isn't charged too much.
use Rattle.std.proofs.Common.{ℕ, ◌+◌, ◌≤◌, ap, subst, sym, ◌∙◌, arith}
use Rattle.zc_plain.specs.Answer.{most_bytes, most_charge}
use Rattle.zc_plain.specs.Putting.{first_touched, touched_count}
use Rattle.zc_heart.specs.Core.{pool_of, charge}
use Rattle.zc_heart.specs.Deeds.{unmade_on}
use Rattle.zc_heart.proofs.Ready.{few_bytes}
use Rattle.zc_heart.proofs.Asked.{room_ends, charge_within}
use Rattle.zc_heart.proofs.commands.put_some.Goals as goal

pub unmade_touched-more-requires-clause-fits : goal.unmade_touched-more-requires-clause-fits
unmade_touched-more-requires-clause-fits c =
    let core = c.args.core.now in
    let ends = room_ends c.args.offset c.len.result c.args.spot core (sym c.room_in_file.ensures ∙ c.in_default.is) in
    omega (arith, ends, few_bytes core, c.len.ensures, c.len-2.ensures)

pub put_bytes-requires-clause-ends : goal.put_bytes-requires-clause-ends
put_bytes-requires-clause-ends c =
    let core = c.args.core.now in
    let ends = room_ends c.args.offset c.len.result c.args.spot core (sym c.room_in_file.ensures ∙ c.in_default.is) in
    subst (λ (n : ℕ). c.args.offset + n ≤ most_bytes (pool_of core)) c.len.ensures ends

pub put_bytes-requires-clause-charge : goal.put_bytes-requires-clause-charge
put_bytes-requires-clause-charge c =
    let core = c.args.core.now in
    let passed = charge_within c.unmade_touched-more.result core (sym c.refuse_charge.ensures ∙ c.in_default-refuse_charge.is) in
    subst (λ (more : ℕ). charge core + more ≤ most_charge (pool_of core))
    (c.unmade_touched-more.ensures.value ∙ ap (λ (n : ℕ). unmade_on (first_touched c.args.offset) (touched_count c.args.offset n) c.args.spot core) c.len-2.ensures) passed
