-- The state after one more entry is a state, and the entry keeps the promises.
use Rattle.std.proofs.Common.{◌+◌, sym, subst}
use Rattle.zc_plain.specs.History.{PlainState}
use Rattle.zc_plain.specs.IsPlain.{IsState}
use Rattle.zc_plain.specs.Promises.{Promises}
use Rattle.zc_plain.proofs.HistoryLaws.{state_after_step}
use Rattle.zc_plain.proofs.PromiseLaws.{next_state_is, promises_after}
use Rattle.zc_plain.proofs.plain.Plain.apply.Goals as goal

pub invariant_of-self-2 : goal.invariant_of-self-2
invariant_of-self-2 c =
    let inside : PlainState = record { pool = c.self.inside.pool; tally = c.self.inside.tally; entries = c.self.inside.entries } in
    let parts = c.in_ok-reply.ensures.ok in
    subst IsState (sym (next_state_is inside c.entry_reply.new.pool c.entry_reply.new.tally c.args.entry.now parts.1 parts.2)) (state_after_step inside c.args.entry.now c.requires.conditions c.self.invariant)

pub returns-clause-promises : goal.returns-clause-promises
returns-clause-promises c =
    let inside : PlainState = record { pool = c.self.inside.pool; tally = c.self.inside.tally; entries = c.self.inside.entries } in
    let after : PlainState = record { pool = c.entry_reply.new.pool; tally = c.entry_reply.new.tally; entries = c.self.inside.entries + 1 } in
    let parts = c.in_ok-reply.ensures.ok in
    subst (λ (old : PlainState). Promises old after c.in_ok-reply.reply c.args.entry.now) c.self.view_is
    (promises_after inside c.entry_reply.new.pool c.entry_reply.new.tally c.in_ok-reply.reply c.args.entry.now c.self.invariant parts.0 parts.1 parts.2)
