-- One event more.
use Rattle.std.proofs.Common.{◌≡◌, ◌∙◌, ℕ, ◌+◌, Bool, List, length, ◌∷◌, [], ◌++◌, IsTrue, ap, subst, sym, append_assoc, le_trans, arith}
use Rattle.std.proofs.lemmas.Bool.{false≢true}
use Rattle.std.proofs.lemmas.List.{length_push}
use Rattle.std.specs.Vec.Iter.{into_iter_items}
use Rattle.zc_tape.proofs.Extends.{extends_trans}
use Rattle.zc_pool.specs.declared.event.Event.{Event}
use Rattle.zc_pool.specs.EventAnswers.{MayAsk}
use Rattle.zc_pool.proofs.RunningLaws.{goes_further}
use Rattle.zc_pool.proofs.EventLaws.{makes_more, ran_to}
use Rattle.zc_pool.proofs.pool.Pool.run.Goals as goal

pub loop-event-preserved : goal.loop-event-preserved
loop-event-preserved g c =
    let tape = g.D.DiskSet.tape in
    let shape = g.D.DiskSet.shape in
    let first = c.args.self.now in
    let at = c.loop-event in
    let was = at.invariant in
    let event = c.in-Some.event in
    let made = c.event.ensures in
    let steps : into_iter_items at.event-iterator ≡ event ∷ into_iter_items c.next.new.self = c.in-Some.ensures.steps.0 in
    let fewer = c.in-Some.ensures.steps.1 in
    let short = ap length steps in
    let count = was.count in
    let number = was.number in
    let may : MayAsk at.self.kept event = c.may_ask.ensures.0 c.if-not-may_ask.false in
    record {
      parts = append_assoc at.yielded (event ∷ []) _ ∙ rw (← steps) was.parts;
      count = omega arith;
      place = ap (λ (n : ℕ). n + 1) was.place ∙ sym (length_push at.yielded event);
      number = omega arith;
      makes = makes_more first.kept at.self.kept c.event.new.self.kept at.yielded event was.makes (may, c.in_ok-event.field-0, c.in_ok-event.ensures.answers);
      goes_on = goes_further (shape first.disks) (shape at.self.disks) (tape first.disks) (tape at.self.disks) (tape c.event.new.self.disks) first.root at.self.root c.event.new.self.root
          first.kept at.self.kept c.event.new.self.kept was.same_shape was.goes_on made.goes_on;
      acks = λ acks. made.acks (was.acks acks);
      pool = made.pool;
      same_shape = made.shape ∙ was.same_shape;
      told = made.told ∙ was.told;
      extends = λ told. extends_trans (tape first.disks) (tape at.self.disks) (tape c.event.new.self.disks) (was.extends told)
          (made.extends (subst (λ (flag : Bool). IsTrue flag) (sym was.told) told));
      later = le_trans was.later made.later;
    }

pub returns-in_err-event-clause-goes_on : goal.returns-in_err-event-clause-goes_on
returns-in_err-event-clause-goes_on g c =
    let tape = g.D.DiskSet.tape in
    let shape = g.D.DiskSet.shape in
    let first = c.args.self.now in
    let at = c.loop-event in
    goes_further (shape first.disks) (shape at.self.disks) (tape first.disks) (tape at.self.disks) (tape c.event.new.self.disks) first.root at.self.root c.event.new.self.root
    first.kept at.self.kept c.event.new.self.kept at.invariant.same_shape at.invariant.goes_on c.event.ensures.goes_on

pub returns-then-not-may_ask-clause-ran : goal.returns-then-not-may_ask-clause-ran
returns-then-not-may_ask-clause-ran g c =
    let at = c.loop-event in
    let event = c.in-Some.event in
    let rest = into_iter_items c.next.new.self in
    let steps : into_iter_items at.event-iterator ≡ event ∷ rest = c.in-Some.ensures.steps.0 in
    let parts : at.yielded ++ event ∷ rest ≡ c.args.events =
    ap (λ (items : List Event). at.yielded ++ items) (sym steps) ∙ at.invariant.parts ∙ c.into_iter-event-iterator.ensures.into_iter_gives.0 ∙ c.into_vec-event-items.ensures in
    ran_to c.args.self.now.kept at.self.kept at.yielded rest c.args.events event at.at parts at.invariant.place at.invariant.makes
    (λ may. false≢true (sym c.if-not-may_ask.true ∙ c.may_ask.ensures.1 may))
