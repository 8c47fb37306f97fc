-- Place by place: the fault of a place is the chain's, and a place that goes on is one more.
use Rattle.std.proofs.Common.{◌∙◌, arith}
use Rattle.std.proofs.lemmas.Result.{err_from_is_err_and}
use Rattle.zc_image.proofs.ChainSteps.{inner_fails_here, goes_on_here, places_more, last_fails_here, chain_found_here, blocks_found_here}
use Rattle.zc_image.proofs.chain.follow_chain.Goals as goal

pub returns-in_err-at-clause-exact : goal.returns-in_err-at-clause-exact
returns-in_err-at-clause-exact g c =
    let p = err_from_is_err_and c.from_residual-in_err-at.result c.from_residual-in_err-at.ensures.1 in
    rw (p.1, p.2) (inner_fails_here (g.D.DiskSet.tape c.args.disks.now) (g.D.DiskSet.tape c.loop-index.disks) c.args.limits.now c.loop-index.trail.limits c.args.body.now c.loop-index.index
    c.loop-index.trail.places c.loop-index.trail.bytes.items c.loop-index.at c.in_err-at.field-0.0 c.loop-index.invariant.0 c.loop-index.invariant.4 c.requires.long c.loop-index.invariant.6 c.loop-index-test.true
    c.in_err-at.ensures.next)

pub loop-index-preserved : goal.loop-index-preserved
loop-index-preserved g c = (
  c.in_ok-at.ensures.tape ∙ c.loop-index.invariant.0,
  c.in_ok-at.ensures.shape ∙ c.loop-index.invariant.1,
  c.in_ok-at.ensures.spare ∙ c.loop-index.invariant.2,
  omega (arith, c.in_ok-at.ensures.later, c.loop-index.invariant.3),
  c.in_ok-at.ensures.limits ∙ c.loop-index.invariant.4,
  places_more c.args.limits.now c.loop-index.trail.limits c.loop-index.trail.places c.loop-index.at c.follow_inner.new.trail.places c.loop-index.invariant.4 c.loop-index.invariant.5
      c.in_ok-at.ensures.there c.in_ok-at.ensures.place,
  goes_on_here (g.D.DiskSet.tape c.args.disks.now) (g.D.DiskSet.tape c.loop-index.disks) c.args.limits.now c.loop-index.trail.limits c.args.body.now c.loop-index.index
      c.loop-index.trail.places c.loop-index.trail.bytes.items c.loop-index.at c.in_ok-at.at c.follow_inner.new.trail.places c.follow_inner.new.trail.bytes.items c.loop-index.invariant.0 c.loop-index.invariant.4
      c.loop-index.invariant.6 c.loop-index-test.true c.in_ok-at.ensures.next c.in_ok-at.ensures.place c.in_ok-at.ensures.bytes c.in_ok-at.ensures.whole,
)

pub returns-in_err-follow_last-clause-exact : goal.returns-in_err-follow_last-clause-exact
returns-in_err-follow_last-clause-exact g c =
    let p = err_from_is_err_and c.from_residual-in_err-follow_last.result c.from_residual-in_err-follow_last.ensures.1 in
    rw (p.1, p.2) (last_fails_here (g.D.DiskSet.tape c.args.disks.now) (g.D.DiskSet.tape c.loop-index.disks) c.args.limits.now c.loop-index.trail.limits c.args.body.now c.loop-index.index c.last_count.result
    c.loop-index.trail.places c.loop-index.trail.bytes.items c.loop-index.at c.in_err-follow_last.field-0.0 c.loop-index.invariant.0 c.loop-index.invariant.4 c.requires.long c.loop-index.invariant.6
    (omega (arith, c.loop-index.auto.index-end, c.loop-index-test.false)) c.last_count.ensures.count c.in_err-follow_last.ensures.last)

pub returns-clause-exact : goal.returns-clause-exact
returns-clause-exact g c =
    chain_found_here (g.D.DiskSet.tape c.args.disks.now) (g.D.DiskSet.tape c.loop-index.disks) c.args.limits.now c.loop-index.trail.limits c.args.body.now c.loop-index.index c.last_count.result
    c.loop-index.trail.places c.loop-index.trail.bytes.items _ c.loop-index.at c.follow_last.new.trail.places c.follow_last.new.trail.bytes.items c.loop-index.invariant.0 c.loop-index.invariant.4 c.requires.long
    c.loop-index.invariant.6 (omega (arith, c.loop-index.auto.index-end, c.loop-index-test.false)) c.last_count.ensures.count c.in_ok-follow_last.ensures.last c.in_ok-follow_last.ensures.place c.in_ok-follow_last.ensures.bytes

pub returns-clause-whole : goal.returns-clause-whole
returns-clause-whole g c =
    blocks_found_here (g.D.DiskSet.tape c.args.disks.now) (g.D.DiskSet.tape c.loop-index.disks) c.args.limits.now c.args.body.now c.loop-index.index
    c.loop-index.trail.places c.loop-index.trail.bytes.items c.loop-index.at c.follow_last.new.trail.places c.loop-index.invariant.0 c.loop-index.invariant.6 c.in_ok-follow_last.ensures.place c.in_ok-follow_last.ensures.whole

pub returns-clause-there : goal.returns-clause-there
returns-clause-there g c =
    places_more c.args.limits.now c.loop-index.trail.limits c.loop-index.trail.places c.loop-index.at c.follow_last.new.trail.places c.loop-index.invariant.4 c.loop-index.invariant.5
    c.in_ok-follow_last.ensures.there c.in_ok-follow_last.ensures.place
