-- Place by place: the fault of a place is that of all, and a block that is read is one more.
use Rattle.std.proofs.Common.{◌∙◌, arith}
use Rattle.std.proofs.lemmas.Result.{err_from_is_err_and}
use Rattle.zc_image.proofs.BlockSteps.{all_blocks_below, gathered_fails_here, gathered_next_here, gathered_all}
use Rattle.zc_tape.specs.Crash.{reads}
use Rattle.zc_image.proofs.blocks.read_blocks.Goals as goal

pub returns-in_err-add_block-clause-exact : goal.returns-in_err-add_block-clause-exact
returns-in_err-add_block-clause-exact g c =
    let p = err_from_is_err_and c.from_residual.result c.from_residual.ensures.1 in
    rw (p.1, p.2) (gathered_fails_here (g.D.DiskSet.tape c.args.disks.now) (g.D.DiskSet.tape c.loop-number.disks) c.args.limits.now.devices c.args.limits.now.places
    c.args.census.now.chain c.args.census.now.reach c.loop-number.number c.loop-number.blocks c.in_err-add_block.field-0.0 c.loop-number.invariant.0 c.requires.owners
    (omega (arith, c.total-number-end.ensures, c.loop-number-test.true)) c.loop-number.invariant.5 c.in_err-add_block.ensures.exact)

pub loop-number-preserved : goal.loop-number-preserved
loop-number-preserved g c = (
  c.in_ok-add_block.ensures.tape ∙ c.loop-number.invariant.0,
  c.in_ok-add_block.ensures.shape ∙ c.loop-number.invariant.1,
  c.in_ok-add_block.ensures.spare ∙ c.loop-number.invariant.2,
  omega (arith, c.in_ok-add_block.ensures.later, c.loop-number.invariant.3),
  c.in_ok-add_block.ensures.rising c.loop-number.invariant.4,
  gathered_next_here (g.D.DiskSet.tape c.args.disks.now) (g.D.DiskSet.tape c.loop-number.disks) c.args.limits.now.devices c.args.limits.now.places
      c.args.census.now.chain c.args.census.now.reach c.loop-number.number c.loop-number.blocks c.add_block.new.blocks c.loop-number.invariant.0 c.requires.owners
      (omega (arith, c.total-number-end.ensures, c.loop-number-test.true)) c.loop-number.invariant.5 c.in_ok-add_block.ensures.exact,
  c.in_ok-add_block.ensures.there c.loop-number.invariant.6,
)

pub returns-clause-exact : goal.returns-clause-exact
returns-clause-exact g c = λ whole.
    gathered_all c.args.limits.now.devices c.args.limits.now.places (reads (g.D.DiskSet.tape c.args.disks.now)) c.args.census.now.reach c.loop-number.number c.loop-number.blocks
    (omega (arith, c.total-number-end.ensures, c.loop-number-test.false)) (c.loop-number.invariant.5 whole)

pub returns-clause-there : goal.returns-clause-there
returns-clause-there g c =
    all_blocks_below c.args.limits.now.devices c.args.limits.now.places c.args.census.now.reach c.loop-number.number c.loop-number.blocks
    (omega (arith, c.total-number-end.ensures, c.loop-number.auto.number-end, c.loop-number-test.false)) c.loop-number.invariant.6
