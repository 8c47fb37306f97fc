-- One more pointer is counted at its place.
use Rattle.std.proofs.Common.{[], take}
use Rattle.zc_damage.proofs.CensusLaws.{use_there, pointers_fit, uses_step}
use Rattle.zc_damage.proofs.census.count_pointers.Goals as goal

pub bounds-uses-number : goal.bounds-uses-number
bounds-uses-number c =
    use_there c.args.limits.now.devices c.args.limits.now.places (take c.loop-ptr.ptr-index c.args.reach.now) [] c.loop-ptr.uses c.number_of-number.result c.loop-ptr.invariant c.number_of-number.ensures.there

pub with_pointer-requires : goal.with_pointer-requires
with_pointer-requires c =
    pointers_fit c.args.limits.now.devices c.args.limits.now.places c.args.reach.now c.loop-ptr.ptr-index c.loop-ptr.uses c.number_of-number.result _
    c.loop-ptr-test.true c.requires.few c.number_of-number.ensures.there c.loop-ptr.invariant

pub bounds-uses-number-in-loop-ptr : goal.bounds-uses-number-in-loop-ptr
bounds-uses-number-in-loop-ptr c =
    use_there c.args.limits.now.devices c.args.limits.now.places (take c.loop-ptr.ptr-index c.args.reach.now) [] c.loop-ptr.uses c.number_of-number.result c.loop-ptr.invariant c.number_of-number.ensures.there

pub loop-ptr-preserved : goal.loop-ptr-preserved
loop-ptr-preserved c =
    uses_step c.args.limits.now.devices c.args.limits.now.places c.args.reach.now c.loop-ptr.ptr-index c.loop-ptr.uses c.number_of-number.result _ _ c.with_pointer.result
    c.requires.places c.loop-ptr-test.true c.number_of-number.ensures.number c.loop-ptr.invariant c.with_pointer.ensures
