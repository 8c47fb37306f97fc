-- The change takes the first of the pointers, and the files rise as they did.
use Rattle.std.proofs.Common.{◌∙◌, sym, subst}
use Rattle.zc_tree.specs.declared.tree.Tree.{Tree}
use Rattle.zc_apply.specs.InParts.{AreRising}
use Rattle.zc_apply.proofs.NextLaws.{takes_first}
use Rattle.zc_apply.proofs.RisingLaws.{rising_changed}
use Rattle.zc_apply.proofs.next.make_next.Goals as goal

pub returns-clause-made : goal.returns-clause-made
returns-clause-made c =
    c.in_ok-make_change.ensures ∙ takes_first c.args.change.now c.first_of.result c.args.ptrs.now c.args.tree.now c.requires.enough c.first_of.ensures

pub returns-clause-still : goal.returns-clause-still
returns-clause-still c = λ rise.
    let known = c.requires.known (c.still_rise-rise.ensures.was rise) in
    let behind = rw c.as_slice.ensures at c.still_rise-rise.ensures.new_after rise in
    subst (λ (tree : Tree). AreRising tree.datasets) (sym c.in_ok-make_change.ensures) (rising_changed c.args.change.now c.first_of.result c.args.tree.now (behind known) known)
