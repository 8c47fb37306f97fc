use Rattle.std.proofs.Common.{◌≡◌, ◌≤◌, IsTrue, length, drop}
use Rattle.std.specs.Prelude.{count_by}
use Rattle.zc_heart.specs.Changes.{is_made, made_in}
use Rattle.zc_apply.specs.InParts.{AreRising}
use Rattle.zc_apply.proofs.next.make_changes.Given as goal

-- what is left to do makes the tree that is wanted
abbrev pub invariant-loop-change : goal.invariant-loop-change
invariant-loop-change l = record {
  left : made_in (drop l.change-index l.changes) l.ptrs l.tree ≡ made_in l.changes l.placed l.fn.tree;
  enough : count_by is_made (drop l.change-index l.changes) ≤ length l.ptrs;
  known : IsTrue l.rising → AreRising l.tree.datasets;
}
