use Rattle.std.proofs.Common.{ℕ, ◌<◌}
use Rattle.zc_tree.specs.Reach.{StandsAt}
use Rattle.zc_tests.proofs.slots.dataset_among.Given as goal

-- no earlier item has the number
abbrev pub invariant-loop-index : goal.invariant-loop-index
invariant-loop-index l = (k : ℕ) → k < l.index → StandsAt (λ dataset. dataset.id) l.datasets l.id k → ⊥
