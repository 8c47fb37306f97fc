use Rattle.std.proofs.Common.{◌≡◌, ◌<◌, ◌==◌, ℕ, true}
use Rattle.std.specs.List.{list_any}
use Rattle.zc_heart.specs.Core.{areas_of}
use Rattle.zc_heart.proofs.making.free_area.Given as goal

-- the areas so far are taken
abbrev pub invariant-loop-area : goal.invariant-loop-area
invariant-loop-area l = (number : ℕ) → number < l.area → list_any (λ (other : ℕ). other == number) (areas_of l.core) ≡ true
