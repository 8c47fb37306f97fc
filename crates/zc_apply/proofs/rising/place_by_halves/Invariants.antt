use Rattle.std.proofs.Common.{ℕ, ◌-◌, ◌<◌, ◌≤◌, length, get_or}
use Rattle.zc_tree.specs.declared.tree.File.{File}
use Rattle.zc_apply.proofs.rising.place_by_halves.Given as goal

-- the numbers before the part that is left are below, and those after it are above
abbrev pub invariant-loop-low : goal.invariant-loop-low
invariant-loop-low l = record {
  ordered : l.low ≤ l.high;
  fits : l.high ≤ length l.files;
  below : (k : ℕ) (d : File) → k < l.low → (get_or l.files k d).id < l.id;
  above : (k : ℕ) (d : File) → l.high ≤ k → k < length l.files → l.id < (get_or l.files k d).id;
}

-- it gets shorter
abbrev pub decreases-loop-low : goal.decreases-loop-low
decreases-loop-low l = l.high - l.low
