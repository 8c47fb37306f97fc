use Rattle.std.proofs.Common.{ℕ, ◌-◌, ◌<◌, ◌≤◌, length, get_or}
use Rattle.zc_damage.specs.Places.{number_of, numbers_of}
use Rattle.zc_damage.proofs.tails.block_at.Given as goal

-- the blocks before the part that is left are before the place, and those after it after the place
abbrev pub invariant-loop-low : goal.invariant-loop-low
invariant-loop-low l = record {
  within : l.high ≤ length l.blocks;
  before : (k : ℕ) → k < l.low → k < length l.blocks → get_or (numbers_of l.limits.places l.blocks) k 0 < number_of l.limits.places l.device l.place;
  behind : (k : ℕ) → l.high ≤ k → k < length l.blocks → number_of l.limits.places l.device l.place < get_or (numbers_of l.limits.places l.blocks) k 0;
}

-- it gets shorter
abbrev pub decreases-loop-low : goal.decreases-loop-low
decreases-loop-low l = l.high - l.low
