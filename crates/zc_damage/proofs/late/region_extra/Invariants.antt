use Rattle.std.proofs.Common.{◌≡◌, ◌+◌, ◌*◌, ◌^◌, ◌≤◌, sum}
use Rattle.zc_num.specs.Words.{each}
use Rattle.zc_damage.specs.Places.{extra_at}
use Rattle.zc_damage.proofs.late.region_extra.Given as goal

-- the sum over the first places, each of which has a number of 32 bits
abbrev pub invariant-loop-k : goal.invariant-loop-k
invariant-loop-k l = record {
  summed : l.sum ≡ sum (each l.k (λ k. extra_at l.census.places l.census.reach (64 * l.region + k)));
  bounded : l.sum ≤ l.k * 2 ^ 32;
}
