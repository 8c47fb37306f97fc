use Rattle.std.proofs.Common.{◌≡◌, []}
use Rattle.zc_num.specs.Words.{each}
use Rattle.zc_damage.specs.Census.{use_of}
use Rattle.zc_damage.proofs.census.unused.Given as goal

-- the first places are there
abbrev pub invariant-loop : goal.invariant-loop
invariant-loop l = l.uses.items ≡ each l.counter (use_of l.limits.places [] [])
