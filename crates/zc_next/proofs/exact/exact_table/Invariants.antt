use Rattle.std.proofs.Common.{◌≡◌}
use Rattle.zc_next.proofs.CountingLaws.{counts_so_far}
use Rattle.zc_next.proofs.exact.exact_table.Given as goal

-- the first places are counted
abbrev pub invariant-loop-place : goal.invariant-loop-place
invariant-loop-place l = l.table.counts.items ≡ counts_so_far l.places l.device l.census.reach l.place
