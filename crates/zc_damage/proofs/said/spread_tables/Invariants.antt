use Rattle.std.proofs.Common.{◌≡◌}
use Rattle.zc_damage.specs.Spread.{with_tables}
use Rattle.zc_damage.proofs.said.spread_tables.Given as goal

-- the tables of the first devices are put
abbrev pub invariant-loop-device : goal.invariant-loop-device
invariant-loop-device l = l.counts ≡ with_tables l.limits.places l.tables l.device l.initial.counts
