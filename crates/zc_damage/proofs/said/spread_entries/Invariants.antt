use Rattle.std.proofs.Common.{◌≡◌, ◌-◌, drop}
use Rattle.zc_damage.specs.Spread.{with_entries}
use Rattle.zc_damage.proofs.said.spread_entries.Given as goal

-- the last entries are put
abbrev pub invariant-loop-done : goal.invariant-loop-done
invariant-loop-done l = l.counts ≡ with_entries l.limits.places l.device (drop (l.last - l.done) l.entries) l.initial.counts
