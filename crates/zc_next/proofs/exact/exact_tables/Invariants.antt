use Rattle.std.proofs.Common.{◌≡◌, map}
use Rattle.zc_num.specs.Words.{each}
use Rattle.zc_table.specs.Plain.{counts_of}
use Rattle.zc_next.proofs.ExactTables.{counts_on}
use Rattle.zc_next.proofs.exact.exact_tables.Given as goal

-- the tables of the first devices are there
abbrev pub invariant-loop-device : goal.invariant-loop-device
invariant-loop-device l = map counts_of l.tables ≡ each l.device (λ device. counts_on l.census.places device l.census.reach)
