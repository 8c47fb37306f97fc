-- What a plain table stands for.
use Rattle.std.specs.Prelude.{ℕ, ◌==◌, List, if◌then◌else◌}
use Rattle.zc_table.specs.declared.plain.PlainTable.{PlainTable}

-- the count of each place, 0 where there is no entry
abbrev pub counts_of : PlainTable → List ℕ
counts_of table = table.counts.items

-- how many entries an addition to a count makes
abbrev pub entries_made : ℕ → ℕ
entries_made count = if count == 0 then 1 else 0
