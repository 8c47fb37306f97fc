-- How many of the blocks that are kept some file has.
use Rattle.std.specs.Prelude.{ℕ, ◌==◌, List, sum_by, if◌then◌else◌}
use Rattle.std.specs.Map.{values_of}
use Rattle.zc_heart.specs.declared.stamps.Stamp.{Stamp}
use Rattle.zc_heart.specs.declared.stamps.Count.{Count}

-- 1 for a block that some file has, and 0 for room alone
abbrev pub stands : Count → ℕ
stands count = if count.files == 0 then 0 else 1

-- how many of the blocks some file has
abbrev pub standing : List (Stamp × Count) → ℕ
standing entries = sum_by stands (values_of entries)
