-- How a script is read.
use Rattle.std.specs.Prelude.{◌≡◌, ℕ, ◌≤◌, List, [], length, IsTrue}
use Rattle.zc_io.specs.Stream.{Stream, GivesFront}

-- the most bytes that a script has
abbrev pub most_bytes : ℕ
most_bytes = 67108864

-- the source was read to its end, and held these bytes
pub record WasRead (old new : Stream) (script : List ℕ) : Type 0 where
  pub given : GivesFront old new script
  pub end : IsTrue old.told → new.bytes ≡ []
  pub fits : length script ≤ most_bytes
