-- What contracts see of a cursor over bytes.
use Rattle.std.specs.Prelude.{ℕ, List}

-- how many bytes are read so far, and the bytes that are left
pub record Reading : Type 0 where
  pub at : ℕ
  pub left : List ℕ
