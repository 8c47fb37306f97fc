-- What a source has left, and what a sink has taken.
use Rattle.std.specs.Prelude.{◌≡◌, ℕ, Bool, List, ◌++◌, IsTrue}

-- bytes, and whether they are told
pub record Stream : Type 0 where
  pub told : Bool
  pub bytes : List ℕ

-- the bytes that a source gave are the front of what it had left, where it tells that
abbrev pub GivesFront : Stream → Stream → List ℕ → Type 0
GivesFront old new given = IsTrue old.told → old.bytes ≡ given ++ new.bytes

-- a sink took these bytes after those before, where it tells them
abbrev pub Takes : Stream → Stream → List ℕ → Type 0
Takes old new taken = IsTrue old.told → new.bytes ≡ old.bytes ++ taken

-- nothing was given or taken, where that is told
abbrev pub Keeps : Stream → Stream → Type 0
Keeps old new = IsTrue old.told → new.bytes ≡ old.bytes
