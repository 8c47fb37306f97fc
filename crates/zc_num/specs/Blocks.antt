-- The arithmetic of ranges of bytes in blocks of 4,096 bytes.
use Rattle.std.specs.Prelude.{ℕ, ◌+◌, ◌/◌, ◌<◌, ◌≤◌, List, ◌++◌, take, drop, length}

-- a number of bytes that both ranges of this length have, the one from a and the other from b
abbrev pub ShareByte : ℕ → ℕ → ℕ → Type 0
ShareByte a b length = (byte : ℕ) × (a ≤ byte) × (byte < a + length) × (b ≤ byte) × (byte < b + length)

-- how many blocks of a log so many bytes take, at 4,024 bytes in each
abbrev pub log_blocks_of : ℕ → ℕ
log_blocks_of bytes = (bytes + 4023) / 4024

-- the block with these bytes written over its own from the byte `from` on
abbrev pub edited : List ℕ → ℕ → List ℕ → List ℕ
edited block from bytes = take from block ++ (bytes ++ drop (from + length bytes) block)
