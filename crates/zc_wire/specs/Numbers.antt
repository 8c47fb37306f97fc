-- The spelling of numbers of 32 and 64 bits in bytes, the highest byte first.
use Rattle.std.specs.Prelude.{ℕ, ◌<◌, List, slice_index}
use Rattle.byteorder.specs.Endian.{big_bytes, big_number}

-- the four bytes of a number below 2 ^ 32
unfoldable pub u32_bytes : ℕ → List ℕ
u32_bytes number = big_bytes 4 number

-- the eight bytes of a number below 2 ^ 64
unfoldable pub u64_bytes : ℕ → List ℕ
u64_bytes number = big_bytes 8 number

-- the number that the first four bytes spell
unfoldable pub u32_of : List ℕ → ℕ
u32_of bytes = big_number 4 bytes

-- the number that the first eight bytes spell
unfoldable pub u64_of : List ℕ → ℕ
u64_of bytes = big_number 8 bytes

-- each number of the list is a byte
abbrev pub IsBytes : List ℕ → Type 0
IsBytes bytes = (index : ℕ) → slice_index bytes index < 256
