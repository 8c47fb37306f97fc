-- A block with bytes written over its own, `edited block from bytes`.
use Rattle.std.proofs.Common.{◌≡◌, ℕ, ◌+◌, ◌-◌, ◌<◌, ◌≤◌, List, length, get_or, arith}
use Rattle.std.proofs.lemmas.List.{places, append-nil, drop_all}
use Rattle.zc_num.specs.Blocks.{edited}

-- it is as long as before, where the bytes fit
pub length_edited : (block : List ℕ) (from : ℕ) (bytes : List ℕ) → from + length bytes ≤ length block → length (edited block from bytes) ≡ length block
length_edited block from bytes fits = grind (arith, places)

-- a byte before the first that is written stays
pub byte_before_edit : (block : List ℕ) (from : ℕ) (bytes : List ℕ) (k d : ℕ) → from + length bytes ≤ length block → k < from → get_or (edited block from bytes) k d ≡ get_or block k d
byte_before_edit block from bytes k d fits before = grind (arith, places)

-- a byte that is written is that of the bytes
pub byte_in_edit : (block : List ℕ) (from : ℕ) (bytes : List ℕ) (k d : ℕ) → from + length bytes ≤ length block → from ≤ k → k < from + length bytes → get_or (edited block from bytes) k d ≡ get_or bytes (k - from) d
byte_in_edit block from bytes k d fits first last = grind (arith, places)

-- a byte after the last that is written stays
pub byte_after_edit : (block : List ℕ) (from : ℕ) (bytes : List ℕ) (k d : ℕ) → from + length bytes ≤ length block → from + length bytes ≤ k → get_or (edited block from bytes) k d ≡ get_or block k d
byte_after_edit block from bytes k d fits behind = grind (arith, places)

-- a write over the whole block leaves the bytes
pub edited_whole : (block bytes : List ℕ) → length bytes ≡ length block → edited block 0 bytes ≡ bytes
edited_whole block bytes as_long =
    let past : length block ≤ 0 + length bytes = omega arith in
    rw (drop_all (0 + length bytes) block past) (append-nil bytes)
