-- Ranges of bytes of one length.
use Rattle.std.proofs.Common.{ℕ, ◌+◌, ◌<◌, max, nat_lt, IsTrue, ◌↔◌, arith}
use borrow.Author.Tests.{ltb-true, lt-ltb}
use Rattle.zc_num.specs.Blocks.{ShareByte}

-- two ranges that begin before each other's end share the larger of their first bytes
pub shared_byte : (a b length : ℕ) → a < b + length → b < a + length → ShareByte a b length
shared_byte a b length a_before b_before = (max a b, omega arith, omega arith, omega arith, omega arith)

-- where a begins before the end of b, they share a byte exactly if b begins before the end of a
pub shared_byte_test : (a b length : ℕ) → a < b + length → IsTrue (nat_lt b (a + length)) ↔ ShareByte a b length
shared_byte_test a b length a_before = (
  λ test. shared_byte a b length a_before (ltb-true b (a + length) test),
  λ shared. lt-ltb b (a + length) (omega arith),
)
