-- The laws of the spelling of numbers of 32 and 64 bits.
use Rattle.std.proofs.Common.{◌≡◌, ℕ, zero, suc, ◌^◌, ◌<◌, ◌≤◌, List, [], ◌++◌, length, take, drop, refl, sym, ap, ◌∙◌, arith, lit<, lit≤}
use Rattle.std.specs.Int.{w32, w64, bytes_high_first, from_be_bytes}
use Rattle.std.proofs.lemmas.Nat.{be_bytes_4, be_bytes_8}
use Rattle.std.proofs.lemmas.List.{drop_at, take-append-drop, length-take}
use Rattle.byteorder.specs.Endian.{big_number}
use Rattle.byteorder.specs.Numbers.{big_number-reads_back, big_from-lt, big_from-take}
use Rattle.zc_wire.specs.Numbers.{u32_bytes, u64_bytes, u32_of, u64_of, IsBytes}
use Rattle.zc_wire.proofs.Bytes.{bytes_taken}

-- the spelling of a number of any width has bytes
spelling_fits : (width number : ℕ) → IsBytes (bytes_high_first width number)
spelling_fits zero number index = lit< tt
spelling_fits (suc zero) number zero = omega arith
spelling_fits (suc (suc width)) number zero = omega arith
spelling_fits (suc width) number (suc index) = spelling_fits width number index

-- std's number of four bytes is the one of `big_number`
std_u32 : (bytes : List ℕ) → big_number 4 bytes ≡ from_be_bytes w32 bytes
std_u32 bytes = omega arith

-- the same for eight bytes
std_u64 : (bytes : List ℕ) → big_number 8 bytes ≡ from_be_bytes w64 bytes
std_u64 bytes = omega arith

-- ---- 32 bits

-- a spelling has four bytes
pub u32_bytes_length : (number : ℕ) → length (u32_bytes number) ≡ 4
unfolding u32_bytes
u32_bytes_length number = refl

-- a spelling has bytes
pub u32_bytes_fit : (number : ℕ) → IsBytes (u32_bytes number)
unfolding u32_bytes
u32_bytes_fit number = spelling_fits 4 number

-- what is spelled is read, whatever follows
pub u32_read_back : (number : ℕ) (rest : List ℕ) → number < 2 ^ 32 → u32_of (u32_bytes number ++ rest) ≡ number
unfolding u32_bytes u32_of
u32_read_back number rest fits = big_number-reads_back 4 number rest fits

-- what is read of four bytes is spelled so
pub u32_spelled_back : (bytes : List ℕ) → length bytes ≡ 4 → IsBytes bytes → u32_bytes (u32_of bytes) ≡ bytes
unfolding u32_bytes u32_of
u32_spelled_back bytes len fits = be_bytes_4 bytes (big_number 4 bytes) len fits (std_u32 bytes)

-- bytes read as a number below 2 ^ 32
pub u32_below : (bytes : List ℕ) → IsBytes bytes → u32_of bytes < 2 ^ 32
unfolding u32_of
u32_below bytes fits = big_from-lt 0 4 bytes fits

-- four bytes or more begin with the spelling of the number that is read there
pub u32_front : (bytes : List ℕ) → 4 ≤ length bytes → IsBytes bytes → bytes ≡ u32_bytes (u32_of bytes) ++ drop 4 bytes
unfolding u32_of
u32_front bytes long fits =
    let number : u32_of (take 4 bytes) ≡ u32_of bytes = big_from-take 0 4 4 bytes (lit≤ tt) in
    let front : u32_bytes (u32_of (take 4 bytes)) ≡ take 4 bytes = u32_spelled_back (take 4 bytes) (omega (arith, length-take 4 bytes)) (bytes_taken 4 bytes fits) in
    sym (take-append-drop 4 bytes) ∙ ap (λ (t : List ℕ). t ++ drop 4 bytes) (sym front ∙ ap u32_bytes number)

-- two numbers that begin the same bytes are one number, and the same bytes follow
pub u32_agree : (number other : ℕ) (rest other_rest : List ℕ) → number < 2 ^ 32 → other < 2 ^ 32 → u32_bytes number ++ rest ≡ u32_bytes other ++ other_rest → (number ≡ other) × (rest ≡ other_rest)
u32_agree number other rest other_rest fits other_fits same = (
  sym (u32_read_back number rest fits) ∙ ap u32_of same ∙ u32_read_back other other_rest other_fits,
  sym (drop_at (u32_bytes number) rest 4 (u32_bytes_length number)) ∙ ap (drop 4) same ∙ drop_at (u32_bytes other) other_rest 4 (u32_bytes_length other),
)

-- two numbers with one spelling are one number
pub u32_same : (number other : ℕ) → number < 2 ^ 32 → other < 2 ^ 32 → u32_bytes number ≡ u32_bytes other → number ≡ other
u32_same number other fits other_fits same = (u32_agree number other [] [] fits other_fits (ap (λ (t : List ℕ). t ++ []) same)).0

-- ---- 64 bits

-- a spelling has eight bytes
pub u64_bytes_length : (number : ℕ) → length (u64_bytes number) ≡ 8
unfolding u64_bytes
u64_bytes_length number = refl

-- a spelling has bytes
pub u64_bytes_fit : (number : ℕ) → IsBytes (u64_bytes number)
unfolding u64_bytes
u64_bytes_fit number = spelling_fits 8 number

-- what is spelled is read, whatever follows
pub u64_read_back : (number : ℕ) (rest : List ℕ) → number < 2 ^ 64 → u64_of (u64_bytes number ++ rest) ≡ number
unfolding u64_bytes u64_of
u64_read_back number rest fits = big_number-reads_back 8 number rest fits

-- what is read of eight bytes is spelled so
pub u64_spelled_back : (bytes : List ℕ) → length bytes ≡ 8 → IsBytes bytes → u64_bytes (u64_of bytes) ≡ bytes
unfolding u64_bytes u64_of
u64_spelled_back bytes len fits = be_bytes_8 bytes (big_number 8 bytes) len fits (std_u64 bytes)

-- bytes read as a number below 2 ^ 64
pub u64_below : (bytes : List ℕ) → IsBytes bytes → u64_of bytes < 2 ^ 64
unfolding u64_of
u64_below bytes fits = big_from-lt 0 8 bytes fits

-- eight bytes or more begin with the spelling of the number that is read there
pub u64_front : (bytes : List ℕ) → 8 ≤ length bytes → IsBytes bytes → bytes ≡ u64_bytes (u64_of bytes) ++ drop 8 bytes
unfolding u64_of
u64_front bytes long fits =
    let number : u64_of (take 8 bytes) ≡ u64_of bytes = big_from-take 0 8 8 bytes (lit≤ tt) in
    let front : u64_bytes (u64_of (take 8 bytes)) ≡ take 8 bytes = u64_spelled_back (take 8 bytes) (omega (arith, length-take 8 bytes)) (bytes_taken 8 bytes fits) in
    sym (take-append-drop 8 bytes) ∙ ap (λ (t : List ℕ). t ++ drop 8 bytes) (sym front ∙ ap u64_bytes number)

-- two numbers that begin the same bytes are one number, and the same bytes follow
pub u64_agree : (number other : ℕ) (rest other_rest : List ℕ) → number < 2 ^ 64 → other < 2 ^ 64 → u64_bytes number ++ rest ≡ u64_bytes other ++ other_rest → (number ≡ other) × (rest ≡ other_rest)
u64_agree number other rest other_rest fits other_fits same = (
  sym (u64_read_back number rest fits) ∙ ap u64_of same ∙ u64_read_back other other_rest other_fits,
  sym (drop_at (u64_bytes number) rest 8 (u64_bytes_length number)) ∙ ap (drop 8) same ∙ drop_at (u64_bytes other) other_rest 8 (u64_bytes_length other),
)

-- two numbers with one spelling are one number
pub u64_same : (number other : ℕ) → number < 2 ^ 64 → other < 2 ^ 64 → u64_bytes number ≡ u64_bytes other → number ≡ other
u64_same number other fits other_fits same = (u64_agree number other [] [] fits other_fits (ap (λ (t : List ℕ). t ++ []) same)).0
