-- Bytes as words of a line: hexadecimal digits of either case.
use Rattle.std.proofs.Common.{◌≡◌, ℕ, ◌+◌, ◌*◌, ◌/◌, ◌%◌, ◌<◌, ◌==◌, Bool, true, List, [], ◌∷◌, slice_index, Option, Some, None, Result, Ok, Err, refl, sym, ◌∙◌, ap, arith}
use Rattle.std.specs.Char.{to_ascii_lowercase}
use Rattle.std.specs.Str.{str_to_ascii_lowercase}
use Rattle.std.proofs.lemmas.Bool.{eqb-true, agree_below_at}
use Rattle.hex.specs.Hex.{decode_pairs, digit_or_error, hex_digit_value, encode_lower, encode_with, lower_digits, pair_value, value_at, ◌>>=◌}
use Rattle.hex.specs.declared.error.FromHexError.{FromHexError}
use Rattle.hex.proofs.HexLemmas.{decode_of-ok, decode_of-even}
use Rattle.zc_script.specs.Spelling.{AreHexDigits}

-- two steps that gave a value
bind_ok : {A B : Type 0} (r : Result A FromHexError) (f : A → Result B FromHexError) (y : B) → (r >>= f) ≡ Ok y → (x : A) × (r ≡ Ok x) × (f x ≡ Ok y)
bind_ok (Ok x) f y h = (x, refl, h)
bind_ok (Err e) f y h = cc h

-- a digit that was read has this value
digit_value_is : (c i : ℕ) (value : Option ℕ) (v : ℕ) → digit_or_error c i value ≡ Ok v → value ≡ Some v
digit_value_is c i (Some w) v h = cc
digit_value_is c i None v h = cc h

-- the lower-case digit of the value is the digit in lower case: a test that computes
abbrev lower_of_value : ℕ → Option ℕ → Bool
lower_of_value c None = true
lower_of_value c (Some v) = slice_index lower_digits v == to_ascii_lowercase c

hex_digit_small : (c v : ℕ) → hex_digit_value c ≡ Some v → (c < 128) × (v < 16)
hex_digit_small c v h = grind arith

lower_digit : (c v : ℕ) → hex_digit_value c ≡ Some v → slice_index lower_digits v ≡ to_ascii_lowercase c
lower_digit c v h =
    let small = hex_digit_small c v h in
    let test = agree_below_at (λ d. lower_of_value d (hex_digit_value d)) (λ d. true) 128 c refl small.0 in
    eqb-true (slice_index lower_digits v) (to_ascii_lowercase c) (rw h at test)

-- pairs of digits that are read are the lower-case digits of their bytes, up to their case
lower_pairs : (i : ℕ) (text bytes : List ℕ) → decode_pairs i text ≡ Ok bytes → str_to_ascii_lowercase text ≡ encode_lower bytes
unfolding decode_pairs encode_with
lower_pairs i [] bytes h =
    let none : [] ≡ bytes = cc in
    ap encode_lower none
lower_pairs i (digit ∷ []) bytes h = cc h
lower_pairs i (high ∷ low ∷ rest) bytes h =
    let pair = bind_ok (pair_value high low i) _ bytes h in
    let first = bind_ok (value_at high i) _ pair.0 pair.1 in
    let second = bind_ok (value_at low (i + 1)) _ pair.0 first.2 in
    let behind = bind_ok (decode_pairs (i + 2) rest) _ bytes pair.2 in
    let is_high = digit_value_is high i (hex_digit_value high) first.0 first.1 in
    let is_low = digit_value_is low (i + 1) (hex_digit_value low) second.0 second.1 in
    let small_high = (hex_digit_small high first.0 is_high).1 in
    let small_low = (hex_digit_small low second.0 is_low).1 in
    let is_byte : first.0 * 16 + second.0 ≡ pair.0 = cc second.2 in
    let over : pair.0 / 16 ≡ first.0 = omega (arith, is_byte) in
    let under : pair.0 % 16 ≡ second.0 = omega (arith, is_byte) in
    let is_bytes : pair.0 ∷ behind.0 ≡ bytes = cc behind.2 in
    let tail = lower_pairs (i + 2) rest behind.0 behind.1 in
    let front = lower_digit high first.0 is_high in
    let back = lower_digit low second.0 is_low in
    ap (λ (t : List ℕ). to_ascii_lowercase high ∷ to_ascii_lowercase low ∷ t) tail
    ∙ ap (λ (c : ℕ). c ∷ to_ascii_lowercase low ∷ encode_lower behind.0) (sym front ∙ ap (slice_index lower_digits) (sym over))
    ∙ ap (λ (c : ℕ). slice_index lower_digits (pair.0 / 16) ∷ c ∷ encode_lower behind.0) (sym back ∙ ap (slice_index lower_digits) (sym under))
    ∙ ap encode_lower is_bytes

-- Hexadecimal digits of bytes are their lower-case digits, up to the case.
pub hex_digits_are_lower : (text bytes : List ℕ) → AreHexDigits text bytes → str_to_ascii_lowercase text ≡ encode_lower bytes
hex_digits_are_lower text bytes h =
    let ok = decode_of-ok text bytes h.digits in
    lower_pairs 0 text bytes (sym (decode_of-even text ok.0) ∙ h.digits)
