-- Numbers as words of a line.
use Rattle.std.proofs.Common.{◌≡◌, ℕ, ◌+◌, ◌-◌, ◌*◌, ◌^◌, ◌<◌, ◌≤◌, Bool, true, ◌&&◌, nat_le, suc, List, [], ◌∷◌, ◌++◌, length, replicate, Some, refl, sym, ◌∙◌, ap, subst, ⊎_elim, arith}
use Rattle.std.proofs.Math.Nat.{pow-le-pow_right}
use Rattle.std.specs.Char.{is_ascii_digit}
use Rattle.std.specs.Fmt.{decimal}
use Rattle.std.specs.List.{list_all}
use Rattle.std.specs.Str.{all_ascii_digits}
use Rattle.std.specs.Str.Parse.{digits_value}
use Rattle.std.proofs.lemmas.Bool.{cases_eq, and_parts, and_from, leb-true, le-leb}
use Rattle.std.proofs.lemmas.Option.{cond_some}
use Rattle.std.proofs.lemmas.Fmt.{digits_decimal, digits_value-decimal, length-decimal-le, decimal_nonempty, decimal-digits_value}
use Rattle.std.proofs.lemmas.Str.Parse.{IsNumeralModel, numerals_by_value, tells_all_ascii_digits}
use Rattle.zc_command.specs.Names.{is_digit}
use Rattle.zc_script.specs.Pools.{only_if}
use Rattle.zc_script.specs.Words.{is_number, number_of}
use Rattle.zc_script.specs.Spelling.{IsNumeral}

-- i digits make a number to which one digit more can be added
pub next_digit_fits : (number i : ℕ) → number < 10 ^ i → i < 19 → number * 10 + 9 < 18446744073709551616
next_digit_fits number i small few =
    let ten : 0 < 10 = omega arith in
    let le : i ≤ 18 = omega arith in
    let bound : 10 ^ i ≤ 1000000000000000000 = pow-le-pow_right {n = 10} ten {i = i} {j = 18} le in
    omega arith

-- one digit more is added
pub digit_added_fits : (number i byte digit : ℕ) → number < 10 ^ i → i < 19 → is_ascii_digit byte ≡ true → digit ≡ byte - 48 → number * 10 + digit < 18446744073709551616
digit_added_fits number i byte digit small few is_digit value =
    let bound = next_digit_fits number i small few in
    let parts = and_parts (nat_le 48 byte) (nat_le byte 57) is_digit in
    let most = leb-true byte 57 parts.1 in
    omega arith

-- std's tests of digits and their value
pub decimal_digits : IsNumeralModel (λ text. all_ascii_digits text ≡ true) (digits_value 10)
decimal_digits = numerals_by_value (λ text. all_ascii_digits text ≡ true) tells_all_ascii_digits

-- a word that spells a number is a numeral of it
pub number_is : (text : List ℕ) (number : ℕ) → number_of text ≡ Some number → IsNumeral text number
unfolding number_of
number_is text number h =
    let found = cond_some (is_number text) (digits_value 10 text) number h in
    let first = and_parts (nat_le 1 (length text)) (nat_le (length text) 19 && (all_ascii_digits text && nat_le (digits_value 10 text) (2 ^ 62))) found.0 in
    let second = and_parts (nat_le (length text) 19) (all_ascii_digits text && nat_le (digits_value 10 text) (2 ^ 62)) first.1 in
    let third = and_parts (all_ascii_digits text) (nat_le (digits_value 10 text) (2 ^ 62)) second.1 in
    let small = leb-true (digits_value 10 text) (2 ^ 62) third.1 in record {
      some_digit = leb-true 1 (length text) first.0;
      few_digits = leb-true (length text) 19 second.0;
      digits = third.0;
      value = found.1;
      small = rw found.1 at small;
    }

-- a numeral of a number spells it
pub number_read : (text : List ℕ) (number : ℕ) → IsNumeral text number → number_of text ≡ Some number
unfolding number_of
number_read text number h =
    let value = h.value in
    let small : digits_value 10 text ≤ 2 ^ 62 = rw value h.small in
    let all : is_number text ≡ true =
    and_from (nat_le 1 (length text)) (nat_le (length text) 19 && (all_ascii_digits text && nat_le (digits_value 10 text) (2 ^ 62)))
    (le-leb 1 (length text) h.some_digit)
    (and_from (nat_le (length text) 19) (all_ascii_digits text && nat_le (digits_value 10 text) (2 ^ 62)) (le-leb (length text) 19 h.few_digits)
    (and_from (all_ascii_digits text) (nat_le (digits_value 10 text) (2 ^ 62)) h.digits (le-leb (digits_value 10 text) (2 ^ 62) small))) in
    ap (λ (test : Bool). only_if test (digits_value 10 text)) all ∙ ap Some value

-- a number without leading zeros is a numeral of itself
pub decimal_is_numeral : (number : ℕ) → number ≤ 2 ^ 62 → IsNumeral (decimal number) number
decimal_is_numeral number small =
    let wide : number < 2 ^ 64 = omega arith in
    let below : number < 10 ^ 19 = omega arith in
    let some = decimal_nonempty number wide in record {
      some_digit = omega arith;
      few_digits = length-decimal-le 19 number (omega arith) below wide;
      digits = digits_decimal decimal_digits number wide;
      value = digits_value-decimal decimal_digits number wide;
      small = small;
    }

-- one zero more in front
more_zeros : (c : ℕ) (text : List ℕ) (count number value : ℕ) → c ≡ 48 → number ≡ value → text ≡ replicate count 48 ++ decimal number → c ∷ text ≡ replicate (suc count) 48 ++ decimal value
more_zeros c text count number value zero_first same split = rw (zero_first, split, same)

-- digits are leading zeros and their number
leading_zeros : (text : List ℕ) → all_ascii_digits text ≡ true → 1 ≤ length text → digits_value 10 text < 2 ^ 64 → (zeros : ℕ) × (text ≡ replicate zeros 48 ++ decimal (digits_value 10 text))
leading_zeros [] digits some small = absurd (omega arith)
leading_zeros (c ∷ []) digits some small =
    (0, sym (decimal-digits_value decimal_digits (c ∷ []) digits (omega arith) (λ h. refl) small))
leading_zeros (c ∷ d ∷ cs) digits some small =
    ⊎_elim
    (λ (zero_first : c ≡ 48).
    let parts = and_parts (is_digit c) (all_ascii_digits (d ∷ cs)) digits in
    let same : digits_value 10 (c ∷ d ∷ cs) ≡ digits_value 10 (d ∷ cs) = rw zero_first in
    let tail = leading_zeros (d ∷ cs) parts.1 (omega arith) (rw same at small) in
    (suc tail.0, more_zeros c (d ∷ cs) tail.0 (digits_value 10 (d ∷ cs)) (digits_value 10 (c ∷ d ∷ cs)) zero_first (sym same) tail.1))
    (λ (other : c ≡ 48 → ⊥).
    (0, sym (decimal-digits_value decimal_digits (c ∷ d ∷ cs) digits (omega arith) (λ h. absurd (other h)) small)))
    (cases_eq c 48)

-- a numeral is its number without leading zeros, after zeros
pub numeral_is_decimal : (text : List ℕ) (number : ℕ) → IsNumeral text number → (zeros : ℕ) × (text ≡ replicate zeros 48 ++ decimal number)
numeral_is_decimal text number h =
    let small : digits_value 10 text < 2 ^ 64 = omega (arith, h.small, h.value) in
    let split = leading_zeros text h.digits h.some_digit small in
    (split.0, subst (λ (n : ℕ). text ≡ replicate split.0 48 ++ decimal n) h.value split.1)

-- digits pass the test of digits, one by one
pub digits_pass : (text : List ℕ) → all_ascii_digits text ≡ true → list_all is_digit text ≡ true
digits_pass [] digits = refl
digits_pass (c ∷ cs) digits =
    let parts = and_parts (is_digit c) (all_ascii_digits cs) digits in
    and_from (is_digit c) (list_all is_digit cs) parts.0 (digits_pass cs parts.1)
