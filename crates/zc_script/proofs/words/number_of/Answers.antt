use Rattle.std.proofs.Common.{arith, sym, ◌∙◌, get_or}
use Rattle.zc_script.proofs.Numerals.{next_digit_fits, digit_added_fits}
use Rattle.zc_script.proofs.words.number_of.Goals as goal

pub overflow_mul-number : goal.overflow_mul-number
overflow_mul-number c =
    omega (arith, next_digit_fits c.loop-digit.number c.loop-digit.digit-index c.loop-digit.invariant.small (omega arith))

pub overflow_add-number : goal.overflow_add-number
overflow_add-number c =
    let is_digit = sym c.is_ascii_digit.ensures.value ∙ c.if-not-is_ascii_digit.false in
    let fits = digit_added_fits c.loop-digit.number c.loop-digit.digit-index (get_or c.args.text.now c.loop-digit.digit-index 0) c.from.result c.loop-digit.invariant.small (omega arith) is_digit c.from.ensures in
    omega arith
