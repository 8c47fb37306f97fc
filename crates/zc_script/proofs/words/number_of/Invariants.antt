-- The number so far and the digits that are left make the number; i digits make one below 10 ^ i.
use Rattle.std.proofs.Common.{◌≡◌, ◌<◌, ◌^◌, drop}
use Rattle.std.specs.Str.{all_ascii_digits}
use Rattle.std.specs.Str.Parse.{digits_value, digits_value_after}
use Rattle.zc_script.proofs.words.number_of.Given as goal

abbrev pub invariant-loop-digit : goal.invariant-loop-digit
invariant-loop-digit l = record {
  digits : all_ascii_digits (drop l.digit-index l.text) ≡ all_ascii_digits l.text;
  value : digits_value_after 10 l.number (drop l.digit-index l.text) ≡ digits_value 10 l.text;
  small : l.number < 10 ^ l.digit-index;
}
