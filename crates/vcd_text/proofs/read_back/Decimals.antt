-- A decimal number is read as the number that was written.
use Rattle.std.proofs.Common.{◌≡◌, ℕ, ◌<◌, ◌^◌, true, List, length, decimal, arith}
use Rattle.std.specs.List.{list_all}
use Rattle.std.proofs.lemmas.Bool.{leb-true, le-leb, ne_eqb, and_parts}
use Rattle.std.proofs.lemmas.Fmt.{decimal_nonempty, digits_decimal, digits_value-decimal}
use Rattle.std.proofs.lemmas.Str.Parse.{IsNumeralModel, numerals_by_value}
use Rattle.std.specs.Char.{is_ascii_digit}
use Rattle.vcd_core.specs.Decimal.{is_number, number_of}

abbrev pub AreDigits : List ℕ → Type 0
AreDigits text = list_all is_ascii_digit text ≡ true

pub reads_decimals : IsNumeralModel AreDigits number_of
reads_decimals = numerals_by_value AreDigits (grind (arith, and_parts, leb-true, le-leb))

pub decimal_not_empty : (n : ℕ) → n < 2 ^ 64 → 0 < length (decimal n)
decimal_not_empty n small = decimal_nonempty n small

pub decimal_digits : (n : ℕ) → n < 2 ^ 64 → list_all is_ascii_digit (decimal n) ≡ true
decimal_digits n small = digits_decimal reads_decimals n small

pub decimal_is_number : (n : ℕ) → n < 2 ^ 64 → is_number (decimal n) ≡ true
decimal_is_number n small = grind (arith, ne_eqb, decimal_nonempty, decimal_digits)

-- the number read from it is the number
pub number_of-decimal : (n : ℕ) → n < 2 ^ 64 → number_of (decimal n) ≡ n
number_of-decimal n small = digits_value-decimal reads_decimals n small
