-- Reading decimal digits, one after another, up to a greatest number.
use Rattle.std.proofs.Common.{◌≡◌, ℕ, zero, suc, ◌+◌, ◌-◌, ◌*◌, ◌^◌, ◌<◌, true, List, [], ◌∷◌, length}
use Rattle.std.proofs.Common.{min, take, get_or}
use Rattle.std.proofs.Common.{arith, ◌∙◌}
use Rattle.std.specs.List.{list_all}
use Rattle.std.specs.Char.{is_ascii_digit, digit_value}
use Rattle.std.specs.Str.Parse.{digits_value, AllDigits}
use Rattle.std.specs.Int.{IsInRange}
use Rattle.std.proofs.lemmas.Str.{digit_value_digit}
use Rattle.std.proofs.lemmas.Int.Digits.{digits_value_more, digits_value-lt}
use Rattle.std.proofs.lemmas.Bool.{and_from}
use Rattle.std.proofs.lemmas.List.{length-take}
use Rattle.std.proofs.lemmas.List.Folds.{list_all_more}
use Rattle.std.proofs.Math.Nat.{pow-le-pow_right}
use Rattle.std.proofs.lemmas.Bool.Decides.{nat_tests}

-- a digit is in their range
range_of_digit : (b : ℕ) → is_ascii_digit b ≡ true → IsInRange 48 57 b
range_of_digit b digit = grind (arith, nat_tests)

-- each byte of a list of digits is a digit
digit_within : (bytes : List ℕ) (i : ℕ) → list_all is_ascii_digit bytes ≡ true → i < length bytes
    → IsInRange 48 57 (get_or bytes i 0)
digit_within [] i all within = absurd (omega arith)
digit_within (b ∷ bytes) zero all within = grind (arith, nat_tests)
digit_within (b ∷ bytes) (suc i) all within = digit_within bytes i (grind (arith, nat_tests)) (omega arith)

-- a number with a limit takes one more digit
capped_more : (value limit digit : ℕ)
    → min (min (min value limit * 10) limit + digit) limit ≡ min (value * 10 + digit) limit
capped_more value limit digit = grind arith

-- the step of reading a number with a limit
pub numeral_more : (bytes : List ℕ) (i limit number product digit : ℕ) → list_all is_ascii_digit bytes ≡ true
    → i < length bytes → number ≡ min (digits_value 10 (take i bytes)) limit → product ≡ min (number * 10) limit
    → digit ≡ get_or bytes i 0 - 48 → min (product + digit) limit ≡ min (digits_value 10 (take (i + 1) bytes)) limit
numeral_more bytes i limit number product digit all within number_is product_is digit_is =
    let value : digit ≡ digit_value (get_or bytes i 0) =
    omega (arith, digit_value_digit (get_or bytes i 0) (digit_within bytes i all within)) in
    rw (product_is, number_is, value, digits_value_more 10 bytes i within)
    (capped_more (digits_value 10 (take i bytes)) limit (digit_value (get_or bytes i 0)))

-- digits are digits to the base 10
all_digits : (bytes : List ℕ) → list_all is_ascii_digit bytes ≡ true → AllDigits 10 bytes
all_digits [] all = _
all_digits (b ∷ bytes) all =
    let within : IsInRange 48 57 b = digit_within (b ∷ bytes) 0 all (omega arith) in
    (omega (arith, within, digit_value_digit b within), all_digits bytes (grind (arith, nat_tests)))

-- fewer than 20 digits write a number of 64 bits
short_fits : (bytes : List ℕ) → list_all is_ascii_digit bytes ≡ true → length bytes < 20
    → digits_value 10 bytes < 10 ^ 19
short_fits bytes all short = omega (
  arith,
  digits_value-lt 10 bytes (all_digits bytes all),
  pow-le-pow_right {n = 10} (omega arith) {i = length bytes} {j = 19} (omega arith),
)

-- the step of reading a number of fewer than 20 digits, of which only those so far are known
pub prefix_more : (bytes : List ℕ) (i number digit : ℕ) → list_all is_ascii_digit (take i bytes) ≡ true
    → is_ascii_digit (get_or bytes i 0) ≡ true → length bytes < 20 → i < length bytes
    → number ≡ digits_value 10 (take i bytes) → digit ≡ get_or bytes i 0 - 48
    → (list_all is_ascii_digit (take (i + 1) bytes) ≡ true)
    × (10 * number + digit ≡ digits_value 10 (take (i + 1) bytes)) × (10 * number + digit < 10 ^ 19)
prefix_more bytes i number digit before here short within number_is digit_is =
    let all : list_all is_ascii_digit (take (i + 1) bytes) ≡ true =
    list_all_more is_ascii_digit bytes i 0 within ∙ and_from _ _ before here in
    let value : digit ≡ digit_value (get_or bytes i 0) = omega (
      arith,
      digit_is,
      digit_value_digit (get_or bytes i 0) (range_of_digit (get_or bytes i 0) here),
    ) in
    let next : 10 * number + digit ≡ digits_value 10 (take (i + 1) bytes) =
    omega (arith, number_is, value, digits_value_more 10 bytes i within) in (
      all,
      next,
      omega (arith, next, short_fits (take (i + 1) bytes) all (omega (arith, length-take (i + 1) bytes, short))),
    )
