-- The digits of a code. Codes of two positions differ, and each is a word of at most three bytes.
use Rattle.std.proofs.Common.{◌≡◌, ◌<◌, ◌-◌, ◌++◌, ℕ, zero, suc, ◌+◌, ◌/◌, ◌%◌, ◌≤◌, [], ◌∷◌, refl, ap, arith, ◌&&◌}
use Rattle.std.proofs.Common.{Bool, true, false, not, length, nat_le, ◌*◌, add-one, ap₂, ◌∙◌}
use Rattle.std.specs.List.{list_all}
use Rattle.std.proofs.lemmas.Bool.{and_from, and_parts, and_right, or_from, not_from_false, false_from_ne_true, le-leb}
use Rattle.std.proofs.lemmas.Bool.{lt-leb, leb-true, ne_eqb}
use Rattle.std.proofs.lemmas.Slice.Eq.{bytes_eq-Decides}
use Rattle.std.proofs.lemmas.Grind.{common_steps}
use Rattle.vcd_core.specs.declared.capture.TheConstants.{SIGNAL_LIMIT}
use Rattle.vcd_core.specs.Word.{is_white_space}
use Rattle.vcd_text.specs.Text.{code_digits, code_of}
use Rattle.vcd_text.specs.inside.reading.Declarations.{is_end_word}
use Rattle.vcd_text.proofs.shared.ItemTests.{all_weaker}

-- ==== the digits of a code

-- any bound that is large enough gives the same digits
same_digits : (k m n : ℕ) → n ≤ k → n ≤ m → code_digits k n ≡ code_digits m n
unfolding code_digits
same_digits k m zero in_k in_m = refl
same_digits zero m (suc n) in_k in_m = absurd (omega arith)
same_digits (suc k) zero (suc n) in_k in_m = absurd (omega arith)
same_digits (suc k) (suc m) (suc n) in_k in_m = grind (arith, same_digits k m (n / 94) (omega arith) (omega arith))

-- the lowest digit, and those of the rest
next_digit : (n : ℕ) → code_digits (suc n) (suc n) ≡ (33 + n % 94) ∷ code_digits (n / 94) (n / 94)
unfolding code_digits
next_digit n = ap (λ l. (33 + n % 94) ∷ l) (same_digits n (n / 94) (n / 94) (omega arith) (omega arith))

-- the same of a number above 0
pub lowest_digit : (n : ℕ) → 0 < n
    → code_digits n n ≡ ((33 + (n - 1) % 94) ∷ []) ++ code_digits ((n - 1) / 94) ((n - 1) / 94)
lowest_digit zero above = absurd (omega arith)
lowest_digit (suc n) above = grind (arith, next_digit)

pub no_digits : (n : ℕ) → n ≤ 0 → code_digits n n ≡ []
unfolding code_digits
no_digits n none = grind arith

pub last_digit : (n : ℕ) → 0 < n → n ≤ 94 → code_digits n n ≡ ((33 + (n - 1)) ∷ []) ++ []
unfolding code_digits
last_digit n above few =
    let digit : (n - 1) % 94 ≡ n - 1 = omega arith in
    let none : (n - 1) / 94 ≡ 0 = omega arith in
    lowest_digit n above ∙ ap₂ (λ d rest. ((33 + d) ∷ []) ++ code_digits rest rest) digit none

-- ==== codes of two positions differ, and a code is a word of at most three bytes

-- the greatest number with this many digits
abbrev greatest : ℕ → ℕ
greatest zero = 0
greatest (suc l) = 94 * greatest l + 94

-- the same digits are those of the same number
same_number : (a b m n : ℕ) → m ≤ a → n ≤ b → code_digits a m ≡ code_digits b n → m ≡ n
unfolding code_digits
same_number a b zero zero in_a in_b same = refl
same_number a zero zero (suc n) in_a in_b same = absurd (omega arith)
same_number a (suc b) zero (suc n) in_a in_b same = absurd (cc)
same_number zero b (suc m) n in_a in_b same = absurd (omega arith)
same_number (suc a) b (suc m) zero in_a in_b same = absurd (cc)
same_number (suc a) zero (suc m) (suc n) in_a in_b same = absurd (omega arith)
same_number (suc a) (suc b) (suc m) (suc n) in_a in_b same =
    grind (arith, same_number a b (m / 94) (n / 94) (omega arith) (omega arith) (cc))

-- positions with one code are one
pub codes_differ : (j k : ℕ) → code_of j ≡ code_of k → j ≡ k
codes_differ j k same = grind (arith, same_number)

-- whether a byte is allowed in a code
abbrev is_code_byte : ℕ → Bool
is_code_byte b = nat_le 33 b && nat_le b 126

digits_printable : (a n : ℕ) → list_all is_code_byte (code_digits a n) ≡ true
unfolding code_digits
digits_printable a zero = refl
digits_printable zero (suc n) = refl
digits_printable (suc a) (suc n) = grind (arith, and_from, le-leb, digits_printable a (n / 94))

-- a code has a byte
pub code_not_empty : (k : ℕ) → 0 < length (code_of k)
unfolding code_digits
code_not_empty k = let from_one : k + 1 ≡ suc k = add-one k in rw from_one (omega arith)

-- the greatest number of digits of a number
digits_few : (l n : ℕ) → n ≤ greatest l → length (code_digits n n) ≤ l
unfolding code_digits
digits_few zero zero small = omega arith
digits_few zero (suc n) small = absurd (omega arith)
digits_few (suc l) zero small = omega arith
digits_few (suc l) (suc n) small = grind (arith, next_digit, digits_few l (n / 94) (omega arith))

code_short : (k : ℕ) → k < SIGNAL_LIMIT → length (code_of k) ≤ 3
code_short k few = digits_few 3 (k + 1) (omega arith)

-- a printable byte is no white space
printable_is_no_space : (b : ℕ) → is_code_byte b ≡ true → not (is_white_space b) ≡ true
printable_is_no_space b printable =
    grind (arith, and_parts, leb-true, not_from_false, or_from, and_right, lt-leb, ne_eqb)

-- a code has no white space
pub code_no_space : (k : ℕ) → list_all (λ b. not (is_white_space b)) (code_of k) ≡ true
code_no_space k = all_weaker is_code_byte _ printable_is_no_space (code_of k) (digits_printable (k + 1) (k + 1))

-- a code is not `$end`
pub code_no_end : (k : ℕ) → k < SIGNAL_LIMIT → is_end_word (code_of k) ≡ false
code_no_end k few = grind (arith, common_steps, code_short, false_from_ne_true, bytes_eq-Decides)
