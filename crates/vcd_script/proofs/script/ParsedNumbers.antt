-- Numbers of words, as std's `parse` reads them.
use Rattle.std.proofs.Common.{◌≡◌, ◌≢◌, ◌<◌, ◌≤◌, ℕ, ℤ, pos, neg_ℤ, ◌^◌, Bool, true, false, ◌&&◌, ◌==◌, get_or, cond}
use Rattle.std.proofs.Common.{ltb, leb, List, [], ◌∷◌, Result, Ok, Err, length, refl, ◌∙◌, ap, arith}
use Rattle.std.specs.Prelude.{MatchResult, IfErr, not}
use Rattle.std.specs.Result.{OkIff}
use Rattle.std.specs.Int.{w64}
use Rattle.std.specs.Borrow.{Bor}
use Rattle.std.specs.List.{list_all}
use Rattle.std.specs.Char.{is_ascii_digit}
use Rattle.std.specs.Str.{IsAscii, IsUtf8, IsValidUpTo, valid_up_to}
use Rattle.std.specs.declared.str.Utf8Error.{Utf8Error}
use Rattle.std.proofs.lemmas.Str.{IsUtf8-from_ascii}
use Rattle.std.proofs.lemmas.Str.Ascii.{IsAscii-cons}
use Rattle.std.specs.Str.Parse.{ParsesSigned, ParsesUnsigned}
use Rattle.std.proofs.lemmas.Bool.{and_parts, ltb-true, lt-ltb, leb-true, le-leb, eqb-true, eqb-false, cond-false}
use Rattle.std.proofs.lemmas.Bool.{false_from_ne_true}
use Rattle.std.proofs.lemmas.Bool.Decides.{nat_tests}
use Rattle.std.proofs.lemmas.Fmt.{IsAscii-from_digits}
use Rattle.std.proofs.lemmas.Str.Parse.{parse_plain, parse_signed_minus, parse_signed_plain, parse_signed_plus}
use Rattle.vcd_core.specs.Decimal.{is_number, number_of}
use Rattle.vcd_text.proofs.read_back.Decimals.{AreDigits, reads_decimals}
use Rattle.vcd_script.specs.declared.script.line_error.LineError.{LineError}
use Rattle.vcd_script.specs.declared.script.line_error.LineError.TheVariants.{BadNumber}
use Rattle.vcd_script.specs.ScriptWords.{number_of_word, distance_of_word, distance_back, distance_forth}

-- the reading of a number, with `BadNumber` for each error of it
abbrev pub Maps : {T E : Type 0} → Result T E → Result T LineError → Type 0
Maps p r = MatchResult p (λ x. r ≡ Ok x) (λ e. r ≡ Err BadNumber)

-- a reading that succeeds where a test does
by_test : {T E : Type 0} (test : Bool) (P : Type 0) (v : T) (p : Result T E) (r : Result T LineError) → OkIff p P v
    → (test ≡ true → P) → (P → test ≡ true) → Maps p r → r ≡ cond test (Ok v) (Err BadNumber)
by_test true P v (Ok x) r read to from is = is ∙ ap Ok read.1
by_test true P v (Err e) r read to from is = absurd (read (to refl))
by_test false P v (Ok x) r read to from is = let bad : false ≡ true = from read.0 in cc
by_test false P v (Err e) r read to from is = is

-- a number that passes a further test
to_number : (ds : List ℕ) (fits : Bool) (F : Type 0) → (fits ≡ true → F) → (is_number ds && fits) ≡ true
    → AreDigits ds × (0 < length ds) × F
to_number [] fits F to both = cc
to_number (d ∷ ds) fits F to both =
    let parts = and_parts (is_number (d ∷ ds)) fits both in
    let digits = and_parts (not (length (d ∷ ds) == 0)) (list_all is_ascii_digit (d ∷ ds)) parts.0 in
    (digits.1, omega arith, to parts.1)

from_number : (ds : List ℕ) (fits : Bool) (F : Type 0) → (F → fits ≡ true) → AreDigits ds × (0 < length ds) × F
    → (is_number ds && fits) ≡ true
from_number [] fits F from given = absurd (omega (arith, given.1))
from_number (d ∷ ds) fits F from given =
    let all : list_all is_ascii_digit (d ∷ ds) ≡ true = given.0 in
    let digits : is_number (d ∷ ds) ≡ true = grind (arith, nat_tests) in
    ap (λ (b : Bool). b && fits) digits ∙ from given.2

-- a word without a sign
pub parsed_number : {E : Type 0} (word : List ℕ) (p : Result ℕ E) (r : Result ℕ LineError) → ParsesUnsigned 64 10 word p
    → get_or word 0 0 ≢ 43 → Maps p r → r ≡ number_of_word word
parsed_number word p r read plain is =
    let fits = ltb (number_of word) (2 ^ 64) in
    by_test (is_number word && fits) _ (number_of word) p r (parse_plain reads_decimals 64 word p read plain)
    (to_number word fits _ (ltb-true _ _)) (from_number word fits _ (lt-ltb _ _)) is

-- a text of digits is one of ASCII, also after a sign
digits_are_ascii : (digits : List ℕ) (fits : Bool) → (is_number digits && fits) ≡ true → IsAscii digits
digits_are_ascii digits fits both =
    IsAscii-from_digits digits (reads_decimals.to digits (to_number digits fits _ (λ e. e) both).0)

-- a test that fails
by_failure : {T : Type 0} (test : Bool) (v : T) → (test ≡ true → ⊥) → cond test (Ok v) (Err BadNumber) ≡ Err BadNumber
by_failure test v fails = cond-false test _ _ (false_from_ne_true test fails)

pub no_distance : (word : List ℕ) → (IsAscii word → ⊥) → distance_of_word word ≡ Err BadNumber
no_distance [] other = refl
no_distance (c ∷ digits) other = go (c == 45) refl (c == 43) refl
  where
    signed : (fits : Bool) → c < 128 → (is_number digits && fits) ≡ true → ⊥
    signed fits first both = other (IsAscii-cons c digits first (digits_are_ascii digits fits both))

    go : (minus : Bool) → (c == 45) ≡ minus → (plus : Bool) → (c == 43) ≡ plus
        → distance_of_word (c ∷ digits) ≡ Err BadNumber
    go true minus plus is_plus = rw minus (by_failure _ _ (signed _ (omega (arith, eqb-true c 45 minus))))
    go false minus true is_plus = rw (minus, is_plus) (by_failure _ _ (signed _ (omega (arith, eqb-true c 43 is_plus))))
    go false minus false is_plus =
        rw (minus, is_plus) (by_failure _ _ (λ both. other (digits_are_ascii (c ∷ digits) _ both)))

-- a word with a sign or without one
pub parsed_distance : {E : Type 0} (word : List ℕ) (p : Result ℤ E) (r : Result ℤ LineError)
    → ParsesSigned w64 10 word p → Maps p r → r ≡ distance_of_word word
parsed_distance [] p r read is = by_test false _ (pos 0) p r
    (parse_signed_plain reads_decimals w64 [] p read (λ e. omega arith) (λ e. omega arith))
    (λ bad. cc) (λ given. absurd (omega (arith, given.1))) is
parsed_distance {E} (c ∷ digits) p r read is = go (c == 45) refl (c == 43) refl
  where
    forth : (ds : List ℕ) → OkIff p (AreDigits ds × (0 < length ds) × (number_of ds < 2 ^ 63)) (pos (number_of ds))
        → r ≡ distance_forth ds
    forth ds given = by_test (is_number ds && ltb (number_of ds) (2 ^ 63)) _ (pos (number_of ds)) p r given
        (to_number ds _ _ (ltb-true _ _)) (from_number ds _ _ (lt-ltb _ _)) is

    back : (ds : List ℕ)
        → OkIff p (AreDigits ds × (0 < length ds) × (number_of ds ≤ 2 ^ 63)) (neg_ℤ (pos (number_of ds)))
        → r ≡ distance_back ds
    back ds given = by_test (is_number ds && leb (number_of ds) (2 ^ 63)) _ (neg_ℤ (pos (number_of ds))) p r given
        (to_number ds _ _ (leb-true _ _)) (from_number ds _ _ (le-leb _ _)) is

    go : (minus : Bool) → (c == 45) ≡ minus → (plus : Bool) → (c == 43) ≡ plus → r ≡ distance_of_word (c ∷ digits)
    go true minus plus is_plus =
        rw minus (back digits (parse_signed_minus reads_decimals w64 (c ∷ digits) p read (eqb-true c 45 minus)))
    go false minus true is_plus =
        rw (minus, is_plus) (forth digits
        (parse_signed_plus reads_decimals w64 (c ∷ digits) p read (eqb-true c 43 is_plus)))
    go false minus false is_plus =
        rw (minus, is_plus) (forth (c ∷ digits) (parse_signed_plain reads_decimals w64 (c ∷ digits) p read
        (eqb-false c 43 is_plus) (eqb-false c 45 minus)))

-- bytes that are no text are not of ASCII
pub no_text : (word : List ℕ) (p : Result (Bor (List ℕ)) Utf8Error) (r : Result (Bor (List ℕ)) LineError)
    → MatchResult p (λ s. (s.now ≡ word) × IsUtf8 word) (λ e. ¬ (IsUtf8 word) × IsValidUpTo word (valid_up_to e))
    → Maps p r → IfErr r (λ e. (e ≡ BadNumber) × (IsAscii word → ⊥))
no_text word (Ok s) r cases is = rw is tt
no_text word (Err e) r cases is = rw is (refl, λ ascii. cases.0 (IsUtf8-from_ascii word ascii))
