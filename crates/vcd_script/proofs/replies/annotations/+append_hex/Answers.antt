-- The last hexadecimal digit of a number, and those before it.
use Rattle.std.proofs.Common.{◌≡◌, ◌≢◌, ℕ, zero, suc, ◌-◌, ◌/◌, ◌%◌, ◌∷◌, ◌++◌, [], List, false, refl, sym, ◌∙◌, ap}
use Rattle.std.proofs.Common.{append_assoc, arith}
use Rattle.std.specs.Fmt.{digit_glyph}
use Rattle.vcd_script.specs.DecoderReply.{hex_digits}
use Rattle.vcd_script.proofs.replies.annotations.+append_hex.Goals as goal

last_digit : (count n : ℕ) → count ≢ 0
    → hex_digits count n ≡ hex_digits (count - 1) (n / 16) ++ digit_glyph false (n % 16) ∷ []
last_digit zero n more = absurd (more refl)
last_digit (suc count) n more =
    let same : suc count - 1 ≡ count = omega arith in
    rw same refl

-- the last digit after what is written
pushed_digit : (count n digit : ℕ) (start written all : List ℕ) → count ≢ 0 → digit ≡ digit_glyph false (n % 16) →
    written ≡ start ++ hex_digits (count - 1) (n / 16) → all ≡ written ++ digit ∷ [] → all ≡ start ++ hex_digits count n
pushed_digit count n digit start written all more is prefix whole =
    whole ∙ ap (λ (xs : List ℕ). xs ++ digit ∷ []) prefix
    ∙ ap (λ (d : ℕ). start ++ hex_digits (count - 1) (n / 16) ++ d ∷ []) is
    ∙ append_assoc start (hex_digits (count - 1) (n / 16)) (digit_glyph false (n % 16) ∷ [])
    ∙ ap (λ (xs : List ℕ). start ++ xs) (sym (last_digit count n more))

pub returns : goal.returns
returns t c =
    pushed_digit c.args.digits c.args.number c.hex_digit.result c.args.text.now.items c.append_hex.new.text.items
    c.push.new.self.items
    c.if-digits-eq0.false c.hex_digit.ensures c.in_ok-append_hex.ensures c.in_ok-push.ensures.items
