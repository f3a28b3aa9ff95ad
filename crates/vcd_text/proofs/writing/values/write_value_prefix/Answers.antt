-- One letter, or `b`, the short form and a space.
use Rattle.std.proofs.Common.{◌≡◌, ◌≢◌, ◌∷◌, ◌++◌, [], length, sym, ap, ◌∙◌, arith}
use Rattle.vcd_core.specs.Value.{printed_letter}
use Rattle.vcd_text.specs.Letters.{printed_letters}
use Rattle.vcd_text.proofs.writing.values.LetterBits.{held_letter}
use Rattle.vcd_text.proofs.writing.values.ShortForm.{bit_before_code, bits_before_code}
use Rattle.vcd_text.proofs.shared.EmittedParts.{writes_as, writes_both}
use Rattle.vcd_text.proofs.writing.values.write_value_prefix.Goals as goal

pub returns-then-width-eq1 : goal.returns-then-width-eq1
returns-then-width-eq1 g c =
    let v = c.args.value.now in
    let one : length v ≡ 1 = omega (arith, c.width.ensures.width) in
    let letter = held_letter v 0 c.block.result 0 c.block.ensures (omega arith) (omega (arith, one)) in
    writes_as (ap (λ b. b ∷ []) (c.letter_pair.ensures.lower ∙ ap printed_letter letter) ∙ sym (bit_before_code v one))
    c.write_byte.ensures.written

pub returns : goal.returns
returns g c =
    let more : length c.args.value.now ≢ 1 = omega (arith, c.width.ensures.width) in
    writes_as (ap (λ digits. (98 ∷ []) ++ (printed_letters digits ++ 32 ∷ [])) c.short_form_len.ensures.rest
    ∙ sym (bits_before_code c.args.value.now more)) (writes_both c.write_byte-2.ensures.written
    (writes_both c.write_lowest.ensures c.write_byte-3.ensures.written))
