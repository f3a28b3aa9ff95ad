use Rattle.std.proofs.Common.{◌≡◌, ◌∙◌, ◌+◌, ◌++◌, ◌∷◌, [], ap, sym, arith}
use Rattle.std.specs.Prelude.{codes}
use Rattle.vcd_text.specs.Grammar.{word_texts}
use Rattle.vcd_text.specs.Items.{end_word}
use Rattle.vcd_text.specs.LentWords.{texts_left}
use Rattle.vcd_copy.proofs.pieces.Bytes.{texts_are, any_line}
use Rattle.vcd_text.proofs.shared.WordsByBytes.{after_by_bytes}
use Rattle.vcd_copy.proofs.copying.variable_words.VariableWords.read.Goals as goal

pub returns : goal.returns
returns c = λ kind size code names is.
    let rest = c.next_word-4.new.self in
    let all : c.in_ok-next_word.field-0.text.now ∷ c.in_ok-kind.field-0.text.now ∷ c.in_ok-size.field-0.text.now
    ∷ c.in_ok-code.field-0.text.now ∷ texts_left rest
    ≡ codes "$var" ∷ kind ∷ size ∷ code ∷ (names ++ end_word ∷ []) = grind (
      arith,
      is.spelled,
      ap word_texts c.new-words.ensures.words,
      ap word_texts c.in_ok-next_word.ensures.words,
      ap word_texts c.in_ok-kind.ensures.words,
      ap word_texts c.in_ok-size.ensures.words,
      ap word_texts c.in_ok-code.ensures.words,
    ) in
    let left : texts_left rest ≡ names ++ end_word ∷ [] = cc all in
    let walked = ap word_texts (sym (after_by_bytes rest.line_feeds rest.rest.now)) in
    let line = rest.line_feeds + 1 in
    (cc all, cc all, cc all, texts_are rest.rest.now ∙ any_line [] rest.rest.now 1 line ∙ walked ∙ left)
