-- Each turn writes one word.
use Rattle.std.proofs.Common.{ℕ, List, map, ap, sym, ◌∙◌, ◌∷◌, ◌++◌}
use Rattle.vcd_text.specs.Words.{WordOnLine, words_of}
use Rattle.vcd_text.specs.Grammar.{word_texts}
use Rattle.vcd_text.specs.LentWords.{texts_left}
use Rattle.vcd_copy.specs.MarkText.{word_in_comment}
use Rattle.vcd_text.specs.inside.writing.Lines.{spaced_words}
use Rattle.vcd_text.proofs.shared.EmittedParts.{prefix_grows, prefix_whole, writes_both, writes_as, joined}
use Rattle.vcd_copy.proofs.marking.write_line.Goals as goal

pub loop-word-preserved : goal.loop-word-preserved
loop-word-preserved g c = prefix_grows (spaced_words (map word_in_comment (texts_left c.next.new.self)))
    c.loop-word.invariant
    (writes_both c.write_byte.ensures.written
    (writes_as c.word_in_comment.ensures c.write_bytes-in-loop-word.ensures.written))
    (ap (λ (ws : List WordOnLine). spaced_words (map word_in_comment (word_texts ws))) c.in-Some.ensures.steps)

pub returns : goal.returns
returns g c = λ word is.
    let words : List (List ℕ) = map word_in_comment (word_texts (words_of c.args.line.now)) in
    writes_as (ap (λ (l : List ℕ). l ++ spaced_words words) is ∙ ap (λ (l : List ℕ). 10 ∷ l) (sym (joined word words)))
    (writes_both c.write_bytes.ensures.written (prefix_whole c.loop-word.invariant
    (ap (λ (ws : List WordOnLine). spaced_words (map word_in_comment (word_texts ws))) c.in-None.ensures.steps.0)))
