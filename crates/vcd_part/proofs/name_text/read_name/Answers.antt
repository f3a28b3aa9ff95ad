-- One word after another, and the text at the end.
use Rattle.std.proofs.Common.{◌∙◌, ap, []}
use Rattle.vcd_text.specs.Grammar.{word_texts}
use Rattle.vcd_text.specs.Items.{end_word}
use Rattle.vcd_text.specs.LentWords.{texts_left}
use Rattle.vcd_part.proofs.name_text.JoinedWords.{joined, joined_is, one_more, no_more}
use Rattle.vcd_part.proofs.name_text.read_name.Goals as goal

pub loop-word-preserved : goal.loop-word-preserved
loop-word-preserved c =
    let word = c.in-Some.word.text.now in
    let left = texts_left c.next_word.new.self in
    ap (λ text. joined text word left) c.in_ok-extend_from_slice.ensures.items
    ∙ one_more c.loop-word.text.items c.loop-word.last.now word (texts_left c.loop-word.left) left
    (ap word_texts c.in-Some.ensures.words)
    ∙ c.loop-word.invariant

pub returns : goal.returns
returns c = λ names is.
    no_more c.loop-word.text.items c.loop-word.last.now (texts_left c.loop-word.left)
    (ap word_texts c.in_default.ensures.words)
    ∙ c.loop-word.invariant ∙ ap (joined [] []) is ∙ joined_is [] [] names end_word
