-- The words to come are joined to the text.
use Rattle.std.proofs.Common.{◌≡◌, [], length}
use Rattle.vcd_text.specs.Grammar.{word_texts}
use Rattle.vcd_text.specs.LentWords.{texts_left, words_left}
use Rattle.vcd_text.specs.Words.{WordOnLine, words_of}
use Rattle.vcd_part.proofs.name_text.JoinedWords.{joined}
use Rattle.vcd_part.proofs.name_text.read_name.Given as goal

abbrev pub invariant-loop-word : goal.invariant-loop-word
invariant-loop-word l =
    joined l.text.items l.last (texts_left l.left) ≡ joined [] [] (word_texts (words_of l.fn.words))

abbrev pub decreases-loop-word : goal.decreases-loop-word
decreases-loop-word l = length {A = WordOnLine} (words_left l.left)
