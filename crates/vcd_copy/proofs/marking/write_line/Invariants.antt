-- The words passed are written.
use Rattle.std.proofs.Common.{map}
use Rattle.vcd_text.specs.Words.{words_of}
use Rattle.vcd_text.specs.Grammar.{word_texts}
use Rattle.vcd_text.specs.LentWords.{texts_left}
use Rattle.vcd_copy.specs.MarkText.{word_in_comment}
use Rattle.vcd_text.specs.inside.writing.Lines.{spaced_words}
use Rattle.vcd_text.proofs.shared.EmittedParts.{WritesPrefix}
use Rattle.vcd_copy.proofs.marking.write_line.Given as goal

abbrev pub invariant-loop-word : goal.invariant-loop-word
invariant-loop-word g l =
    WritesPrefix g.W.Sink l.initial.output l.output
    (spaced_words (map word_in_comment (texts_left l.word-iterator)))
    (spaced_words (map word_in_comment (word_texts (words_of l.line))))
