-- The words passed are written, and the white space before them.
use Rattle.std.proofs.Common.{◌≡◌, ◌<◌, ◌+◌, ◌^◌, false, length}
use Rattle.vcd_text.specs.Words.{words_of}
use Rattle.vcd_text.specs.LentWords.{texts_left, words_left}
use Rattle.vcd_text.specs.Grammar.{word_texts}
use Rattle.vcd_text.proofs.shared.EmittedParts.{WritesPrefix}
use Rattle.vcd_amend.specs.AmendedText.{with_words}
use Rattle.vcd_amend.specs.inside.amending.WordsInPlace.{words_in_place}
use Rattle.vcd_amend.proofs.amending.variable_writing.write_in_words.Given as goal

abbrev pub invariant-loop-word : goal.invariant-loop-word
invariant-loop-word g l = record {
  text : WritesPrefix g.W.Sink l.initial.output l.output
      (with_words false l.left (words_in_place l.index (texts_left l.words) l.names l.code))
      (with_words false l.body (words_in_place 0 (word_texts (words_of l.body)) l.names l.code));
  left : l.left ≡ l.words.rest.now;
  few : l.index + length (words_left l.words) < 2 ^ 63;
}

abbrev pub decreases-loop-word : goal.decreases-loop-word
decreases-loop-word g l = length l.words.rest.now
