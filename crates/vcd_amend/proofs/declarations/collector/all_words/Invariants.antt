use Rattle.std.proofs.Common.{◌≡◌, ◌++◌}
use Rattle.vcd_text.specs.Words.{words_of}
use Rattle.vcd_text.specs.LentWords.{words_left}
use Rattle.vcd_text.specs.Grammar.{word_texts}
use Rattle.vcd_amend.proofs.declarations.collector.all_words.Given as goal

abbrev pub invariant-loop-word : goal.invariant-loop-word
invariant-loop-word l = l.copies.items ++ word_texts (words_left l.word-iterator) ≡ word_texts (words_of l.text)
