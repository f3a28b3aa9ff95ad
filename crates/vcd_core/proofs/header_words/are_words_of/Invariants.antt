use Rattle.std.proofs.Common.{◌≡◌, true, length}
use Rattle.std.specs.List.{list_all}
use Rattle.vcd_core.specs.Word.{is_word}
use Rattle.vcd_core.specs.inside.HeaderWords.{begins_with_space, words_of_text}
use Rattle.vcd_core.proofs.header_words.are_words_of.Given as goal

abbrev pub invariant-loop-word : goal.invariant-loop-word
invariant-loop-word l =
    (list_all is_word (words_of_text l.rest) ≡ list_all is_word (words_of_text l.text))
    × (begins_with_space l.rest ≡ true)

abbrev pub decreases-loop-word : goal.decreases-loop-word
decreases-loop-word l = length l.rest
