use Rattle.std.proofs.Common.{arith}
use Rattle.std.proofs.lemmas.Bool.{eqb-true}
use Rattle.vcd_text.specs.inside.Words.{words_from}
use Rattle.vcd_text.proofs.shared.WordsInTurn.{no_word}
use Rattle.vcd_text.proofs.shared.WordsByBytes.{after_by_bytes}
use Rattle.vcd_text.proofs.words.Words.next_word.Goals as goal

pub returns-then-is_empty-clause-none_left : goal.returns-then-is_empty-clause-none_left
unfolding words_from
returns-then-is_empty-clause-none_left c = grind (arith, eqb-true, no_word, after_by_bytes)
