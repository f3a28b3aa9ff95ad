use Rattle.std.proofs.Common.{◌≡◌, ℕ, ◌+◌, List, ◌++◌, length}
use Rattle.vcd_text.specs.Words.{WordOnLine}
use Rattle.vcd_text.specs.inside.reading.Part.{unheard}
use Rattle.vcd_text.specs.inside.reading.Parser.{HasTakenWords}
use Rattle.vcd_text.specs.inside.reading.ChangeListener.{HasHeardWords}
use Rattle.vcd_text.specs.LentWords.{words_left}
use Rattle.vcd_text.specs.LineFeeds.{line_feeds_in}
use Rattle.vcd_text.specs.declared.reading.change_listener.ChangeListener.{ChangeListener}
use Rattle.vcd_text.proofs.reading.change_listener.ChangeListenerListener.take_words.Given as goal

abbrev pub invariant-loop-word : goal.invariant-loop-word
invariant-loop-word l =
    ((came : List WordOnLine) × (words_left l.fn.words ≡ came ++ words_left l.left)
    × ((limit : ℕ) (words_so_far : List WordOnLine) → HasTakenWords limit unheard l.fn.parser words_so_far
    → HasTakenWords limit unheard l.parser (words_so_far ++ came))
    × ((limit : ℕ) (start : ChangeListener) (words_so_far : List WordOnLine)
    → HasHeardWords limit start l.fn.self l.fn.parser words_so_far
    → HasHeardWords limit start l.self l.parser (words_so_far ++ came)))
    × (l.left.line_feeds + line_feeds_in l.left.rest.now
    ≡ l.fn.words.line_feeds + line_feeds_in l.fn.words.rest.now)

abbrev pub decreases-loop-word : goal.decreases-loop-word
decreases-loop-word l = length {A = WordOnLine} (words_left l.left)
