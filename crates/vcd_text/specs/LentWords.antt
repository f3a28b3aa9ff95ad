-- Words whose texts are borrowed: one word, and those of a text that are still to come.
use Rattle.std.specs.Prelude.{ℕ, ◌+◌, List, map}
use Rattle.vcd_text.specs.Words.{WordOnLine, word_on, words_of}
use Rattle.vcd_text.specs.Grammar.{word_texts}
use Rattle.vcd_text.specs.declared.words.WordOnLine.{WordOnLine as LentWord}
use Rattle.vcd_text.specs.declared.words.Words.{Words}

-- the contents of a borrowed word
abbrev pub word_contents : LentWord → WordOnLine
word_contents p = word_on p.text.now p.line

-- the words of a text before which there are so many line feeds
abbrev pub words_after : (line_feeds : ℕ) → List ℕ → List WordOnLine
words_after line_feeds text = map (λ p. word_on p.text (line_feeds + p.line)) (words_of text)

-- the words that are still to come
abbrev pub words_left : Words → List WordOnLine
words_left w = words_after w.line_feeds w.rest.now

-- their texts
abbrev pub texts_left : Words → List (List ℕ)
texts_left w = word_texts (words_left w)
