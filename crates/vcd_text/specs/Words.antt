-- White space and words (IEEE 1364-2005, 18.2: a file is a list of words between white space).
use Rattle.vcd_core.specs.Word.{is_white_space}
use Rattle.std.specs.Prelude.{ℕ, ◌+◌, ◌==◌, not, List, length, map, count_by}
use Rattle.std.specs.List.{filter, flat_map, enumerate_from, slice_split, before_last}

-- a word and its line
pub record WordOnLine : Type 0 where
  pub text : List ℕ
  pub line : ℕ

-- the word of this text on this line
abbrev pub word_on : List ℕ → ℕ → WordOnLine
word_on text line = record { text = text; line = line }

-- the words in a text: its parts between white space, without the empty ones
abbrev pub words_in : List ℕ → List (List ℕ)
words_in text = filter (λ part. not (length part == 0)) (slice_split is_white_space text)

-- the words of a file, each with its line, counted from 1; a line feed (10) ends a line
unfoldable pub words_of : List ℕ → List WordOnLine
words_of bytes = flat_map (λ p. map (λ word. word_on word p.0) (words_in p.1))
    (enumerate_from 1 (slice_split (λ b. b == 10) bytes))

-- the words of this prefix of a file that white space follows
unfoldable pub complete_words : List ℕ → List WordOnLine
complete_words bytes = words_of (before_last is_white_space bytes)

-- the line of the end of a file: 1 plus all its line feeds
abbrev pub last_line : List ℕ → ℕ
last_line bytes = 1 + count_by (λ b. b == 10) bytes
