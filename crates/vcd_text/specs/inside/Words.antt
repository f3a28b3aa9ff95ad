-- The walk over a text, byte for byte: the words that it finds, and its state.
use Rattle.std.specs.Prelude.{◌≡◌, ℕ, ◌+◌, ◌==◌, Bool, true, false, if◌then◌else◌, List, [], ◌∷◌}
use Rattle.std.specs.Prelude.{◌++◌}
use Rattle.vcd_core.specs.Word.{is_white_space}
use Rattle.vcd_text.specs.Words.{WordOnLine, word_on}
use Rattle.vcd_text.specs.LineFeeds.{line_feeds_in}

-- the line after a byte: a line feed begins another
abbrev pub line_after : ℕ → ℕ → ℕ
line_after b line = if b == 10 then line + 1 else line

-- the word with these bytes, if there are any
abbrev pub word_of : List ℕ → ℕ → List WordOnLine
word_of [] line = []
word_of begun line = word_on begun line ∷ []

-- the words of bytes from this line on, after the bytes `begun` of a word: white space ends a word,
-- and any other byte goes on with it; the end of the bytes ends the last word, if it counts
unfoldable pub words_from : (end_counts : Bool) → (begun : List ℕ) → ℕ → List ℕ → List WordOnLine
words_from end_counts begun line [] = if end_counts then word_of begun line else []
words_from end_counts begun line (b ∷ bs) =
    (if is_white_space b then word_of begun line else [])
    ++ words_from end_counts (if is_white_space b then [] else begun ++ b ∷ [])
    (line_after b line) bs

-- whether a text begins with white space
abbrev pub begins_with_space : List ℕ → Bool
begins_with_space [] = false
begins_with_space (b ∷ bs) = is_white_space b

-- whether a word ends before these bytes: before white space, or before the end of the text if that
-- counts
abbrev pub ends_before : Bool → List ℕ → Bool
ends_before end_counts [] = end_counts
ends_before end_counts (b ∷ bs) = is_white_space b

-- whether a text ends in white space, or is empty: nothing after it goes on with its last word
abbrev pub has_complete_words : List ℕ → Bool
has_complete_words [] = true
has_complete_words (b ∷ []) = is_white_space b
has_complete_words (b ∷ c ∷ bs) = has_complete_words (c ∷ bs)

-- these bytes can come before words: they end in white space, and have so many line feeds
abbrev pub ComesBefore : List ℕ → (line_feeds : ℕ) → Type 0
ComesBefore bytes line_feeds =
    (has_complete_words bytes ≡ true) × (line_feeds ≡ line_feeds_in bytes)
