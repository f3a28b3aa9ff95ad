-- The text of a mark: a comment that says by which version of the program a file was written, of
-- which file or part of it, and with which edits. The project's own.
use Rattle.std.specs.Prelude.{ℕ, ◌+◌, ◌/◌, ◌%◌, ◌==◌, ◌&&◌, not, nat_lt, Bool, if◌then◌else◌}
use Rattle.std.specs.Prelude.{List, [], ◌∷◌, ◌++◌, map, codes, decimal, bytes_eq}
use Rattle.std.specs.Prelude.{Option, Some, None}
use Rattle.std.specs.List.{flat_map, join_with_byte}
use Rattle.vcd_text.specs.Words.{words_of}
use Rattle.vcd_text.specs.Items.{end_word}
use Rattle.vcd_text.specs.Grammar.{word_texts}
use Rattle.vcd_copy.specs.Marks.{CommentBytes, IsMark}
use Rattle.vcd_copy.specs.declared.marking.head.MarkHead.{MarkHead}
use Rattle.vcd_copy.specs.declared.marking.Mark.{Mark}

-- ---- words

-- the hexadecimal digit of a number below 16
abbrev pub hex_digit : ℕ → ℕ
hex_digit n = if nat_lt n 10 then 48 + n else 87 + n

-- the two hexadecimal digits of a byte
abbrev pub hex_of_byte : ℕ → List ℕ
hex_of_byte b = hex_digit (b / 16) ∷ hex_digit (b % 16) ∷ []

-- whether a byte means itself: neither a space nor a control byte, nor `%` or `$`
abbrev pub is_plain : ℕ → Bool
is_plain b = nat_lt 32 b && not (b == 127) && not (b == 37) && not (b == 36)

-- a byte, or `%` and its digits
abbrev pub escaped_byte : ℕ → List ℕ
escaped_byte b = if is_plain b then b ∷ [] else 37 ∷ hex_of_byte b

-- bytes as one word; a hyphen if there are none
abbrev pub escaped_word : List ℕ → List ℕ
escaped_word [] = codes "-"
escaped_word (b ∷ bs) = flat_map escaped_byte (b ∷ bs)

-- a word that does not end a comment
abbrev pub word_in_comment : List ℕ → List ℕ
word_in_comment word = if bytes_eq word end_word then codes "%24end" else word

-- ---- lines

-- the words that begin it
abbrev pub title_words : MarkHead → List (List ℕ)
title_words head = codes "$comment" ∷ codes "vcdedit-amend" ∷ escaped_word head.version.now ∷ []

-- the words that say what was read
abbrev pub read_words : MarkHead → List (List ℕ)
read_words head = codes "read" ∷ escaped_word head.name.now ∷ decimal head.size ∷ codes "bytes"
    ∷ codes "SHA-256" ∷ escaped_word head.digest.now ∷ []

-- a word, and the words of a line
abbrev pub line_words : (first : List ℕ) → (line : List ℕ) → List (List ℕ)
line_words first line = first ∷ map word_in_comment (word_texts (words_of line))

-- the lines after these: which part was taken, and the lines of the script that made edits
abbrev pub later_lines : MarkHead → (edits : List (List ℕ)) → List (List (List ℕ))
later_lines head edits = map (line_words (codes "part")) head.part.now
    ++ map (line_words (codes "edit")) edits

-- the lines after the first one, up to `$end`
abbrev pub lines_of_mark : MarkHead → (edits : List (List ℕ)) → List (List (List ℕ))
lines_of_mark head edits = read_words head ∷ later_lines head edits ++ (end_word ∷ []) ∷ []

-- ---- the comment

-- the words between `$comment` and `$end`
abbrev pub mark_words : MarkHead → (edits : List (List ℕ)) → List (List ℕ)
mark_words head edits = codes "vcdedit-amend" ∷ escaped_word head.version.now
    ∷ read_words head ++ flat_map (λ words. words) (later_lines head edits)

-- the mark with these edits
abbrev pub mark_with_edits : MarkHead → (edits : List (List ℕ)) → CommentBytes
mark_with_edits head edits = record {
  words = mark_words head edits;
  bytes = join_with_byte 32 (title_words head)
      ++ flat_map (λ words. 10 ∷ join_with_byte 32 words) (lines_of_mark head edits);
}

-- the comment of a mark, if there is one
abbrev pub comment_of_mark : Option Mark → Option CommentBytes
comment_of_mark None = None
comment_of_mark (Some m) = Some (mark_with_edits m.head m.edits.now)

-- ---- the law

-- every mark is a comment that can come among the declarations
abbrev pub EveryMarkIsComment : Type 0
EveryMarkIsComment =
    (head : MarkHead) (edits : List (List ℕ)) → IsMark (mark_with_edits head edits)
