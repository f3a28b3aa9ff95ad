-- A file with a mark: a comment right before `$enddefinitions`, the last one of its header. The
-- project's own.
use Rattle.std.specs.Prelude.{◌≡◌, ℕ, List, [], ◌∷◌, ◌++◌, IsTrue, count_by, Option, Some, None}
use Rattle.std.specs.List.{prefix_len, suffix_len}
use Rattle.vcd_core.specs.Word.{is_white_space}
use Rattle.vcd_core.specs.Contents.{Contents}
use Rattle.vcd_core.specs.declared.capture.HeaderKind.TheVariants.{Comment}
use Rattle.vcd_text.specs.Words.{words_of}
use Rattle.vcd_text.specs.Items.{Item, entry, end_definitions, spelling, has_no_end_word}
use Rattle.vcd_text.specs.Grammar.{initial_state, AllowsAll, word_texts, is_skipped}
use Rattle.vcd_text.specs.Meaning.{FileMeans, meaning}
use Rattle.vcd_copy.specs.Pieces.{Piece, IsCut, piece_bytes, state_of_pieces}
use Rattle.vcd_copy.specs.Copied.{CopyRules, copied, piece_items}

-- ---- pieces

-- the words of a comment, and its bytes from `$comment` to `$end`
pub record CommentBytes : Type 0 where
  pub words : List (List ℕ)
  pub bytes : List ℕ

-- a comment of the declarations, after this white space
abbrev pub comment_piece : (space : List ℕ) → CommentBytes → Piece
comment_piece space c = record { item = entry Comment c.words; space = space; body = c.bytes }

-- a mark, if it comes before this item
abbrev pub mark_before : Option CommentBytes → Item → Option CommentBytes
mark_before mark end_definitions = mark
mark_before mark item = None

-- a piece, and before it a mark, if there is one: the mark takes the white space before the piece,
-- and leaves it a line feed
abbrev pub after_mark : Option CommentBytes → Piece → List Piece
after_mark None p = p ∷ []
after_mark (Some mark) p = comment_piece p.space mark ∷ record p { space = 10 ∷ [] } ∷ []

-- pieces with a mark before what ends the declarations, or without a mark as they are
unfoldable pub with_mark : (mark : Option CommentBytes) → List Piece → List Piece
with_mark mark [] = []
with_mark mark (p ∷ ps) = after_mark (mark_before mark p.item) p ++ with_mark mark ps

-- ---- a mark as a copy

-- what rules put in the place of a piece and of a mark before it, if there is one
abbrev pub in_place_after : CopyRules → (before : List Piece) → Option CommentBytes → Piece
    → List ℕ
in_place_after r before None p = r.in_place before p
in_place_after r before (Some mark) p = (r.before_others before ++ (p.space ++ mark.bytes))
    ++ r.in_place (before ++ comment_piece p.space mark ∷ []) (record p { space = 10 ∷ [] })

-- what rules make of the pieces with a mark
abbrev pub marked_rules : Option CommentBytes → CopyRules → CopyRules
marked_rules mark r = record {
  in_place = λ before p.
      in_place_after r (with_mark mark before) (mark_before mark p.item) p;
  before_others = λ before. r.before_others (with_mark mark before);
  at_end = λ pieces tail. r.at_end (with_mark mark pieces) tail;
}

-- ---- what a mark is

-- its words and bytes are those of a comment among the declarations
pub record IsMark (mark : CommentBytes) : Type 0 where
  pub no_end : IsTrue (has_no_end_word mark.words)
  pub spelled : word_texts (words_of mark.bytes) ≡ spelling (entry Comment mark.words)
  pub tight : (prefix_len is_white_space mark.bytes ≡ 0)
      × (suffix_len is_white_space mark.bytes ≡ 0)

-- a capture with a comment more, the last entry of its header
abbrev pub with_comment : (words : List (List ℕ)) → Contents → Contents
with_comment words c =
    record c { header = c.header ++ record { kind = Comment; words = words } ∷ [] }

-- ---- the laws

-- an accepted file with a mark means what it means without, and has the mark in its header; as many
-- variables are skipped
abbrev pub MarkedFileMeansSame : Type 0
MarkedFileMeansSame = (limit : ℕ) (mark : CommentBytes) (file : List ℕ) (pieces : List Piece)
    (tail : List ℕ) → IsMark mark → IsCut file pieces tail
    → AllowsAll (initial_state limit) (piece_items pieces)
    → IsTrue (state_of_pieces limit pieces).in_body
    → FileMeans limit (piece_bytes (with_mark (Some mark) pieces) ++ tail)
    (with_comment mark.words (meaning (state_of_pieces limit pieces)))
    (count_by is_skipped (state_of_pieces limit pieces).declared)

-- a copy with a mark is the copy of the pieces with the mark
abbrev pub CopyWithMarkIsCopyOfMarked : Type 0
CopyWithMarkIsCopyOfMarked = (mark : Option CommentBytes) (r : CopyRules) (pieces : List Piece)
    (tail : List ℕ)
    → copied (marked_rules mark r) pieces tail ≡ copied r (with_mark mark pieces) tail
