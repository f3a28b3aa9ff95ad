-- A file after cuts as a copy: what other rules put in the place of the pieces that are left. The
-- project's own.
use Rattle.std.specs.Prelude.{◌≡◌, ℕ, Bool, true, false, if◌then◌else◌, List, [], ◌∷◌, ◌++◌, map}
use Rattle.std.specs.Prelude.{IsTrue, Option}
use Rattle.vcd_text.specs.Grammar.{ParseState, initial_state, state_after_item, AllowsAll}
use Rattle.vcd_copy.specs.Pieces.{Piece, IsCut, state_of_pieces}
use Rattle.vcd_copy.specs.Copied.{CopyRules, copied, copied_pieces}
use Rattle.vcd_copy.specs.Marks.{CommentBytes, with_mark}
use Rattle.vcd_amend.specs.Amendment.{Amendment}
use Rattle.vcd_amend.specs.AmendedText.{amended_text}
use Rattle.vcd_amend.specs.Retimed.{change_key, held_with, is_past, released_pieces, retimed_fate}
use Rattle.vcd_amend.specs.Retimed.{pieces_in_place}
use Rattle.vcd_amend.specs.RetimedLaws.{is_in_cut, is_in_either, pieces_after}
use Rattle.vcd_amend.specs.declared.cut_ticks.CutTicks.{CutTicks}

-- whether one of these cuts takes a tick out, each of which is made on what the earlier ones leave
unfoldable pub is_cut_by : List CutTicks → ℕ → Bool
is_cut_by [] = λ t. false
is_cut_by (c ∷ cs) = is_in_either (is_in_cut c.from c.to) (is_cut_by cs)

-- ---- one piece after others

-- the pieces that come in the place of one, while these changes are held
abbrev pub pieces_of_step : (is_cut_out : ℕ → Bool) → ParseState → (held : List Piece) → Piece
    → List Piece
pieces_of_step is_cut_out s held p =
    (if is_past is_cut_out s p.item then released_pieces is_cut_out s held else [])
    ++ pieces_in_place (retimed_fate is_cut_out s p.item) p

-- the changes that are held after it
abbrev pub held_of_step : (is_cut_out : ℕ → Bool) → ParseState → (held : List Piece) → Piece
    → List Piece
held_of_step is_cut_out s held p = if is_past is_cut_out s p.item then []
    else held_with is_cut_out s held p (change_key p.item)

-- the pieces that come in the place of these after a state, without those that are held then
unfoldable pub pieces_so_far : (is_cut_out : ℕ → Bool) → ParseState → (held : List Piece)
    → List Piece → List Piece
pieces_so_far is_cut_out s held [] = []
pieces_so_far is_cut_out s held (p ∷ ps) = pieces_of_step is_cut_out s held p
    ++ pieces_so_far is_cut_out (state_after_item s p.item) (held_of_step is_cut_out s held p) ps

-- the changes that are held after these
unfoldable pub held_after : (is_cut_out : ℕ → Bool) → ParseState → (held : List Piece)
    → List Piece → List Piece
held_after is_cut_out s held [] = held
held_after is_cut_out s held (p ∷ ps) =
    held_after is_cut_out (state_after_item s p.item) (held_of_step is_cut_out s held p) ps

-- ---- rules

-- what rules put in the place of the pieces after cuts
abbrev pub retimed_rules : (is_cut_out : ℕ → Bool) → CopyRules → CopyRules
retimed_rules is_cut_out r = record {
  in_place = λ before p. copied_pieces r (pieces_so_far is_cut_out (initial_state 0) [] before)
      (pieces_of_step is_cut_out (state_of_pieces 0 before)
      (held_after is_cut_out (initial_state 0) [] before) p);
  before_others = λ before. r.before_others (pieces_so_far is_cut_out (initial_state 0) [] before);
  at_end = λ pieces tail.
      let sent : List Piece = pieces_so_far is_cut_out (initial_state 0) [] pieces in
      let last : List Piece = released_pieces is_cut_out (state_of_pieces 0 pieces)
      (held_after is_cut_out (initial_state 0) [] pieces) in
      copied_pieces r sent last ++ r.at_end (sent ++ last) tail;
}

-- the copy of a file by these rules is the copy of its pieces after the cuts by the others
abbrev pub RetimedCopyIsCopyOfRetimed : Type 0
RetimedCopyIsCopyOfRetimed = (is_cut_out : ℕ → Bool) (r : CopyRules) (pieces : List Piece)
    (tail : List ℕ) → copied (retimed_rules is_cut_out r) pieces tail
    ≡ copied r (pieces_after is_cut_out 0 pieces) tail

-- the file is accepted, and this text is the file with a mark, if there is one, after cuts, and
-- then an amendment
pub record IsAmendedAfterCuts (limit : ℕ) (mark : Option CommentBytes) (is_cut_out : ℕ → Bool)
    (a : Amendment) (file text : List ℕ) : Type 0 where
  pub pieces : List Piece
  pub tail : List ℕ
  pub cut : IsCut file pieces tail
  pub allowed : AllowsAll (initial_state limit) (map (λ p. p.item) pieces)
  pub in_body : IsTrue (state_of_pieces limit pieces).in_body
  pub is : text ≡ amended_text a true (initial_state limit)
      (pieces_after is_cut_out limit (with_mark mark pieces)) tail
