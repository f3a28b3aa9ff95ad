-- The text of a file after cuts does not hang on the greatest number of kept variables.
use Rattle.std.proofs.Common.{◌≡◌, ◌∙◌, ◌++◌, ◌∷◌, [], ℕ, Bool, true, List, Option, refl, sym, ap}
use Rattle.vcd_text.specs.Items.{Item, entry, timescale, scope, upscope, variable, end_definitions, stamp, scalar}
use Rattle.vcd_text.specs.Items.{vector, real_or_string, dump_word, other}
use Rattle.vcd_text.specs.Grammar.{ParseState, initial_state, state_after_item}
use Rattle.vcd_copy.specs.Pieces.{Piece}
use Rattle.vcd_copy.specs.Copied.{IsCopy}
use Rattle.vcd_copy.specs.Marks.{CommentBytes, with_mark, marked_rules}
use Rattle.vcd_copy.proofs.marks.MarkedCopies.{copy_with_mark_is_copy_of_marked}
use Rattle.vcd_amend.specs.Amendment.{Amendment}
use Rattle.vcd_amend.specs.AmendedCopy.{amendment_rules}
use Rattle.vcd_amend.specs.AmendedText.{amended_text}
use Rattle.vcd_amend.specs.Retimed.{retimed_pieces, released_pieces}
use Rattle.vcd_amend.specs.RetimedLaws.{pieces_after}
use Rattle.vcd_amend.specs.RetimedCopy.{pieces_of_step, held_of_step, retimed_rules, IsAmendedAfterCuts}
use Rattle.vcd_amend.proofs.amended.CopiedText.{copy_is_amended_text}
use Rattle.vcd_copy.proofs.shared.StatesOfPieces.{at_limit, item_at_limit}
use Rattle.vcd_amend.proofs.retimed.Copies.{retimed_copy_is_copy_of_retimed}
use Rattle.vcd_amend.proofs.amending.AnyLimit.{text_at}

module _ (cut : ℕ → Bool) (n : ℕ) where
  released_at : (s : ParseState) (held : List Piece) → released_pieces cut (at_limit n s) held
      ≡ released_pieces cut s held
  released_at s [] = refl
  released_at s (p ∷ ps) = refl

  step_at : (s : ParseState) (held : List Piece) (i : Item) (space body : List ℕ) →
      let p : Piece = record { item = i; space = space; body = body } in
      (pieces_of_step cut (at_limit n s) held p ≡ pieces_of_step cut s held p)
      × (held_of_step cut (at_limit n s) held p ≡ held_of_step cut s held p)
  step_at s held (variable words) space body = (refl, refl)
  step_at s held (scalar digit code) space body = (refl, refl)
  step_at s held (vector first digits code) space body = (refl, refl)
  step_at s held (real_or_string first text code) space body = (refl, refl)
  step_at s held (entry kind words) space body = (refl, refl)
  step_at s held (timescale words) space body = (refl, refl)
  step_at s held (scope kind words) space body = (refl, refl)
  step_at s held upscope space body = (refl, refl)
  step_at s held end_definitions space body = (refl, refl)
  step_at s held (dump_word word) space body = (refl, refl)
  step_at s held (other word words) space body = (refl, refl)
  step_at s [] (stamp digits) space body = (refl, refl)
  step_at s (p ∷ ps) (stamp digits) space body = (refl, refl)

  retimed_at : (s : ParseState) (held ps : List Piece)
      → retimed_pieces cut (at_limit n s) held ps ≡ retimed_pieces cut s held ps
  unfolding retimed_pieces
  retimed_at s held [] = released_at s held
  retimed_at s held (p ∷ ps) =
      let (step, holds) = step_at s held p.item p.space p.body in
      (λ i. step i ++ retimed_pieces cut (item_at_limit n s p.item i) (holds i) ps)
      ∙ ap (λ l. pieces_of_step cut s held p ++ l)
      (retimed_at (state_after_item s p.item) (held_of_step cut s held p) ps)

-- the copy of a file by the rules is the amended file after the cuts
pub copy_is_amended_after_cuts : (limit : ℕ) (mark : Option CommentBytes) (cut : ℕ → Bool) (a : Amendment)
    (file text : List ℕ) → IsCopy limit (marked_rules mark (retimed_rules cut (amendment_rules a 0))) file text
    → IsAmendedAfterCuts limit mark cut a file text
copy_is_amended_after_cuts limit mark cut a file text copy =
    let marked : List Piece = with_mark mark copy.pieces in
    record {
      pieces = copy.pieces;
      tail = copy.tail;
      cut = copy.cut;
      allowed = copy.allowed;
      in_body = copy.in_body;
      is = copy.is
          ∙ copy_with_mark_is_copy_of_marked mark (retimed_rules cut (amendment_rules a 0)) copy.pieces copy.tail
          ∙ retimed_copy_is_copy_of_retimed cut (amendment_rules a 0) marked copy.tail
          ∙ copy_is_amended_text a 0 (pieces_after cut 0 marked) copy.tail
          ∙ sym (text_at a true limit (initial_state 0) (pieces_after cut 0 marked) copy.tail)
          ∙ ap (λ l. amended_text a true (initial_state limit) l copy.tail)
          (sym (retimed_at cut limit (initial_state 0) [] marked));
    }
