-- The copy of a file by rules for its pieces after cuts.
use Rattle.std.proofs.Common.{◌≡◌, ◌∙◌, ℕ, Bool, List, [], ◌∷◌, ◌++◌, cond, refl, sym, ap, ap₂, append_assoc, map}
use Rattle.std.proofs.lemmas.List.{append-nil}
use Rattle.vcd_text.specs.Items.{Item, variable, end_definitions, stamp, scalar, vector, real_or_string, entry}
use Rattle.vcd_text.specs.Items.{timescale, scope, upscope, dump_word, other}
use Rattle.vcd_text.specs.Grammar.{ParseState, initial_state, state_after, state_after_item}
use Rattle.vcd_copy.specs.Pieces.{Piece, state_of_pieces}
use Rattle.vcd_copy.specs.Copied.{CopyRules, may_be_amended, copied_piece, copied_pieces}
use Rattle.vcd_copy.proofs.shared.CopiedPieces.{copied_more}
use Rattle.vcd_amend.specs.Retimed.{retimed_pieces}
use Rattle.vcd_amend.specs.RetimedCopy.{pieces_of_step, held_of_step, pieces_so_far, held_after, retimed_rules}
use Rattle.vcd_amend.specs.RetimedCopy.{RetimedCopyIsCopyOfRetimed}

-- the state after one piece more
pub state_more : (s : ParseState) (before : List Piece) (p : Piece)
    → state_after s (map (λ p. p.item) (before ++ p ∷ [])) ≡ state_after_item (state_after s (map (λ p. p.item) before))
    p.item
state_more s [] p = refl
state_more s (q ∷ before) p = state_more (state_after_item s q.item) before p

module _ (is_cut_out : ℕ → Bool) where
  -- the pieces that come in the place of one piece more
  pub sent_more : (s : ParseState) (held before : List Piece) (p : Piece)
      → pieces_so_far is_cut_out s held (before ++ p ∷ [])
      ≡ pieces_so_far is_cut_out s held before
      ++ pieces_of_step is_cut_out (state_after s (map (λ p. p.item) before)) (held_after is_cut_out s held before) p
  unfolding pieces_so_far held_after
  sent_more s held [] p = append-nil (pieces_of_step is_cut_out s held p)
  sent_more s held (q ∷ before) p =
      ap (λ l. pieces_of_step is_cut_out s held q ++ l)
      (sent_more (state_after_item s q.item) (held_of_step is_cut_out s held q) before p)
      ∙ sym (append_assoc (pieces_of_step is_cut_out s held q) _ _)

  -- the changes that are held after one piece more
  pub held_more : (s : ParseState) (held before : List Piece) (p : Piece)
      → held_after is_cut_out s held (before ++ p ∷ [])
      ≡ held_of_step is_cut_out (state_after s (map (λ p. p.item) before)) (held_after is_cut_out s held before) p
  unfolding held_after
  held_more s held [] p = refl
  held_more s held (q ∷ before) p =
      held_more (state_after_item s q.item) (held_of_step is_cut_out s held q) before p

  -- the pieces that came in the place of these, and the changes that are held
  abbrev pub sent_for : List Piece → List Piece
  sent_for before = pieces_so_far is_cut_out (initial_state 0) [] before

  abbrev pub held_for : List Piece → List Piece
  held_for before = held_after is_cut_out (initial_state 0) [] before

  abbrev pub step_for : List Piece → Piece → List Piece
  step_for before p = pieces_of_step is_cut_out (state_of_pieces 0 before) (held_for before) p

  module _ (r : CopyRules) where
    abbrev rules : CopyRules
    rules = retimed_rules is_cut_out r

    -- a piece that no rule may amend has its own bytes by the rules, too
    place_is : (s : ParseState) (held sent : List Piece) (i : Item) (space body : List ℕ) →
        let p : Piece = record { item = i; space = space; body = body } in
        cond (may_be_amended i) (copied_pieces r sent (pieces_of_step is_cut_out s held p))
        (r.before_others sent ++ (space ++ body))
        ≡ copied_pieces r sent (pieces_of_step is_cut_out s held p)
    unfolding copied_pieces
    place_is s held sent (variable words) space body = refl
    place_is s held sent end_definitions space body = refl
    place_is s held sent (stamp digits) space body = refl
    place_is s held sent (scalar digit code) space body = refl
    place_is s held sent (vector first digits code) space body = refl
    place_is s held sent (real_or_string first text code) space body = refl
    place_is s held sent (entry kind words) space body = sym (append-nil (r.before_others sent ++ (space ++ body)))
    place_is s held sent (timescale words) space body = sym (append-nil (r.before_others sent ++ (space ++ body)))
    place_is s held sent (scope kind words) space body = sym (append-nil (r.before_others sent ++ (space ++ body)))
    place_is s held sent upscope space body = sym (append-nil (r.before_others sent ++ (space ++ body)))
    place_is s held sent (dump_word word) space body = sym (append-nil (r.before_others sent ++ (space ++ body)))
    place_is s held sent (other word words) space body = sym (append-nil (r.before_others sent ++ (space ++ body)))

    -- the copy of the pieces that follow others
    copied_from : (before ps : List Piece) (tail : List ℕ) →
        let all : List Piece = retimed_pieces is_cut_out (state_of_pieces 0 before) (held_for before) ps in
        copied_pieces rules before ps ++ rules.at_end (before ++ ps) tail
        ≡ copied_pieces r (sent_for before) all ++ r.at_end (sent_for before ++ all) tail
    unfolding copied_pieces retimed_pieces
    copied_from before [] tail = ap (λ l. rules.at_end l tail) (append-nil before)
    copied_from before (p ∷ ps) tail =
        let s = state_of_pieces 0 before in
        let sent = sent_for before in
        let step = step_for before p in
        let more = before ++ p ∷ [] in
        let later = retimed_pieces is_cut_out (state_after_item s p.item)
        (held_of_step is_cut_out s (held_for before) p) ps in
        let last : rules.at_end (before ++ p ∷ ps) tail ≡ rules.at_end (more ++ ps) tail =
        ap (λ l. rules.at_end l tail) (sym (append_assoc before (p ∷ []) ps)) in
        let sent_is = sent_more (initial_state 0) [] before p in
        let later_is : retimed_pieces is_cut_out (state_of_pieces 0 more) (held_for more) ps ≡ later =
        ap₂ (λ t h. retimed_pieces is_cut_out t h ps) (state_more (initial_state 0) before p)
        (held_more (initial_state 0) [] before p) in
        append_assoc (copied_piece rules before p) (copied_pieces rules more ps) (rules.at_end (before ++ p ∷ ps) tail)
        ∙ ap₂ (λ x y. x ++ y) (place_is s (held_for before) sent p.item p.space p.body)
        (ap (λ l. copied_pieces rules more ps ++ l) last ∙ copied_from more ps tail
        ∙ ap₂ (λ b l. copied_pieces r b l ++ r.at_end (b ++ l) tail) sent_is later_is)
        ∙ sym (append_assoc (copied_pieces r sent step) (copied_pieces r (sent ++ step) later) _)
        ∙ ap₂ (λ x y. x ++ r.at_end y tail) (sym (copied_more r sent step later)) (append_assoc sent step later)

pub retimed_copy_is_copy_of_retimed : RetimedCopyIsCopyOfRetimed
unfolding copied_pieces retimed_pieces held_after pieces_so_far
retimed_copy_is_copy_of_retimed is_cut_out r pieces tail = copied_from is_cut_out r [] pieces tail
