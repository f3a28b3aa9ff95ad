-- The end of the declarations, and that of the file.
use Rattle.std.proofs.Common.{◌≡◌, ◌∙◌, ℕ, Bool, true, false, List, [], ◌∷◌, ◌++◌, refl, sym, ap, Some, None}
use Rattle.std.proofs.Common.{Option, if◌then◌else◌, append_assoc, subst}
use Rattle.std.specs.Prelude.{Result, Ok, Err}
use Rattle.std.proofs.lemmas.Bool.{false≢true}
use Rattle.std.proofs.lemmas.List.{append-nil}
use Rattle.vcd_core.specs.declared.capture.Timescale.{Timescale}
use Rattle.vcd_text.specs.Items.{end_definitions}
use Rattle.vcd_text.specs.Grammar.{ParseState, initial_state, Allows, state_after_item}
use Rattle.vcd_copy.specs.Pieces.{Piece, state_of_pieces}
use Rattle.vcd_copy.specs.Copied.{IsNext, may_be_amended}
use Rattle.vcd_text.specs.declared.reading.choice.TickRange.{TickRange}
use Rattle.vcd_part.specs.declared.request.Request.{Request}
use Rattle.vcd_part.specs.declared.request.Refusal.{Refusal}
use Rattle.vcd_part.specs.declared.amender.PartAmender.{PartAmender}
use Rattle.vcd_part.specs.Requests.{decide}
use Rattle.vcd_part.specs.PartPieces.{pieces_at_end, ended_pieces, first_pieces, is_up_to_first}
use Rattle.vcd_copy.specs.Pieces.{piece_bytes}
use Rattle.vcd_part.specs.PartPieces.{pieces_of_step, ended_in_part, declaration_in_part, comment_piece}
use Rattle.vcd_part.specs.PartPieces.{kept_count, all_count, is_change_of}
use Rattle.vcd_part.specs.inside.CodeUses.{HoldLast}
use Rattle.vcd_part.specs.inside.PartAmender.{Knows, window_of, refusal_of, is_first_due}
use Rattle.vcd_copy.proofs.shared.StatesOfPieces.{at_limit, at_any_limit}
use Rattle.vcd_part.proofs.amender.States.{next_allowed, before_allowed, next_some, end_before_body}
use Rattle.vcd_part.proofs.amender.LastChanges.{all_more, hold_more, hold_declarations}
use Rattle.vcd_part.proofs.amender.Steps.{seen_more}
use Rattle.vcd_part.proofs.amender.Decided.{answer_in, answer_with_window, answer_without_window, window_means_body}
use Rattle.vcd_part.proofs.amender.Decided.{pieces_in_declarations}

-- ---- the end of the declarations

-- it comes before the changes
pub out_of_body : (limit : ℕ) (before : List Piece) (p : Piece) (space body : List ℕ) → IsNext limit before p space body
    → p.item ≡ end_definitions → (state_of_pieces 0 before).in_body ≡ false
out_of_body limit before p space body next is = end_before_body (at_limit limit (state_of_pieces 0 before))
    (subst (Allows (at_limit limit (state_of_pieces 0 before))) is (next_allowed limit before p space body next))

-- until then neither is known
pub no_window_before : (m : PartAmender) (before : List Piece) → Knows m before
    → (state_of_pieces 0 before).in_body ≡ false → m.window ≡ None
no_window_before m before seen out = seen.window ∙ ap (λ (b : Bool). if b
    then window_of (answer_in m.request (state_of_pieces 0 before)) else None) out

pub no_refusal_before : (m : PartAmender) (before : List Piece) → Knows m before
    → (state_of_pieces 0 before).in_body ≡ false → m.refusal ≡ None
no_refusal_before m before seen out = seen.refusal ∙ ap (λ (b : Bool). if b
    then refusal_of (answer_in m.request (state_of_pieces 0 before)) else None) out

-- what is written for a window
pub ended_bytes : (r : Request) (before : List Piece) (p : Piece) (w : TickRange) → p.item ≡ end_definitions
    → (state_of_pieces 0 before).in_body ≡ false → answer_in r (state_of_pieces 0 before) ≡ Ok w
    → p.space ++ ((comment_piece w (kept_count r (state_of_pieces 0 before).declared)
    (all_count (state_of_pieces 0 before).declared) p.space).body ++ ((10 ∷ []) ++ p.body))
    ≡ piece_bytes (pieces_of_step r before p)
ended_bytes r before p w is out answer =
    let s : ParseState = state_of_pieces 0 before in
    let comment : List ℕ = (comment_piece w (kept_count r s.declared) (all_count s.declared) p.space).body in
    sym (append_assoc p.space comment ((10 ∷ []) ++ p.body))
    ∙ ap (λ (l : List ℕ). (p.space ++ comment) ++ l) (sym (append-nil ((10 ∷ []) ++ p.body)))
    ∙ ap piece_bytes (sym (pieces_in_declarations r before p (ap may_be_amended is) out
    ∙ ap (declaration_in_part r s p) is ∙ ap (ended_in_part r s.declared p) answer))

-- what is written if the request is refused
pub refused_end_bytes : (r : Request) (before : List Piece) (p : Piece) (refusal : Refusal)
    → p.item ≡ end_definitions → (state_of_pieces 0 before).in_body ≡ false
    → answer_in r (state_of_pieces 0 before) ≡ Err refusal → [] ≡ piece_bytes (pieces_of_step r before p)
refused_end_bytes r before p refusal is out answer =
    let s : ParseState = state_of_pieces 0 before in
    ap piece_bytes (sym (pieces_in_declarations r before p (ap may_be_amended is) out
    ∙ ap (declaration_in_part r s p) is ∙ ap (ended_in_part r s.declared p) answer))

-- after it the answer is known
pub end_seen : (limit : ℕ) (m : PartAmender) (before : List Piece) (p : Piece) (space body : List ℕ)
    (window : Option TickRange) (refusal : Option Refusal) → Knows m before → IsNext limit before p space body
    → p.item ≡ end_definitions → window ≡ window_of (answer_in m.request (state_of_pieces 0 before))
    → refusal ≡ refusal_of (answer_in m.request (state_of_pieces 0 before))
    → Knows (record m { window = window; refusal = refusal }) (before ++ p ∷ [])
end_seen limit m before p space body window refusal seen next is window_is refusal_is =
    let s : ParseState = state_of_pieces 0 before in
    let out = out_of_body limit before p space body next is in
    let some = next_some limit before p space body next in
    seen_more (record m { window = window; refusal = refusal }) before p (record s { in_body = true })
    (ap (state_after_item s) is) (record {
      noted = seen.noted;
      uses = seen.uses;
      window = window_is;
      refusal = refusal_is;
      tick = seen.tick;
      some = all_more before p seen.some some;
      holds_none = λ never. absurd (false≢true (sym never));
      holds = λ w known up. hold_more m.codes m.request s.declared before p (hold_declarations m.codes m.request
          s.declared (initial_state limit) before (seen.holds_none out) (before_allowed limit before p space body next)
          (ap (λ (t : ParseState). t.in_body) (at_any_limit limit before) ∙ out) seen.some)
          (λ code. ap (is_change_of s.declared code) is) some;
    })

-- ---- the end of the file

-- the pieces at the end, if the declarations have ended
abbrev pub end_pieces : Request → List Piece → List Piece
end_pieces r pieces = if (state_of_pieces 0 pieces).in_body then pieces_at_end r pieces else []

end_with_window : (m : PartAmender) (pieces : List Piece) (w : TickRange) → Knows m pieces → m.window ≡ Some w
    → end_pieces m.request pieces
    ≡ (if is_up_to_first w m.tick then first_pieces m.request (state_of_pieces 0 pieces).declared pieces else [])
end_with_window m pieces w seen is =
    let s : ParseState = state_of_pieces 0 pieces in
    let first : List Piece = first_pieces m.request s.declared pieces in
    ap (λ (b : Bool). if b then pieces_at_end m.request pieces else []) (window_means_body m pieces s w seen is)
    ∙ ap (λ (a : Result TickRange Refusal). ended_pieces m.request s pieces a)
    (answer_with_window m pieces s w seen is)
    ∙ ap (λ (t : ℕ). if is_up_to_first w t then first else []) (sym seen.tick)

-- they are those of tick 0 where these are due
pub due_at_end : (m : PartAmender) (pieces : List Piece) → Knows m pieces → is_first_due m.window m.tick ≡ true
    → (end_pieces m.request pieces ≡ first_pieces m.request (state_of_pieces 0 pieces).declared pieces)
    × HoldLast m.codes m.request (state_of_pieces 0 pieces).declared pieces
due_at_end m pieces seen due = by_window m.window refl due
  where
    by_window : (o : Option TickRange) → m.window ≡ o → is_first_due o m.tick ≡ true
        → (end_pieces m.request pieces ≡ first_pieces m.request (state_of_pieces 0 pieces).declared pieces)
        × HoldLast m.codes m.request (state_of_pieces 0 pieces).declared pieces
    by_window None is never = absurd (false≢true never)
    by_window (Some w) is up = (
      end_with_window m pieces w seen is ∙ ap (λ (b : Bool). if b
          then first_pieces m.request (state_of_pieces 0 pieces).declared pieces else []) up,
      seen.holds w is (ap (is_up_to_first w) (sym seen.tick) ∙ up),
    )

-- and else none
pub none_at_end : (m : PartAmender) (pieces : List Piece) → Knows m pieces → is_first_due m.window m.tick ≡ false
    → end_pieces m.request pieces ≡ []
none_at_end m pieces seen isnt = by_window m.window refl isnt
  where
    refused : (b : Bool) → (state_of_pieces 0 pieces).in_body ≡ b → m.window ≡ None
        → (if b then pieces_at_end m.request pieces else []) ≡ []
    refused true body none =
        let s : ParseState = state_of_pieces 0 pieces in
        let (refusal, answer) = answer_without_window m pieces s seen body none in
        ap (λ (a : Result TickRange Refusal). ended_pieces m.request s pieces a) answer
    refused false out none = refl

    by_window : (o : Option TickRange) → m.window ≡ o → is_first_due o m.tick ≡ false
        → end_pieces m.request pieces ≡ []
    by_window None is isnt = refused (state_of_pieces 0 pieces).in_body refl is
    by_window (Some w) is past = end_with_window m pieces w seen is ∙ ap (λ (b : Bool). if b
        then first_pieces m.request (state_of_pieces 0 pieces).declared pieces else []) past

-- ---- the timescale that is shown

pub same_timescale : (limit : ℕ) (r : Request) (before : List Piece) (scale : Option Timescale)
    → scale ≡ (state_of_pieces limit before).timescale
    → decide r scale (state_of_pieces 0 before).declared ≡ answer_in r (state_of_pieces 0 before)
same_timescale limit r before scale is = ap (λ (o : Option Timescale). decide r o (state_of_pieces 0 before).declared)
    (is ∙ ap (λ (s : ParseState). s.timescale) (at_any_limit limit before))
