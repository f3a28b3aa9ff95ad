-- Changes within the window and past its first tick, and after it, and those of a request that is refused.
use Rattle.std.proofs.Common.{◌≡◌, ◌∙◌, ◌&&◌, ℕ, Bool, true, false, not, List, [], ◌∷◌, ◌++◌}
use Rattle.std.proofs.Common.{refl, sym, ap, Some, None, if◌then◌else◌, nat_le}
use Rattle.std.specs.Prelude.{Result, Ok, Err, OnErr}
use Rattle.std.proofs.lemmas.Bool.{false≢true}
use Rattle.vcd_text.specs.Grammar.{ParseState, state_after_item}
use Rattle.vcd_copy.specs.Pieces.{Piece, state_of_pieces}
use Rattle.vcd_copy.specs.Copied.{IsNext}
use Rattle.vcd_text.specs.declared.reading.choice.TickRange.{TickRange}
use Rattle.vcd_part.specs.declared.amender.PartAmender.{PartAmender}
use Rattle.vcd_part.specs.declared.code_uses.CodeUses.{CodeUses}
use Rattle.vcd_part.specs.PartPieces.{pieces_of_step, is_within, is_used, is_up_to_first}
use Rattle.vcd_part.specs.inside.CodeUses.{AreUses, HoldLast, IsChangeItem}
use Rattle.vcd_part.specs.inside.PartAmender.{Knows}
use Rattle.vcd_copy.proofs.shared.StatesOfPieces.{at_limit}
use Rattle.vcd_part.proofs.amender.States.{next_allowed, next_some}
use Rattle.vcd_part.proofs.amender.Steps.{seen_more, at_same}
use Rattle.vcd_part.proofs.amender.Decided.{answer_with_window, answer_without_window, window_means_body}
use Rattle.vcd_part.proofs.amender.Decided.{pieces_in_body}
use Rattle.vcd_part.proofs.amender.ChangeItems.{IsChange, change_is}

-- a change comes in the half of changes
change_in_body : (limit : ℕ) (before : List Piece) (p : Piece) (space body code : List ℕ)
    → IsNext limit before p space body → IsChange p.item code → (state_of_pieces 0 before).in_body ≡ true
change_in_body limit before p space body code next is =
    is.in_body (at_limit limit (state_of_pieces 0 before)) (next_allowed limit before p space body next).0

-- what is in the place of a change, with a window
pub change_pieces : (m : PartAmender) (before : List Piece) (p : Piece) (w : TickRange) (is_text : Bool)
    (code : List ℕ) → Knows m before → IsChangeItem p.item is_text code → m.window ≡ Some w
    → pieces_of_step m.request before p
    ≡ (if is_within w m.tick && is_used m.request (state_of_pieces 0 before).declared code then p ∷ [] else [])
change_pieces m before p w is_text code seen is window =
    let s : ParseState = state_of_pieces 0 before in
    let change = change_is p.item is_text code is in
    pieces_in_body m.request before p change.amended (window_means_body m before s w seen window) (Ok w)
    (answer_with_window m before s w seen window) ∙ change.pieces m.request s before p w
    ∙ ap (λ (t : ℕ). if is_within w t && is_used m.request s.declared code then p ∷ [] else []) (sym seen.tick)

-- without one, as the request is refused
pub refused_change_pieces : (limit : ℕ) (m : PartAmender) (before : List Piece) (p : Piece) (is_text : Bool)
    (code space body : List ℕ) → Knows m before → IsNext limit before p space body
    → IsChangeItem p.item is_text code → m.window ≡ None → pieces_of_step m.request before p ≡ []
refused_change_pieces limit m before p is_text code space body seen next is none =
    let s : ParseState = state_of_pieces 0 before in
    let change = change_is p.item is_text code is in
    let here = change_in_body limit before p space body code next change in
    let (refusal, answer) = answer_without_window m before s seen here none in
    pieces_in_body m.request before p change.amended here (Err refusal) answer
    ∙ change.none m.request s before p refusal

-- up to the first tick of the window
pub early_change_pieces : (m : PartAmender) (before : List Piece) (p : Piece) (w : TickRange) (is_text : Bool)
    (code : List ℕ) → Knows m before → IsChangeItem p.item is_text code → m.window ≡ Some w
    → is_up_to_first w m.tick ≡ true → pieces_of_step m.request before p ≡ []
early_change_pieces m before p w is_text code seen is window early =
    change_pieces m before p w is_text code seen is window
    ∙ ap (λ (b : Bool). if (not b && nat_le m.tick w.last)
    && is_used m.request (state_of_pieces 0 before).declared code then p ∷ [] else []) early

-- after a change, with other last changes
pub change_passes : (limit : ℕ) (m : PartAmender) (c : CodeUses) (before : List Piece) (p : Piece) (is_text : Bool)
    (code space body : List ℕ) → Knows m before → IsNext limit before p space body
    → IsChangeItem p.item is_text code → AreUses c m.request (state_of_pieces 0 before).declared
    → ((w : TickRange) → m.window ≡ Some w → is_up_to_first w (state_of_pieces 0 before).tick ≡ true
    → HoldLast c m.request (state_of_pieces 0 before).declared (before ++ p ∷ []))
    → Knows (record m { codes = c }) (before ++ p ∷ [])
change_passes limit m c before p is_text code space body seen next is uses holds =
    let s : ParseState = state_of_pieces 0 before in
    let change = change_is p.item is_text code is in
    let here = change_in_body limit before p space body code next change in
    seen_more (record m { codes = c }) before p (state_after_item s p.item) refl
    (at_same m c before p s (state_after_item s p.item) seen (change.same s) (next_some limit before p space body next)
    uses (λ out. absurd (false≢true (sym out ∙ here))) holds)

-- past the first tick of the window nothing has to be held
pub change_past_first : (limit : ℕ) (m : PartAmender) (before : List Piece) (p : Piece) (w : TickRange)
    (is_text : Bool) (code space body : List ℕ) → Knows m before → IsNext limit before p space body
    → IsChangeItem p.item is_text code → m.window ≡ Some w → is_up_to_first w m.tick ≡ false
    → Knows m (before ++ p ∷ [])
change_past_first limit m before p w is_text code space body seen next is window past =
    change_passes limit m m.codes before p is_text code space body seen next is seen.uses
    (λ v known up. let same : v ≡ w = cc (known, window) in
    absurd (false≢true (sym past ∙ ap (is_up_to_first w) seen.tick ∙ ap (λ (x : TickRange). is_up_to_first x
    (state_of_pieces 0 before).tick) (sym same) ∙ up)))

-- a fault of a callee
pub on_error : {T E A : Type 0} (r : Result T E) → A → OnErr r A
on_error (Ok x) holds = tt
on_error (Err e) holds = holds
