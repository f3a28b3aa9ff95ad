-- What a `PartAmender` has made of the request's answer, and what then stands in the place of a piece.
use Rattle.std.proofs.Common.{◌≡◌, ◌∙◌, ◌&&◌, ◌⊎◌, ◌≤◌, ◌<◌, ℕ, Bool, true, false, not, List, [], ◌∷◌, ◌++◌}
use Rattle.std.proofs.Common.{refl, sym, ap, Some, None, if◌then◌else◌, nat_lt, nat_le, arith, inl, inr}
use Rattle.std.specs.Prelude.{Result, Ok, Err}
use Rattle.std.proofs.lemmas.List.{append-nil}
use Rattle.vcd_core.specs.Decimal.{number_of}
use Rattle.vcd_text.specs.Items.{Item, stamp}
use Rattle.vcd_text.specs.Grammar.{ParseState}
use Rattle.vcd_copy.specs.Pieces.{Piece, state_of_pieces}
use Rattle.vcd_copy.specs.Copied.{may_be_amended}
use Rattle.vcd_text.specs.declared.reading.choice.TickRange.{TickRange}
use Rattle.vcd_part.specs.declared.request.Request.{Request}
use Rattle.vcd_part.specs.declared.request.Refusal.{Refusal}
use Rattle.vcd_part.specs.declared.amender.PartAmender.{PartAmender}
use Rattle.vcd_part.specs.Requests.{decide}
use Rattle.vcd_part.specs.PartPieces.{pieces_of_step, body_in_part, declaration_in_part, stamp_pieces}
use Rattle.vcd_copy.specs.Pieces.{piece_bytes}
use Rattle.vcd_part.specs.PartPieces.{last_stamp, stamp_in_part, first_pieces, is_up_to_first}
use Rattle.vcd_part.specs.inside.PartAmender.{IsAt, window_of, refusal_of}
use Rattle.vcd_part.proofs.laws.states.Windows.{IsInOrder, upto_is}

-- ---- the answer

-- the answer to a request, in a state
abbrev pub answer_in : Request → ParseState → Result TickRange Refusal
answer_in r s = decide r s.timescale s.declared

window_in_body : (m : PartAmender) (before : List Piece) (s : ParseState) → IsAt m before s → s.in_body ≡ true
    → m.window ≡ window_of (answer_in m.request s)
window_in_body m before s at body = at.window
    ∙ ap (λ (b : Bool). if b then window_of (answer_in m.request s) else None) body

-- with a window the declarations have ended
pub window_means_body : (m : PartAmender) (before : List Piece) (s : ParseState) (w : TickRange) → IsAt m before s
    → m.window ≡ Some w → s.in_body ≡ true
window_means_body m before s w at is = by_test s.in_body refl
  where
    by_test : (b : Bool) → s.in_body ≡ b → s.in_body ≡ true
    by_test true body = body
    by_test false out =
        let never : None ≡ Some w = sym (at.window
        ∙ ap (λ (b : Bool). if b then window_of (answer_in m.request s) else None) out) ∙ is in absurd (cc)

pub answer_with_window : (m : PartAmender) (before : List Piece) (s : ParseState) (w : TickRange) → IsAt m before s
    → m.window ≡ Some w → answer_in m.request s ≡ Ok w
answer_with_window m before s w at is = by_answer (answer_in m.request s)
    (sym (window_in_body m before s at (window_means_body m before s w at is)) ∙ is)
  where
    by_answer : (a : Result TickRange Refusal) → window_of a ≡ Some w → a ≡ Ok w
    by_answer (Ok v) same = let is : v ≡ w = cc in ap Ok is
    by_answer (Err refusal) never = absurd (cc)

pub answer_without_window : (m : PartAmender) (before : List Piece) (s : ParseState) → IsAt m before s
    → s.in_body ≡ true → m.window ≡ None → (refusal : Refusal) × (answer_in m.request s ≡ Err refusal)
answer_without_window m before s at body none = by_answer (answer_in m.request s) refl
    (sym (window_in_body m before s at body) ∙ none)
  where
    by_answer : (a : Result TickRange Refusal) → answer_in m.request s ≡ a → window_of a ≡ None
        → (refusal : Refusal) × (answer_in m.request s ≡ Err refusal)
    by_answer (Ok v) is never = absurd (cc)
    by_answer (Err refusal) is same = (refusal, is)

pub answer_with_refusal : (m : PartAmender) (before : List Piece) (s : ParseState) (refusal : Refusal)
    → IsAt m before s → m.refusal ≡ Some refusal → (s.in_body ≡ true) × (answer_in m.request s ≡ Err refusal)
answer_with_refusal m before s refusal at is = by_test s.in_body refl
  where
    by_answer : (a : Result TickRange Refusal) → refusal_of a ≡ Some refusal → a ≡ Err refusal
    by_answer (Ok v) never = absurd (cc)
    by_answer (Err other) same = let is : other ≡ refusal = cc in ap Err is

    by_test : (b : Bool) → s.in_body ≡ b → (s.in_body ≡ true) × (answer_in m.request s ≡ Err refusal)
    by_test true body = (
      body,
      by_answer (answer_in m.request s) (sym (at.refusal
          ∙ ap (λ (b : Bool). if b then refusal_of (answer_in m.request s) else None) body) ∙ is),
    )
    by_test false out =
        let never : None ≡ Some refusal = sym (at.refusal
        ∙ ap (λ (b : Bool). if b then refusal_of (answer_in m.request s) else None) out) ∙ is in absurd (cc)

-- ---- the pieces in the place of one

pub pieces_in_body : (r : Request) (before : List Piece) (p : Piece) → may_be_amended p.item ≡ true
    → (state_of_pieces 0 before).in_body ≡ true → (a : Result TickRange Refusal)
    → answer_in r (state_of_pieces 0 before) ≡ a
    → pieces_of_step r before p ≡ body_in_part r (state_of_pieces 0 before) before p p.item a
pieces_in_body r before p amended body a answer =
    let s : ParseState = state_of_pieces 0 before in
    λ i. if not (amended i) then p ∷ []
    else (if body i then body_in_part r s before p p.item (answer i) else declaration_in_part r s p p.item)

pub pieces_in_declarations : (r : Request) (before : List Piece) (p : Piece) → may_be_amended p.item ≡ true
    → (state_of_pieces 0 before).in_body ≡ false
    → pieces_of_step r before p ≡ declaration_in_part r (state_of_pieces 0 before) p p.item
pieces_in_declarations r before p amended out =
    let s : ParseState = state_of_pieces 0 before in
    λ i. if not (amended i) then p ∷ []
    else (if out i then body_in_part r s before p p.item (answer_in r s) else declaration_in_part r s p p.item)

-- a piece that stands
pub one_stands : (p : Piece) → piece_bytes (p ∷ []) ≡ p.space ++ p.body
one_stands p = append-nil (p.space ++ p.body)

-- it stands if a test holds
pub stands_if : (p : Piece) (b : Bool) → (if b then p.space ++ p.body else []) ≡ piece_bytes (if b then p ∷ [] else [])
stands_if p true = sym (one_stands p)
stands_if p false = refl

-- ---- stamps

pub ltb_from : (a b : ℕ) → b ≤ a → nat_lt a b ≡ false
ltb_from a b order = grind arith

pub leb_from : (a b : ℕ) → b < a → nat_le a b ≡ false
leb_from a b order = grind arith

not_up : (first t : ℕ) → first < t → (nat_lt 0 first && nat_le t first) ≡ false
not_up first t order = grind arith

pub stamp_pieces_are : (r : Request) (s : ParseState) (before : List Piece) (p : Piece) (w : TickRange)
    (digits : List ℕ) (t : ℕ) (i : Item) → i ≡ stamp digits → t ≡ number_of digits
    → body_in_part r s before p i (Ok w) ≡ stamp_pieces r w s before p t
stamp_pieces_are r s before p w digits t i is number = ap (λ (i : Item). body_in_part r s before p i (Ok w)) is
    ∙ ap (stamp_pieces r w s before p) (sym number)

-- one before the window, or further past it
pub stamp_goes : (r : Request) (s : ParseState) (before : List Piece) (p : Piece) (w : TickRange) (t : ℕ)
    → IsInOrder w → s.tick ≤ t → (is_up_to_first w t ≡ true) ⊎ (w.last < s.tick)
    → stamp_pieces r w s before p t ≡ []
stamp_goes r s before p w t order later (inl early) =
    let upto = upto_is w t early in
    let few : nat_lt w.last t ≡ false = ltb_from w.last t (omega (arith, upto.1, order.order)) in
    (λ i. (if is_up_to_first w s.tick && not (early i) then first_pieces r s.declared before else [])
    ++ (if not (early i) && nat_le t w.last then stamp_in_part w p t ∷ []
    else (if nat_le s.tick w.last && few i then last_stamp w s.tick else [])))
    ∙ both_none (is_up_to_first w s.tick) (nat_le s.tick w.last)
  where
    both_none : (x y : Bool) → (if x && false then first_pieces r s.declared before else [])
        ++ (if y && false then last_stamp w s.tick else []) ≡ []
    both_none true true = refl
    both_none true false = refl
    both_none false true = refl
    both_none false false = refl
stamp_goes r s before p w t order later (inr past) =
    let old : is_up_to_first w s.tick ≡ false = not_up w.first s.tick (omega (arith, order.order)) in
    let out : nat_le t w.last ≡ false = leb_from t w.last (omega arith) in
    let over : nat_le s.tick w.last ≡ false = leb_from s.tick w.last past in
    (λ i. (if old i && not (is_up_to_first w t) then first_pieces r s.declared before else [])
    ++ (if not (is_up_to_first w t) && out i then stamp_in_part w p t ∷ []
    else (if over i && nat_lt w.last t then last_stamp w s.tick else [])))
    ∙ no_matter (is_up_to_first w t)
  where
    no_matter : (x : Bool) → (if not x && false then stamp_in_part w p t ∷ [] else []) ≡ []
    no_matter true = refl
    no_matter false = refl
