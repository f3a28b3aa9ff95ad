-- What a `PartAmender` knows after a piece more, if the piece is no declaration.
use Rattle.std.proofs.Common.{◌≡◌, ◌∙◌, ◌&&◌, ◌<◌, ◌≤◌, ℕ, Bool, true, false, List, [], ◌∷◌, ◌++◌, length}
use Rattle.std.proofs.Common.{refl, sym, ap, subst, Some, None, Option, if◌then◌else◌, nat_lt, nat_le, arith}
use Rattle.std.specs.Prelude.{Result}
use Rattle.std.proofs.lemmas.Bool.{false≢true}
use Rattle.vcd_core.specs.Decimal.{number_of}
use Rattle.vcd_text.specs.Items.{Item, entry, timescale, scope, upscope, variable, end_definitions, stamp, scalar}
use Rattle.vcd_text.specs.Items.{vector, real_or_string, dump_word, other}
use Rattle.vcd_text.specs.Grammar.{ParseState, VariableDeclaration, Allows, state_after_item}
use Rattle.vcd_copy.specs.Pieces.{Piece, state_of_pieces}
use Rattle.vcd_copy.specs.Copied.{IsNext, may_be_amended}
use Rattle.vcd_text.specs.declared.reading.choice.TickRange.{TickRange}
use Rattle.vcd_part.specs.declared.request.Request.{Request}
use Rattle.vcd_part.specs.declared.request.Refusal.{Refusal}
use Rattle.vcd_part.specs.declared.amender.PartAmender.{PartAmender}
use Rattle.vcd_part.specs.declared.code_uses.CodeUses.{CodeUses}
use Rattle.vcd_part.specs.Requests.{decide}
use Rattle.vcd_part.specs.PartPieces.{is_up_to_first, is_change_of}
use Rattle.vcd_part.specs.inside.Choice.{HasNoted}
use Rattle.vcd_part.specs.inside.CodeUses.{AreUses, HoldLast}
use Rattle.vcd_part.specs.inside.PartAmender.{IsAt, Knows, window_of, refusal_of}
use Rattle.vcd_copy.proofs.shared.StatesOfPieces.{one_more, at_limit}
use Rattle.vcd_part.proofs.amender.States.{timescale_before_body, later_stamp, next_allowed, next_some}
use Rattle.vcd_part.proofs.amender.LastChanges.{all_more, hold_more}

-- it is at the state after a piece more
pub seen_more : (m : PartAmender) (before : List Piece) (p : Piece) (s : ParseState)
    → state_after_item (state_of_pieces 0 before) p.item ≡ s → IsAt m (before ++ p ∷ []) s
    → Knows m (before ++ p ∷ [])
seen_more m before p s state at = subst (IsAt m (before ++ p ∷ [])) (sym (one_more 0 before p ∙ state)) at

-- ---- states that are the same to it

-- two states with the same variables and tick, in the same half of the file
pub record IsSame (s t : ParseState) : Type 0 where
  pub declared : s.declared ≡ t.declared
  pub in_body : s.in_body ≡ t.in_body
  pub tick : s.tick ≡ t.tick
  pub timescale : s.in_body ≡ true → s.timescale ≡ t.timescale

-- what it makes of the request's answer
same_answer : {A : Type 0} (r : Request) (f : Result TickRange Refusal → Option A) (s t : ParseState) → IsSame s t
    → (if s.in_body then f (decide r s.timescale s.declared) else None)
    ≡ (if t.in_body then f (decide r t.timescale t.declared) else None)
same_answer r f s t same = by_test s.in_body refl
  where
    by_test : (b : Bool) → s.in_body ≡ b → (if s.in_body then f (decide r s.timescale s.declared) else None)
        ≡ (if t.in_body then f (decide r t.timescale t.declared) else None)
    by_test true is = let scale = same.timescale is in
        λ i. if same.in_body i then f (decide r (scale i) (same.declared i)) else None
    by_test false is = ap (λ b. if b then f (decide r s.timescale s.declared) else None) is
        ∙ sym (ap (λ b. if b then f (decide r t.timescale t.declared) else None) (sym same.in_body ∙ is))

-- with other last changes, where a piece more leaves the state the same
pub at_same : (m : PartAmender) (c : CodeUses) (before : List Piece) (p : Piece) (s t : ParseState) → IsAt m before s
    → IsSame s t → 0 < length p.body → AreUses c m.request s.declared
    → (s.in_body ≡ false → HoldLast c m.request s.declared [])
    → ((w : TickRange) → m.window ≡ Some w → is_up_to_first w s.tick ≡ true
    → HoldLast c m.request s.declared (before ++ p ∷ []))
    → IsAt (record m { codes = c }) (before ++ p ∷ []) t
at_same m c before p s t at same some uses none holds = record {
  noted = subst (HasNoted m.choice m.request) same.declared at.noted;
  uses = subst (AreUses c m.request) same.declared uses;
  window = at.window ∙ same_answer m.request window_of s t same;
  refusal = at.refusal ∙ same_answer m.request refusal_of s t same;
  tick = at.tick ∙ same.tick;
  some = all_more before p at.some some;
  holds_none = λ out. subst (λ ds. HoldLast c m.request ds []) same.declared (none (same.in_body ∙ out));
  holds = λ w is up. subst (λ ds. HoldLast c m.request ds (before ++ p ∷ [])) same.declared
      (holds w is (ap (is_up_to_first w) same.tick ∙ up));
}

-- ---- the items that no rule may amend

other_same : (limit : ℕ) (s : ParseState) (i : Item) → may_be_amended i ≡ false → Allows (at_limit limit s) i
    → IsSame s (state_after_item s i)
other_same limit s (entry kind words) not_it allowed =
    record { declared = refl; in_body = refl; tick = refl; timescale = λ is. refl }
other_same limit s (timescale words) not_it allowed = record {
  declared = refl;
  in_body = refl;
  tick = refl;
  timescale = λ is. absurd (false≢true (sym (timescale_before_body (at_limit limit s) words allowed) ∙ is));
}
other_same limit s (scope kind words) not_it allowed =
    record { declared = refl; in_body = refl; tick = refl; timescale = λ is. refl }
other_same limit s upscope not_it allowed =
    record { declared = refl; in_body = refl; tick = refl; timescale = λ is. refl }
other_same limit s (dump_word word) not_it allowed =
    record { declared = refl; in_body = refl; tick = refl; timescale = λ is. refl }
other_same limit s (other word words) not_it allowed =
    record { declared = refl; in_body = refl; tick = refl; timescale = λ is. refl }
other_same limit s (variable words) not_it allowed = absurd (cc)
other_same limit s end_definitions not_it allowed = absurd (cc)
other_same limit s (stamp digits) not_it allowed = absurd (cc)
other_same limit s (scalar digit code) not_it allowed = absurd (cc)
other_same limit s (vector first digits code) not_it allowed = absurd (cc)
other_same limit s (real_or_string first text code) not_it allowed = absurd (cc)

other_is_no_change : (declared : List VariableDeclaration) (code : List ℕ) (i : Item) → may_be_amended i ≡ false
    → is_change_of declared code i ≡ false
other_is_no_change declared code (entry kind words) not_it = refl
other_is_no_change declared code (timescale words) not_it = refl
other_is_no_change declared code (scope kind words) not_it = refl
other_is_no_change declared code upscope not_it = refl
other_is_no_change declared code (dump_word word) not_it = refl
other_is_no_change declared code (other word words) not_it = refl
other_is_no_change declared code (variable words) not_it = refl
other_is_no_change declared code end_definitions not_it = refl
other_is_no_change declared code (stamp digits) not_it = refl
other_is_no_change declared code (scalar digit own) not_it = absurd (cc)
other_is_no_change declared code (vector first digits own) not_it = absurd (cc)
other_is_no_change declared code (real_or_string first text own) not_it = absurd (cc)

pub other_passes : (limit : ℕ) (m : PartAmender) (before : List Piece) (p : Piece) (s : ParseState)
    → may_be_amended p.item ≡ false → Allows (at_limit limit s) p.item → 0 < length p.body → IsAt m before s
    → IsAt m (before ++ p ∷ []) (state_after_item s p.item)
other_passes limit m before p s not_it allowed some at =
    at_same m m.codes before p s (state_after_item s p.item) at (other_same limit s p.item not_it allowed) some at.uses
    at.holds_none (λ w is up. hold_more m.codes m.request s.declared before p (at.holds w is up)
    (λ code. other_is_no_change s.declared code p.item not_it) some)

-- ---- stamps

up_before : (first s t : ℕ) → s ≤ t → (nat_lt 0 first && nat_le t first) ≡ true
    → (nat_lt 0 first && nat_le s first) ≡ true
up_before first s t later up = grind arith

-- after a stamp
stamp_passes : (limit : ℕ) (m : PartAmender) (before : List Piece) (p : Piece) (s : ParseState) (digits : List ℕ)
    (t : ℕ) → p.item ≡ stamp digits → t ≡ number_of digits → Allows (at_limit limit s) p.item → 0 < length p.body
    → IsAt m before s → IsAt (record m { tick = t }) (before ++ p ∷ []) (record s { tick = t })
stamp_passes limit m before p s digits t is number allowed some at = record {
  noted = at.noted;
  uses = at.uses;
  window = at.window;
  refusal = at.refusal;
  tick = refl;
  some = all_more before p at.some some;
  holds_none = at.holds_none;
  holds = λ w known up. hold_more m.codes m.request s.declared before p
      (at.holds w known (up_before w.first s.tick t later up))
      (λ code. ap (is_change_of s.declared code) is) some;
}
  where
    later : s.tick ≤ t
    later = subst (λ (n : ℕ). s.tick ≤ n) (sym number)
        (later_stamp (at_limit limit s) digits (subst (Allows (at_limit limit s)) is allowed))

pub stamp_seen : (limit : ℕ) (m : PartAmender) (before : List Piece) (p : Piece) (t : ℕ) (space body : List ℕ)
    → Knows m before → IsNext limit before p space body
    → ((digits : List ℕ) × (p.item ≡ stamp digits) × (t ≡ number_of digits))
    → Knows (record m { tick = t }) (before ++ p ∷ [])
stamp_seen limit m before p t space body seen next shows =
    let s : ParseState = state_of_pieces 0 before in
    let (digits, is, number) = shows in
    seen_more (record m { tick = t }) before p (record s { tick = t })
    (ap (state_after_item s) is ∙ ap (λ (n : ℕ). record s { tick = n }) (sym number))
    (stamp_passes limit m before p s digits t is number (next_allowed limit before p space body next)
    (next_some limit before p space body next) seen)
