-- The pieces in the place of the changes and stamps of a file lead to the state of the part.
use Rattle.std.proofs.Common.{◌≡◌, ℕ, ◌-◌, ◌∙◌, Bool, true, false, not, List, [], ◌∷◌, ◌++◌, refl, ap, sym, subst}
use Rattle.std.proofs.Common.{if◌then◌else◌, min}
use Rattle.std.specs.Prelude.{Result, Ok}
use Rattle.std.proofs.lemmas.List.{map-append}
use Rattle.vcd_text.specs.Items.{Item, entry, timescale, scope, upscope, variable, end_definitions, stamp, scalar}
use Rattle.vcd_text.specs.Items.{vector, real_or_string, dump_word, other}
use Rattle.vcd_core.specs.Decimal.{number_of}
use Rattle.vcd_text.specs.Grammar.{ParseState, ValueChange, Allows, AllowsAll, state_after_item, state_after}
use Rattle.vcd_copy.specs.Pieces.{Piece, state_of_pieces}
use Rattle.vcd_copy.specs.Copied.{piece_items, may_be_amended}
use Rattle.vcd_text.specs.declared.reading.choice.TickRange.{TickRange}
use Rattle.vcd_text.proofs.shared.ItemsInTurn.{Reaches, reaches_none, reaches_one, reaches_both}
use Rattle.vcd_part.specs.declared.request.Request.{Request}
use Rattle.vcd_part.specs.declared.request.Refusal.{Refusal}
use Rattle.vcd_part.specs.Requests.{decide}
use Rattle.vcd_part.specs.PartPieces.{is_up_to_first, first_pieces, pieces_after_state, body_in_part}
use Rattle.vcd_part.specs.PartPieces.{declaration_in_part, part_after, pieces_at_end, ended_pieces}
use Rattle.vcd_part.specs.PartPieces.{stamp_pieces, change_in_part}
use Rattle.vcd_part.proofs.laws.signals.SameStatus.{HasOneStatus}
use Rattle.vcd_part.proofs.laws.states.Windows.{IsInOrder}
use Rattle.vcd_part.proofs.laws.states.PartStates.{at, in_part}
use Rattle.vcd_part.proofs.laws.states.StatesInTurn.{without_limit, next_state, no_body, no_end}
use Rattle.vcd_part.proofs.laws.states.PartChanges.{Follows, Arrives, SameValues, LastValues, CanFollow, change_arrives}
use Rattle.vcd_part.proofs.laws.states.PartChanges.{last_again, can_again}
use Rattle.vcd_part.proofs.laws.states.PartStamps.{stamp_arrives, first_tick_leads}

module _ (r : Request) (w : TickRange) (words : List (List ℕ)) where
  -- items lead to the end of the part
  pub record Ends (start : ParseState) (items : List Item) (s : ParseState) : Type 0 where
    pub more : List ValueChange
    pub leads : Reaches start items (in_part r words s more (min w.last s.tick - w.first))
    pub same : SameValues r w s more
    pub one : HasOneStatus s.declared

module _ (r : Request) (w : TickRange) (order : IsInOrder w) (words : List (List ℕ)) where
  -- ---- one piece

  module _ (before : List Piece) (s : ParseState) (vs : List ValueChange) (n : ℕ)
      (follows : Follows r w before s vs n) where
    abbrev here : ParseState
    here = in_part r words s vs n

    abbrev piece : Item → (space body : List ℕ) → Piece
    piece i space body = record { item = i; space = space; body = body }

    abbrev Step : Item → (space body : List ℕ) → Type 0
    Step i space body = Arrives r w words here (piece_items (pieces_after_state r s before (piece i space body)))
        (before ++ piece i space body ∷ []) (state_after_item s i)

    -- what is amended has the pieces of the body
    body_is : (p : Piece) → may_be_amended p.item ≡ true
        → pieces_after_state r s before p ≡ body_in_part r s before p p.item (Ok w)
    body_is p amended = ap (λ (b : Bool). if not b then p ∷ [] else (if s.in_body then body_in_part r s before p
        p.item (decide r s.timescale s.declared) else declaration_in_part r s p p.item)) amended ∙ ap (λ (b : Bool).
        if b then body_in_part r s before p p.item (decide r s.timescale s.declared) else declaration_in_part r s p
        p.item) follows.in_body ∙ ap (λ (o : Result TickRange Refusal). body_in_part r s before p p.item o)
        follows.decided

    arrives_as : (xs ys before : List Piece) (t : ParseState) → ys ≡ xs
        → Arrives r w words here (piece_items xs) before t
        → Arrives r w words here (piece_items ys) before t
    arrives_as xs ys before t same arrives =
        subst (λ (l : List Piece). Arrives r w words here (piece_items l) before t) (sym same) arrives

    still : (i : Item) (space body : List ℕ) → Allows s i → Allows here i → state_after_item here i ≡ here
        → state_after_item s i ≡ s → Arrives r w words here (i ∷ []) (before ++ piece i space body ∷ []) s
    still i space body allows stands same stays = record {
      value_changes = vs;
      tick = n;
      leads = reaches_one here here i stands same;
      follows = record {
        in_body = follows.in_body;
        decided = follows.decided;
        one = follows.one;
        tick = follows.tick;
        none = follows.none;
        same = follows.same;
        last = subst (λ (x : ParseState). LastValues r w (before ++ piece i space body ∷ []) (at s
            x.value_changes s.tick)) stays (last_again r w before s (piece i space body) allows
            follows.last);
        can = subst (λ (x : ParseState). CanFollow r w (before ++ piece i space body ∷ []) (at s
            x.value_changes s.tick)) stays (can_again r w before s (piece i space body) allows
            follows.can);
      };
    }

    step : (i : Item) (space body : List ℕ) → Allows s i → Step i space body
    step (entry kind ws) space body allows = absurd (no_body s.in_body _ allows.0 follows.in_body)
    step (timescale ws) space body allows = absurd (no_body s.in_body _ allows.0 follows.in_body)
    step (scope kind ws) space body allows = absurd (no_body s.in_body _ allows.0 follows.in_body)
    step upscope space body allows = absurd (no_body s.in_body _ allows.0 follows.in_body)
    step (variable ws) space body allows = absurd (no_body s.in_body _ allows.0 follows.in_body)
    step end_definitions space body allows = absurd (no_end s.in_body allows.0 follows.in_body)
    step (stamp digits) space body allows =
        let p : Piece = piece (stamp digits) space body in
        arrives_as (stamp_pieces r w s before p (number_of digits)) (pieces_after_state r s before p) (before ++ p ∷
        []) (state_after_item s (stamp digits)) (body_is p refl) (stamp_arrives r w order words before s vs n follows
        digits space body allows)
    step (scalar digit code) space body allows =
        let p : Piece = piece (scalar digit code) space body in
        arrives_as (change_in_part r w s p code) (pieces_after_state r s before p) (before ++ p ∷ [])
        (state_after_item s (scalar digit code)) (body_is p refl) (change_arrives r w words before s vs n p code
        allows refl follows)
    step (vector first digits code) space body allows =
        let p : Piece = piece (vector first digits code) space body in
        arrives_as (change_in_part r w s p code) (pieces_after_state r s before p) (before ++ p ∷ [])
        (state_after_item s (vector first digits code)) (body_is p refl) (change_arrives r w words before s vs n
        p code allows refl follows)
    step (real_or_string first text code) space body allows =
        let p : Piece = piece (real_or_string first text code) space body in
        arrives_as (change_in_part r w s p code) (pieces_after_state r s before p) (before ++ p ∷ [])
        (state_after_item s (real_or_string first text code)) (body_is p refl) (change_arrives r w words before s
        vs n p code allows refl follows)
    step (dump_word word) space body allows = still (dump_word word) space body allows allows refl refl
    step (other word ws) space body allows = still (other word ws) space body allows allows refl refl

  -- ---- all pieces

  ended : (before : List Piece) (s : ParseState) (vs : List ValueChange) (n : ℕ)
      → Follows r w before s vs n → state_of_pieces 0 before ≡ without_limit s
      → Ends r w words (in_part r words s vs n) (piece_items (pieces_at_end r before)) s
  ended before s vs n follows is = subst (λ (l : List Piece). Ends r w words (in_part r words s vs n) (piece_items l)
      s) (sym (ap
      (λ (x : ParseState). ended_pieces r x before (decide r x.timescale x.declared)) is ∙ ap (λ (o : Result TickRange
      Refusal). ended_pieces r s before o) follows.decided)) (by_test (is_up_to_first w s.tick) refl)
    where
      to_end : (more : List ValueChange) (items : List Item)
          → Reaches (in_part r words s vs n) items (in_part r words s more n)
          → Reaches (in_part r words s vs n) items (in_part r words s more (min w.last s.tick - w.first))
      to_end more items leads = subst (λ (k : ℕ). Reaches (in_part r words s vs n) items (in_part r words s more k))
          follows.tick leads

      by_test : (b : Bool) → is_up_to_first w s.tick ≡ b
          → Ends r w words (in_part r words s vs n) (piece_items (if b then first_pieces r s.declared before else [])) s
      by_test true upto =
          let first = first_tick_leads r w order words before s vs n follows upto in
          record {
            more = first.more;
            leads = to_end first.more (piece_items (first_pieces r s.declared before)) first.leads;
            same = first.same;
            one = follows.one;
          }
      by_test false past = record {
        more = vs;
        leads = to_end vs [] (reaches_none (in_part r words s vs n));
        same = follows.same past;
        one = follows.one;
      }

  pub body_leads : (before ps : List Piece) (s : ParseState) (vs : List ValueChange) (n : ℕ)
      → Follows r w before s vs n → state_of_pieces 0 before ≡ without_limit s
      → AllowsAll s (piece_items ps)
      → Ends r w words (in_part r words s vs n) (piece_items (part_after r before ps)) (state_after s (piece_items ps))
  unfolding part_after
  body_leads before [] s vs n follows is allows = ended before s vs n follows is
  body_leads before (p ∷ ps) s vs n follows is allows =
      let here = step before s vs n follows p.item p.space p.body allows.0 in
      let next = body_leads (before ++ p ∷ []) ps (state_after_item s p.item) here.value_changes here.tick here.follows
      (next_state before p s is) allows.1 in
      let first : List Piece = pieces_after_state r s before p in
      let rest : List Piece = part_after r (before ++ p ∷ []) ps in
      record {
        more = next.more;
        leads = subst (λ (l : List Item). Reaches (in_part r words s vs n) l (in_part r words (state_after s
            (piece_items (p ∷ ps))) next.more (min w.last (state_after s (piece_items (p ∷ ps))).tick - w.first))) (sym
            (ap (λ (x : ParseState). piece_items (pieces_after_state r x before p ++ rest)) is ∙ map-append (λ (p :
            Piece). p.item) first rest)) (reaches_both _ _ _ (piece_items first) (piece_items rest) here.leads
            next.leads);
        same = next.same;
        one = next.one;
      }
