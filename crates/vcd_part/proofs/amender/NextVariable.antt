-- A `$var` comes next.
use Rattle.std.proofs.Common.{◌≡◌, ◌∙◌, ℕ, Bool, true, false, List, [], ◌∷◌, ◌++◌, refl, sym, ap, Some, None}
use Rattle.std.proofs.Common.{Option, if◌then◌else◌, subst, ◌||◌}
use Rattle.std.specs.Prelude.{option_to_list}
use Rattle.std.specs.List.{list_any}
use Rattle.vcd_core.specs.declared.capture.ScopeName.{ScopeName}
use Rattle.vcd_text.specs.Words.{words_of}
use Rattle.vcd_text.specs.Items.{Item}
use Rattle.vcd_text.specs.Grammar.{ParseState, VariableDeclaration, Allows, state_after_item, word_texts}
use Rattle.vcd_copy.specs.Pieces.{Piece, state_of_pieces}
use Rattle.vcd_copy.specs.Copied.{IsTakenNext, may_be_amended}
use Rattle.vcd_copy.specs.declared.copying.amender.AmendableItem.TheVariants as shown
use Rattle.vcd_part.specs.declared.request.Request.{Request}
use Rattle.vcd_part.specs.declared.amender.PartAmender.{PartAmender}
use Rattle.vcd_part.specs.declared.choice.VariableChoice.{VariableChoice}
use Rattle.vcd_part.specs.declared.code_uses.CodeUses.{CodeUses}
use Rattle.vcd_part.specs.Requests.{keeps, decide}
use Rattle.vcd_part.specs.PartPieces.{pieces_of_step, declaration_in_part}
use Rattle.vcd_copy.specs.Pieces.{piece_bytes}
use Rattle.vcd_part.specs.inside.Choice.{HasNoted}
use Rattle.vcd_part.specs.inside.CodeUses.{AreUses, HoldLast}
use Rattle.vcd_part.specs.inside.PartAmender.{Knows, window_of, refusal_of}
use Rattle.vcd_copy.proofs.shared.StatesOfPieces.{at_limit, at_any_limit}
use Rattle.vcd_text.proofs.shared.DeclaringWords.{declared_in}
use Rattle.vcd_part.proofs.amender.States.{VariableItem, variable_item, next_allowed, next_some, variable_before_body}
use Rattle.vcd_part.proofs.amender.LastChanges.{all_more}
use Rattle.vcd_part.proofs.amender.Steps.{seen_more}
use Rattle.vcd_part.proofs.amender.Decided.{pieces_in_declarations, stands_if}
use Rattle.vcd_part.proofs.amender.Ended.{no_window_before, no_refusal_before}

-- what it declares
abbrev pub declared_by : ParseState → {i : Item} → {body : List ℕ} → VariableItem i body → VariableDeclaration
declared_by s v = declared_in s v.kind v.size v.code v.names

any_one : (r : Request) (d : VariableDeclaration) → list_any (keeps r) (d ∷ []) ≡ keeps r d
any_one r d = by_test (keeps r d)
  where
    by_test : (b : Bool) → (b || false) ≡ b
    by_test true = refl
    by_test false = refl

module _ (limit : ℕ) (before : List Piece) (p : Piece) (code : List ℕ) (scopes : List ScopeName) (space body : List ℕ)
    (taken : IsTakenNext limit before p shown.Variable code scopes space body) where
  allowed : Allows (at_limit limit (state_of_pieces 0 before)) p.item
  allowed = next_allowed limit before p space body taken.shown.next

  -- its words
  pub words_next : VariableItem p.item body
  words_next = variable_item (at_limit limit (state_of_pieces 0 before)) p.item taken.shown.shows.0 body
      taken.shown.shows.1 allowed
      (ap (λ l. word_texts (words_of l)) (sym taken.shown.next.body_is) ∙ taken.shown.next.spelled)

  pub same_scopes : (state_of_pieces 0 before).scopes ≡ scopes
  same_scopes = sym (taken.scopes_are ∙ ap (λ (s : ParseState). s.scopes) (at_any_limit limit before))

  pub before_body : (state_of_pieces 0 before).in_body ≡ false
  before_body = variable_before_body (at_limit limit (state_of_pieces 0 before)) taken.shown.shows.0
      (subst (Allows (at_limit limit (state_of_pieces 0 before))) taken.shown.shows.1 allowed)

  -- the bytes in its place
  pub variable_bytes : (v : VariableItem p.item body) (r : Request) (is_kept : Bool)
      → is_kept ≡ keeps r (declared_by (state_of_pieces 0 before) v)
      → (if is_kept then space ++ body else []) ≡ piece_bytes (pieces_of_step r before p)
  variable_bytes v r is_kept same =
      let s : ParseState = state_of_pieces 0 before in
      let sp = sym taken.shown.next.space_is in
      let bo = sym taken.shown.next.body_is in
      (λ i. if is_kept then sp i ++ bo i else []) ∙ stands_if p is_kept
      ∙ ap (λ (b : Bool). piece_bytes (if b then p ∷ [] else [])) (same ∙ sym (any_one r (declared_by s v)))
      ∙ ap (λ (o : Option VariableDeclaration). piece_bytes (if list_any (keeps r) (option_to_list o) then p ∷ []
      else [])) (sym (v.declares s))
      ∙ ap piece_bytes (sym (pieces_in_declarations r before p (ap may_be_amended v.item_is) before_body
      ∙ ap (declaration_in_part r s p) v.item_is))

  -- once it is noted
  pub variable_seen : (v : VariableItem p.item body) (m : PartAmender) (choice : VariableChoice) (codes : CodeUses)
      → Knows m before
      → HasNoted choice m.request
      ((state_of_pieces 0 before).declared ++ declared_by (state_of_pieces 0 before) v ∷ [])
      → AreUses codes m.request
      ((state_of_pieces 0 before).declared ++ declared_by (state_of_pieces 0 before) v ∷ [])
      → ((state_of_pieces 0 before).in_body ≡ false → HoldLast codes m.request
      ((state_of_pieces 0 before).declared ++ declared_by (state_of_pieces 0 before) v ∷ []) [])
      → Knows (record m { choice = choice; codes = codes }) (before ++ p ∷ [])
  variable_seen v m choice codes seen noted uses none =
      let s : ParseState = state_of_pieces 0 before in
      let more : List VariableDeclaration = s.declared ++ declared_by s v ∷ [] in
      let none_yet = no_window_before m before seen before_body in
      seen_more (record m { choice = choice; codes = codes }) before p (record s { declared = more })
      (ap (state_after_item s) v.item_is ∙ ap (λ (o : Option VariableDeclaration). record s {
        declared = s.declared ++ option_to_list o;
      }) (v.declares s)) (record {
        noted = noted;
        uses = uses;
        window = none_yet ∙ sym (ap (λ (b : Bool). if b then window_of (decide m.request s.timescale more) else None)
            before_body);
        refusal = no_refusal_before m before seen before_body
            ∙ sym (ap (λ (b : Bool). if b then refusal_of (decide m.request s.timescale more) else None) before_body);
        tick = seen.tick;
        some = all_more before p seen.some (next_some limit before p space body taken.shown.next);
        holds_none = none;
        holds = λ w known up. let never : None ≡ Some w = sym none_yet ∙ known in absurd (cc);
      })
