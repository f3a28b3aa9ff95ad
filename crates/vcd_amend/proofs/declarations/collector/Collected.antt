-- What one more item of a file adds to what was collected, and the first pieces, which end the declarations.
use Rattle.std.proofs.Common.{◌≡◌, ◌∙◌, ℕ, List, [], ◌∷◌, ◌++◌, map, refl, sym, ap, subst, ◌⊎◌, inl, inr, Bool, true}
use Rattle.std.proofs.Common.{false, not, ◌&&◌}
use Rattle.std.specs.Prelude.{IsTrue, option_to_list, Some}
use Rattle.std.proofs.lemmas.List.{map-append}
use Rattle.std.proofs.lemmas.Bool.{false≢true}
use Rattle.vcd_core.specs.Decimal.{is_number, number_of}
use Rattle.vcd_core.specs.declared.capture.ScopeName.{ScopeName}
use Rattle.vcd_text.specs.Words.{words_of}
use Rattle.vcd_text.specs.Items.{Item, entry, timescale, scope, upscope, variable, end_definitions, stamp, scalar}
use Rattle.vcd_text.specs.Items.{vector, real_or_string, dump_word, other, spelling}
use Rattle.vcd_text.specs.Grammar.{ParseState, VariableDeclaration, initial_state, declaration_of, Allows, AllowsAll}
use Rattle.vcd_text.specs.Grammar.{state_after, state_after_item, word_texts, Accepts, fits}
use Rattle.vcd_copy.specs.Pieces.{Piece, state_of_pieces}
use Rattle.vcd_copy.specs.Copied.{IsTakenNext, piece_items, IsTold}
use Rattle.vcd_copy.specs.declared.copying.amender.AmendableItem.{AmendableItem}
use Rattle.vcd_copy.specs.declared.copying.amender.AmendableItem.TheVariants as shown
use Rattle.vcd_copy.specs.VariableWords.{IsVariable}
use Rattle.vcd_copy.proofs.shared.StatesOfPieces.{last_allowed, one_more, at_any_limit}
use Rattle.vcd_text.proofs.shared.DeclaringWords.{declares}
use Rattle.vcd_copy.proofs.shared.SpelledItems.{first_items}
use Rattle.vcd_amend.specs.DeclaredVariables.{declaration_of_variable}
use Rattle.vcd_amend.specs.inside.declarations.Collector.{HasCollected}
use Rattle.vcd_amend.specs.declared.declarations.collector.Collector.{Collector}

-- ==== what one more item of a file adds to what was collected

-- a `$var` comes after these pieces, while these scopes are open
pub record NextVariable (before : List Piece) (p : Piece) (scopes : List ScopeName) (body : List ℕ) : Type 0 where
  pub kind : List ℕ
  pub size : List ℕ
  pub code : List ℕ
  pub names : List (List ℕ)
  pub item_is : p.item ≡ variable (kind ∷ size ∷ code ∷ names)
  pub declares : (c : ParseState) → state_after_item c (variable (kind ∷ size ∷ code ∷ names)) ≡ record c {
    declared = c.declared ++ record {
      scopes = c.scopes;
      kind = kind;
      size = number_of size;
      code = code;
      words = names;
    } ∷ [];
  }
  pub finds : (c : ParseState) → declaration_of c (kind ∷ size ∷ code ∷ names) ≡ Some (record {
    scopes = c.scopes;
    kind = kind;
    size = number_of size;
    code = code;
    words = names;
  })
  pub is_variable : IsVariable body kind size code names
  pub number : IsTrue (is_number size)
  pub known : (state_of_pieces 0 before).scopes ≡ scopes
  pub declared : (state_of_pieces 0 (before ++ p ∷ [])).declared ≡ (state_of_pieces 0 before).declared ++ record {
    scopes = scopes;
    kind = kind;
    size = number_of size;
    code = code;
    words = names;
  } ∷ []
  pub opened : scopes ≡ (state_of_pieces 0 (before ++ p ∷ [])).scopes
  pub in_body : (state_of_pieces 0 before).in_body ≡ (state_of_pieces 0 (before ++ p ∷ [])).in_body

abbrev with_scopes : List ScopeName → (kind size code : List ℕ) → (names : List (List ℕ)) → VariableDeclaration
with_scopes scopes kind size code names =
    record { scopes = scopes; kind = kind; size = number_of size; code = code; words = names }

pub next_variable : (limit : ℕ) (before : List Piece) (p : Piece) (item : AmendableItem) (code : List ℕ)
    (scopes : List ScopeName) (space body : List ℕ) → IsTakenNext limit before p item code scopes space body
    → item ≡ shown.Variable → NextVariable before p scopes body
next_variable limit before p item code scopes space body taken is =
    let (words, item_is) = rw is at taken.shown.shows in
    let allowed : Allows (state_of_pieces limit before) (variable words) = subst (Allows (state_of_pieces limit before))
    item_is (last_allowed (initial_state limit) (piece_items before) p.item (subst (AllowsAll (initial_state limit))
    (map-append (λ (p : Piece). p.item) before (p ∷ [])) taken.shown.next.allowed)) in
    let d = declares (state_of_pieces limit before) words allowed in
    let known : (state_of_pieces 0 before).scopes ≡ scopes = sym (ap (λ (c : ParseState). c.scopes)
    (at_any_limit limit before)) ∙ sym taken.scopes_are in
    let after : state_of_pieces 0 (before ++ p ∷ []) ≡ state_after_item (state_of_pieces 0 before) (variable words) =
    one_more 0 before p ∙ ap (state_after_item (state_of_pieces 0 before)) item_is in
    record {
      kind = d.kind;
      size = d.size;
      code = d.code;
      names = d.names;
      item_is = item_is ∙ ap variable d.words_are;
      declares = λ c. ap (λ l. record c { declared = c.declared ++ option_to_list l })
          (ap (declaration_of c) (sym d.words_are) ∙ d.finds c);
      finds = λ c. ap (declaration_of c) (sym d.words_are) ∙ d.finds c;
      is_variable = record {
        spelled = ap (λ l. word_texts (words_of l)) (sym taken.shown.next.body_is) ∙ taken.shown.next.spelled
            ∙ ap spelling item_is ∙ ap (λ ws. spelling (variable ws)) d.words_are;
      };
      number = d.number;
      known = known;
      declared = ap (λ (c : ParseState). c.declared) after ∙ ap (λ l. (state_of_pieces 0 before).declared ++ l)
          (ap option_to_list (d.finds (state_of_pieces 0 before))
          ∙ ap (λ (s : List ScopeName). with_scopes s d.kind d.size d.code d.names ∷ []) known);
      opened = sym known ∙ ap (λ (c : ParseState). c.scopes) (sym after);
      in_body = ap (λ (c : ParseState). c.in_body) (sym after);
    }

-- ==== the variables of a file are those of its first pieces, once these have ended the declarations

after_both : (c : ParseState) (is js : List Item) → state_after c (is ++ js) ≡ state_after (state_after c is) js
after_both c [] js = refl
after_both c (i ∷ is) js = after_both (state_after_item c i) is js

-- ---- after the declarations

never : {A : Type 0} (b rest : Bool) → IsTrue b → IsTrue (not b && rest) → A
never true rest is fit = absurd (false≢true fit)
never false rest is fit = absurd (false≢true is)

-- an item of the changes declares nothing
body_item : (c : ParseState) (i : Item) → IsTrue c.in_body → IsTrue (fits c i)
    → ((state_after_item c i).declared ≡ c.declared) × IsTrue (state_after_item c i).in_body
body_item c (entry kind words) is fit = never c.in_body _ is fit
body_item c (timescale words) is fit = never c.in_body _ is fit
body_item c (scope kind words) is fit = never c.in_body _ is fit
body_item c upscope is fit = never c.in_body _ is fit
body_item c (variable words) is fit = never c.in_body _ is fit
body_item c end_definitions is fit = (refl, refl)
body_item c (stamp digits) is fit = (refl, is)
body_item c (scalar digit code) is fit = (refl, is)
body_item c (vector first digits code) is fit = (refl, is)
body_item c (real_or_string first text code) is fit = (refl, is)
body_item c (dump_word word) is fit = (refl, is)
body_item c (other word words) is fit = (refl, is)

body_items : (c : ParseState) (is : List Item) → IsTrue c.in_body → AllowsAll c is
    → (state_after c is).declared ≡ c.declared
body_items c [] in_body allowed = refl
body_items c (i ∷ is) in_body allowed =
    let (same, still) = body_item c i in_body allowed.0.0 in
    body_items (state_after_item c i) is still allowed.1 ∙ same

-- ---- all variables

pub all_declared : (limit : ℕ) (m : Collector) (file : List ℕ) (state : ParseState)
    → IsTold limit m.is_done (λ pieces. HasCollected m pieces ⊎ HasCollected m pieces) file
    → Accepts limit (words_of file) state → map declaration_of_variable m.declared.items ≡ state.declared
all_declared limit m file state t a =
    let h : HasCollected m t.pieces = elim t.is_told [
      | inl h ↦ h
      | inr h ↦ h
    ] in
    let (rest, split, words, allowed) = first_items (initial_state limit) (piece_items t.pieces) a.items t.later
    (sym t.words ∙ a.spelled) t.allowed a.allowed in
    h.declared ∙ sym (ap (λ (c : ParseState). c.declared) (at_any_limit limit t.pieces))
    ∙ sym (body_items (state_of_pieces limit t.pieces) rest (ended m.is_done refl h) allowed)
    ∙ ap (λ (c : ParseState). c.declared) (sym (after_both (initial_state limit) (piece_items t.pieces) rest)
    ∙ ap (state_after (initial_state limit)) (sym split) ∙ a.state_is)
  where
    ended : (done : Bool) → m.is_done ≡ done → HasCollected m t.pieces
        → IsTrue (state_of_pieces limit t.pieces).in_body
    ended true is h = ap (λ (c : ParseState). c.in_body) (at_any_limit limit t.pieces) ∙ sym h.done ∙ is
    ended false is h = (t.all is).1
