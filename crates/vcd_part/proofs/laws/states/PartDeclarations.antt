-- The pieces in the place of the declarations of a file lead to the state of the part.
use Rattle.std.proofs.Common.{◌≡◌, ℕ, ◌≤◌, ◌+◌, ◌∙◌, Bool, true, false, not, ◌&&◌, ◌||◌, List, [], ◌∷◌, ◌++◌}
use Rattle.std.proofs.Common.{refl, ap, sym, subst, if◌then◌else◌, Option, Some, None, arith, length, nat_lt}
use Rattle.std.specs.Prelude.{filter, Result, Ok, option_to_list}
use Rattle.std.specs.List.{list_any}
use Rattle.std.proofs.lemmas.Bool.{false≢true, ltb-true, lt-ltb}
use Rattle.std.proofs.lemmas.List.{append-nil}
use Rattle.std.proofs.lemmas.List.Elements.{filter-append}
use Rattle.vcd_core.specs.Tests.{◌unless◌, first_fault}
use Rattle.vcd_core.specs.declared.capture.HeaderKind.TheVariants.{Comment}
use Rattle.vcd_text.specs.declared.fault.Fault.TheVariants.{BadVar, MixedCode, TooManySignals}
use Rattle.vcd_text.specs.Items.{Item, entry, timescale, scope, upscope, variable, end_definitions, stamp, scalar}
use Rattle.vcd_text.specs.Items.{vector, real_or_string, dump_word, other}
use Rattle.vcd_text.specs.Grammar.{ParseState, VariableDeclaration, Allows, state_after_item, is_skipped}
use Rattle.vcd_text.specs.Grammar.{declaration_of, variable_of, may_have_code, variable_tests, kept_variables}
use Rattle.vcd_copy.specs.Pieces.{Piece}
use Rattle.vcd_copy.specs.Copied.{piece_items}
use Rattle.vcd_text.specs.declared.reading.choice.TickRange.{TickRange}
use Rattle.vcd_text.proofs.shared.ItemTests.{passes, passed, allows_entry, allows_end_definitions}
use Rattle.vcd_text.proofs.shared.ItemsInTurn.{Reaches, reaches_none, reaches_one, reaches_same}
use Rattle.vcd_part.specs.declared.request.Request.{Request}
use Rattle.vcd_part.specs.declared.request.Refusal.{Refusal}
use Rattle.vcd_part.specs.Requests.{keeps, decide}
use Rattle.vcd_part.specs.PartPieces.{is_change_of, last_such, pieces_after_state, declaration_in_part, ended_in_part}
use Rattle.vcd_part.specs.PartPieces.{body_in_part, comment_words, kept_count, all_count, comment_piece, on_own_line}
use Rattle.vcd_part.proofs.laws.signals.SameStatus.{HasOneStatus, first_of, status_with, may_follow, in_filter}
use Rattle.vcd_part.proofs.laws.signals.SameStatus.{in_first, in_last}
use Rattle.vcd_part.proofs.laws.states.Windows.{IsInOrder}
use Rattle.vcd_part.proofs.laws.signals.SignalValues.{value, last_with, of_last}
use Rattle.vcd_core.specs.Value.{all_x}
use Rattle.vcd_part.proofs.laws.states.PartStates.{among, in_part}
use Rattle.vcd_part.proofs.laws.states.PartChanges.{Follows}
use Rattle.vcd_part.proofs.laws.states.FirstPieces.{none_yet}
use Rattle.vcd_part.proofs.laws.states.CommentWords.{no_end_word}

-- among the declarations there is no change yet
pub record IsHeader (before : List Piece) (s : ParseState) : Type 0 where
  pub in_header : s.in_body ≡ false
  pub one : HasOneStatus s.declared
  pub no_changes : s.value_changes ≡ []
  pub start : s.tick ≡ 0
  pub none : (ds : List VariableDeclaration) (code : List ℕ) → last_such (is_change_of ds code) before ≡ None

in_no_header : (b c : Bool) → (b && c) ≡ true → b ≡ false → ⊥
in_no_header true c fits header = false≢true (sym header)
in_no_header false c fits header = false≢true fits

-- no more variables are kept than there are
fewer : (test : VariableDeclaration → Bool) (ds : List VariableDeclaration)
    → length (kept_variables (filter test ds)) ≤ length (kept_variables ds)
fewer test [] = omega arith
fewer test (d ∷ ds) = by_tests (test d) (is_skipped d) refl (fewer test ds)
  where
    by_tests : (x y : Bool) → is_skipped d ≡ y → length (kept_variables (filter test ds)) ≤ length (kept_variables ds)
        → length (kept_variables (if x then d ∷ filter test ds else filter test ds))
        ≤ length (if not y then d ∷ kept_variables ds else kept_variables ds)
    by_tests true true skipped rest = rw skipped rest
    by_tests true false skipped rest = rw skipped (omega (arith, rest))
    by_tests false true skipped rest = rest
    by_tests false false skipped rest = omega (arith, rest)

module _ (r : Request) where
  -- pieces lead on among the declarations
  pub record LeadsOn (start : ParseState) (items : List Item) (before : List Piece) (s : ParseState) : Type 0 where
    pub leads : Reaches start items (among r s)
    pub header : IsHeader before s

  module _ (before : List Piece) (s : ParseState) (is : IsHeader before s) where
    abbrev piece : Item → (space body : List ℕ) → Piece
    piece i space body = record { item = i; space = space; body = body }

    abbrev none_with : (p : Piece) → ((ds : List VariableDeclaration) (code : List ℕ)
        → is_change_of ds code p.item ≡ false) → (ds : List VariableDeclaration) (code : List ℕ)
        → last_such (is_change_of ds code) (before ++ p ∷ []) ≡ None
    none_with p never ds code = last_with (is_change_of ds code) before p ∙ ap (λ b. if b then Some p else last_such
        (is_change_of ds code) before) (never ds code) ∙ is.none ds code

    -- a variable

    module _ (ws : List (List ℕ)) (space body : List ℕ) (allows : Allows s (variable ws)) where
      abbrev p : Piece
      p = piece (variable ws) space body

      none_declared : declaration_of s ws ≡ None → ⊥
      none_declared gives = false≢true (passed BadVar false [] (subst (λ o. first_fault (variable_tests s o) ≡ None)
          gives allows.1)).0

      module _ (d : VariableDeclaration) (gives : declaration_of s ws ≡ Some d) where
        abbrev more : List VariableDeclaration
        more = s.declared ++ d ∷ []

        may : (may_have_code (variable_of s d.code) d ≡ true)
            × ((is_skipped d || nat_lt (length (kept_variables s.declared)) s.limit) ≡ true)
        may =
            let mixed = passed MixedCode (may_have_code (variable_of s d.code) d) ((TooManySignals unless (is_skipped d
            || nat_lt (length (kept_variables s.declared)) s.limit)) ∷ []) (subst (λ o. first_fault (variable_tests s
            o) ≡ None) gives allows.1) in (
              mixed.0,
              (passed TooManySignals (is_skipped d || nat_lt (length (kept_variables s.declared)) s.limit) []
                  mixed.1).0,
            )

        one_more_status : HasOneStatus more
        one_more_status = status_with s.declared d is.one may.0

        may_again : may_have_code (first_of d.code (filter (keeps r) s.declared)) d ≡ true
        may_again = may_follow (filter (keeps r) s.declared) d (λ a a_in same. one_more_status a d (in_first a
            s.declared
            (d ∷ []) (in_filter (keeps r) a s.declared a_in).0) (in_last d s.declared) same)

        few_again : (is_skipped d || nat_lt (length (kept_variables (filter (keeps r) s.declared))) s.limit) ≡ true
        few_again = by_test (is_skipped d) may.1
          where
            by_test : (b : Bool) → (b || nat_lt (length (kept_variables s.declared)) s.limit) ≡ true
                → (b || nat_lt (length (kept_variables (filter (keeps r) s.declared))) s.limit) ≡ true
            by_test true few = refl
            by_test false few =
                let less = ltb-true (length (kept_variables s.declared)) s.limit few in
                lt-ltb _ s.limit (omega (arith, less, fewer (keeps r) s.declared))

        abbrev Declares : Bool → Type 0
        Declares kept = LeadsOn (among r s) (piece_items (if kept || false then p ∷ [] else [])) (before ++ p ∷ [])
            (record s { declared = more })

        header_more : IsHeader (before ++ p ∷ []) (record s { declared = more })
        header_more = record {
          in_header = is.in_header;
          one = one_more_status;
          no_changes = is.no_changes;
          start = is.start;
          none = none_with p (λ ds code. refl);
        }

        by_test : (b : Bool) → keeps r d ≡ b → Declares b
        by_test true kept = record {
          leads = reaches_one (among r s) _ (variable ws) (
            allows.0,
            ap (λ o. first_fault (variable_tests (among r s) o)) gives ∙ passes MixedCode (may_have_code
                (first_of d.code (filter (keeps r) s.declared)) d) ((TooManySignals unless (is_skipped d || nat_lt
                (length (kept_variables (filter (keeps r) s.declared))) s.limit)) ∷ []) may_again (passes TooManySignals
                _ [] few_again refl),
          ) (ap (λ (l : List VariableDeclaration). record s { declared = l }) (ap (λ o. filter (keeps r) s.declared
              ++ option_to_list o) gives ∙ sym (filter-append (keeps r) s.declared (d ∷ []) ∙ ap (λ b. filter (keeps r)
              s.declared ++ (if b then d ∷ [] else [])) kept)));
          header = header_more;
        }
        by_test false kept = record {
          leads = reaches_same (among r s) _ _ [] (reaches_none (among r s)) (ap (λ (l : List VariableDeclaration).
              record
              s { declared = l }) (sym (filter-append (keeps r) s.declared (d ∷ []) ∙ ap (λ b. filter (keeps r)
              s.declared ++ (if b then d ∷ [] else [])) kept ∙ append-nil (filter (keeps r) s.declared))));
          header = header_more;
        }

      by_declared : (o : Option VariableDeclaration) → declaration_of s ws ≡ o
          → LeadsOn (among r s) (piece_items (if list_any (keeps r) (option_to_list o) then p ∷ [] else []))
          (before ++ p ∷ []) (record s { declared = s.declared ++ option_to_list o })
      by_declared None gives = absurd (none_declared gives)
      by_declared (Some d) gives = by_test d gives (keeps r d) refl

      variable_leads : LeadsOn (among r s) (piece_items (pieces_after_state r s before p)) (before ++ p ∷ [])
          (state_after_item s (variable ws))
      variable_leads = subst (λ (b : Bool). LeadsOn (among r s) (piece_items (if b then body_in_part r s before p
          (variable ws) (decide r s.timescale s.declared) else declaration_in_part r s p (variable ws))) (before ++ p ∷
          []) (state_after_item s (variable ws))) (sym is.in_header) (by_declared (declaration_of s ws) refl)

    -- ---- one piece before the end of the declarations

    stands : (i : Item) (space body : List ℕ) → Allows (among r s) i
        → state_after_item (among r s) i ≡ among r (state_after_item s i)
        → (state_after_item s i).in_body ≡ s.in_body → (state_after_item s i).declared ≡ s.declared
        → (state_after_item s i).value_changes ≡ s.value_changes → (state_after_item s i).tick ≡ s.tick
        → ((ds : List VariableDeclaration) (code : List ℕ) → is_change_of ds code i ≡ false)
        → LeadsOn (among r s) (i ∷ []) (before ++ piece i space body ∷ []) (state_after_item s i)
    stands i space body allows state body_is declared values tick never = record {
      leads = reaches_one (among r s) _ i allows state;
      header = record {
        in_header = body_is ∙ is.in_header;
        one = subst HasOneStatus (sym declared) is.one;
        no_changes = values ∙ is.no_changes;
        start = tick ∙ is.start;
        none = none_with (piece i space body) never;
      };
    }

    pub header_leads : (i : Item) (space body : List ℕ) → (state_after_item s i).in_body ≡ false → Allows s i
        → LeadsOn (among r s) (piece_items (pieces_after_state r s before (piece i space body)))
        (before ++ piece i space body ∷ []) (state_after_item s i)
    header_leads (entry kind ws) space body header allows =
        stands (entry kind ws) space body allows refl refl refl refl refl (λ ds code. refl)
    header_leads (timescale ws) space body header allows =
        stands (timescale ws) space body allows refl refl refl refl refl (λ ds code. refl)
    header_leads (scope kind ws) space body header allows =
        stands (scope kind ws) space body allows refl refl refl refl refl (λ ds code. refl)
    header_leads upscope space body header allows =
        stands upscope space body allows refl refl refl refl refl (λ ds code. refl)
    header_leads (variable ws) space body header allows = variable_leads ws space body allows
    header_leads end_definitions space body header allows = absurd (false≢true (sym header))
    header_leads (stamp digits) space body header allows = absurd (false≢true (sym is.in_header ∙ allows.0))
    header_leads (scalar digit code) space body header allows =
        absurd (in_no_header s.in_body _ allows.0 is.in_header)
    header_leads (vector first digits code) space body header allows =
        absurd (in_no_header s.in_body _ allows.0 is.in_header)
    header_leads (real_or_string first text code) space body header allows =
        absurd (in_no_header s.in_body _ allows.0 is.in_header)
    header_leads (dump_word word) space body header allows =
        absurd (in_no_header s.in_body _ allows.0 is.in_header)
    header_leads (other word ws) space body header allows =
        stands (other word ws) space body allows refl refl refl refl refl (λ ds code. refl)

    -- ---- the end of the declarations

    module _ (w : TickRange) (order : IsInOrder w) (decided : decide r s.timescale s.declared ≡ Ok w)
        (space body : List ℕ) where
      abbrev words : List (List ℕ)
      words = comment_words w (kept_count r s.declared) (all_count s.declared)

      abbrev after : ParseState
      after = state_after_item s end_definitions

      pieces_are : pieces_after_state r s before (piece end_definitions space body)
          ≡ comment_piece w (kept_count r s.declared) (all_count s.declared) space ∷ on_own_line (piece end_definitions
          space body) ∷ []
      pieces_are = ap (λ (b : Bool). if b then body_in_part r s before (piece end_definitions space body)
          end_definitions
          (decide r s.timescale s.declared) else declaration_in_part r s (piece end_definitions space body)
          end_definitions) is.in_header ∙ ap (λ (o : Result TickRange Refusal). ended_in_part r s.declared (piece
          end_definitions space body) o) decided

      no_value : (d : VariableDeclaration) (u : ℕ) → value d s.value_changes u ≡ all_x d.size
      no_value d u = ap (λ l. value d l u) is.no_changes ∙ none_yet d u

      no_last : (code : List ℕ) (q : Piece) → last_such (is_change_of s.declared code) (before ++ piece end_definitions
          space body ∷ []) ≡ Some q → ⊥
      no_last code q last =
          let none : last_such (is_change_of s.declared code) (before ++ piece end_definitions space body ∷ []) ≡ None =
          none_with (piece end_definitions space body) (λ ds code. refl) s.declared code in
          let same : None ≡ Some q = sym none ∙ last in
          absurd (cc)

      pub record StartsBody : Type 0 where
        pub leads : Reaches (among r s) (piece_items (pieces_after_state r s before (piece end_definitions space body)))
            (in_part r words after [] 0)
        pub follows : Follows r w (before ++ piece end_definitions space body ∷ []) after [] 0

      pub body_starts : StartsBody
      body_starts = record {
        leads = subst (λ (l : List Piece). Reaches (among r s) (piece_items l) (in_part r words after [] 0)) (sym
            pieces_are) (record {
              allowed = (
                allows_entry (among r s) Comment words is.in_header (no_end_word w order (length (filter (keeps r)
                    s.declared)) (length s.declared)),
                (allows_end_definitions (state_after_item (among r s) (entry Comment words)) is.in_header, tt),
              );
              state_is = λ i. in_part r words after (is.no_changes i) (is.start i);
            });
        follows = record {
          in_body = refl;
          decided = decided;
          one = is.one;
          tick = omega (arith, is.start);
          none = λ upto. refl;
          same = λ past d kept t upto. none_yet d t ∙ sym (no_value d (w.first + t));
          last = λ d kept u later. no_value d u ∙ ap (of_last d) (sym (none_with (piece end_definitions space body) (λ
              ds code. refl) s.declared d.code));
          can = λ code q last. absurd (no_last code q last);
        };
      }
