-- The states of a file before and after a piece, and what an item that comes next says of them.
use Rattle.std.proofs.Common.{◌≡◌, ◌∙◌, ◌&&◌, ◌<◌, ◌≤◌, ℕ, Bool, true, false, not, List, [], ◌∷◌, ◌++◌, length}
use Rattle.std.proofs.Common.{refl, sym, ap, subst, Some, None, inl, inr, nat_le, arith}
use Rattle.std.proofs.lemmas.Bool.{and_parts, false≢true, cases_lt, lt-leb}
use Rattle.std.proofs.lemmas.List.{map-append}
use Rattle.vcd_core.specs.Decimal.{is_number, number_of}
use Rattle.vcd_core.specs.Tests.{◌unless◌, first_fault}
use Rattle.vcd_core.specs.declared.capture.TheConstants.{END_LIMIT}
use Rattle.vcd_text.specs.declared.fault.Fault.TheVariants.{BadTime, TimeBackwards}
use Rattle.vcd_text.specs.Words.{words_of}
use Rattle.vcd_text.specs.Items.{Item, entry, timescale, scope, upscope, variable, end_definitions, stamp, scalar}
use Rattle.vcd_text.specs.Items.{vector, real_or_string, dump_word, other, spelling}
use Rattle.vcd_text.specs.Grammar.{ParseState, initial_state, Allows, AllowsAll, item_tests}
use Rattle.vcd_text.specs.Grammar.{state_after, state_after_item, declaration_of, word_texts}
use Rattle.vcd_copy.specs.Pieces.{Piece, state_of_pieces}
use Rattle.vcd_copy.specs.Copied.{IsNext, piece_items}
use Rattle.vcd_copy.specs.VariableWords.{IsVariable}
use Rattle.vcd_copy.proofs.pieces.Cuts.{spelling_some}
use Rattle.vcd_copy.proofs.shared.StatesOfPieces.{last_allowed, first_allowed, at_limit, at_any_limit}
use Rattle.vcd_text.proofs.shared.DeclaringWords.{declared_in, declares}

-- ---- what comes next

items_split : (before : List Piece) (p : Piece) → piece_items (before ++ p ∷ []) ≡ piece_items before ++ p.item ∷ []
items_split before p = map-append (λ (q : Piece). q.item) before (p ∷ [])

-- the next item is allowed
pub next_allowed : (limit : ℕ) (before : List Piece) (p : Piece) (space body : List ℕ)
    → IsNext limit before p space body → Allows (at_limit limit (state_of_pieces 0 before)) p.item
next_allowed limit before p space body next = subst (λ (s : ParseState). Allows s p.item) (at_any_limit limit before)
    (last_allowed (initial_state limit) (piece_items before) p.item
    (subst (AllowsAll (initial_state limit)) (items_split before p) next.allowed))

-- and so are those before it
pub before_allowed : (limit : ℕ) (before : List Piece) (p : Piece) (space body : List ℕ)
    → IsNext limit before p space body → AllowsAll (initial_state limit) (piece_items before)
before_allowed limit before p space body next = first_allowed (initial_state limit) (piece_items before) p.item
    (subst (AllowsAll (initial_state limit)) (items_split before p) next.allowed)

-- a piece has a byte
pub next_some : (limit : ℕ) (before : List Piece) (p : Piece) (space body : List ℕ)
    → IsNext limit before p space body → 0 < length p.body
unfolding words_of
next_some limit before p space body next = some p.body next.spelled
  where
    some : (bytes : List ℕ) → word_texts (words_of bytes) ≡ spelling p.item → 0 < length bytes
    some [] is = let first = spelling_some p.item in
        let never : ◌≡◌ {A = List (List ℕ)} [] (first.0 ∷ first.1) = is ∙ first.2 in absurd (cc)
    some (b ∷ bytes) is = omega arith

-- ---- in which half of a file an item fits

not_true : (b : Bool) → not b ≡ true → b ≡ false
not_true true is = absurd (false≢true is)
not_true false is = refl

pub variable_before_body : (s : ParseState) (words : List (List ℕ)) → Allows s (variable words) → s.in_body ≡ false
variable_before_body s words allowed = not_true s.in_body (and_parts _ _ allowed.0).0

pub end_before_body : (s : ParseState) → Allows s end_definitions → s.in_body ≡ false
end_before_body s allowed = not_true s.in_body allowed.0

pub timescale_before_body : (s : ParseState) (words : List (List ℕ)) → Allows s (timescale words)
    → s.in_body ≡ false
timescale_before_body s words allowed = not_true s.in_body (and_parts _ _ allowed.0).0

pub stamp_in_body : (limit : ℕ) (before : List Piece) (p : Piece) (space body digits : List ℕ)
    → IsNext limit before p space body → p.item ≡ stamp digits → (state_of_pieces 0 before).in_body ≡ true
stamp_in_body limit before p space body digits next is =
    (subst (Allows (at_limit limit (state_of_pieces 0 before))) is (next_allowed limit before p space body next)).0

-- a stamp is not before the last one
pub later_stamp : (s : ParseState) (digits : List ℕ) → Allows s (stamp digits) → s.tick ≤ number_of digits
later_stamp s digits allowed = elim (cases_lt (number_of digits) s.tick) [
  | inl early ↦ absurd (never (lt-leb s.tick (number_of digits) early) allowed.1)
  | inr late ↦ late
]
  where
    by_tests : (a b : Bool) → b ≡ false
        → first_fault ((BadTime unless a) ∷ (TimeBackwards unless b) ∷ []) ≡ None → ⊥
    by_tests false b early none = cc
    by_tests true true early none = cc
    by_tests true false early none = cc

    never : nat_le s.tick (number_of digits) ≡ false → first_fault (item_tests s (stamp digits)) ≡ None → ⊥
    never early none = by_tests (is_number digits && nat_le (number_of digits) END_LIMIT)
        (nat_le s.tick (number_of digits)) early none

-- once the declarations have ended, they stay so
pub stays_in_body : (s : ParseState) (is : List Item) → s.in_body ≡ true → (state_after s is).in_body ≡ true
stays_in_body s [] body = body
stays_in_body s (i ∷ is) body = stays_in_body (state_after_item s i) is (one i)
  where
    one : (i : Item) → (state_after_item s i).in_body ≡ true
    one (entry kind words) = body
    one (timescale words) = body
    one (scope kind words) = body
    one upscope = body
    one (variable words) = body
    one end_definitions = refl
    one (stamp digits) = body
    one (scalar digit code) = body
    one (vector first digits code) = body
    one (real_or_string first text code) = body
    one (dump_word word) = body
    one (other word words) = body

-- ---- the words of a variable

-- the words of a variable that is allowed
pub record VariableItem (i : Item) (body : List ℕ) : Type 0 where
  pub kind : List ℕ
  pub size : List ℕ
  pub code : List ℕ
  pub names : List (List ℕ)
  pub item_is : i ≡ variable (kind ∷ size ∷ code ∷ names)
  pub declares : (s : ParseState) → declaration_of s (kind ∷ size ∷ code ∷ names)
      ≡ Some (declared_in s kind size code names)
  pub number : is_number size ≡ true
  pub is_variable : IsVariable body kind size code names

pub variable_item : (s : ParseState) (i : Item) (words : List (List ℕ)) (body : List ℕ) → i ≡ variable words
    → Allows s i → word_texts (words_of body) ≡ spelling i → VariableItem i body
variable_item s i words body is allowed spelled =
    let d = declares s words (subst (Allows s) is allowed) in
    let item_is = is ∙ ap variable d.words_are in
    record {
      kind = d.kind;
      size = d.size;
      code = d.code;
      names = d.names;
      item_is = item_is;
      declares = λ c. ap (declaration_of c) (sym d.words_are) ∙ d.finds c;
      number = d.number;
      is_variable = record { spelled = spelled ∙ ap spelling item_is };
    }
