-- The text of a file that is amended for another capture means that capture.
use Rattle.std.proofs.Common.{◌≡◌, ℕ, ◌+◌, ◌≤◌, Bool, true, false, not, ◌∙◌, All, ◌&&◌, ◌||◌, ◌==◌, List, [], ◌∷◌, ◌++◌}
use Rattle.std.proofs.Common.{length, Option, Some, None, IsTrue, if◌then◌else◌, refl, sym, ap, arith, inl, inr, subst}
use Rattle.std.specs.Prelude.{bytes_eq, is_some, codes, count_by}
use Rattle.std.specs.List.{list_all}
use Rattle.std.specs.Option.{option_or}
use Rattle.std.proofs.lemmas.Bool.{cases_Bool, false≢true, and_parts, and_from, eqb-true}
use Rattle.std.proofs.lemmas.Option.{same_Some}
use Rattle.std.proofs.lemmas.List.Elements.{All-nil, All-cons, All-head, All-tail, All-weaker, All-append}
use Rattle.std.proofs.lemmas.List.Folds.{find-append}
use Rattle.vcd_core.specs.Word.{is_word}
use Rattle.vcd_core.specs.Decimal.{number_of}
use Rattle.vcd_core.specs.declared.bit.Bit.{Bit}
use Rattle.vcd_core.specs.Contents.{SignalContents}
use Rattle.vcd_core.specs.Sound.{IsSoundSignal}
use Rattle.vcd_text.specs.Items.{Item, entry, timescale, scope, upscope, variable, end_definitions, end_word, stamp}
use Rattle.vcd_text.specs.Items.{scalar, vector, real_or_string, dump_word, other, has_no_end_word}
use Rattle.vcd_text.specs.Grammar.{ParseState, ValueChange, VariableDeclaration, is_skipped, may_have_code, Allows}
use Rattle.vcd_text.specs.Grammar.{AllowsAll, state_after_item, state_after, initial_state, value_changes_after}
use Rattle.vcd_text.specs.Grammar.{variable_of, kept_variables}
use Rattle.vcd_text.specs.Meaning.{FileMeans, meaning}
use Rattle.vcd_copy.specs.Pieces.{Piece, IsCut}
use Rattle.vcd_text.proofs.shared.ItemTests.{has_declaration}
use Rattle.vcd_text.proofs.part.FewSignals.{same_limit}
use Rattle.vcd_text.proofs.read_back.Words.{is_unbroken, is_spelled}
use Rattle.vcd_amend.specs.Amendment.{first_with_code}
use Rattle.vcd_amend.specs.AmendedMeaning.{class_of, FitsFile, amended_meaning}
use Rattle.vcd_amend.specs.AmendedText.{amended_text}
use Rattle.vcd_amend.specs.CodedAmendment.{AreAlike}
use Rattle.vcd_amend.specs.GivenCodes.{AreSignalsOf, IsFileState, amendment_for}
use Rattle.vcd_amend.specs.GivenCodes.{signals_left}
use Rattle.vcd_amend.specs.FreshCodes.{fresh_code}
use Rattle.vcd_amend.proofs.amended.OneCode.{itself}
use Rattle.vcd_amend.proofs.shared.Lists.{some_first}
use Rattle.vcd_amend.proofs.amended.OtherWords.{SpellsItem, items_of, body_is_unbroken}
use Rattle.vcd_amend.proofs.amended.WholeText.{text_of_pieces}
use Rattle.vcd_amend.proofs.given_codes.FreshCodes.{fresh_codes_are_fresh}
use Rattle.vcd_amend.proofs.given_codes.Gives.{amendment_fits, signals_are}
use Rattle.vcd_amend.proofs.given_codes.Fits.{all_fit, signals_given}

-- ---- classes

class_by_test : (s t : Bool) (m n : ℕ) → ((s && t) || (not s && not t && (m == n))) ≡ true
    → (if s then None else Some m) ≡ (if t then None else Some n)
class_by_test true true m n may = refl
class_by_test true false m n may = absurd (false≢true may)
class_by_test false true m n may = absurd (false≢true may)
class_by_test false false m n may = ap Some (eqb-true m n may)

class_from_test : (x d : VariableDeclaration) → may_have_code (Some x) d ≡ true → class_of x ≡ class_of d
class_from_test x d may = class_by_test (is_skipped x) (is_skipped d) x.size d.size may

-- no variable has the code
none_has : (code : List ℕ) (first : VariableDeclaration) (ds : List VariableDeclaration) → first_with_code code ds
    ≡ None
    → All (λ d. d.code ≡ code → class_of d ≡ class_of first) ds
none_has code first [] none = All-nil (λ d. d.code ≡ code → class_of d ≡ class_of first)
none_has code first (d ∷ ds) none = elim (cases_Bool (bytes_eq code d.code)) [
  | inl here ↦ let never : Some d ≡ None = rw here at none in absurd (cc)
  | inr there ↦ All-cons (λ d. d.code ≡ code → class_of d ≡ class_of first) d ds (λ same. absurd (false≢true (sym there
      ∙ ap (bytes_eq code) same ∙ itself code))) (none_has code first ds (rw there at none))
]

-- one variable more
alike_more : (ds : List VariableDeclaration) (d : VariableDeclaration) → AreAlike ds
    → may_have_code (first_with_code d.code ds) d ≡ true → AreAlike (ds ++ d ∷ [])
alike_more ds d alike may code first found = by_answer (first_with_code code ds) refl
  where
    whole : option_or (first_with_code code ds) (first_with_code code (d ∷ [])) ≡ Some first
    whole = sym (find-append (λ (v : VariableDeclaration). bytes_eq code v.code) ds (d ∷ [])) ∙ found

    by_answer : (o : Option VariableDeclaration) → first_with_code code ds ≡ o
        → All (λ d. d.code ≡ code → class_of d ≡ class_of first) (ds ++ d ∷ [])
    by_answer None is = All-append (λ d. d.code ≡ code → class_of d ≡ class_of first) ds (d ∷ [])
        (none_has code first ds is) (All-cons (λ d. d.code ≡ code → class_of d ≡ class_of first) d [] (λ same. ap
        class_of (one same)) (All-nil (λ d. d.code ≡ code → class_of d ≡ class_of first)))
      where
        one : d.code ≡ code → d ≡ first
        one same =
            let here : bytes_eq code d.code ≡ true = ap (bytes_eq code) same ∙ itself code in
            let it : first_with_code code (d ∷ []) ≡ Some first = ap (λ o. option_or o (first_with_code code (d ∷ [])))
            (sym is) ∙ whole
            in
            same_Some d first (rw here at it)
    by_answer (Some x) is =
        let it : Some x ≡ Some first = ap (λ o. option_or o (first_with_code code (d ∷ []))) (sym is) ∙ whole in
        let same_first : x ≡ first = same_Some x first it in
        All-append (λ d. d.code ≡ code → class_of d ≡ class_of first) ds (d ∷ []) (alike code first (is ∙ it))
        (All-cons (λ d. d.code ≡ code → class_of d ≡ class_of first) d [] (λ same. sym (class_from_test x d
        (ap (λ o. may_have_code o d) (sym (ap (λ k. first_with_code k ds) same ∙ is)) ∙ may)) ∙ ap class_of same_first)
        (All-nil (λ d. d.code ≡ code
        → class_of d ≡ class_of first)))

-- ---- the state of a file

same_file : (s t : ParseState) → t.declared ≡ s.declared → t.value_changes ≡ s.value_changes → IsFileState s
    → IsFileState t
same_file s t declared changes file = record {
  words = subst (All (λ d. IsTrue (is_word d.code))) (sym declared) file.words;
  alike = subst AreAlike (sym declared) file.alike;
  known = subst (λ ds. All (λ v. IsTrue (is_some (first_with_code v.code ds))) t.value_changes) (sym declared)
      (subst (All (λ v.
      IsTrue (is_some (first_with_code v.code s.declared)))) (sym changes) file.known);
}

-- a value change more
more_changes : (s : ParseState) (code : List ℕ) (letters : List Bit) → IsFileState s
    → IsFileState (record s {
      value_changes = s.value_changes ++ value_changes_after s code letters (variable_of s code);
    })
more_changes s code letters file = record {
  words = file.words;
  alike = file.alike;
  known = All-append P s.value_changes _ file.known (by_answer (variable_of s code) refl);
}
  where
    P : ValueChange → Type 0
    P v = IsTrue (is_some (first_with_code v.code s.declared))

    by_kind : (b : Bool) → is_some (first_with_code code s.declared) ≡ true
        → All P (if b then [] else record { tick = s.tick; code = code; letters = letters } ∷ [])
    by_kind true known = All-nil P
    by_kind false known = All-cons P _ [] known (All-nil P)

    by_answer : (o : Option VariableDeclaration) → variable_of s code ≡ o → All P (value_changes_after s code letters o)
    by_answer None is = All-nil P
    by_answer (Some d) is = by_kind (is_skipped d) (ap is_some is)

word_of : (w : List ℕ) → is_unbroken w ≡ true → not (bytes_eq w end_word) ≡ true → is_word w ≡ true
word_of [] unbroken no_end = absurd (false≢true unbroken)
word_of (b ∷ bs) unbroken no_end = grind (arith, and_from)

-- a variable more
more_variables : (s : ParseState) (kind size code name : List ℕ) (names : List (List ℕ))
    → Allows s (variable (kind ∷ size ∷ code ∷ name ∷ names))
    → is_spelled (variable (kind ∷ size ∷ code ∷ name ∷ names)) ≡ true → IsFileState s
    → IsFileState (state_after_item s (variable (kind ∷ size ∷ code ∷ name ∷ names)))
more_variables s kind size code name names allows spelled file =
    let tests = has_declaration s (kind ∷ size ∷ code ∷ name ∷ names) allows in
    let ends = (and_parts (has_no_end_word (kind ∷ size ∷ code ∷ name ∷ names)) _ (and_parts (not s.in_body) _
    allows.0).1).0 in
    let first = and_parts (not (bytes_eq kind end_word)) (has_no_end_word (size ∷ code ∷ name ∷ names)) ends in
    let second = and_parts (not (bytes_eq size end_word)) (has_no_end_word (code ∷ name ∷ names)) first.1 in
    let third = and_parts (not (bytes_eq code end_word)) (has_no_end_word (name ∷ names)) second.1 in
    let all = (and_parts (is_unbroken (codes "$var")) (list_all is_unbroken ((kind ∷ size ∷ code ∷ name ∷ names)
    ++ end_word
    ∷ [])) spelled).1 in
    let one = and_parts (is_unbroken kind) (list_all is_unbroken (size ∷ code ∷ name ∷ (names ++ end_word ∷ []))) all in
    let two = and_parts (is_unbroken size) (list_all is_unbroken (code ∷ name ∷ (names ++ end_word ∷ []))) one.1 in
    let three = and_parts (is_unbroken code) (list_all is_unbroken (name ∷ (names ++ end_word ∷ []))) two.1 in
    let d : VariableDeclaration = record {
      scopes = s.scopes;
      kind = kind;
      size = number_of size;
      code = code;
      words = name
          ∷ names;
    } in
    record {
      words = All-append (λ d. IsTrue (is_word d.code)) s.declared (d ∷ []) file.words (All-cons (λ d. IsTrue (is_word
          d.code)) d [] (word_of code three.0 third.0) (All-nil (λ d. IsTrue (is_word d.code))));
      alike = alike_more s.declared d file.alike tests.0;
      known = All-weaker (λ v. IsTrue (is_some (first_with_code v.code s.declared))) (λ v. IsTrue
          (is_some (first_with_code v.code (s.declared ++ d ∷ [])))) (λ v some. some_first (λ (e : VariableDeclaration).
          bytes_eq v.code e.code) s.declared (d
          ∷ []) some) s.value_changes file.known;
    }

item_state : (s : ParseState) (i : Item) → Allows s i → is_spelled i ≡ true → IsFileState s
    → IsFileState (state_after_item s i)
item_state s (entry kind words) allows spelled file = same_file s _ refl refl file
item_state s (timescale words) allows spelled file = same_file s _ refl refl file
item_state s (scope kind words) allows spelled file = same_file s _ refl refl file
item_state s upscope allows spelled file = same_file s _ refl refl file
item_state s (variable []) allows spelled file = absurd (has_declaration s [] allows)
item_state s (variable (kind ∷ [])) allows spelled file = absurd (has_declaration s (kind ∷ []) allows)
item_state s (variable (kind ∷ size ∷ [])) allows spelled file = absurd (has_declaration s (kind ∷ size ∷ []) allows)
item_state s (variable (kind ∷ size ∷ code ∷ [])) allows spelled file =
    absurd (has_declaration s (kind ∷ size ∷ code ∷ []) allows)
item_state s (variable (kind ∷ size ∷ code ∷ name ∷ names)) allows spelled file =
    more_variables s kind size code name names allows spelled file
item_state s end_definitions allows spelled file = same_file s _ refl refl file
item_state s (stamp digits) allows spelled file = same_file s _ refl refl file
item_state s (scalar digit code) allows spelled file = more_changes s code _ file
item_state s (vector first digits code) allows spelled file = more_changes s code _ file
item_state s (real_or_string first text code) allows spelled file = file
item_state s (dump_word word) allows spelled file = file
item_state s (other word words) allows spelled file = file

all_state : (s : ParseState) (ps : List Piece) → AllowsAll s (items_of ps) → All SpellsItem ps → IsFileState s
    → IsFileState (state_after s (items_of ps))
all_state s [] allows spelled file = file
all_state s (p ∷ ps) allows spelled file = all_state (state_after_item s p.item) ps allows.1 (All-tail SpellsItem p ps
    spelled) (item_state s p.item allows.0 (body_is_unbroken p (All-head SpellsItem p ps spelled)) file)

-- the state of a file that is cut
pub state_of_file : (limit : ℕ) (pieces : List Piece) → AllowsAll (initial_state limit) (items_of pieces)
    → All SpellsItem pieces → IsFileState (state_after (initial_state limit) (items_of pieces))
state_of_file limit pieces allows spelled = all_state (initial_state limit) pieces allows spelled (record {
  words = All-nil (λ d. IsTrue (is_word d.code));
  alike = λ code first found. All-nil (λ d. d.code ≡ code → class_of d ≡ class_of first);
  known = All-nil (λ v. IsTrue (is_some (first_with_code v.code [])));
})

-- ---- the whole

pub other_capture_of_pieces : (limit : ℕ) (file : List ℕ) (pieces : List Piece) (tail : List ℕ)
    (remaining : List (Option SignalContents)) (derived : List SignalContents) (final : ParseState)
    → final ≡ state_after (initial_state limit) (items_of pieces) → IsCut file pieces tail
    → AllowsAll (initial_state limit) (items_of pieces)
    → IsTrue (state_after (initial_state limit) (items_of pieces)).in_body
    → AreSignalsOf final (kept_variables final.declared) remaining
    → All (IsSoundSignal final.tick) derived → length (signals_left remaining) + length derived ≤ limit
    → FileMeans limit (amended_text (amendment_for final remaining derived) true (initial_state limit) pieces
    tail)
    (record (meaning final) { signals = signals_left remaining ++ derived }) (count_by is_skipped final.declared)
other_capture_of_pieces limit file pieces tail remaining derived final is cut allows in_body new sound few =
    let state : IsFileState final = subst IsFileState (sym is) (state_of_file limit pieces allows cut.spelled) in
    let limited : final.limit ≡ limit = ap (λ (t : ParseState). t.limit) is ∙ same_limit (initial_state limit) (items_of
    pieces) in
    let room : length (signals_left remaining) + length derived ≤ final.limit = omega (arith, few, limited) in
    let fresh : ℕ → List ℕ = fresh_code final in
    let are_fresh = fresh_codes_are_fresh final in
    let fits = all_fit fresh final are_fresh state remaining derived new sound room in
    let fit = amendment_fits final _ _ _ fits in
    let text = text_of_pieces (amendment_for final remaining derived) limit file pieces tail cut allows in_body
    (subst (FitsFile (amendment_for final remaining derived)) is fit) in
    record {
      state = text.state;
      accepted = text.accepted;
      means = sym (ap (λ ss. record (meaning final) { signals = ss }) (signals_are final _ _ _ fits
          ∙ signals_given fresh final are_fresh state remaining derived new sound)) ∙ ap
          (amended_meaning (amendment_for final remaining derived)) is ∙ text.means;
      left_out = ap (λ (t : ParseState). count_by is_skipped t.declared) is ∙ text.left_out;
    }
