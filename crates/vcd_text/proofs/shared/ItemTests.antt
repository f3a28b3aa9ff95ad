-- The conditions of each item, from what is known of its parts, and back; the words with which no item goes on,
-- and their faults.
use Rattle.std.proofs.Common.{◌≡◌, ℕ, ◌<◌, ◌≤◌, Bool, true, false, List, [], ◌∷◌, length, Option, Some, None, IsTrue}
use Rattle.std.proofs.Common.{IsFalse, IsSome, IsSomeAnd, refl, arith, inl, inr, codes, sym, ap, ◌∙◌}
use Rattle.std.specs.Prelude.{nat_lt}
use Rattle.std.proofs.lemmas.Bool.{and_from, leb-true, le-leb, lt-ltb, not_from_false, and_parts, or_cases, cases_Bool}
use Rattle.std.proofs.lemmas.Bool.{false≢true, cond-true, cond-false}
use Rattle.std.proofs.lemmas.Slice.Eq.{bytes_eq-Decides}
use Rattle.std.specs.List.{list_all}
use Rattle.std.proofs.lemmas.List.Elements.{All-weaker}
use Rattle.std.proofs.lemmas.List.Sums.{AllPass-from_list_all, list_all-from_AllPass}
use Rattle.vcd_core.specs.Tests.{Test, ◌unless◌, first_fault}
use Rattle.vcd_core.specs.Decimal.{number_of, is_number}
use Rattle.vcd_core.specs.declared.capture.HeaderKind.{HeaderKind}
use Rattle.vcd_core.specs.Word.{is_one_of}
use Rattle.vcd_text.specs.declared.fault.Fault.{Fault}
use Rattle.vcd_text.specs.declared.fault.Fault.TheVariants.{UnexpectedWord, BadScope, UpscopeAtTop, BadVar, BadChange}
use Rattle.vcd_text.specs.Letters.{is_among, is_binary_digit}
use Rattle.vcd_text.specs.Items.{has_no_end_word, entry, timescale, scope, upscope, variable, end_definitions, stamp}
use Rattle.vcd_text.specs.Items.{scalar, vector, real_or_string, end_word, begins_section, declaration_words}
use Rattle.vcd_text.specs.inside.reading.DigitTests.{vector_prefixes, real_or_string_prefixes, is_tick}
use Rattle.vcd_text.specs.inside.reading.DigitTests.{takes_binary_number}
use Rattle.vcd_text.specs.Grammar.{ParseState, VariableDeclaration, has_good_size, declaration_of, variable_of}
use Rattle.vcd_text.specs.Grammar.{may_have_code, fits, digit_tests, Allows}
use Rattle.vcd_text.specs.inside.reading.Variables.{is_within_limit}
use Rattle.vcd_text.specs.inside.reading.Declarations.{is_end_word}
use Rattle.vcd_text.specs.Faults.{GoesOn, misfit_fault, WordShows, test_fails, misfits}
use Rattle.vcd_text.proofs.shared.OneOf.{by_one_of}
use Rattle.vcd_text.proofs.shared.FirstItem.{before_end, change_with, goes_as}

-- ==== the conditions of each item, from what is known of its parts, and back

-- ---- tests in turn

-- no test fails: the first holds, and no other fails
pub passed : (f : Fault) (b : Bool) (tests : List (Test Fault)) → first_fault ((f unless b) ∷ tests) ≡ None
    → (b ≡ true) × (first_fault tests ≡ None)
passed f b tests h = grind arith

pub passes : (f : Fault) (b : Bool) (tests : List (Test Fault)) → b ≡ true → first_fault tests ≡ None
    → first_fault ((f unless b) ∷ tests) ≡ None
passes f b tests h t = grind arith

-- the first test fails
pub failed : (f : Fault) (b : Bool) (tests : List (Test Fault)) → b ≡ false
    → first_fault ((f unless b) ∷ tests) ≡ Some f
failed f b tests h = grind arith

-- a later test fails
pub failed_later : (f g : Fault) (b : Bool) (tests : List (Test Fault)) → b ≡ true → first_fault tests ≡ Some g
    → first_fault ((f unless b) ∷ tests) ≡ Some g
failed_later f g b tests h t = grind arith

above : (n : ℕ) → 0 < n → nat_lt 0 n ≡ true
above n h = grind (arith, lt-ltb)

-- ---- items that fit

pub fits_in_words : (c : ParseState) (words : List (List ℕ)) → IsFalse c.in_body → IsTrue (has_no_end_word words)
    → IsTrue (fits c (timescale words))
fits_in_words c words declares no_end = and_from _ _ (not_from_false _ declares) no_end

pub fits_upscope : (c : ParseState) → IsFalse c.in_body → 0 < length c.scopes → IsTrue (fits c upscope)
fits_upscope c declares some = and_from _ _ (not_from_false _ declares) (above _ some)

pub fits_variable : (c : ParseState) (words : List (List ℕ)) → IsFalse c.in_body → IsTrue (has_no_end_word words)
    → IsTrue (has_good_size words) → IsTrue (fits c (variable words))
fits_variable c words declares no_end good = and_from _ _ (not_from_false _ declares) (and_from _ _ no_end good)

pub fits_scalar : (c : ParseState) (digit : ℕ) (code : List ℕ) → IsTrue c.in_body → IsTrue (is_binary_digit digit)
    → 0 < length code → IsTrue (fits c (scalar digit code))
fits_scalar c digit code in_body is some = and_from _ _ in_body (and_from _ _ is (above _ some))

-- ---- the conditions of each item

pub allows_entry : (c : ParseState) (kind : HeaderKind) (words : List (List ℕ)) → IsFalse c.in_body
    → IsTrue (has_no_end_word words) → Allows c (entry kind words)
allows_entry c kind words declares no_end = (fits_in_words c words declares no_end, refl)

pub allows_scope : (c : ParseState) (kind : List ℕ) (words : List (List ℕ)) → IsFalse c.in_body
    → IsTrue (has_no_end_word (kind ∷ words)) → Allows c (scope kind words)
allows_scope c kind words declares no_end = (fits_in_words c (kind ∷ words) declares no_end, refl)

pub allows_upscope : (c : ParseState) → IsFalse c.in_body → 0 < length c.scopes → Allows c upscope
allows_upscope c declares some = (fits_upscope c declares some, refl)

pub allows_variable : (c : ParseState) (words : List (List ℕ)) → IsFalse c.in_body → IsTrue (has_no_end_word words)
    → IsTrue (has_good_size words) → IsSomeAnd (declaration_of c words) (λ d.
    IsTrue (may_have_code (variable_of c d.code) d) × IsTrue (is_within_limit c.limit c.declared d))
    → Allows c (variable words)
allows_variable c words declares no_end good may = grind (arith, fits_variable)

pub allows_end_definitions : (c : ParseState) → IsFalse c.in_body → Allows c end_definitions
allows_end_definitions c declares = (not_from_false _ declares, refl)

pub allows_stamp : (c : ParseState) (digits : List ℕ) → IsTrue c.in_body → IsTrue (is_tick digits)
    → c.tick ≤ number_of digits → Allows c (stamp digits)
allows_stamp c digits in_body is later = grind (arith, passes, le-leb)

pub allows_scalar : (c : ParseState) (digit : ℕ) (code : List ℕ) → IsTrue c.in_body → IsTrue (is_binary_digit digit)
    → 0 < length code → IsSome (variable_of c code) → Allows c (scalar digit code)
allows_scalar c digit code in_body is some known = grind (arith, fits_scalar, passes)

digits_pass : (digits : List ℕ) (o : Option VariableDeclaration)
    → IsSomeAnd o (λ d. IsTrue (takes_binary_number d digits)) → first_fault (digit_tests digits o) ≡ None
digits_pass digits o h = grind (arith, passes)

pub allows_vector : (c : ParseState) (first : ℕ) (digits code : List ℕ) → IsTrue c.in_body
    → IsTrue (is_among vector_prefixes first)
    → IsSomeAnd (variable_of c code) (λ d. IsTrue (takes_binary_number d digits)) → Allows c (vector first digits code)
allows_vector c first digits code in_body is takes = grind (arith, and_from, digits_pass)

pub allows_real_or_string : (c : ParseState) (first : ℕ) (text code : List ℕ) → IsTrue c.in_body
    → IsTrue (is_among real_or_string_prefixes first) → IsSome (variable_of c code)
    → Allows c (real_or_string first text code)
allows_real_or_string c first text code in_body is known = grind (arith, and_from, passes)

-- ---- what the tests of an item say

pub has_declaration : (c : ParseState) (words : List (List ℕ)) → Allows c (variable words)
    → IsSomeAnd (declaration_of c words) (λ d. IsTrue (may_have_code (variable_of c d.code) d)
    × IsTrue (is_within_limit c.limit c.declared d))
has_declaration c words (f, t) = grind (arith, passed)

pub has_tick : (c : ParseState) (digits : List ℕ) → Allows c (stamp digits)
    → IsTrue (is_tick digits) × (c.tick ≤ number_of digits)
has_tick c digits (f, t) = grind (arith, passed, leb-true)

-- ==== the words with which no item goes on, and their faults

clash : (b : Bool) → b ≡ false → b ≡ true → ⊥
clash b p q = absurd (false≢true (sym p ∙ q))

-- among the declarations no item goes on with the word, though one could go on
misfit_declares : (c : ParseState) (begun : List (List ℕ)) (word next : List ℕ) (fault : Fault) → IsFalse c.in_body
    → GoesOn c begun next → (GoesOn c begun word → ⊥) → misfit_fault false begun word ≡ fault
    → WordShows c begun word fault
misfit_declares c begun word next fault declares some none is =
    misfits next some none (sym (ap (λ t. misfit_fault t begun word) declares ∙ is))

-- ---- among the declarations

pub some_declaration : (c : ParseState) → IsFalse c.in_body → GoesOn c [] (codes "$enddefinitions")
some_declaration c declares = (end_definitions, end_word ∷ [], not_from_false _ declares, refl)

-- a word that begins no section
pub begins_no_section : (c : ParseState) (word : List ℕ) → IsFalse c.in_body → IsFalse (begins_section word)
    → WordShows c [] word UnexpectedWord
begins_no_section c word declares isnt = misfit_declares c [] word _ UnexpectedWord declares (some_declaration c
    declares) (grind (arith, clash, before_end, goes_as)) (grind (arith, cases_Bool, bytes_eq-Decides))

-- `$upscope` while no scope is open
pub upscope_at_top : (c : ParseState) → IsFalse c.in_body → c.scopes ≡ []
    → WordShows c [] (codes "$upscope") UpscopeAtTop
upscope_at_top c declares none = misfit_declares c [] (codes "$upscope") _ UpscopeAtTop declares
    (some_declaration c declares) (grind (arith, and_parts, goes_as, clash)) refl

-- `$end` in the place of a scope's kind
pub missing_kind : (c : ParseState) → IsFalse c.in_body → WordShows c (codes "$scope" ∷ []) end_word BadScope
missing_kind c declares = misfit_declares c (codes "$scope" ∷ []) end_word [] BadScope declares
    (scope [] [], end_word ∷ [], fits_in_words c ([] ∷ []) declares refl, refl) (grind (arith, goes_as)) refl

ends_only : (keyword word : List ℕ) (more : List (List ℕ)) → keyword ∷ end_word ∷ [] ≡ keyword ∷ word ∷ more
    → is_end_word word ≡ true
ends_only keyword word more e = let same : end_word ≡ word = cc e in ap is_end_word (sym same)

-- a word other than `$end` after `$upscope`
pub upscope_goes_on : (c : ParseState) (word : List ℕ) → IsFalse c.in_body → IsFalse (is_end_word word)
    → 0 < length c.scopes → WordShows c (codes "$upscope" ∷ []) word UnexpectedWord
upscope_goes_on c word declares isnt some = misfit_declares c (codes "$upscope" ∷ []) word end_word UnexpectedWord
    declares (upscope, [], fits_upscope c declares some, refl) (grind (arith, clash, ends_only, goes_as)) refl

-- a word other than `$end` after `$enddefinitions`
pub definitions_go_on : (c : ParseState) (word : List ℕ) → IsFalse c.in_body → IsFalse (is_end_word word)
    → WordShows c (codes "$enddefinitions" ∷ []) word UnexpectedWord
definitions_go_on c word declares isnt = misfit_declares c (codes "$enddefinitions" ∷ []) word end_word UnexpectedWord
    declares (end_definitions, [], not_from_false _ declares, refl) (grind (arith, clash, ends_only, goes_as)) refl

-- a size that is no decimal number; if it is `$end`, a part of the variable is missing
pub no_size : (c : ParseState) (kind word : List ℕ) → IsFalse c.in_body → IsFalse (is_end_word kind)
    → IsFalse (is_number word) → WordShows c (codes "$var" ∷ kind ∷ []) word BadVar
no_size c kind word declares k isnt =
    let fit : IsTrue (fits c (variable (kind ∷ []))) =
    fits_variable c (kind ∷ []) declares (and_from _ _ (not_from_false _ k) refl) refl in
    elim (cases_Bool (is_end_word word)) [
      | inl is ↦ rw ((bytes_eq-Decides word end_word).0 is) (test_fails (variable (kind ∷ [])) fit refl refl)
      | inr further ↦ misfit_declares c (codes "$var" ∷ kind ∷ []) word end_word BadVar declares
          (variable (kind ∷ []), [], fit, refl) (grind (arith, clash, goes_as)) refl
    ]

-- ---- among the changes

-- no item begins with the word
pub misfit_changes : (c : ParseState) (word : List ℕ) (fault : Fault) → IsTrue c.in_body
    → ((more : List (List ℕ)) → IsTrue (fits c (change_with word more)) → ⊥) → misfit_fault true [] word ≡ fault
    → WordShows c [] word fault
misfit_changes c word fault in_body none is = misfits (codes "#") (stamp [], [], in_body, refl)
    (λ g. none g.1 (goes_as c true [] word in_body g).0) (sym (ap (λ t. misfit_fault t [] word) in_body ∙ is))

-- a binary digit without a code
pub missing_code : (c : ParseState) (digit : ℕ) → IsTrue c.in_body → IsTrue (is_binary_digit digit)
    → WordShows c [] (digit ∷ []) BadChange
missing_code c digit in_body is = misfit_changes _ _ _ in_body (grind (arith, cond-true, false≢true, and_parts))
    (cond-false (is_one_of declaration_words (digit ∷ [])) _ _ (grind (arith, cases_Bool, by_one_of)))

-- a word of the declarations
pub declaration_late : (c : ParseState) (word : List ℕ) → IsTrue c.in_body → IsTrue (is_one_of declaration_words word)
    → WordShows c [] word UnexpectedWord
declaration_late c word in_body is =
    let none : (w : List ℕ) → ((more : List (List ℕ)) → IsTrue (fits c (change_with w more)) → false ≡ true)
    → misfit_fault true [] w ≡ UnexpectedWord → WordShows c [] w UnexpectedWord =
    λ w none. misfit_changes c w UnexpectedWord in_body (λ more f. absurd (false≢true (none more f))) in
    by_one_of (λ w. WordShows c [] w UnexpectedWord) declaration_words word is (
      none (codes "$scope") (λ more f. f) refl,
      (
        none (codes "$upscope") (λ more f. f) refl,
        (
          none (codes "$var") (λ more f. f) refl,
          (none (codes "$timescale") (λ more f. f) refl, (none (codes "$enddefinitions") (λ more f. f) refl, tt)),
        ),
      ),
    )

-- a word that begins no change
pub begins_no_change : (c : ParseState) (first : ℕ) (text : List ℕ) → IsTrue c.in_body → IsFalse (is_binary_digit first)
    → IsFalse (is_among (codes "#$") first) → IsFalse (is_among vector_prefixes first)
    → IsFalse (is_among real_or_string_prefixes first) → WordShows c [] (first ∷ text) BadChange
begins_no_change c first text in_body d n v r = misfit_changes c (first ∷ text) BadChange in_body
    (grind (arith, clash, and_parts)) (grind (arith, cond-false, cases_Bool, or_cases, bytes_eq-Decides))

-- ==== an item that passes a test passes a weaker one

pub all_weaker : {X : Type 0} (p q : X → Bool) → ((x : X) → p x ≡ true → q x ≡ true) → (xs : List X)
    → list_all p xs ≡ true → list_all q xs ≡ true
all_weaker p q weaker xs all = grind (arith, list_all-from_AllPass, All-weaker, AllPass-from_list_all)
