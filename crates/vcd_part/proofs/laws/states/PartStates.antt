-- The state of the part beside that of the file, and the changes that stand in it.
use Rattle.std.proofs.Common.{◌≡◌, ℕ, ◌∙◌, ◌==◌, Bool, true, false, not, ◌&&◌, ◌||◌, List, [], ◌∷◌, ◌++◌, refl, ap}
use Rattle.std.proofs.Common.{sym, subst, Option, Some, None, if◌then◌else◌, nat_le, length}
use Rattle.std.specs.Prelude.{bytes_eq, filter, is_some}
use Rattle.std.specs.List.{list_all}
use Rattle.std.proofs.lemmas.Bool.{false≢true, and_parts}
use Rattle.vcd_core.specs.Tests.{Test, ◌unless◌, first_fault}
use Rattle.vcd_core.specs.declared.capture.HeaderKind.TheVariants.{Comment}
use Rattle.vcd_text.specs.declared.fault.Fault.{Fault}
use Rattle.vcd_text.specs.declared.fault.Fault.TheVariants.{BadChange, UnknownCode, ValueTooLong}
use Rattle.vcd_text.specs.Letters.{is_binary_digit}
use Rattle.vcd_text.specs.Items.{Item, entry, timescale, scope, upscope, variable, end_definitions, stamp, scalar}
use Rattle.vcd_text.specs.Items.{vector, real_or_string, dump_word, other}
use Rattle.vcd_text.specs.Grammar.{ParseState, VariableDeclaration, ValueChange, is_skipped, state_after_item}
use Rattle.vcd_text.specs.Grammar.{Allows, digit_tests}
use Rattle.vcd_text.proofs.shared.ItemTests.{passes}
use Rattle.vcd_part.specs.declared.request.Request.{Request}
use Rattle.vcd_part.specs.Requests.{keeps}
use Rattle.vcd_part.specs.PartPieces.{has_signal, is_change_of, is_used}
use Rattle.vcd_part.specs.StandsInPart.{change_code}
use Rattle.vcd_part.proofs.laws.signals.SameStatus.{HasOneStatus, status, first_of, first_found, same_bytes}
use Rattle.vcd_part.proofs.laws.signals.SameStatus.{any_in, filter_in}
use Rattle.vcd_part.proofs.laws.signals.SameStatus.{status_filtered}
use Rattle.vcd_part.proofs.laws.signals.SignalValues.{IsSignal, signal_has}

-- a state with another tick and other value changes
abbrev pub at : ParseState → List ValueChange → ℕ → ParseState
at s vs n = record s { value_changes = vs; tick = n }

-- ---- digits for a variable of the same status

module _ (digits : List ℕ) where
  abbrev tests : Bool → ℕ → List (Test Fault)
  tests x size = (BadChange unless (x || (not (length digits == 0) && list_all is_binary_digit digits)))
      ∷ (ValueTooLong unless (x || nat_le (length digits) size)) ∷ []

  by_tests : (x y : Bool) (m n : ℕ) → (if x then None else Some m) ≡ (if y then None else Some n)
      → first_fault (tests x m) ≡ None → first_fault (tests y n) ≡ None
  by_tests x true m n is fine = refl
  by_tests true false m n is fine = absurd (cc)
  by_tests false false m n is fine = let size : m ≡ n = cc in subst (λ k. first_fault (tests false k) ≡ None) size fine

  digits_same : (a b : VariableDeclaration) → status a ≡ status b → first_fault (digit_tests digits (Some a)) ≡ None
      → first_fault (digit_tests digits (Some b)) ≡ None
  digits_same a b same fine = by_tests (is_skipped a) (is_skipped b) a.size b.size same fine

module _ (r : Request) where
  -- a kept variable whose values are those of a signal
  pub record IsKept (ds : List VariableDeclaration) (d : VariableDeclaration) : Type 0 where
    pub signal : IsSignal ds d
    pub kept : keeps r d ≡ true

  pub kept_again : (ds : List VariableDeclaration) (d : VariableDeclaration) → IsKept ds d
      → IsSignal (filter (keeps r) ds) d
  kept_again ds d is = record {
    one = status_filtered (keeps r) ds is.signal.one;
    is_in = filter_in (keeps r) d ds is.signal.is_in is.kept;
    signal = is.signal.signal;
  }

  -- the same items change it
  pub same_changes : (ds : List VariableDeclaration) (d : VariableDeclaration) → IsKept ds d → (i : Item)
      → is_change_of (filter (keeps r) ds) d.code i ≡ is_change_of ds d.code i
  same_changes ds d is (entry kind words) = refl
  same_changes ds d is (timescale words) = refl
  same_changes ds d is (scope kind words) = refl
  same_changes ds d is upscope = refl
  same_changes ds d is (variable words) = refl
  same_changes ds d is end_definitions = refl
  same_changes ds d is (stamp digits) = refl
  same_changes ds d is (scalar digit code) = refl
  same_changes ds d is (vector first digits code) = refl
  same_changes ds d is (real_or_string first text code) = ap (λ b. bytes_eq d.code code && not b) (signal_has (filter
      (keeps r) ds) d (kept_again ds d is) ∙ sym (signal_has ds d is.signal))
  same_changes ds d is (dump_word word) = refl
  same_changes ds d is (other word words) = refl

  -- ---- states

  -- the state of the part after the same declarations
  abbrev pub among : ParseState → ParseState
  among s = record s { declared = filter (keeps r) s.declared }

  -- the state of the part after its changes
  abbrev pub in_part : (words : List (List ℕ)) → ParseState → List ValueChange → ℕ → ParseState
  in_part words s vs n = record s {
    header = s.header ++ record { kind = Comment; words = words } ∷ [];
    declared = filter (keeps r) s.declared;
    value_changes = vs;
    tick = n;
  }

  -- ---- changes that stand

  module _ (words : List (List ℕ)) (s : ParseState) (vs : List ValueChange) (n : ℕ) (one : HasOneStatus s.declared)
    where
      -- the first variable of a used code, in the file and in the part
      pub record HasBoth (code : List ℕ) : Type 0 where
        pub a : VariableDeclaration
        pub b : VariableDeclaration
        pub in_file : first_of code s.declared ≡ Some a
        pub in_part_too : first_of code (filter (keeps r) s.declared) ≡ Some b
        pub same : status a ≡ status b

      both_of : (code : List ℕ) → is_used r s.declared code ≡ true → HasBoth code
      both_of code used =
          let found = any_in (λ d. keeps r d && bytes_eq code d.code) s.declared used in
          let tests = and_parts (keeps r found.0) (bytes_eq code found.0.code) found.2 in
          let is : code ≡ found.0.code = same_bytes code found.0.code tests.1 in
          let in_filter = filter_in (keeps r) found.0 s.declared found.1 tests.0 in
          let file = first_found s.declared found.0 one found.1 in
          let part = first_found (filter (keeps r) s.declared) found.0 (status_filtered (keeps r) s.declared one)
          in_filter in
          record {
            a = file.0;
            b = part.0;
            in_file = ap (λ c. first_of c s.declared) is ∙ file.1;
            in_part_too = ap (λ c. first_of c (filter (keeps r) s.declared)) is ∙ part.1;
            same = file.2 ∙ sym part.2;
          }

      known : (code : List ℕ) → is_used r s.declared code ≡ true
          → first_fault ((UnknownCode unless is_some (first_of code (filter (keeps r) s.declared))) ∷ []) ≡ None
      known code used = passes UnknownCode _ [] (ap is_some (both_of code used).in_part_too) refl

      pub change_stands : (i : Item) (code : List ℕ) → change_code i ≡ Some code → is_used r s.declared code ≡ true
          → Allows s i → Allows (in_part words s vs n) i
      change_stands (entry kind ws) code is used allows = absurd (cc)
      change_stands (timescale ws) code is used allows = absurd (cc)
      change_stands (scope kind ws) code is used allows = absurd (cc)
      change_stands upscope code is used allows = absurd (cc)
      change_stands (variable ws) code is used allows = absurd (cc)
      change_stands end_definitions code is used allows = absurd (cc)
      change_stands (stamp digits) code is used allows = absurd (cc)
      change_stands (scalar digit c) code is used allows =
          let same : code ≡ c = cc in (allows.0, known c (subst (λ x. is_used r s.declared x ≡ true) same used))
      change_stands (vector first digits c) code is used allows =
          let same : code ≡ c = cc in
          let has = both_of c (subst (λ x. is_used r s.declared x ≡ true) same used) in (
            allows.0,
            ap (λ o. first_fault (digit_tests digits o)) has.in_part_too ∙ digits_same digits has.a has.b has.same
                (sym (ap (λ o. first_fault (digit_tests digits o)) has.in_file) ∙ allows.1),
          )
      change_stands (real_or_string first text c) code is used allows =
          let same : code ≡ c = cc in (allows.0, known c (subst (λ x. is_used r s.declared x ≡ true) same used))
      change_stands (dump_word word) code is used allows = absurd (cc)
      change_stands (other word ws) code is used allows = absurd (cc)

-- a change is allowed again, as long as the variables are the same
pub change_again : (s : ParseState) (vs : List ValueChange) (n : ℕ) (ds : List VariableDeclaration) (code : List ℕ)
    (i : Item) → is_change_of ds code i ≡ true → Allows s i → Allows (at s vs n) i
change_again s vs n ds code (entry kind words) is allows = absurd (false≢true is)
change_again s vs n ds code (timescale words) is allows = absurd (false≢true is)
change_again s vs n ds code (scope kind words) is allows = absurd (false≢true is)
change_again s vs n ds code upscope is allows = absurd (false≢true is)
change_again s vs n ds code (variable words) is allows = absurd (false≢true is)
change_again s vs n ds code end_definitions is allows = absurd (false≢true is)
change_again s vs n ds code (stamp digits) is allows = absurd (false≢true is)
change_again s vs n ds code (scalar digit c) is allows = allows
change_again s vs n ds code (vector first digits c) is allows = allows
change_again s vs n ds code (real_or_string first text c) is allows = allows
change_again s vs n ds code (dump_word word) is allows = absurd (false≢true is)
change_again s vs n ds code (other word words) is allows = absurd (false≢true is)

-- what it changes has its code
pub code_of_change : (ds : List VariableDeclaration) (code : List ℕ) (i : Item) → is_change_of ds code i ≡ true
    → change_code i ≡ Some code
code_of_change ds code (entry kind words) is = absurd (false≢true is)
code_of_change ds code (timescale words) is = absurd (false≢true is)
code_of_change ds code (scope kind words) is = absurd (false≢true is)
code_of_change ds code upscope is = absurd (false≢true is)
code_of_change ds code (variable words) is = absurd (false≢true is)
code_of_change ds code end_definitions is = absurd (false≢true is)
code_of_change ds code (stamp digits) is = absurd (false≢true is)
code_of_change ds code (scalar digit c) is = ap Some (sym (same_bytes code c is))
code_of_change ds code (vector first digits c) is = ap Some (sym (same_bytes code c is))
code_of_change ds code (real_or_string first text c) is =
    ap Some (sym (same_bytes code c (and_parts (bytes_eq code c) (not (has_signal ds code)) is).0))
code_of_change ds code (dump_word word) is = absurd (false≢true is)
code_of_change ds code (other word words) is = absurd (false≢true is)

-- it changes no more than the value changes
pub change_state : (i : Item) (code : List ℕ) → change_code i ≡ Some code → (s : ParseState)
    → state_after_item s i ≡ at s (state_after_item s i).value_changes s.tick
change_state (entry kind words) code is s = absurd (cc)
change_state (timescale words) code is s = absurd (cc)
change_state (scope kind words) code is s = absurd (cc)
change_state upscope code is s = absurd (cc)
change_state (variable words) code is s = absurd (cc)
change_state end_definitions code is s = absurd (cc)
change_state (stamp digits) code is s = absurd (cc)
change_state (scalar digit c) code is s = refl
change_state (vector first digits c) code is s = refl
change_state (real_or_string first text c) code is s = refl
change_state (dump_word word) code is s = absurd (cc)
change_state (other word words) code is s = absurd (cc)
