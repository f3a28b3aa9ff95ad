-- The values of a signal after an item, and the last piece that changes it.
use Rattle.std.proofs.Common.{◌≡◌, ℕ, ◌∙◌, Bool, true, false, not, ◌&&◌, List, [], ◌∷◌, ◌++◌, refl, ap, sym}
use Rattle.std.proofs.Common.{Option, Some, None, if◌then◌else◌, nat_le, inl, inr}
use Rattle.std.specs.Prelude.{bytes_eq}
use Rattle.std.specs.Option.{option_or}
use Rattle.std.proofs.lemmas.Bool.{cases_Bool, false≢true, and_from}
use Rattle.std.proofs.lemmas.List.{append-nil}
use Rattle.vcd_core.specs.declared.bit.Bit.{Bit}
use Rattle.vcd_core.specs.Value.{all_x}
use Rattle.vcd_text.specs.Letters.{extension, letters_of_digits}
use Rattle.vcd_text.specs.Items.{Item, entry, timescale, scope, upscope, variable, end_definitions, stamp, scalar}
use Rattle.vcd_text.specs.Items.{vector, real_or_string, dump_word, other}
use Rattle.vcd_text.specs.Grammar.{ParseState, VariableDeclaration, ValueChange, is_skipped, state_after_item}
use Rattle.vcd_text.specs.Grammar.{with_value_change, value_changes_after, variable_of}
use Rattle.vcd_copy.specs.Pieces.{Piece}
use Rattle.vcd_text.specs.inside.reading.Variables.{latest_value}
use Rattle.vcd_text.proofs.shared.ItemsInTurn.{value_with}
use Rattle.vcd_part.specs.PartPieces.{has_signal, is_change_of, last_such}
use Rattle.vcd_part.proofs.laws.signals.SameStatus.{IsIn, HasOneStatus, status, first_of, first_found, same_bytes}
use Rattle.vcd_part.proofs.laws.signals.SameStatus.{bytes_turned, bytes_same, in_any}

-- a variable that is not skipped is among these, which have one status for each code
pub record IsSignal (ds : List VariableDeclaration) (d : VariableDeclaration) : Type 0 where
  pub one : HasOneStatus ds
  pub is_in : IsIn d ds
  pub signal : is_skipped d ≡ false

-- the value of its signal by value changes
abbrev pub value : VariableDeclaration → List ValueChange → ℕ → List Bit
value d vs u = latest_value d.size d.code u (all_x d.size) vs

-- the letters of a change to digits
abbrev pub letters_of : Item → List Bit
letters_of (scalar digit code) = letters_of_digits (digit ∷ [])
letters_of (vector first digits code) = letters_of_digits digits
letters_of i = []

-- ---- the first variable of its code is not skipped

not_skipped : (a d : VariableDeclaration) → status a ≡ status d → is_skipped d ≡ false → is_skipped a ≡ false
not_skipped a d same signal = by_test (is_skipped a) refl
  where
    by_test : (b : Bool) → is_skipped a ≡ b → is_skipped a ≡ false
    by_test false is = is
    by_test true is =
        let none : status a ≡ None = rw is refl in
        let some : status d ≡ Some d.size = rw signal refl in
        absurd (cc)

pub signal_has : (ds : List VariableDeclaration) (d : VariableDeclaration) → IsSignal ds d → has_signal ds d.code ≡ true
signal_has ds d is = in_any (λ e. not (is_skipped e) && bytes_eq d.code e.code) d ds is.is_in (and_from (not
    (is_skipped d)) (bytes_eq d.code d.code) (ap not is.signal) (bytes_same d.code d.code refl))

-- ---- after an item

module _ (s : ParseState) (d : VariableDeclaration) (is : IsSignal s.declared d) (u : ℕ) where
  module _ (code : List ℕ) (letters : List Bit) where
    abbrev with_it : Bool → List Bit
    with_it counts = if counts then extension d.size letters else value d s.value_changes u

    abbrev is_own : Bool
    is_own = bytes_eq code d.code

    abbrev added : Option VariableDeclaration → List ValueChange
    added o = s.value_changes ++ value_changes_after s code letters o

    none_added : (b : Bool) → b ≡ false → value d (s.value_changes ++ []) u ≡ with_it (b && nat_le s.tick u)
    none_added b never = ap (λ l. value d l u) (append-nil s.value_changes) ∙ ap (λ b. with_it (b && nat_le s.tick u))
        (sym never)

    not_own : (is_own ≡ true → ⊥) → is_own ≡ false
    not_own never = elim (cases_Bool is_own) [
      | inl its ↦ absurd (never its)
      | inr it ↦ it
    ]

    of_option : (o : Option VariableDeclaration)
        → (is_own ≡ true → (a : VariableDeclaration) × (o ≡ Some a) × (is_skipped a ≡ false))
        → value d (added o) u ≡ with_it (is_own && nat_le s.tick u)
    of_option None own = none_added is_own (not_own (λ its. let found = own its in let is : None ≡ Some found.0 =
        found.1 in absurd (cc)))
    of_option (Some a) own = by_test (is_skipped a) refl
      where
        by_test : (b : Bool) → is_skipped a ≡ b
            → value d (s.value_changes ++ (if b then [] else record { tick = s.tick; code = code; letters = letters } ∷
            [])) u ≡ with_it (is_own && nat_le s.tick u)
        by_test true it = none_added is_own (not_own (λ its. let found = own its in let same : a ≡ found.0 = cc
            (found.1) in absurd (false≢true (sym found.2 ∙ ap is_skipped (sym same) ∙ it))))
        by_test false it = value_with d.size d.code u (all_x d.size) s.value_changes (record {
          tick = s.tick;
          code =
              code;
          letters = letters;
        })

    with_change : value d (with_value_change s code letters).value_changes u ≡ with_it (bytes_eq d.code code && nat_le
        s.tick u)
    with_change = of_option (variable_of s code) (λ its. let same : code ≡ d.code = same_bytes code d.code its in
        let found = first_found s.declared d is.one is.is_in in
        (found.0, ap (λ c. first_of c s.declared) same ∙ found.1, not_skipped found.0 d found.2 is.signal))
        ∙ ap (λ b. with_it (b && nat_le s.tick u)) (bytes_turned code d.code)

  -- the value after an item is that of its letters, if it is a change of the signal and no later
  pub after_item : (i : Item) → value d (state_after_item s i).value_changes u
      ≡ (if is_change_of s.declared d.code i && nat_le s.tick u then extension d.size (letters_of i)
      else value d s.value_changes u)
  after_item (entry kind words) = refl
  after_item (timescale words) = refl
  after_item (scope kind words) = refl
  after_item upscope = refl
  after_item (variable words) = refl
  after_item end_definitions = refl
  after_item (stamp digits) = refl
  after_item (scalar digit code) = with_change code (letters_of_digits (digit ∷ []))
  after_item (vector first digits code) = with_change code (letters_of_digits digits)
  after_item (real_or_string first text code) =
      let none : (bytes_eq d.code code && not (has_signal s.declared d.code)) ≡ false =
      ap (λ b. bytes_eq d.code code && not b) (signal_has s.declared d is) ∙ and_false (bytes_eq d.code code) in
      sym (ap (λ b. if b && nat_le s.tick u then extension d.size [] else value d s.value_changes u) none)
    where
      and_false : (b : Bool) → (b && false) ≡ false
      and_false true = refl
      and_false false = refl
  after_item (dump_word word) = refl
  after_item (other word words) = refl

-- ---- the last piece of a kind

pub last_with : (test : Item → Bool) (ps : List Piece) (p : Piece)
    → last_such test (ps ++ p ∷ []) ≡ (if test p.item then Some p else last_such test ps)
unfolding last_such
last_with test [] p = refl
last_with test (q ∷ ps) p = rw (last_with test ps p) (by_test (test p.item))
  where
    by_test : (b : Bool) → option_or (if b then Some p else last_such test ps) (if test q.item then Some q else None)
        ≡ (if b then Some p else option_or (last_such test ps) (if test q.item then Some q else None))
    by_test true = refl
    by_test false = refl

pub last_passes : (test : Item → Bool) (ps : List Piece) (q : Piece) → last_such test ps ≡ Some q
    → test q.item ≡ true
unfolding last_such
last_passes test [] q is = absurd (cc)
last_passes test (p ∷ ps) q is = by_last (last_such test ps) refl is (last_passes test ps q)
  where
    one : (b : Bool) → test p.item ≡ b → (if b then Some p else None) ≡ Some q → test q.item ≡ true
    one true it same = let is : p ≡ q = cc in ap (λ (x : Piece). test x.item) (sym is) ∙ it
    one false it same = absurd (cc)

    by_last : (o : Option Piece) → last_such test ps ≡ o
        → option_or o (if test p.item then Some p else None) ≡ Some q
        → (last_such test ps ≡ Some q → test q.item ≡ true) → test q.item ≡ true
    by_last None none same next = one (test p.item) refl same
    by_last (Some x) some same next = next (some ∙ same)

-- the value that it gives
abbrev pub of_last : VariableDeclaration → Option Piece → List Bit
of_last d None = all_x d.size
of_last d (Some p) = extension d.size (letters_of p.item)
