-- The accepted files and their state: the conditions of each item, and its effect (IEEE 1364-2005,
-- 18.2, in the project's profile).
use Rattle.std.specs.Prelude.{◌≡◌, ℕ, ◌-◌, Bool, true, false, not, ◌&&◌, ◌||◌, ◌==◌}
use Rattle.std.specs.Prelude.{nat_lt, nat_le, []}
use Rattle.std.specs.Prelude.{if◌then◌else◌, List, ◌∷◌, ◌++◌, map, length, take, filter, find}
use Rattle.std.specs.Prelude.{Option, Some, None, is_some}
use Rattle.std.specs.Prelude.{IsTrue, option_to_list, bytes_eq, codes, fold}
use Rattle.std.specs.List.{list_all}
use Rattle.vcd_core.specs.declared.bit.Bit.{Bit}
use Rattle.vcd_core.specs.declared.capture.Header.{Header}
use Rattle.vcd_core.specs.declared.capture.Timescale.{Timescale}
use Rattle.vcd_core.specs.declared.capture.ScopeName.{ScopeName}
use Rattle.vcd_core.specs.declared.value.TheConstants.{WIDTH_LIMIT}
use Rattle.vcd_core.specs.declared.capture.TheConstants.{END_LIMIT}
use Rattle.vcd_core.specs.Word.{is_skipped_kind, is_one_of}
use Rattle.vcd_core.specs.Tests.{Test, ◌unless◌, first_fault}
use Rattle.vcd_text.specs.declared.fault.Fault.{Fault}
use Rattle.vcd_text.specs.declared.fault.Fault.TheVariants.{BadTimescale, BadVar, MixedCode}
use Rattle.vcd_text.specs.declared.fault.Fault.TheVariants.{BadTime, TimeBackwards, BadChange}
use Rattle.vcd_text.specs.declared.fault.Fault.TheVariants.{UnknownCode, ValueTooLong}
use Rattle.vcd_text.specs.declared.fault.Fault.TheVariants.{TooManySignals}
use Rattle.vcd_text.specs.Words.{WordOnLine}
use Rattle.vcd_core.specs.Decimal.{is_number, number_of}
use Rattle.vcd_text.specs.Letters.{is_among, is_binary_digit, letters_of_digits}
use Rattle.vcd_text.specs.Items.{Item, entry, timescale, scope, upscope, variable, end_definitions}
use Rattle.vcd_text.specs.Items.{stamp, scalar}
use Rattle.vcd_text.specs.Items.{vector, real_or_string, dump_word, other, spellings}
use Rattle.vcd_text.specs.Items.{has_no_end_word, dump_words}
use Rattle.vcd_text.specs.Items.{is_other, timescale_of}

-- ---- the state of a file

-- a variable, with the scopes that are open at its declaration
pub record VariableDeclaration : Type 0 where
  pub scopes : List ScopeName
  pub kind : List ℕ
  pub size : ℕ
  pub code : List ℕ
  pub words : List (List ℕ)

-- from this tick on, the variables of this code have these letters
pub record ValueChange : Type 0 where
  pub tick : ℕ
  pub code : List ℕ
  pub letters : List Bit

-- the state after the items so far: the open scopes, outermost first; the last stamp, or 0; whether
-- `$enddefinitions $end` has come; the most variables that may be kept
pub record ParseState : Type 0 where
  pub header : List Header
  pub timescale : Option Timescale
  pub scopes : List ScopeName
  pub declared : List VariableDeclaration
  pub in_body : Bool
  pub value_changes : List ValueChange
  pub tick : ℕ
  pub limit : ℕ

-- the state before the first item
abbrev pub initial_state : ℕ → ParseState
initial_state limit =
    record {
      header = [];
      timescale = None;
      scopes = [];
      declared = [];
      in_body = false;
      value_changes = [];
      tick = 0;
      limit = limit;
    }

-- ---- variables

-- whether a variable is skipped (the project's own): for its kind, or for no bit or too many
abbrev pub is_skipped : VariableDeclaration → Bool
is_skipped d = is_skipped_kind d.kind || (d.size == 0 || nat_lt WIDTH_LIMIT d.size)

-- the variables that are not skipped
abbrev pub kept_variables : List VariableDeclaration → List VariableDeclaration
kept_variables declared = filter (λ d. not (is_skipped d)) declared

-- whether the size in the words of a `$var`, if it has come, is a decimal number
abbrev pub has_good_size : List (List ℕ) → Bool
has_good_size (kind ∷ size ∷ words) = is_number size
has_good_size words = true

-- the variable that the words of a `$var` declare: kind, size, code, and the words of its name
abbrev pub declaration_of : ParseState → List (List ℕ) → Option VariableDeclaration
declaration_of s (kind ∷ size ∷ code ∷ name ∷ names) =
    Some (record {
      scopes = s.scopes;
      kind = kind;
      size = number_of size;
      code = code;
      words = name ∷ names;
    })
declaration_of s words = None

-- the first variable of this code; the later ones agree with it
abbrev pub variable_of : ParseState → List ℕ → Option VariableDeclaration
variable_of s code = find (λ d. bytes_eq code d.code) s.declared

-- whether a variable can have the code of the variable `a`, if there is one: both are skipped, or
-- kept with one size
abbrev pub may_have_code : Option VariableDeclaration → VariableDeclaration → Bool
may_have_code None b = true
may_have_code (Some a) b =
    (is_skipped a && is_skipped b)
    || (not (is_skipped a) && not (is_skipped b) && (a.size == b.size))

-- ---- the conditions of an item

-- whether an item can stand here. A word that none of these has is a misfit (`misfit_fault`). The
-- tests below are made at the last word
abbrev pub fits : ParseState → Item → Bool
fits s (entry kind words) = not s.in_body && has_no_end_word words
fits s (timescale words) = not s.in_body && has_no_end_word words
fits s (scope kind words) = not s.in_body && has_no_end_word (kind ∷ words)
fits s upscope = not s.in_body && nat_lt 0 (length s.scopes)
fits s (variable words) = not s.in_body && (has_no_end_word words && has_good_size words)
fits s end_definitions = not s.in_body
fits s (stamp digits) = s.in_body
fits s (scalar digit code) = s.in_body && (is_binary_digit digit && nat_lt 0 (length code))
fits s (vector first digits code) = s.in_body && is_among (codes "bB") first
fits s (real_or_string first text code) = s.in_body && is_among (codes "rRsS") first
fits s (dump_word word) = s.in_body && is_one_of dump_words word
fits s (other word words) = is_other s.in_body word && has_no_end_word words

-- the tests of a variable, or of a `$var` without one of its parts
abbrev pub variable_tests : ParseState → Option VariableDeclaration → List (Test Fault)
variable_tests s None = (BadVar unless false) ∷ []
variable_tests s (Some d) =
    (MixedCode unless may_have_code (variable_of s d.code) d)
    ∷ (TooManySignals unless (is_skipped d || nat_lt (length (kept_variables s.declared)) s.limit))
    ∷ []

-- the tests of digits for the variable of a code: a skipped one takes any, a kept one a value that
-- is not too long
abbrev pub digit_tests : List ℕ → Option VariableDeclaration → List (Test Fault)
digit_tests digits None = (UnknownCode unless false) ∷ []
digit_tests digits (Some d) =
    (BadChange unless (is_skipped d
    || (not (length digits == 0) && list_all is_binary_digit digits)))
    ∷ (ValueTooLong unless (is_skipped d || nat_le (length digits) d.size))
    ∷ []

-- the tests of an item at its last word, in the order of the faults
abbrev pub item_tests : ParseState → Item → List (Test Fault)
item_tests s (timescale words) = (BadTimescale unless is_some (timescale_of words)) ∷ []
item_tests s (variable words) = variable_tests s (declaration_of s words)
item_tests s (stamp digits) =
    (BadTime unless (is_number digits && nat_le (number_of digits) END_LIMIT))
    ∷ (TimeBackwards unless nat_le s.tick (number_of digits))
    ∷ []
item_tests s (scalar digit code) = (UnknownCode unless is_some (variable_of s code)) ∷ []
item_tests s (vector first digits code) = digit_tests digits (variable_of s code)
item_tests s (real_or_string first text code) =
    (UnknownCode unless is_some (variable_of s code)) ∷ []
item_tests s item = []

-- an item fits, and no test of it fails
abbrev pub Allows : ParseState → Item → Type 0
Allows s i = IsTrue (fits s i) × (first_fault (item_tests s i) ≡ None)

-- ---- the effect of an item

-- the value changes that a change to these letters adds: one at the tick, if the variable is kept
abbrev pub value_changes_after : ParseState → List ℕ → List Bit → Option VariableDeclaration
    → List ValueChange
value_changes_after s code letters None = []
value_changes_after s code letters (Some d) =
    if is_skipped d then [] else record { tick = s.tick; code = code; letters = letters } ∷ []

-- the state with this value change added last
abbrev pub with_value_change : ParseState → List ℕ → List Bit → ParseState
with_value_change s code letters =
    record s {
      value_changes = s.value_changes
          ++ value_changes_after s code letters (variable_of s code);
    }

-- the state after an item
abbrev pub state_after_item : ParseState → Item → ParseState
state_after_item s (entry kind words) =
    record s { header = s.header ++ record { kind = kind; words = words } ∷ [] }
state_after_item s (timescale words) = record s { timescale = timescale_of words }
state_after_item s (scope kind words) =
    record s { scopes = s.scopes ++ record { kind = kind; words = words } ∷ [] }
state_after_item s upscope = record s { scopes = take (length s.scopes - 1) s.scopes }
state_after_item s (variable words) =
    record s { declared = s.declared ++ option_to_list (declaration_of s words) }
state_after_item s end_definitions = record s { in_body = true }
state_after_item s (stamp digits) = record s { tick = number_of digits }
state_after_item s (scalar digit code) = with_value_change s code (letters_of_digits (digit ∷ []))
state_after_item s (vector first digits code) = with_value_change s code (letters_of_digits digits)
state_after_item s item = s

-- the state after a list of items
abbrev pub state_after : ParseState → List Item → ParseState
state_after s items = fold state_after_item s items

-- the conditions of each item hold in turn
abbrev pub AllowsAll : ParseState → List Item → Type 0
AllowsAll s [] = Unit {0}
AllowsAll s (i ∷ is) = Allows s i × AllowsAll (state_after_item s i) is

-- ---- files

-- the texts of words
abbrev pub word_texts : List WordOnLine → List (List ℕ)
word_texts words = map (λ word. word.text) words

-- the words are accepted with this state: they spell items, with `$enddefinitions $end` among them,
-- whose conditions hold
pub record Accepts (limit : ℕ) (words : List WordOnLine) (state : ParseState) : Type 0 where
  pub items : List Item
  pub spelled : word_texts words ≡ spellings items
  pub allowed : AllowsAll (initial_state limit) items
  pub state_is : state_after (initial_state limit) items ≡ state
  pub definitions_ended : IsTrue state.in_body
