-- The variables of the parser, compared with the state of a file.
use Rattle.std.specs.Prelude.{◌≡◌, ◌⊎◌, ℕ, ◌<◌, ◌≤◌, if◌then◌else◌, nat_le, List, [], ◌∷◌, ◌++◌}
use Rattle.std.specs.Prelude.{map, length, slice_get, take, ◌+◌, min}
use Rattle.std.specs.Prelude.{Bool, ◌||◌, nat_lt, count_by, All, Option, Some, None, IsTrue}
use Rattle.std.specs.Prelude.{IsFalse, IsSomeAnd, Result}
use Rattle.std.specs.Prelude.{Ok, Err}
use Rattle.vcd_core.specs.declared.value.TheConstants.{WIDTH_LIMIT}
use Rattle.vcd_core.specs.Decimal.{number_of}
use Rattle.vcd_core.specs.declared.wave.Change.{Change}
use Rattle.vcd_core.specs.declared.bit.Bit.{Bit}
use Rattle.vcd_core.specs.Value.{all_x}
use Rattle.vcd_core.specs.Wave.{value_from, value_at, IsWave}
use Rattle.vcd_core.specs.WaveView.{WaveView}
use Rattle.vcd_core.specs.declared.capture.ScopeName.{ScopeName}
use Rattle.vcd_core.specs.declared.capture.Signal.{Signal}
use Rattle.vcd_text.specs.declared.fault.Fault.{Fault}
use Rattle.vcd_text.specs.declared.fault.Fault.TheVariants as faults
use Rattle.vcd_text.specs.Letters.{letters_of_digits, extension}
use Rattle.vcd_text.specs.Items.{variable}
use Rattle.vcd_text.specs.Grammar.{VariableDeclaration, ValueChange, ParseState, is_skipped}
use Rattle.vcd_text.specs.Grammar.{kept_variables}
use Rattle.vcd_text.specs.Grammar.{declaration_of, variable_of, may_have_code}
use Rattle.vcd_text.specs.Grammar.{variable_tests}
use Rattle.vcd_core.specs.Tests.{first_fault}
use Rattle.vcd_text.specs.inside.reading.DigitTests.{is_binary_number}
use Rattle.vcd_text.specs.Grammar.{state_after_item, with_value_change}
use Rattle.vcd_text.specs.inside.reading.DigitTests.{takes_binary_number}
use Rattle.vcd_text.specs.Meaning.{changes_of_code}
use Rattle.vcd_text.specs.inside.reading.CodeTargets.{code_target}
use Rattle.vcd_text.specs.inside.reading.Log.{GivesLoggedValues, logged, AreGrouped, IsSameVariable}
use Rattle.vcd_text.specs.inside.reading.Chains.{chain_at}
use Rattle.vcd_text.specs.inside.reading.Scopes.{open_scopes, IsPlaced}
use Rattle.vcd_text.specs.declared.reading.log.LoggedChange.{LoggedChange}
use Rattle.vcd_text.specs.declared.reading.code_targets.CodeTarget.{CodeTarget}
use Rattle.vcd_text.specs.declared.reading.code_targets.CodeTarget.TheVariants.{Undeclared, Skipped}
use Rattle.vcd_text.specs.declared.reading.code_targets.CodeTarget.TheVariants.{Kept}
use Rattle.vcd_text.specs.declared.reading.variables.Variable.{Variable}
use Rattle.vcd_text.specs.declared.reading.variables.Variables.{Variables}

-- ---- the contents of the variables

-- the declaration of a kept variable of the parser, in these scopes and with this code
abbrev pub declaration_in : List ScopeName → (code : List ℕ) → Variable → VariableDeclaration
declaration_in scopes code v =
    record { scopes = scopes; kind = v.kind; size = v.wave.width; code = code; words = v.words }

-- the declaration of these parts in the open scopes of a state
abbrev pub declaration_of_parts : ParseState → (kind : List ℕ) → (size : ℕ) → (code : List ℕ)
    → (words : List (List ℕ)) → VariableDeclaration
declaration_of_parts c kind size code words =
    record { scopes = c.scopes; kind = kind; size = size; code = code; words = words }

-- a declaration without its scopes and its code
abbrev pub without_code : VariableDeclaration → VariableDeclaration
without_code d = record d { scopes = []; code = [] }

-- the same of a kept variable
abbrev pub declaration : Variable → VariableDeclaration
declaration v = declaration_in [] [] v

-- the target of a code
abbrev pub target_of : Variables → List ℕ → CodeTarget
target_of vs code = code_target vs.code_targets code

-- the value at a tick by the value changes of a code; `before` if there is none up to then
abbrev pub latest_value : ℕ → List ℕ → ℕ → List Bit → List ValueChange → List Bit
latest_value width code t before vs = value_from before (changes_of_code width code vs) t

-- the variable at this position has the size; its wave and its log give the code's value changes up
-- to the tick
pub record HasValueChanges (vs : List Variable) (log : ℕ → List LoggedChange) (position : ℕ)
    (code : List ℕ)
    (size : ℕ)
    (value_changes : List ValueChange) (tick : ℕ) : Type 0 where
  pub first : Variable
  pub at_position : slice_get vs position ≡ Some first
  pub sized : first.wave.width ≡ size
  pub gives : GivesLoggedValues size tick (λ t. latest_value size code t (all_x size) value_changes)
      first.wave.changes (log position)

-- the target of a code agrees with the code's declaration, and its width and its wave with the
-- value changes if it is kept
abbrev pub TargetMatches : List Variable → (ℕ → List LoggedChange) → List ValueChange → ℕ → List ℕ
    → CodeTarget → Option VariableDeclaration → Type 0
TargetMatches vs log value_changes tick code Undeclared None = Unit {0}
TargetMatches vs log value_changes tick code Skipped (Some d) = IsTrue (is_skipped d)
TargetMatches vs log value_changes tick code (Kept width position) (Some d) =
    IsFalse (is_skipped d) × (d.size ≡ width)
    × HasValueChanges vs log position code width value_changes tick
TargetMatches vs log value_changes tick code target declared = ⊥

-- the same for the variables of the parser and a state of the file
abbrev pub TargetAgrees : Variables → ParseState → List ℕ → CodeTarget
    → Option VariableDeclaration → Type 0
TargetAgrees vs c = TargetMatches vs.kept.items (logged vs.log.items) c.value_changes c.tick

-- a kept variable has the scopes of its declaration, the width of its code, and the position of the
-- first one with it, which is no later
pub record HasFirst (vs : Variables) (declared : List VariableDeclaration) (position : ℕ)
    (v : Variable) : Type 0 where
  pub owned : (d : VariableDeclaration) → slice_get declared position ≡ Some d
      → target_of vs d.code ≡ Kept v.wave.width v.first
  pub placed : (d : VariableDeclaration) → slice_get declared position ≡ Some d
      → IsPlaced vs.scopes v.place d.scopes
  pub no_later : v.first ≤ position

-- the log has changes only of variables that are the first of their code
abbrev pub HasOnlyFirstVariables : List Variable → (ℕ → List LoggedChange) → Type 0
HasOnlyFirstVariables vs log = (position : ℕ) → 0 < length (log position)
    → (v : Variable) × (slice_get vs position ≡ Some v) × (v.first ≡ position)

-- the variable at the target of a code was declared with the code
abbrev pub HaveOwnCodes : Variables → List VariableDeclaration → Type 0
HaveOwnCodes vs declared =
    (code : List ℕ) (width position : ℕ) → target_of vs code ≡ Kept width position
    → (d : VariableDeclaration) × (slice_get declared position ≡ Some d) × (d.code ≡ code)

-- the variables match the state: open scopes, declarations, and value changes up to the tick
pub record VariablesMatch (vs : Variables) (c : ParseState) : Type 0 where
  pub opened : open_scopes vs.scopes ≡ c.scopes
  pub kept : map without_code (kept_variables c.declared) ≡ map declaration vs.kept.items
  pub skipped : vs.skipped ≡ count_by is_skipped c.declared
  pub targets_agree : (code : List ℕ) → TargetAgrees vs c code (target_of vs code)
      (variable_of c code)
  pub owners : HaveOwnCodes vs (kept_variables c.declared)
  pub firsts : (position : ℕ) (v : Variable) → slice_get vs.kept.items position ≡ Some v
      → HasFirst vs (kept_variables c.declared) position v
  pub few : length vs.kept.items ≤ c.limit
  pub limit : vs.limit ≡ c.limit
  pub grouped : AreGrouped 0 vs.log.items
  pub logs : HasOnlyFirstVariables vs.kept.items (logged vs.log.items)

-- ---- the result of a declaration

-- the first variable of the code is at this position, with this width, or the code is free and the
-- position the next one
abbrev pub IsFree : Variables → (code : List ℕ) → (width first : ℕ) → Type 0
IsFree vs code width first =
    ((target_of vs code ≡ Undeclared) × (first ≡ length vs.kept.items))
    ⊎ (target_of vs code ≡ Kept width first)

-- whether a variable is skipped, or those that are kept are below their limit
abbrev pub is_within_limit : (limit : ℕ) → List VariableDeclaration → VariableDeclaration → Bool
is_within_limit limit declared d = is_skipped d || nat_lt (length (kept_variables declared)) limit

-- the state with this declaration added last
abbrev pub with_declaration : ParseState → VariableDeclaration → ParseState
with_declaration c d = record c { declared = c.declared ++ d ∷ [] }

-- the declaration is not allowed here
pub data CannotDeclare (c : ParseState) (d : VariableDeclaration) (fault : Fault) : Type 0 where
  mixed : IsFalse (may_have_code (variable_of c d.code) d) → fault ≡ faults.MixedCode
      → CannotDeclare c d fault
  many : IsTrue (may_have_code (variable_of c d.code) d)
      → IsFalse (is_within_limit c.limit c.declared d)
      → fault ≡ faults.TooManySignals → CannotDeclare c d fault

-- the result of a declaration: it is added, or not allowed here, or memory runs out
abbrev pub DeclaresAs : ParseState → VariableDeclaration → Result (Unit {0}) Fault → Variables
    → Type 0
DeclaresAs c d (Ok x) new = IsTrue (may_have_code (variable_of c d.code) d)
    × IsTrue (is_within_limit c.limit c.declared d)
    × VariablesMatch new (with_declaration c d)
DeclaresAs c d (Err fault) new = (fault ≡ faults.NoMemory) ⊎ CannotDeclare c d fault

-- ---- the result of a `$var`, at its `$end`

-- the result of the words: their variable is added, or one of its tests fails, or memory runs out
abbrev pub Declares : ParseState → List (List ℕ) → Result (Unit {0}) Fault → Variables → Type 0
Declares c words (Ok x) new =
    IsSomeAnd (declaration_of c words) (λ d. IsTrue (may_have_code (variable_of c d.code) d)
    × IsTrue (is_within_limit c.limit c.declared d))
    × VariablesMatch new (state_after_item c (variable words))
Declares c words (Err fault) new = (fault ≡ faults.NoMemory)
    ⊎ (first_fault (variable_tests c (declaration_of c words)) ≡ Some fault)

-- the same of words without a size, and of the size that has been read
abbrev pub DeclaresWords : List (List ℕ) → ℕ → Variables → Result (Unit {0}) Fault → Variables
    → Type 0
DeclaresWords words size old result new = (c : ParseState) (kind word : List ℕ)
    (following : List (List ℕ)) → words ≡ kind ∷ following
    → size ≡ min (number_of word) (WIDTH_LIMIT + 1) → c.value_changes ≡ [] → VariablesMatch old c
    → Declares c (kind ∷ word ∷ following) result new

-- ---- the result of digits

-- from the tick on, the variable has the value of the digits
pub record HasValueFrom (tick : ℕ) (digits : List ℕ) (old new : Variable) : Type 0 where
  pub value : IsTrue (is_binary_number digits)
  pub fits : length digits ≤ old.wave.width
  pub same : IsSameVariable old new
  pub ticks : All (λ (change : Change). change.tick ≤ tick) new.wave.changes
  pub values : (t : ℕ) → value_at new.wave.width new.wave.changes t
      ≡ (if nat_le tick t then extension old.wave.width (letters_of_digits digits)
      else value_at old.wave.width old.wave.changes t)

-- ---- the result of a change with these digits

-- the code is not declared, or its variable refuses the digits
pub data RefusesChange (c : ParseState) (code digits : List ℕ) (fault : Fault) : Type 0 where
  unknown : variable_of c code ≡ None → fault ≡ faults.UnknownCode
      → RefusesChange c code digits fault
  no_value : (d : VariableDeclaration) → variable_of c code ≡ Some d → IsFalse (is_skipped d)
      → IsFalse (is_binary_number digits)
      → fault ≡ faults.BadChange → RefusesChange c code digits fault
  too_long : (d : VariableDeclaration) → variable_of c code ≡ Some d → IsFalse (is_skipped d)
      → IsTrue (is_binary_number digits) → d.size < length digits
      → fault ≡ faults.ValueTooLong → RefusesChange c code digits fault

-- the result of the change: it is added, or shows a fault, or memory runs out
abbrev pub ChangeResult : ParseState → (code digits : List ℕ) → Result (Unit {0}) Fault → Variables
    → Type 0
ChangeResult c code digits (Ok x) new =
    IsSomeAnd (variable_of c code) (λ d. IsTrue (takes_binary_number d digits))
    × VariablesMatch new (with_value_change c code (letters_of_digits digits))
ChangeResult c code digits (Err fault) new = (fault ≡ faults.NoMemory)
    ⊎ RefusesChange c code digits fault

-- ---- the signals of the variables at the end

-- a variable gets its own wave, or that of the signal of the first one with its code
abbrev pub FinishesWave : WaveView → Option Signal → WaveView → Type 0
FinishesWave own None wave = (wave ≡ own) × IsWave wave.width wave.changes
FinishesWave own (Some shared) wave = (wave.width ≡ shared.wave.width)
    × (wave.changes ≡ shared.wave.changes)

-- the signal of a variable, in the scopes of its place, with such a wave
pub record Finishes (chains : List (List ScopeName)) (v : Variable) (shared : Option Signal)
    (signal : Signal) : Type 0 where
  pub scopes : signal.scopes ≡ take v.place.count (chain_at chains v.place.chain)
  pub kind : signal.kind ≡ v.kind
  pub words : signal.words ≡ v.words
  pub wave : FinishesWave v.wave shared signal.wave
