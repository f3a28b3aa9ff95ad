-- An amendment of a file: what becomes of its kept variables, which variables come after them, and
-- which codes mean another wave. The project's own.
use Rattle.std.specs.Prelude.{ℕ, Bool, not, ◌&&◌, ◌||◌, ◌==◌, if◌then◌else◌, List, [], ◌∷◌, ◌++◌}
use Rattle.std.specs.Prelude.{length, find, Option, is_some, bytes_eq, get_or}
use Rattle.std.specs.List.{list_any}
use Rattle.vcd_core.specs.declared.bit.Bit.{Bit}
use Rattle.vcd_core.specs.declared.wave.Change.{Change}
use Rattle.vcd_core.specs.Value.{same_letters}
use Rattle.vcd_core.specs.Wave.{value_at}
use Rattle.vcd_text.specs.Grammar.{VariableDeclaration, ParseState, is_skipped, kept_variables}

-- ---- what is done to a file

-- a code that is to mean another wave: the width of its variables, its wave in the file, all x for
-- a code that is not in the file, and its wave in the amended file
pub record AmendedCode : Type 0 where
  pub code : List ℕ
  pub width : ℕ
  pub old : List Change
  pub new : List Change

-- what becomes of a kept variable
pub data Fate : Type 0 where
  -- its declaration stays as it is
  stays : Fate
  -- it is left out
  is_removed : Fate
  -- it has these name words and this code
  is_changed : (words : List (List ℕ)) → (code : List ℕ) → Fate

-- the fates of the kept variables, in their order, the variables that are added after them, and the
-- amended codes
pub record Amendment : Type 0 where
  pub fates : List Fate
  pub added : List VariableDeclaration
  pub codes : List AmendedCode

-- ---- variables

-- the fate of a variable that is declared after others; a skipped one stays
abbrev pub fate_of : Amendment → (before : List VariableDeclaration) → VariableDeclaration → Fate
fate_of a before d =
    if is_skipped d then stays else get_or a.fates (length (kept_variables before)) stays

-- what is declared in place of a variable with this fate
abbrev pub variable_left : Fate → VariableDeclaration → List VariableDeclaration
variable_left stays d = d ∷ []
variable_left is_removed d = []
variable_left (is_changed words code) d = record d { words = words; code = code } ∷ []

-- a `flat_map` along variables, where f is given the variables before each one, too
abbrev pub flat_map_along : {B : Type 0}
    → (List VariableDeclaration → VariableDeclaration → List B)
    → (before : List VariableDeclaration) → List VariableDeclaration → List B
flat_map_along f before [] = []
flat_map_along f before (d ∷ ds) = f before d ++ flat_map_along f (before ++ d ∷ []) ds

-- what is declared in place of the variables of a file
abbrev pub variables_left : Amendment → List VariableDeclaration → List VariableDeclaration
variables_left a ds = flat_map_along (λ before d. variable_left (fate_of a before d) d) [] ds

-- all variables of the amended file
abbrev pub amended_variables : Amendment → List VariableDeclaration → List VariableDeclaration
amended_variables a ds = variables_left a ds ++ a.added

-- the first variable of a code, if there is one
abbrev pub first_with_code : (code : List ℕ) → List VariableDeclaration → Option VariableDeclaration
first_with_code code ds = find (λ d. bytes_eq code d.code) ds

-- whether a variable of the amended file has the code
abbrev pub is_used : Amendment → ParseState → (code : List ℕ) → Bool
is_used a s code = is_some (first_with_code code (amended_variables a s.declared))

-- ---- waves

-- the amended code that is this code, if there is one
abbrev pub amended_code : (code : List ℕ) → List AmendedCode → Option AmendedCode
amended_code code cs = find (λ c. bytes_eq code c.code) cs

-- the value of a code at a tick in the file
abbrev pub old_value : AmendedCode → ℕ → List Bit
old_value c t = value_at c.width c.old t

-- the value of a code at a tick in the amended file
abbrev pub new_value : AmendedCode → ℕ → List Bit
new_value c t = value_at c.width c.new t

-- whether a wave has a change at a tick
abbrev pub wave_has_change : List Change → ℕ → Bool
wave_has_change changes t = list_any (λ x. x.tick == t) changes

-- whether the file's changes of an amended code at a tick stand: the two waves have one value
-- there, and it is not the old one alone that changes
abbrev pub changes_stand : AmendedCode → ℕ → Bool
changes_stand c t = same_letters (old_value c t) (new_value c t)
    && (wave_has_change c.new t || not (wave_has_change c.old t))

-- whether the amended file is to have a change of an amended code at a tick: the new wave has one,
-- or the waves differ at tick 0
abbrev pub needs_change : AmendedCode → ℕ → Bool
needs_change c t = wave_has_change c.new t
    || (t == 0 && not (same_letters (old_value c 0) (new_value c 0)))
