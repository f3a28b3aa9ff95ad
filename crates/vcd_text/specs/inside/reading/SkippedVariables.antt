-- The skipped variables of a file, as they are listed while it is read.
use Rattle.std.specs.Prelude.{◌≡◌, ℕ, ◌-◌, ◌<◌, ◌≤◌, ◌^◌, List, [], ◌∷◌, ◌++◌}
use Rattle.std.specs.Prelude.{length, map, min, IsSomeAnd, IsTrue, slice_get, if◌then◌else◌}
use Rattle.vcd_core.specs.Decimal.{is_number, number_of}
use Rattle.vcd_core.specs.Names.{name_in}
use Rattle.vcd_text.specs.Grammar.{VariableDeclaration}
use Rattle.vcd_text.specs.HeardChanges.{first_with, skipped_variables}
use Rattle.vcd_text.specs.inside.reading.CodeTargets.{code_target}
use Rattle.vcd_text.specs.inside.reading.Declarations.{is_end_word}
use Rattle.vcd_text.specs.inside.reading.Scopes.{open_scopes}
use Rattle.vcd_text.specs.declared.reading.code_targets.CodeTargets.{CodeTargets}
use Rattle.vcd_text.specs.declared.reading.parser.OpenItem.{OpenItem}
use Rattle.vcd_text.specs.declared.reading.parser.OpenItem.TheVariants as items
use Rattle.vcd_text.specs.declared.reading.parser.Parser.{Parser}
use Rattle.vcd_text.specs.declared.reading.skipped_variables.SkippedVariable.{SkippedVariable}
use Rattle.vcd_text.specs.declared.reading.skipped_variables.SkippedVariables.{SkippedVariables}

-- ---- what is listed

-- a size, up to the greatest number of 64 bits
abbrev pub listed_size : ℕ → ℕ
listed_size size = min size (2 ^ 64 - 1)

-- what is listed of one of these variables
abbrev pub listed_variable : List VariableDeclaration → VariableDeclaration → SkippedVariable
listed_variable all d =
    record {
      kind = d.kind;
      size = listed_size d.size;
      name = name_in d.scopes d.words;
      first = first_with d.code all;
    }

-- these variables, as they are listed
abbrev pub listed_variables : List VariableDeclaration → List SkippedVariable
listed_variables all = map (listed_variable all) all

-- each code has as its target the position of the first of these variables with it; the greatest
-- number of 64 bits if there is none
pub record KnowsFirsts (firsts : CodeTargets ℕ) (all : List VariableDeclaration) : Type 0 where
  pub known : (code : List ℕ) → first_with code all < length all
      → code_target firsts code ≡ first_with code all
  pub absent : (code : List ℕ) → length all ≤ first_with code all
      → code_target firsts code ≡ 2 ^ 64 - 1

-- these variables are listed
pub record HasListed (s : SkippedVariables) (all : List VariableDeclaration) : Type 0 where
  pub list : s.list.items ≡ listed_variables all
  pub firsts : KnowsFirsts s.firsts all

-- the skipped ones of these variables are listed
abbrev pub HasSkipped : SkippedVariables → (declared : List VariableDeclaration) → Type 0
HasSkipped s declared = HasListed s (skipped_variables declared)

-- ---- the open `$var`

-- the size is known in the open `$var`, of which these words have come
abbrev pub KnowsSize : OpenItem → (begun : List (List ℕ)) → SkippedVariables → Type 0
KnowsSize items.SizedVariable begun s =
    IsSomeAnd (slice_get begun 2) (λ word. s.size ≡ listed_size (number_of word))
KnowsSize item begun s = Unit {0}

-- the variable of this size that the words of the open `$var` declare, apart from its size
abbrev pub open_variable : Parser → (size : ℕ) → List (List ℕ) → List VariableDeclaration
open_variable m size (kind ∷ code ∷ name ∷ names) =
    record {
      scopes = open_scopes m.variables.scopes;
      kind = kind;
      size = size;
      code = code;
      words = name ∷ names;
    } ∷ []
open_variable m size words = []

-- what one more word gives, which the parser has not taken
abbrev pub HearsWord : OpenItem → Parser → (text : List ℕ) → (old new : SkippedVariables) → Type 0
HearsWord items.Variable m text old new =
    (IsTrue (is_number text) → new.size ≡ listed_size (number_of text))
    × ((declared : List VariableDeclaration) → HasSkipped old declared → HasSkipped new declared)
HearsWord items.SizedVariable m text old new =
    (new.size ≡ old.size)
    × ((size : ℕ) (declared : List VariableDeclaration) → old.size ≡ listed_size size
    → HasSkipped old declared → HasSkipped new (declared
    ++ (if is_end_word text then open_variable m size m.words.items else [])))
HearsWord item m text old new =
    (declared : List VariableDeclaration) → HasSkipped old declared → HasSkipped new declared
