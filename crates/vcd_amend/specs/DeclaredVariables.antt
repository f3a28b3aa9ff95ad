-- What contracts see of a declared variable.
use Rattle.std.specs.Prelude.{◌≡◌, List, map}
use Rattle.vcd_core.specs.Contents.{SignalContents}
use Rattle.vcd_text.specs.Grammar.{VariableDeclaration, kept_variables}
use Rattle.vcd_amend.specs.declared.declarations.DeclaredVariable.{DeclaredVariable}

-- the declaration of a variable
abbrev pub declaration_of_variable : DeclaredVariable → VariableDeclaration
declaration_of_variable v = record {
  scopes = v.scopes;
  kind = v.kind;
  size = v.size;
  code = v.code;
  words = v.words;
}

-- the declarations of variables
abbrev pub declarations_of : List DeclaredVariable → List VariableDeclaration
declarations_of variables = map declaration_of_variable variables

-- the signals are as wide as the kept variables, in turn
abbrev pub HaveSizesOf : List SignalContents → (declared : List VariableDeclaration) → Type 0
HaveSizesOf signals declared =
    map (λ n. n.width) signals ≡ map (λ d. d.size) (kept_variables declared)
