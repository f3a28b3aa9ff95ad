-- Variables with their fates, as the remarks on an output find them.
use Rattle.std.specs.Prelude.{◌≡◌, ℕ, Bool, true, false, not, ◌&&◌, if◌then◌else◌, List, [], ◌∷◌}
use Rattle.std.specs.Prelude.{is_some, map, bytes_eq}
use Rattle.std.specs.List.{filter, flat_map}
use Rattle.vcd_text.specs.Grammar.{VariableDeclaration}
use Rattle.vcd_text.specs.declared.reading.code_targets.CodeTargets.{CodeTargets}
use Rattle.vcd_text.specs.inside.reading.CodeTargets.{code_target}
use Rattle.vcd_amend.specs.Amendment.{Amendment, Fate, fate_of, flat_map_along, variable_left}
use Rattle.vcd_amend.specs.Amendment.{first_with_code}
use Rattle.vcd_amend.specs.DeclaredVariables.{declaration_of_variable}
use Rattle.vcd_amend_run.specs.declared.remarks.fated_variables.FatedVariable.{FatedVariable}
use Rattle.vcd_amend.specs.declared.amending.code_uses.CodeUse.{CodeUse}
use Rattle.vcd_amend_run.specs.declared.remarks.codes_left.CodesLeft.{CodesLeft}
use Rattle.vcd_amend_run.specs.declared.remarks.codes_left.CodesLeft.TheVariants as lefts
use Rattle.vcd_amend_run.specs.OutputRemarks.{has_other_than, is_event, is_left_apart}
use Rattle.vcd_amend.specs.inside.amending.VariableLeft.{fate_of_left}

-- a variable with its fate
pub record VariableFate : Type 0 where
  pub fate : Fate
  pub variable : VariableDeclaration

-- what contracts see of one in memory
abbrev pub fate_in_memory : FatedVariable → VariableFate
fate_in_memory v = record {
  fate = fate_of_left v.left;
  variable = declaration_of_variable v.declared.now;
}

-- the variables of a file with their fates
abbrev pub variable_fates : Amendment → List VariableDeclaration → List VariableFate
variable_fates a ds =
    flat_map_along (λ before d. record { fate = fate_of a before d; variable = d } ∷ []) [] ds

-- the variables that pass a test with their fates
abbrev pub variables_by_fate : (Fate → VariableDeclaration → Bool) → List VariableFate
    → List VariableDeclaration
variables_by_fate test vs = flat_map (λ v. if test v.fate v.variable then v.variable ∷ [] else [])
    vs

-- what is declared in the place of variables
abbrev pub variables_in_place : List VariableFate → List VariableDeclaration
variables_in_place vs = flat_map (λ v. variable_left v.fate v.variable) vs

-- ---- codes

-- the codes that variables with this code in the file have in the amended file
abbrev pub codes_in_place : List VariableFate → (code : List ℕ) → List (List ℕ)
codes_in_place vs code = map (λ d. d.code) (flat_map
    (λ v. if bytes_eq code v.variable.code then variable_left v.fate v.variable else []) vs)

-- whether a variable of this fate is left, with another code than another of its code
abbrev pub is_fated_apart : (all : List VariableFate) → Fate → VariableDeclaration → Bool
is_fated_apart all fate d = is_left_apart (codes_in_place all d.code) fate d

-- whether one of these codes is another than this one
abbrev pub other_is_left : CodesLeft → (code : List ℕ) → Bool
other_is_left lefts.Nothing code = false
other_is_left (lefts.One k) code = not (bytes_eq k.now code)
other_is_left lefts.Several code = true

-- these are the codes that are left of each code of the file
abbrev pub HaveCodesLeft : CodeTargets CodesLeft → (left : (code : List ℕ) → List (List ℕ))
    → Type 0
HaveCodesLeft codes left = (own code : List ℕ)
    → other_is_left (code_target codes own) code ≡ has_other_than code (left own)

-- these are the codes in use, if these variables are left
abbrev pub HaveCodesOf : CodeTargets CodeUse → List VariableDeclaration → Type 0
HaveCodesOf uses left =
    (code : List ℕ) → (code_target uses code).is_used ≡ is_some (first_with_code code left)

-- the codes of variables that are no events
abbrev pub lasting_codes : List VariableDeclaration → List (List ℕ)
lasting_codes ds = flat_map (λ d. if is_event d then [] else d.code ∷ []) ds

-- the events of no lasting code
abbrev pub events_without : (lasts : List ℕ → Bool) → List VariableDeclaration
    → List VariableDeclaration
events_without lasts ds = filter (λ d. is_event d && not (lasts d.code)) ds
