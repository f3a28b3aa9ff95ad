-- Variables with their fates: one more, and those that pass a test.
use Rattle.std.proofs.Common.{◌≡◌, ◌∙◌, ◌<◌, ◌+◌, ℕ, Bool, List, [], ◌∷◌, ◌++◌, map, take, length, get_or}
use Rattle.std.proofs.Common.{refl, sym, ap, if◌then◌else◌, true, false}
use Rattle.std.specs.Prelude.{bytes_eq}
use Rattle.std.specs.List.{flat_map}
use Rattle.std.proofs.lemmas.Grind.{flat_map-append}
use Rattle.std.proofs.lemmas.List.{append-nil, take_more, map-append}
use Rattle.vcd_text.specs.AsDeclared.{declared_name}
use Rattle.vcd_text.specs.Grammar.{VariableDeclaration}
use Rattle.vcd_amend.specs.Amendment.{Amendment, Fate, fate_of, flat_map_along, variable_left, variables_left}
use Rattle.vcd_amend_run.specs.OutputRemarks.{codes_left, is_left_apart, left_apart, is_removed_apart}
use Rattle.vcd_amend_run.specs.OutputRemarks.{removed_apart}
use Rattle.vcd_amend.specs.Amendment.{amended_variables}
use Rattle.vcd_amend_run.specs.inside.OutputRemarks.{VariableFate, variable_fates, variables_by_fate}
use Rattle.vcd_amend_run.specs.inside.OutputRemarks.{variables_in_place}
use Rattle.vcd_amend_run.specs.inside.OutputRemarks.{codes_in_place, is_fated_apart}
use Rattle.vcd_amend.proofs.amended.Along.{flat_map_along-append}

-- ---- one more

-- what a function gives for the items up to a position, and for that one
pub map_more : {A B : Type 0} (view : A → B) (xs : List A) (i : ℕ) (x : A) → i < length xs → x ≡ get_or xs i x
    → map view (take (i + 1) xs) ≡ map view (take i xs) ++ view x ∷ []
map_more view xs i x within is =
    ap (map view) (take_more xs i x within ∙ ap (λ y. take i xs ++ y ∷ []) (sym is))
    ∙ map-append view (take i xs) (x ∷ [])

pub fates_of_more : (a : Amendment) (ds : List VariableDeclaration) (d : VariableDeclaration)
    → variable_fates a (ds ++ d ∷ [])
    ≡ variable_fates a ds ++ record { fate = fate_of a ds d; variable = d } ∷ []
fates_of_more a ds d =
    flat_map_along-append (λ before e. record { fate = fate_of a before e; variable = e } ∷ []) [] ds (d ∷ [])

-- ---- all

along_fates : {B : Type 0} (a : Amendment) (g : Fate → VariableDeclaration → List B)
    (before ds : List VariableDeclaration)
    → flat_map (λ (v : VariableFate). g v.fate v.variable)
    (flat_map_along (λ xs d. record { fate = fate_of a xs d; variable = d } ∷ []) before ds)
    ≡ flat_map_along (λ xs d. g (fate_of a xs d) d) before ds
along_fates a g before [] = refl
along_fates a g before (d ∷ ds) = ap (λ l. g (fate_of a before d) d ++ l) (along_fates a g (before ++ d ∷ []) ds)

pub codes_left_are : (a : Amendment) (ds : List VariableDeclaration) (code : List ℕ)
    → codes_in_place (variable_fates a ds) code ≡ codes_left a ds code
codes_left_are a ds code = ap (map (λ d. d.code))
    (along_fates a (λ f d. if bytes_eq code d.code then variable_left f d else []) [] ds)

pub left_apart_are : (a : Amendment) (ds : List VariableDeclaration)
    → variables_by_fate (is_fated_apart (variable_fates a ds)) (variable_fates a ds) ≡ left_apart a ds
left_apart_are a ds =
    along_fates a (λ f d. if is_fated_apart (variable_fates a ds) f d then d ∷ [] else []) [] ds
    ∙ ap (λ (left : List ℕ → List (List ℕ)). flat_map_along
    (λ before d. if is_left_apart (left d.code) (fate_of a before d) d then d ∷ [] else []) [] ds)
    (λ i code. codes_left_are a ds code i)

pub removed_apart_are : (a : Amendment) (ds : List VariableDeclaration)
    → variables_by_fate (is_removed_apart (amended_variables a ds)) (variable_fates a ds) ≡ removed_apart a ds
removed_apart_are a ds =
    along_fates a (λ f d. if is_removed_apart (amended_variables a ds) f d then d ∷ [] else []) [] ds

pub in_place_are : (a : Amendment) (ds : List VariableDeclaration)
    → variables_in_place (variable_fates a ds) ≡ variables_left a ds
in_place_are a ds = along_fates a variable_left [] ds

-- ---- one more that passes a test, or not

module _ (test : Fate → VariableDeclaration → Bool) (vs : List VariableFate) (v : VariableFate) where
  abbrev one : Bool → List VariableDeclaration
  one passes = if passes then v.variable ∷ [] else []

  one_more : variables_by_fate test (vs ++ v ∷ [])
      ≡ variables_by_fate test vs ++ (one (test v.fate v.variable) ++ [])
  one_more = flat_map-append (λ (w : VariableFate). if test w.fate w.variable then w.variable ∷ [] else []) vs (v ∷ [])

  pub names_with : test v.fate v.variable ≡ true
      → map declared_name (variables_by_fate test (vs ++ v ∷ []))
      ≡ map declared_name (variables_by_fate test vs) ++ declared_name v.variable ∷ []
  names_with passes =
      ap (map declared_name) (one_more ∙ ap (λ b. variables_by_fate test vs ++ (one b ++ [])) passes)
      ∙ map-append declared_name (variables_by_fate test vs) (v.variable ∷ [])

  pub names_without : test v.fate v.variable ≡ false
      → map declared_name (variables_by_fate test (vs ++ v ∷ []))
      ≡ map declared_name (variables_by_fate test vs)
  names_without fails = ap (map declared_name)
      (one_more ∙ ap (λ b. variables_by_fate test vs ++ (one b ++ [])) fails ∙ append-nil (variables_by_fate test vs))

-- what is declared in the place of one more
pub in_place_more : (vs : List VariableFate) (v : VariableFate)
    → variables_in_place (vs ++ v ∷ []) ≡ variables_in_place vs ++ variable_left v.fate v.variable
in_place_more vs v =
    flat_map-append (λ (w : VariableFate). variable_left w.fate w.variable) vs (v ∷ [])
    ∙ ap (λ l. variables_in_place vs ++ l) (append-nil (variable_left v.fate v.variable))

-- the codes that are left of one more
pub codes_in_place_more : (vs : List VariableFate) (v : VariableFate) (code : List ℕ)
    → codes_in_place (vs ++ v ∷ []) code ≡ codes_in_place vs code ++ codes_in_place (v ∷ []) code
codes_in_place_more vs v code =
    let f : VariableFate → List VariableDeclaration =
    λ w. if bytes_eq code w.variable.code then variable_left w.fate w.variable else [] in
    ap (map (λ (d : VariableDeclaration). d.code)) (flat_map-append f vs (v ∷ []))
    ∙ map-append (λ (d : VariableDeclaration). d.code) (flat_map f vs) (flat_map f (v ∷ []))
