-- The names are those of the variables that are found along the file.
use Rattle.std.proofs.Common.{◌≡◌, ◌∙◌, ◌++◌, ℕ, List, map, ap, subst}
use Rattle.std.proofs.lemmas.Result.{on_ok_weaker}
use Rattle.vcd_text.specs.AsDeclared.{declared_name}
use Rattle.vcd_text.specs.Grammar.{VariableDeclaration}
use Rattle.vcd_amend.specs.Amendment.{Amendment, amended_variables}
use Rattle.vcd_amend.specs.AmendmentContents.{amendment_contents, added_contents}
use Rattle.vcd_amend.specs.DeclaredVariables.{declarations_of}
use Rattle.vcd_amend_run.specs.OutputRemarks.{apart_remark, left_apart, is_removed_apart, removed_apart}
use Rattle.vcd_amend_run.specs.OutputRemarks.{removed_remark}
use Rattle.vcd_amend_run.specs.declared.remarks.fated_variables.FatedVariable.{FatedVariable}
use Rattle.vcd_amend_run.specs.inside.OutputRemarks.{HaveCodesOf, VariableFate, fate_in_memory, variable_fates}
use Rattle.vcd_amend_run.specs.inside.OutputRemarks.{is_fated_apart, variables_by_fate, variables_in_place}
use Rattle.vcd_amend_run.proofs.remarks.Fates.{left_apart_are, removed_apart_are, in_place_are}
use Rattle.vcd_amend_run.proofs.remarks.append_code_remarks.Goals as goal

pub returns : goal.returns
returns c =
    let a : Amendment = amendment_contents c.args.amendment.now in
    let ds : List VariableDeclaration = declarations_of c.args.declared.now in
    let old : List ℕ = c.args.text.now.items in
    let fates : (fated : List FatedVariable) → fated ≡ c.in_ok-fated.fated.items
    → map fate_in_memory fated ≡ variable_fates a ds =
    λ fated is. ap (map fate_in_memory) is ∙ c.in_ok-fated.ensures in
    let differing : c.as_slice-5.result.now ≡ map declared_name (left_apart a ds) =
    c.as_slice-5.ensures.value ∙ c.in_ok-differing.ensures
    ∙ ap (λ (vs : List VariableFate). map declared_name (variables_by_fate (is_fated_apart vs) vs))
    (fates c.as_slice.result.now c.as_slice.ensures.value)
    ∙ ap (map declared_name) (left_apart_are a ds) in
    let left : variables_in_place (map fate_in_memory c.as_slice-2.result.now)
    ++ map added_contents c.as_slice-3.result.now ≡ amended_variables a ds =
    (λ i. variables_in_place (fates c.as_slice-2.result.now c.as_slice-2.ensures.value i)
    ++ map added_contents (c.as_slice-3.ensures.value i))
    ∙ ap (λ l. l ++ a.added) (in_place_are a ds) in
    let used : HaveCodesOf c.in_ok-used.used (amended_variables a ds) =
    subst (HaveCodesOf c.in_ok-used.used) left c.in_ok-used.ensures in
    let apart : c.as_slice-6.result.now ≡ map declared_name (removed_apart a ds) =
    c.as_slice-6.ensures.value ∙ c.in_ok-apart.ensures (amended_variables a ds) used
    ∙ ap (λ (vs : List VariableFate). map declared_name
    (variables_by_fate (is_removed_apart (amended_variables a ds)) vs))
    (fates c.as_slice-4.result.now c.as_slice-4.ensures.value)
    ∙ ap (map declared_name) (removed_apart_are a ds) in
    on_ok_weaker c.append_removed_remark.result
    (λ is. is ∙ ap (λ l. l ++ removed_remark c.as_slice-6.result.now) c.in_ok-append_apart_remark.ensures
    ∙ (λ i. (old ++ apart_remark (differing i)) ++ removed_remark (apart i)))
    c.append_removed_remark.ensures
