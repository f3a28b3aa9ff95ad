-- One more variable, and all of them.
use Rattle.std.proofs.Common.{◌≡◌, ◌∙◌, ◌||◌, Bool, true, false, List, map, take, sym, ap}
use Rattle.std.proofs.Common.{arith}
use Rattle.std.specs.Prelude.{bytes_eq}
use Rattle.std.specs.List.{list_any}
use Rattle.std.proofs.Math.Bool.{or_assoc, or-true, or-false}
use Rattle.std.proofs.lemmas.List.{take_all}
use Rattle.vcd_text.specs.Grammar.{VariableDeclaration}
use Rattle.vcd_amend.specs.Amendment.{variable_left}
use Rattle.vcd_amend.specs.AmendmentContents.{added_contents}
use Rattle.vcd_amend.specs.declared.amendment.AddedVariable.{AddedVariable}
use Rattle.vcd_amend_run.specs.declared.remarks.fated_variables.FatedVariable.{FatedVariable}
use Rattle.vcd_amend_run.specs.inside.OutputRemarks.{VariableFate, fate_in_memory, variables_in_place}
use Rattle.vcd_amend.specs.inside.amending.VariableLeft.{has_left}
use Rattle.vcd_amend.proofs.shared.Variables.{any_has, any_added, any_both, has_left_is}
use Rattle.vcd_amend_run.proofs.remarks.Fates.{map_more, in_place_more}
use Rattle.vcd_amend_run.proofs.remarks.variables.used_codes.Goals as goal

pub loop-variable-preserved : goal.loop-variable-preserved
loop-variable-preserved c = λ code.
    let l = c.loop-variable in
    let v : VariableFate = fate_in_memory c.variable-item.result in
    let vs : List VariableFate = map fate_in_memory (take l.variable-index c.args.fated.now) in
    let added : Bool = list_any (λ (x : AddedVariable). bytes_eq code x.code) c.args.added.now in
    let so_far : Bool = any_has code (variables_in_place vs) in
    let more = map_more fate_in_memory c.args.fated.now l.variable-index c.variable-item.result (omega arith)
    c.variable-item.is in
    c.in_ok-use_left.ensures.used code
    ∙ (λ i. l.invariant code i || has_left code v.fate (c.as_slice.ensures i))
    ∙ ap (λ b. (added || so_far) || b) (has_left_is code v.fate v.variable)
    ∙ or_assoc added so_far (any_has code (variable_left v.fate v.variable))
    ∙ ap (λ b. added || b) (sym (any_both code (variables_in_place vs) (variable_left v.fate v.variable))
    ∙ ap (any_has code) (sym (in_place_more vs v) ∙ ap variables_in_place (sym more)))

swapped : (a b : Bool) → (a || b) ≡ (b || a)
swapped true b = sym (or-true b)
swapped false b = sym (or-false b)

pub returns : goal.returns
returns c = λ code.
    let l = c.loop-variable in
    let added : Bool = list_any (λ (x : AddedVariable). bytes_eq code x.code) c.args.added.now in
    let left : List VariableDeclaration = variables_in_place (map fate_in_memory c.args.fated.now) in
    l.invariant code
    ∙ ap (λ (vs : List FatedVariable). added || any_has code (variables_in_place (map fate_in_memory vs)))
    (take_all l.variable-index c.args.fated.now (omega arith))
    ∙ swapped added (any_has code left)
    ∙ ap (λ b. any_has code left || b) (any_added code c.args.added.now)
    ∙ sym (any_both code left (map added_contents c.args.added.now))
