-- One more variable.
use Rattle.std.proofs.Common.{◌≡◌, ◌∙◌, ◌++◌, ◌∷◌, [], ◌+◌, ℕ, List, map, take, sym, ap, arith}
use Rattle.std.specs.Global.{Vec}
use Rattle.vcd_text.specs.AsDeclared.{declared_name}
use Rattle.vcd_amend_run.specs.inside.OutputRemarks.{VariableFate, fate_in_memory, is_fated_apart, variables_by_fate}
use Rattle.vcd_amend_run.proofs.remarks.Fates.{map_more, names_with, names_without}
use Rattle.vcd_amend_run.proofs.remarks.variables.names_apart.Goals.{then-is_left_apart+in_ok-copy_name+in_ok-push}
use Rattle.vcd_amend_run.proofs.remarks.variables.names_apart.Goals.{else-is_left_apart}
use Rattle.vcd_amend_run.proofs.remarks.variables.names_apart.Goals as goal

pub loop-variable-preserved : goal.loop-variable-preserved
loop-variable-preserved c = λ all have.
    let l = c.loop-variable in
    let v : VariableFate = fate_in_memory c.variable-item.result in
    let vs : List VariableFate = map fate_in_memory (take l.variable-index c.args.fated.now) in
    let more : map fate_in_memory (take (l.variable-index + 1) c.args.fated.now) ≡ vs ++ v ∷ [] =
    map_more fate_in_memory c.args.fated.now l.variable-index c.variable-item.result (omega arith) c.variable-item.is in
    let whole = ap (λ (ws : List VariableFate). map declared_name (variables_by_fate (is_fated_apart all) ws))
    (sym more) in
    elim c.if-is_left_apart.branch [
      | then-is_left_apart+in_ok-copy_name+in_ok-push w ↦
          ap (λ (names : Vec (List ℕ)). names.items) w.names-is ∙ w.in_ok-push.ensures.items
          ∙ (λ i. l.invariant all have i ++ w.in_ok-copy_name.ensures i ∷ [])
          ∙ sym (names_with (is_fated_apart all) vs v
          (sym (c.is_left_apart.ensures all have) ∙ w.if-is_left_apart.true)) ∙ whole
      | else-is_left_apart w ↦
          ap (λ (names : Vec (List ℕ)). names.items) w.names-is ∙ l.invariant all have
          ∙ sym (names_without (is_fated_apart all) vs v
          (sym (c.is_left_apart.ensures all have) ∙ w.if-is_left_apart.false)) ∙ whole
    ]
