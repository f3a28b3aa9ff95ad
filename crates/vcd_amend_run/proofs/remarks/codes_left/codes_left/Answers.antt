-- One more variable, and all of them.
use Rattle.std.proofs.Common.{◌≡◌, ◌∙◌, ◌||◌, ◌++◌, ◌∷◌, [], ◌+◌, not, List, map, take, sym, ap, arith}
use Rattle.std.specs.Prelude.{bytes_eq}
use Rattle.std.proofs.lemmas.List.Folds.{list_any-append}
use Rattle.vcd_amend_run.specs.OutputRemarks.{has_other_than}
use Rattle.vcd_amend_run.specs.inside.OutputRemarks.{VariableFate, codes_in_place, fate_in_memory}
use Rattle.vcd_amend_run.proofs.remarks.Fates.{codes_in_place_more, map_more}
use Rattle.vcd_amend_run.proofs.remarks.codes_left.codes_left.Goals as goal

pub loop-variable-preserved : goal.loop-variable-preserved
loop-variable-preserved c = λ own code.
    let l = c.loop-variable in
    let v : VariableFate = fate_in_memory c.variable-item.result in
    let vs : List VariableFate = map fate_in_memory (take l.variable-index c.args.fated.now) in
    let more : map fate_in_memory (take (l.variable-index + 1) c.args.fated.now) ≡ vs ++ v ∷ [] =
    map_more fate_in_memory c.args.fated.now l.variable-index c.variable-item.result (omega arith) c.variable-item.is in
    c.in_ok-note_code_left.ensures own code
    ∙ (λ i. l.invariant own code i || has_other_than code (codes_in_place (v ∷ []) own))
    ∙ sym (list_any-append (λ k. not (bytes_eq k code)) (codes_in_place vs own) (codes_in_place (v ∷ []) own))
    ∙ ap (has_other_than code) (sym (codes_in_place_more vs v own)
    ∙ ap (λ (ws : List VariableFate). codes_in_place ws own) (sym more))
