-- One variable more is shown, and its name is counted.
use Rattle.std.proofs.Common.{◌∙◌, ◌++◌, ◌∷◌, [], map, ap}
use Rattle.std.proofs.lemmas.List.{map-append}
use Rattle.vcd_compare_program.specs.CaptureFacts.{VariableFacts}
use Rattle.vcd_compare_program.specs.inside.Facts.{facts_of_variable}
use Rattle.vcd_compare_program.proofs.variable_facts.ShownVariables.{few_names, names_in, one_reported}
use Rattle.vcd_compare_program.proofs.variable_facts.ReportedVariables.push.Goals as goal

pub returns : goal.returns
returns c = λ vs are.
    let reported = c.args.self.now in
    let v : VariableFacts = record { name = c.args.name.items; kind = c.args.kind.now; width = c.args.width } in
    let few = few_names vs reported are in
    let one = ap (map facts_of_variable) c.in_ok-push.ensures.items
    ∙ map-append facts_of_variable reported.list.items (c.in_ok-variable.variable ∷ [])
    ∙ ap (λ (w : VariableFacts). map facts_of_variable reported.list.items ++ w ∷ [])
    (c.in_ok-variable.ensures.shown (names_in vs) few are.counted) in
    one_reported vs reported are _ v one (c.in_ok-variable.ensures.counted (names_in vs) few are.counted)
