-- The name that is shown tells how many variables before have it.
use Rattle.std.proofs.Common.{◌≡◌, ◌∙◌, ◌++◌, arith}
use Rattle.std.specs.Prelude.{bytes_eq, count_by}
use Rattle.std.proofs.lemmas.List.Sums.{count_by-le-length}
use Rattle.vcd_shell.specs.Shown.{shown}
use Rattle.vcd_compare_program.specs.CaptureFacts.{turn_text}
use Rattle.vcd_compare_program.proofs.variable_facts.reported_variable.Goals as goal

pub returns-clause-shown : goal.returns-clause-shown
returns-clause-shown c = λ names few counted.
    let name = c.args.name.items in
    let times : c.in_ok-namesakes.namesakes ≡ count_by (bytes_eq name) names =
    c.in_ok-namesakes.ensures.before ∙ counted name in
    let most = count_by-le-length (bytes_eq name) names in
    let begun : c.append_shown.new.text.items ≡ shown name =
    c.in_ok-append_shown.ensures
    ∙ (λ i. c.new-shown.ensures.items i ++ shown (c.as_slice.ensures.value i)) in
    let text : c.append_turn.new.text.items ≡ shown name ++ turn_text (count_by (bytes_eq name) names) =
    c.in_ok-append_turn.ensures (omega (arith, times, most, few)) ∙ (λ i. begun i ++ turn_text (times i)) in
    λ i. record { name = text i; kind = c.in_ok-kind.ensures.items i; width = c.args.width }
