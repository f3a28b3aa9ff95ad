use Rattle.std.proofs.Common.{arith, take, map}
use Rattle.std.proofs.lemmas.Grind.{common_steps}
use Rattle.std.proofs.lemmas.List.{map_more}
use Rattle.vcd_amend.specs.DeclaredVariables.{declaration_of_variable}
use Rattle.vcd_amend.proofs.coding.CodesInTurn.{one_more_known, or_or}
use Rattle.vcd_amend.proofs.coding.fresh_codes.known_codes.Goals as goal

pub loop-variable-preserved : goal.loop-variable-preserved
loop-variable-preserved c = λ code.
    let ds = map declaration_of_variable (take c.loop-variable.variable-index c.args.declared.now) in
    let d = declaration_of_variable c.variable-item.result in
    let more = map_more declaration_of_variable c.args.declared.now c.loop-variable.variable-index
    c.variable-item.result (omega arith) in
    let known = one_more_known ds d code in
    let put = c.in_ok-add_code-2.ensures code in
    let before = c.loop-variable.invariant code in
    grind (arith, common_steps, more, known, put, before, or_or)
