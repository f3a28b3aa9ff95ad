use Rattle.std.proofs.Common.{◌+◌, ◌∙◌, sym, ap}
use Rattle.vcd_amend.specs.FreshCodes.{fresh_code}
use Rattle.vcd_amend.specs.inside.coding.Codes.{has_code}
use Rattle.vcd_amend.proofs.coding.CodesInTurn.{is_next, counts, passes}
use Rattle.vcd_amend.proofs.coding.fresh_codes.next_fresh_code.Goals as goal

pub returns-then-not-has_code-clause-code : goal.returns-then-not-has_code-clause-code
returns-then-not-has_code-clause-code c = λ s knows.
    let known = c.args.known.now in
    is_next known c.in_ok-code.code c.loop-candidate.candidate c.in_ok-code.ensures s knows
    (ap (has_code known) (sym c.as_slice.ensures) ∙ sym c.has_code.ensures ∙ c.if-not-has_code.true)
    ∙ ap (fresh_code s) (c.loop-candidate.invariant s knows)

pub returns-then-not-has_code-clause-next : goal.returns-then-not-has_code-clause-next
returns-then-not-has_code-clause-next c = λ s knows.
    let known = c.args.known.now in
    counts known c.in_ok-code.code c.loop-candidate.candidate c.in_ok-code.ensures s knows
    (ap (has_code known) (sym c.as_slice.ensures) ∙ sym c.has_code.ensures ∙ c.if-not-has_code.true)
    ∙ ap (λ n. n + 1) (c.loop-candidate.invariant s knows)

pub loop-candidate-preserved : goal.loop-candidate-preserved
loop-candidate-preserved c = λ s knows.
    let known = c.args.known.now in
    passes known c.in_ok-code.code c.loop-candidate.candidate c.in_ok-code.ensures s knows
    (ap (has_code known) (sym c.as_slice.ensures) ∙ sym c.has_code.ensures ∙ c.if-not-has_code.false)
    ∙ c.loop-candidate.invariant s knows
