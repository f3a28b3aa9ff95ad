-- The options are those that the mark says, and its head is written again.
use Rattle.std.proofs.Common.{subst}
use Rattle.vcd_amend_program.specs.VerifyOutcome.{IsRunOfMark}
use Rattle.vcd_amend_program.proofs.verify.compare_marked.Goals as goal

pub returns-clause-verified : goal.returns-clause-verified
returns-clause-verified g c =
    let mark = c.args.marked.mark.now in (
      mark,
      c.path.result.now,
      subst (λ o. IsRunOfMark mark o) (c.options_said-options.ensures.asked mark c.in_ok-part.ensures.said)
          (c.in_ok-compare_asked.ensures.same c.in_ok-head.ensures.head),
    )
