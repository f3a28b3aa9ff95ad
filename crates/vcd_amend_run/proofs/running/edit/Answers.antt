-- The session begins on the capture of the plan.
use Rattle.std.proofs.Common.{ap, inr, ◌∙◌}
use Rattle.vcd_core.specs.Contents.{Contents}
use Rattle.vcd_journal.specs.Machine.{initial_machine}
use Rattle.vcd_amend_run.proofs.running.EndsOfRun.{at_error}
use Rattle.vcd_amend_run.proofs.running.edit.Goals as goal

pub returns-in_err-refused-clause-stops : goal.returns-in_err-refused-clause-stops
returns-in_err-refused-clause-stops g c =
    let begun = c.in_ok-session.ensures ∙ ap (λ (d : Contents). initial_machine d c.args.depth) c.in_ok-first.ensures.1
    in
    at_error c.from_residual-in_err-refused.result c.in_err-refused.field-0.0 _
    c.from_residual-in_err-refused.ensures.1 (inr (
      c.in_err-refused.ensures.fault,
      rw (c.as_slice.ensures.value, c.as_slice-2.ensures.value, begun) at c.in_err-refused.ensures.stopped,
    ))

pub returns-in_err-refused-clause-remarked : goal.returns-in_err-refused-clause-remarked
returns-in_err-refused-clause-remarked g c file d silent shows on =
    let begun = c.in_ok-session.ensures ∙ ap (λ (d : Contents). initial_machine d c.args.depth) c.in_ok-first.ensures.1
    in
    (rw (c.as_slice.ensures.value, c.as_slice-2.ensures.value, begun) at c.in_err-refused.ensures.remarked) file
    c.args.depth d silent shows on

pub returns-clause-ran : goal.returns-clause-ran
returns-clause-ran g c =
    let begun = c.in_ok-session.ensures ∙ ap (λ (d : Contents). initial_machine d c.args.depth) c.in_ok-first.ensures.1
    in
    rw (c.as_slice.ensures.value, c.as_slice-2.ensures.value, begun) at c.in_ok-refused.ensures.ran

pub returns-clause-remarked : goal.returns-clause-remarked
returns-clause-remarked g c file d silent shows on =
    let begun = c.in_ok-session.ensures ∙ ap (λ (d : Contents). initial_machine d c.args.depth) c.in_ok-first.ensures.1
    in
    (rw (c.as_slice.ensures.value, c.as_slice-2.ensures.value, begun) at c.in_ok-refused.ensures.remarked) file
    c.args.depth d silent shows on
