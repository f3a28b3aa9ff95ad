-- An error of the run, a capture that was changed, or a completed run.
use Rattle.std.proofs.Common.{Some, inl, refl}
use Rattle.vcd_amend_program.proofs.program.Outcomes.{failed_to, written_to, changed}
use Rattle.vcd_amend_program.proofs.program.run_to_file.Goals as goal

pub returns-in_err-summary : goal.returns-in_err-summary
returns-in_err-summary g c = λ path.
    failed_to c.args.job.now.run _ _ _ _ path _ c.in_err-summary.field-0.0 _
    c.in_err-summary.ensures.ends c.in_err-summary.ensures.remarked c.from_residual.ensures.1

pub returns-in_err-refuse_changed : goal.returns-in_err-refuse_changed
returns-in_err-refuse_changed g c = λ path.
    written_to c.args.job.now.run _ _ _ _ path _ c.in_ok-summary.summary _
    c.in_ok-summary.ensures.ends c.in_ok-summary.ensures.remarked
    (changed (Some path) c.in_ok-summary.summary _ c.in_err-refuse_changed.field-0.0
    c.from_residual-in_err-refuse_changed.ensures.1 c.in_err-refuse_changed.ensures.fault)

pub returns : goal.returns
returns g c = λ path.
    written_to c.args.job.now.run _ _ _ _ path _ c.in_ok-summary.summary _
    c.in_ok-summary.ensures.ends c.in_ok-summary.ensures.remarked (inl refl)
