-- An error of the run, a capture that was changed, or a completed run.
use Rattle.std.proofs.Common.{None, inl, refl}
use Rattle.vcd_amend_program.proofs.program.Outcomes.{failed, answered, changed}
use Rattle.vcd_amend_program.proofs.program.run_without_file.Goals as goal

pub returns-in_err-summary : goal.returns-in_err-summary
returns-in_err-summary g c =
    failed c.args.job.now.run _ _ _ _ None None c.in_err-summary.field-0.0 _ refl
    c.in_err-summary.ensures.ends c.in_err-summary.ensures.remarked c.from_residual.ensures.1

pub returns-in_err-refuse_changed : goal.returns-in_err-refuse_changed
returns-in_err-refuse_changed g c =
    answered c.args.job.now.run _ _ _ _ c.in_ok-summary.summary _
    c.in_ok-summary.ensures.ends c.in_ok-summary.ensures.remarked
    (changed None c.in_ok-summary.summary _ c.in_err-refuse_changed.field-0.0
    c.from_residual-in_err-refuse_changed.ensures.1 c.in_err-refuse_changed.ensures.fault)

pub returns : goal.returns
returns g c =
    answered c.args.job.now.run _ _ _ _ c.in_ok-summary.summary _
    c.in_ok-summary.ensures.ends c.in_ok-summary.ensures.remarked (inl refl)
