-- The script is that of the mark.
use Rattle.std.proofs.Common.{subst, ◌∙◌}
use Rattle.std.specs.Prelude.{OnOk}
use Rattle.vcd_amend_program.specs.VerifyOutcome.{IsMarkedOutputOnDevices}
use Rattle.vcd_amend_program.proofs.verify.compare_file.Goals as goal

pub returns-clause-same : goal.returns-clause-same
returns-clause-same g c =
    subst (λ script. OnOk c.compare_run-outcome.result (IsMarkedOutputOnDevices c.args.run.now script))
    (c.as_slice.ensures.value ∙ c.in-Ok.ensures) c.compare_run-outcome.ensures.on_devices
