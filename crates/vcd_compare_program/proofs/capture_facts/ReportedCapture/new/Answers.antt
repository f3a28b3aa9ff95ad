-- What is shown is that of the stream's state.
use Rattle.std.proofs.Common.{◌≡◌, ◌∙◌, ◌*◌, ◌++◌, [], map, ap, ap₂}
use Rattle.vcd_shell.specs.Shown.{shown}
use Rattle.vcd_compare_program.specs.CaptureFacts.{all_shown, facts_declared}
use Rattle.vcd_compare_program.specs.inside.Facts.{facts_listed}
use Rattle.vcd_compare_program.proofs.capture_facts.DeclaredVariables.{all_declared}
use Rattle.vcd_compare_program.proofs.capture_facts.ReportedCapture.new.Goals as goal

pub returns : goal.returns
returns c = λ s at.
    let path : c.append_shown.new.text.items ≡ shown c.args.path.now =
    c.in_ok-append_shown.ensures ∙ (λ i. c.new-shown.ensures.items i ++ shown (c.as_bytes.ensures.value i)) in
    let declared = ap₂ (λ vs ws. map facts_declared vs ++ map facts_listed ws) (c.signals.ensures s at)
    (c.skipped_variables.ensures s at) ∙ all_declared s in
    let variables = c.in_ok-variables.ensures ∙ ap all_shown declared in
    let end = ap₂ (λ t f. t * f) (c.from.ensures ∙ c.tick.ensures s at) c.from-2.ensures in
    λ i. record {
      path = path i;
      variables = variables i;
      timescale = c.timescale.ensures s at i;
      end = end i;
      left_out = c.left_out_told.ensures i;
    }
