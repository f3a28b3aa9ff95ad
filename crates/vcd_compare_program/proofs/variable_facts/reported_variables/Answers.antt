-- First the signals were added, and then the others.
use Rattle.std.proofs.Common.{[], map}
use Rattle.vcd_text.specs.inside.reading.DeclaredSignals.{declared_contents}
use Rattle.vcd_compare_program.specs.CaptureFacts.{facts_declared}
use Rattle.vcd_compare_program.proofs.variable_facts.reported_variables.Goals as goal

pub returns : goal.returns
returns c = (c.in_ok-push_others.ensures (map facts_declared (declared_contents c.args.signals.now))
    (c.in_ok-push_signals.ensures [] c.new-reported.ensures)).shown
