-- The signals so far were added.
use Rattle.std.proofs.Common.{◌++◌, List, map, take}
use Rattle.vcd_text.specs.inside.reading.DeclaredSignals.{declared_contents}
use Rattle.vcd_compare_program.specs.CaptureFacts.{VariableFacts, facts_declared}
use Rattle.vcd_compare_program.specs.inside.Facts.{AreReported}
use Rattle.vcd_compare_program.proofs.variable_facts.ReportedVariables.push_signals.Given as goal

abbrev pub invariant-loop-position : goal.invariant-loop-position
invariant-loop-position l = (vs : List VariableFacts) → AreReported vs l.initial.self
    → AreReported (vs ++ map facts_declared (take l.position (declared_contents l.signals))) l.self
