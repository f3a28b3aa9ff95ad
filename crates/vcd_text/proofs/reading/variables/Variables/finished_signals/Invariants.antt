use Rattle.std.proofs.Common.{◌≡◌, ◌++◌, map, length}
use Rattle.vcd_core.specs.CaptureContents.{signal_contents}
use Rattle.vcd_text.specs.Grammar.{ParseState}
use Rattle.vcd_text.specs.inside.reading.Variables.{VariablesMatch}
use Rattle.vcd_text.proofs.reading.variables.SignalsOfVariables.{declared_signals}
use Rattle.vcd_text.proofs.reading.variables.Variables.finished_signals.Given as goal

abbrev pub invariant-loop-variable : goal.invariant-loop-variable
invariant-loop-variable l =
    (l.fn.self.kept.items ≡ l.yielded ++ l.variable-iterator.rest.items)
    × ((c : ParseState) → VariablesMatch l.fn.self c
    → map signal_contents l.signals.items ≡ declared_signals c (length l.yielded))
