use Rattle.std.proofs.Common.{◌≡◌, map, take, length}
use Rattle.std.specs.List.{range_with_len}
use Rattle.vcd_core.specs.CaptureContents.{contents}
use Rattle.vcd_text.specs.Grammar.{kept_variables}
use Rattle.vcd_amend.specs.DeclaredVariables.{declaration_of_variable}
use Rattle.vcd_core.specs.SignalOrigins.{signal_from}
use Rattle.vcd_amend.specs.inside.coding.KeptSignals.{kept_signals}
use Rattle.vcd_amend.specs.inside.coding.ChangedWaves.{kept_contents}
use Rattle.vcd_amend.proofs.coding.kept_signals.kept_signals.Given as goal

abbrev pub invariant-loop-variable : goal.invariant-loop-variable
invariant-loop-variable l = record {
  rows : map kept_contents l.kept.items
      ≡ kept_signals (kept_variables (map declaration_of_variable (take l.variable-index l.declared)))
      (contents l.first).signals
      (map (λ k. signal_from k l.origins (contents l.last).signals)
      (range_with_len 0 (length (contents l.first).signals)));
  count : length l.kept.items
      ≡ length (kept_variables (map declaration_of_variable (take l.variable-index l.declared)));
}
