-- The variables so far were added.
use Rattle.std.proofs.Common.{◌++◌, List, map, take}
use Rattle.vcd_compare_program.specs.CaptureFacts.{VariableFacts}
use Rattle.vcd_compare_program.specs.inside.Facts.{AreReported, facts_listed}
use Rattle.vcd_compare_program.proofs.variable_facts.ReportedVariables.push_others.Given as goal

abbrev pub invariant-loop-other : goal.invariant-loop-other
invariant-loop-other l = (vs : List VariableFacts) → AreReported vs l.initial.self
    → AreReported (vs ++ map facts_listed (take l.other-index l.others)) l.self
