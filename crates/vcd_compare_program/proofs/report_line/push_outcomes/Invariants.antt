-- The lines so far and those of the outcomes that are left are all lines.
use Rattle.std.proofs.Common.{◌≡◌, ◌++◌, drop}
use Rattle.std.specs.List.{enumerate_from, flat_map}
use Rattle.vcd_compare_program.specs.ReportLines.{outcome_lines, outcomes_lines}
use Rattle.vcd_compare_program.specs.inside.Facts.{facts_of}
use Rattle.vcd_compare_program.proofs.report_line.push_outcomes.Given as goal

abbrev pub invariant-loop-position : goal.invariant-loop-position
invariant-loop-position l =
    l.lines.items
    ++ flat_map (λ p. outcome_lines (facts_of l.first) (facts_of l.second) p.0 p.1)
    (enumerate_from l.position (drop l.position l.outcomes))
    ≡ l.initial.lines.items ++ outcomes_lines (facts_of l.first) (facts_of l.second) l.outcomes
