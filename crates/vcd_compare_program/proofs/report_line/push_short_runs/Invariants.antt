-- The lines so far and those of the pairs that are left are all lines.
use Rattle.std.proofs.Common.{◌≡◌, ◌++◌, drop}
use Rattle.std.specs.List.{enumerate_from, flat_map}
use Rattle.vcd_compare_program.specs.ReportLines.{short_run_lines}
use Rattle.vcd_compare_program.proofs.report_line.push_short_runs.Given as goal

abbrev pub invariant-loop-place : goal.invariant-loop-place
invariant-loop-place l =
    l.lines.items ++ flat_map (λ p. short_run_lines p.0 p.1) (enumerate_from l.place (drop l.place l.compared))
    ≡ l.initial.lines.items ++ flat_map (λ p. short_run_lines p.0 p.1) (enumerate_from 0 l.compared)
