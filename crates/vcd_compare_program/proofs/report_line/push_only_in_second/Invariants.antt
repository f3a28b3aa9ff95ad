use Rattle.std.proofs.Common.{◌≡◌, ◌++◌, map, take}
use Rattle.vcd_compare_program.specs.declared.report_line.ReportLine.TheVariants.{OnlyInSecond}
use Rattle.vcd_compare_program.proofs.report_line.push_only_in_second.Given as goal

abbrev pub invariant-loop-position : goal.invariant-loop-position
invariant-loop-position l =
    l.lines.items ≡ l.initial.lines.items ++ map OnlyInSecond (take l.position-index l.positions)
