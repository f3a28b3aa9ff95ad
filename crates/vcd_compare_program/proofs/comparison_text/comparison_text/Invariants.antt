-- The text has the lines so far.
use Rattle.std.proofs.Common.{◌≡◌, take}
use Rattle.std.specs.List.{flat_map}
use Rattle.vcd_compare_program.specs.ComparisonText.{ended_line, line_text}
use Rattle.vcd_compare_program.specs.inside.Facts.{facts_of}
use Rattle.vcd_compare_program.proofs.comparison_text.comparison_text.Given as goal

abbrev pub invariant-loop-line : goal.invariant-loop-line
invariant-loop-line l =
    l.text.items
    ≡ flat_map (λ line. ended_line (line_text (facts_of l.first) (facts_of l.second) l.comparison line))
    (take l.line-index l.lines)
