-- The text so far and the lines that are left are all lines.
use Rattle.std.proofs.Common.{◌≡◌, ◌++◌, drop}
use Rattle.std.specs.List.{enumerate_from, flat_map}
use Rattle.vcd_compare_program.specs.JsonText.{line_json, separator}
use Rattle.vcd_compare_program.specs.inside.Facts.{facts_of}
use Rattle.vcd_compare_program.proofs.json_text.append_lines.Given as goal

abbrev pub invariant-loop-place : goal.invariant-loop-place
invariant-loop-place l =
    l.text.items
    ++ flat_map (λ p. separator p.0 ++ line_json (facts_of l.first) (facts_of l.second) l.comparison p.1)
    (enumerate_from l.place (drop l.place l.lines))
    ≡ l.initial.text.items
    ++ flat_map (λ p. separator p.0 ++ line_json (facts_of l.first) (facts_of l.second) l.comparison p.1)
    (enumerate_from 0 l.lines)
