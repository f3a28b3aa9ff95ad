-- The values passed have their lines.
use Rattle.std.proofs.Common.{◌≡◌, ◌++◌, map, take}
use Rattle.vcd_amend_program.specs.Marks.{option_lines}
use Rattle.vcd_amend_program.proofs.capture_mark.push_lines.Given as goal

abbrev pub invariant-loop-value : goal.invariant-loop-value
invariant-loop-value l = l.lines.items ≡ l.initial.lines.items
    ++ option_lines l.option (map (λ value. value.now) (take l.value-index l.values))
