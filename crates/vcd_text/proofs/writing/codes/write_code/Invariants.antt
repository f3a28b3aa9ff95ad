-- The written bytes and the digits of the rest are the code.
use Rattle.std.proofs.Common.{◌≤◌}
use Rattle.vcd_text.specs.Text.{code_of, code_digits}
use Rattle.vcd_text.proofs.shared.EmittedParts.{WritesPrefix}
use Rattle.vcd_text.proofs.writing.codes.write_code.Given as goal

abbrev pub invariant-loop-left : goal.invariant-loop-left
invariant-loop-left g l =
    WritesPrefix g.W.Sink l.initial.output l.output (code_digits l.left l.left) (code_of l.position)
    × (1 ≤ l.left)

abbrev pub decreases-loop-left : goal.decreases-loop-left
decreases-loop-left g l = l.left
