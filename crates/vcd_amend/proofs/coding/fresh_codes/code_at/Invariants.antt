use Rattle.std.proofs.Common.{◌≡◌, ◌++◌}
use Rattle.vcd_text.specs.Text.{code_of, code_digits}
use Rattle.vcd_amend.proofs.coding.fresh_codes.code_at.Given as goal

abbrev pub invariant-loop-left : goal.invariant-loop-left
invariant-loop-left l = l.code.items ++ code_digits l.left l.left ≡ code_of l.fn.position

abbrev pub decreases-loop-left : goal.decreases-loop-left
decreases-loop-left l = l.left
