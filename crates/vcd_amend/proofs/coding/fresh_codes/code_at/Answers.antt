use Rattle.std.proofs.Common.{append_assoc, arith}
use Rattle.std.proofs.lemmas.Grind.{common_steps}
use Rattle.vcd_text.proofs.shared.CodesDiffer.{lowest_digit, no_digits}
use Rattle.vcd_amend.proofs.coding.fresh_codes.code_at.Goals as goal

pub loop-left-preserved : goal.loop-left-preserved
loop-left-preserved c =
    let lowest = lowest_digit c.loop-left.left (omega arith) in grind (arith, common_steps, append_assoc, lowest)

pub returns : goal.returns
returns c = let none = no_digits c.loop-left.left (omega arith) in grind (arith, common_steps, none)
