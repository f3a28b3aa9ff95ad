-- The texts of the lines passed.
use Rattle.std.proofs.Common.{◌≡◌, ◌++◌, length, map}
use Rattle.vcd_amend_program.specs.FoundMarks.{said_after}
use Rattle.vcd_amend_program.proofs.found_mark.texts_after.Given as goal

abbrev pub invariant-loop-line : goal.invariant-loop-line
invariant-loop-line l = said_after l.first l.mark ≡ map (λ text. text.now) l.texts.items ++ said_after l.first l.rest

abbrev pub decreases-loop-line : goal.decreases-loop-line
decreases-loop-line l = length l.rest
