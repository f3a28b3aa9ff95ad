-- The script of the lines passed.
use Rattle.std.proofs.Common.{◌≡◌, ◌++◌, ◌∷◌, [], length, codes}
use Rattle.std.specs.List.{flat_map}
use Rattle.vcd_amend_program.specs.FoundMarks.{said_after, script_of}
use Rattle.vcd_amend_program.proofs.found_mark.script_of.Given as goal

abbrev pub invariant-loop-line : goal.invariant-loop-line
invariant-loop-line l = script_of l.mark
    ≡ l.script.items ++ flat_map (λ line. line ++ 10 ∷ []) (said_after (codes "edit ") l.rest)

abbrev pub decreases-loop-line : goal.decreases-loop-line
decreases-loop-line l = length l.rest
