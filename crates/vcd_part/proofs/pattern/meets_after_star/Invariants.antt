-- Whether the rest of the name has what is left of the pattern after some bytes stays the same.
use Rattle.std.proofs.Common.{◌≡◌, ◌+◌, length}
use Rattle.vcd_core.specs.FullName.{name_bytes}
use Rattle.vcd_part.specs.Pattern.{holds_after_some, meets}
use Rattle.vcd_part.proofs.pattern.meets_after_star.Given as goal

abbrev pub invariant-loop-name : goal.invariant-loop-name
invariant-loop-name l = holds_after_some (meets l.left) (name_bytes l.name)
    ≡ holds_after_some (meets l.initial.left) (name_bytes l.initial.name)

abbrev pub decreases-loop-name : goal.decreases-loop-name
decreases-loop-name l = length l.left + length (name_bytes l.name)
